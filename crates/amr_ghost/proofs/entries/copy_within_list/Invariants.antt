use Rattle.std.specs.Prelude.{slice_index}
use Rattle.amr_ghost.specs.Strips.{AreWritten, nth_place}
use Rattle.amr_ghost.proofs.entries.copy_within_list.Given as goal

abbrev pub invariant-loop-k : goal.invariant-loop-k
invariant-loop-k l = AreWritten 0 l.fn.target l.k (λ j. slice_index l.initial.values (nth_place l.fn.source j)) l.initial.values l.values
