use Rattle.std.specs.Prelude.{slice_index}
use Rattle.amr_ghost.specs.Strips.{AreWritten}
use Rattle.amr_ghost.proofs.entries.give_entries.Given as goal

abbrev pub invariant-loop-k : goal.invariant-loop-k
invariant-loop-k l = AreWritten 0 l.fn.target l.k (λ j. slice_index l.fn.masses j) l.initial.values l.values
