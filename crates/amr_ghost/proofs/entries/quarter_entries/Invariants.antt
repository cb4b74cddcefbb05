use Rattle.std.proofs.Common.{◌+◌, ◌/◌}
use Rattle.std.specs.Prelude.{slice_index}
use Rattle.amr_ghost.specs.Strips.{AreWritten, nth_place}
use Rattle.amr_ghost.proofs.entries.quarter_entries.Given as goal

abbrev pub invariant-loop-k : goal.invariant-loop-k
invariant-loop-k l = AreWritten 0 l.fn.target l.k (λ j. slice_index l.fn.from (nth_place l.fn.source ((l.fn.skipped + j) / 2)) / 4) l.initial.values l.values
