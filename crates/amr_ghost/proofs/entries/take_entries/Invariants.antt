use Rattle.std.proofs.Common.{◌≡◌, ℕ, ◌<◌}
use Rattle.std.specs.Prelude.{slice_index}
use Rattle.amr_ghost.specs.Strips.{nth_place}
use Rattle.amr_ghost.proofs.entries.take_entries.Given as goal

-- the values so far are read
abbrev pub invariant-loop-k : goal.invariant-loop-k
invariant-loop-k l = (j : ℕ) → j < l.k → slice_index l.masses j ≡ slice_index l.fn.values (nth_place l.fn.source j)
