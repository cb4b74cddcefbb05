use Rattle.std.proofs.Common.{◌≡◌, ℕ, ◌+◌, ◌/◌, ◌<◌}
use Rattle.std.specs.Prelude.{slice_index}
use Rattle.amr_ghost.proofs.entries.quarter_all.Given as goal

-- the quarters so far are written
abbrev pub invariant-loop-k : goal.invariant-loop-k
invariant-loop-k l = (j : ℕ) → j < l.k → slice_index l.values j ≡ slice_index l.fn.masses ((l.fn.skipped + j) / 2) / 4
