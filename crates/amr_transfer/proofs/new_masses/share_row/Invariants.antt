use Rattle.std.proofs.Common.{◌≡◌, ℕ, ◌+◌, ◌*◌, ◌/◌, ◌%◌, ◌<◌}
use Rattle.std.specs.Prelude.{slice_index}
use Rattle.amr_def.specs.Regrid.{child_share}
use Rattle.amr_transfer.proofs.new_masses.share_row.Given as goal

-- the shares of the children of the first k parents
abbrev pub invariant-loop-k : goal.invariant-loop-k
invariant-loop-k l = (j : ℕ) → j < 2 * l.k → slice_index l.shares j ≡ child_share (slice_index l.parents (j / 2)) (2 * l.row + j % 2)
