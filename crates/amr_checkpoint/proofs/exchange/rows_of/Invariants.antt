use Rattle.std.proofs.Common.{◌≡◌, take}
use Rattle.amr_patch.specs.Meshes.{state_of}
use Rattle.amr_checkpoint.proofs.exchange.rows_of.Given as goal

-- the rows before k are there
abbrev pub invariant-loop-k : goal.invariant-loop-k
invariant-loop-k l = l.rows.items ≡ take l.k (state_of l.mesh).rows
