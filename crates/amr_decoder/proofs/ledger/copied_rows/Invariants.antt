use Rattle.std.proofs.Common.{◌≡◌, take}
use Rattle.amr_patch.specs.Meshes.{state_of}
use Rattle.amr_decoder.proofs.ledger.copied_rows.Given as goal

-- the rows before k are copied
abbrev pub invariant-loop-k : goal.invariant-loop-k
invariant-loop-k l = l.rows.items ≡ take l.k (state_of l.mesh).rows
