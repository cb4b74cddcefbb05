use Rattle.std.proofs.Common.{◌≡◌, take}
use Rattle.amr_patch.specs.Meshes.{state_of}
use Rattle.amr_witness_regrid.proofs.mesh.rows_of.Given as goal

abbrev pub invariant-loop-k : goal.invariant-loop-k
invariant-loop-k l = l.rows.items ≡ take l.k (state_of l.mesh).rows
