use Rattle.std.proofs.Common.{◌≡◌, ◌++◌, drop, take}
use Rattle.std.specs.List.{flat_map}
use Rattle.amr_patch.specs.Meshes.{state_of}
use Rattle.amr_payload.specs.Payload.{row_bytes}
use Rattle.amr_codec.proofs.encoders.put_ledger.Given as goal

-- the rows from the first on and before k are put
abbrev pub invariant-loop-k : goal.invariant-loop-k
invariant-loop-k l = l.out.items ≡ l.initial.out.items ++ flat_map row_bytes (drop l.first (take l.k (state_of l.mesh).rows))
