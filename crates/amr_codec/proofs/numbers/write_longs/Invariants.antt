use Rattle.std.proofs.Common.{◌≡◌, ◌*◌, take}
use Rattle.std.specs.Int.{w64}
use Rattle.std.specs.List.{flat_map}
use Rattle.amr_payload.specs.Payload.{number_bytes}
use Rattle.amr_codec.proofs.numbers.write_longs.Given as goal

-- the numbers before k are written
abbrev pub invariant-loop-k : goal.invariant-loop-k
invariant-loop-k l = take (8 * l.k) l.bytes ≡ flat_map (number_bytes w64) (take l.k l.numbers)
