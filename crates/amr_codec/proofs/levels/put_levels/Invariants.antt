use Rattle.std.proofs.Common.{◌≡◌, ◌++◌, take, map}
use Rattle.amr_patch.specs.Levels.{level_of}
use Rattle.amr_payload.specs.Payload.{levels_bytes}
use Rattle.amr_codec.specs.Forms.{basis_of}
use Rattle.amr_codec.proofs.levels.put_levels.Given as goal

-- the levels before l are put
abbrev pub invariant-loop-l : goal.invariant-loop-l
invariant-loop-l l = l.out.items ≡ l.initial.out.items ++ levels_bytes (basis_of l.basis).forms 0 (take l.l (map level_of l.levels))
