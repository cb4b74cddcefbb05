use Rattle.std.proofs.Common.{◌≡◌, take}
use Rattle.amr_def.specs.OneSpecies.{blocks_of}
use Rattle.amr_drive.proofs.species.blocks_of.Given as goal

abbrev pub invariant-loop-block : goal.invariant-loop-block
invariant-loop-block l = l.own.items ≡ blocks_of l.k (take l.block-index l.blocks)
