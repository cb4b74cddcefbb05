use Rattle.std.proofs.Common.{◌≡◌, map, take}
use Rattle.amr_patch.specs.Levels.{level_of}
use Rattle.amr_checkpoint.specs.Exchanges.{shape_of}
use Rattle.amr_checkpoint.proofs.exchange.copy_levels.Given as goal

-- the levels before k have the masses, and all have their boxes
abbrev pub invariant-loop-k : goal.invariant-loop-k
invariant-loop-k l = record {
  shapes : map shape_of l.to ≡ map shape_of l.from;
  given : take l.k (map level_of l.to) ≡ take l.k (map level_of l.from);
}
