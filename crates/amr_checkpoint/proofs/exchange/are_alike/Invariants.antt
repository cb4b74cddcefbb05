use Rattle.std.proofs.Common.{◌≡◌, map, take}
use Rattle.amr_checkpoint.specs.Exchanges.{shape_of}
use Rattle.amr_checkpoint.proofs.exchange.are_alike.Given as goal

-- the levels so far are alike
abbrev pub invariant-loop-k : goal.invariant-loop-k
invariant-loop-k l = take l.k (map shape_of l.a) ≡ take l.k (map shape_of l.b)
