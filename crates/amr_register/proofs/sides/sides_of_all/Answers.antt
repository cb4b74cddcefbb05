use Rattle.std.proofs.Common.{arith}
use Rattle.amr_register.proofs.SideLists.{more_sides, no_sides}
use Rattle.amr_register.proofs.sides.sides_of_all.Goals as goal

pub loop-c-init : goal.loop-c-init
loop-c-init c = record { sides = no_sides _ _ _ _ c.new-sides.ensures.items; last = record { west = tt; east = tt; south = tt; north = tt } }

pub loop-c-preserved : goal.loop-c-preserved
loop-c-preserved c = record {
  sides = more_sides _ _ _ _ _ _ _ c.sides_of.result c.loop-c.invariant.sides (omega arith) c.in_ok-push.ensures.items c.sides_of.ensures.sides;
  last = c.sides_of.ensures.last;
}

pub returns-clause-sides : goal.returns-clause-sides
returns-clause-sides c = λ k q s lt. c.loop-c.invariant.sides.each k q s (omega arith) lt
