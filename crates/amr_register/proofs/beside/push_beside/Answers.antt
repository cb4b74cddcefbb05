use Rattle.std.proofs.Common.{refl}
use Rattle.amr_register.proofs.CollectLaws.{found_around, more_added, nothing_added}
use Rattle.amr_register.proofs.BeltCells.{far}
use Rattle.amr_register.proofs.beside.push_beside.Goals as goal

pub returns-then-not-may_reach-clause-collects : goal.returns-then-not-may_reach-clause-collects
returns-then-not-may_reach-clause-collects c = nothing_added _ _ _ refl

pub returns-then-not-may_reach-clause-finds : goal.returns-then-not-may_reach-clause-finds
returns-then-not-may_reach-clause-finds c = far c.args.belt _ _ c.args.b.now _ c.requires.near (c.if-not-may_reach.ensures refl)

pub returns : goal.returns
returns c =
    let first = c.in_ok-push_left_and_right.ensures in
    let second = c.in_ok-push_below_and_above.ensures in
    record {
      collects = more_added _ _ _ _ first.collects second.collects;
      finds = found_around _ _ c.args.b.now _ _ second.collects first.finds second.finds;
    }
