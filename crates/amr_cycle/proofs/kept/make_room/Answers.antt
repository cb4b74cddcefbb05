use Rattle.std.proofs.Common.{sym, subst, arith}
use Rattle.std.specs.Prelude.{IfSome}
use Rattle.std.specs.declared.option.Option.{Option}
use Rattle.std.specs.Global.{Vec}
use Rattle.amr_cycle.specs.declared.kept.KeptLevel.{KeptLevel}
use Rattle.amr_cycle.specs.KeptLevels.{AreKept}
use Rattle.amr_cycle.proofs.KeptLaws.{kept_more}
use Rattle.amr_cycle.proofs.kept.make_room.Goals.{in-Some, in-None}
use Rattle.amr_cycle.proofs.kept.make_room.Goals as goal

pub loop-levels-preserved : goal.loop-levels-preserved
loop-levels-preserved c = λ p levels h. subst (AreKept p 0 levels) (sym c.in_ok-push.ensures.items) (kept_more p 0 levels c.loop-levels.levels.items (c.loop-levels.invariant p levels h))

pub returns-clause-kept : goal.returns-clause-kept
returns-clause-kept c = λ p levels h. c.loop-levels.invariant p levels
    (elim c.match-kept.branch [
      | in-Some w ↦ subst (λ (v : Vec KeptLevel). AreKept p 0 levels v.items) (sym w.levels-is) (subst (λ (o : Option (Vec KeptLevel)). IfSome o (λ ks. AreKept p 0 levels ks.items)) w.in-Some.is h)
      | in-None w ↦ subst (λ (v : Vec KeptLevel). AreKept p 0 levels v.items) (sym w.levels-is) (subst (AreKept p 0 levels) (sym w.new-levels.ensures.items) (λ k d lt. absurd (omega (arith, lt))))
    ])
