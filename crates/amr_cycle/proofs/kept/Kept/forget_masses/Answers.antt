use Rattle.std.proofs.Common.{sym, subst, arith, ap}
use Rattle.std.specs.Prelude.{IfSome, length}
use Rattle.std.specs.declared.option.Option.{Option}
use Rattle.std.specs.Global.{Vec}
use Rattle.std.proofs.lemmas.List.{with_items_is}
use Rattle.amr_cycle.specs.declared.kept.KeptLevel.{KeptLevel}
use Rattle.amr_cycle.specs.KeptLevels.{AreKept}
use Rattle.amr_cycle.proofs.kept.Kept.forget_masses.Goals as goal

pub returns-in-Some : goal.returns-in-Some
returns-in-Some c = λ p before now h.
    let kept = subst (λ (o : Option (Vec KeptLevel)). IfSome o (λ ks. AreKept p 0 before ks.items)) c.in-Some.is h.levels_kept in
    let items = with_items_is c.in-Some.levels c.forget_all.new.kept (omega (arith, c.forget_all.auto.kept, ap length c.deref_mut.ensures.value)) in
    record { levels_kept = subst (AreKept p 0 now) (sym items) (c.forget_all.ensures p before now (subst (AreKept p 0 before) (sym c.deref_mut.ensures.value) kept)) }
