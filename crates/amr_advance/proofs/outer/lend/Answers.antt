use Rattle.std.proofs.Common.{get_or, subst, arith}
use Rattle.std.specs.declared.option.Option.TheVariants.{Some}
use Rattle.std.specs.Arc.{arc_value}
use Rattle.amr_patch.specs.declared.levels.Level.{Level}
use Rattle.amr_lots.proofs.InPlaces.{all_changed, none_changed, one_more_changed}
use Rattle.amr_advance.specs.Outer.{IsLent}
use Rattle.amr_advance.proofs.LentLevels.{some_kept}
use Rattle.amr_advance.proofs.outer.lend.Goals as goal

pub loop-k-init : goal.loop-k-init
loop-k-init c = none_changed _ c.args.lots.now

pub loop-k-preserved : goal.loop-k-preserved
loop-k-preserved c = one_more_changed _ c.args.lots.now c.loop-k.k c.loop-k.lots c.loop-k.invariant c.index-lots-k.result _ c.loop-k-test.true
    (subst (λ (k : Level). IsLent (Some k) (get_or c.loop-k.lots c.loop-k.k c.index-lots-k.result) c.lend_to.new.lot) c.in_ok-share.ensures c.lend_to.ensures)

pub returns-in_err-share-clause-kept : goal.returns-in_err-share-clause-kept
returns-in_err-share-clause-kept c = some_kept _ c.loop-k.k c.args.lots.now c.loop-k.lots c.loop-k.invariant

pub returns-clause-lent : goal.returns-clause-lent
returns-clause-lent c = all_changed _ c.args.lots.now c.loop-k.k c.loop-k.lots c.loop-k.invariant _ (λ k x y h. h) (omega (arith, c.loop-k-test.false))

pub returns-clause-kept : goal.returns-clause-kept
returns-clause-kept c = some_kept (Some (arc_value c.args.coarser.now)) c.loop-k.k c.args.lots.now c.loop-k.lots c.loop-k.invariant
