use Rattle.std.proofs.Common.{◌∙◌, refl, subst, sym, arith}
use Rattle.amr_lots.specs.LotSteps.{ReadsNone, ReadsSome}
use Rattle.amr_lots.proofs.InPlaces.{none_changed}
use Rattle.amr_lots.proofs.Where.{IsSteppedWhere, all_where, may_here, next_where}
use Rattle.amr_lots.proofs.sweep.step_inner.Goals as goal

pub loop-k-init : goal.loop-k-init
loop-k-init c = record { changed = none_changed (IsSteppedWhere c.args.p.now c.args.l ReadsNone ReadsSome c.args.layouts.now) c.args.patches.now; room = refl }

pub step_if_inner-requires : goal.step_if_inner-requires
step_if_inner-requires c = λ none.
    let may = may_here c.args.p.now c.args.l ReadsNone ReadsSome c.args.layouts.now c.args.patches.now c.loop-k.patches c.loop-k.k c.loop-k.invariant.changed _ c.requires c.index-patches-k.result c.index-layouts-k.result c.loop-k-test.true (subst ReadsNone c.index-layouts-k.is none) in
    record { step = may.step; room = omega (arith, may.room, c.loop-k.invariant.room) }

pub loop-k-preserved : goal.loop-k-preserved
loop-k-preserved c = record {
  changed = next_where c.args.p.now c.args.l ReadsNone ReadsSome c.args.layouts.now c.args.patches.now c.loop-k.patches c.loop-k.k c.loop-k.invariant.changed _ c.requires c.index-patches-k.result c.index-layouts-k.result c.loop-k-test.true
      c.step_if_inner.new.patch (λ none. c.step_if_inner.ensures.stepped (subst ReadsNone (sym c.index-layouts-k.is) none)) (λ some. c.step_if_inner.ensures.stays (subst ReadsSome (sym c.index-layouts-k.is) some));
  room = c.step_if_inner.ensures.room ∙ c.loop-k.invariant.room;
}

pub returns-clause-stepped : goal.returns-clause-stepped
returns-clause-stepped c = all_where c.args.p.now c.args.l ReadsNone ReadsSome c.args.layouts.now c.args.patches.now c.loop-k.patches c.loop-k.k c.loop-k.invariant.changed (omega (arith, c.loop-k-test.false))
