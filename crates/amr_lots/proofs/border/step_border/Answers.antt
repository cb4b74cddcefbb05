use Rattle.std.proofs.Common.{◌+◌, ◌-◌, ◌∙◌, length, get_or, take, drop, refl, sym, ap, subst, arith}
use Rattle.amr_layout.specs.declared.PatchLayout.{PatchLayout}
use Rattle.amr_lots.specs.LotSteps.{AreSizesAt, ReadsNone, ReadsSome}
use Rattle.amr_lots.proofs.InPlaces.{none_changed}
use Rattle.amr_lots.proofs.Places.{end_fits, end_is, end_most}
use Rattle.amr_lots.proofs.Where.{IsSteppedWhere, all_where, may_here, next_where, sizes_here}
use Rattle.amr_lots.proofs.border.step_border.Goals as goal

pub loop-k-init : goal.loop-k-init
loop-k-init c = record { changed = none_changed (IsSteppedWhere c.args.p.now c.args.l ReadsSome ReadsNone c.args.layouts.now) c.args.patches.now; room = refl; done = refl }

pub overflow_add-end : goal.overflow_add-end
overflow_add-end c = let fits = end_fits c.args.layouts.now c.loop-k.k c.index-layouts-k.result (omega (arith, c.loop-k-test.true, c.requires.steps.count)) c.loop-k.done c.loop-k.invariant.done c.as_slice-border.result.now (c.as_slice-border.ensures.value ∙ ap (λ (t : PatchLayout). t.border.items) c.index-layouts-k.is) c.args.sizes.now c.requires.sizes.room (omega arith) in omega (arith, fits)

pub offset_bounds-sizes-done : goal.offset_bounds-sizes-done
offset_bounds-sizes-done c = let most = end_most c.args.layouts.now c.loop-k.k c.index-layouts-k.result (omega (arith, c.loop-k-test.true, c.requires.steps.count)) c.loop-k.done c.loop-k.invariant.done c.as_slice-border.result.now (c.as_slice-border.ensures.value ∙ ap (λ (t : PatchLayout). t.border.items) c.index-layouts-k.is) in omega (arith, most, c.requires.sizes.room)

pub slice_bounds-step_if_border-end : goal.slice_bounds-step_if_border-end
slice_bounds-step_if_border-end c = let most = end_most c.args.layouts.now c.loop-k.k c.index-layouts-k.result (omega (arith, c.loop-k-test.true, c.requires.steps.count)) c.loop-k.done c.loop-k.invariant.done c.as_slice-border.result.now (c.as_slice-border.ensures.value ∙ ap (λ (t : PatchLayout). t.border.items) c.index-layouts-k.is) in omega (arith, most, c.requires.sizes.room)

pub step_if_border-requires-clause-may : goal.step_if_border-requires-clause-may
step_if_border-requires-clause-may c = λ some.
    let may = may_here c.args.p.now c.args.l ReadsSome ReadsNone c.args.layouts.now c.args.patches.now c.loop-k.patches c.loop-k.k c.loop-k.invariant.changed _ c.requires.steps c.index-patches-k.result c.index-layouts-k.result c.loop-k-test.true (subst ReadsSome c.index-layouts-k.is some) in
    record { step = may.step; room = omega (arith, may.room, c.loop-k.invariant.room) }

pub step_if_border-requires-clause-sizes : goal.step_if_border-requires-clause-sizes
step_if_border-requires-clause-sizes c = λ some.
    subst (λ (t : PatchLayout). AreSizesAt c.args.p.now c.args.l (take (c.loop-k.done + length c.as_slice-border.result.now - c.loop-k.done) (drop c.loop-k.done c.args.sizes.now)) t (get_or c.loop-k.patches c.loop-k.k c.index-patches-k.result)) (sym c.index-layouts-k.is)
    (sizes_here c.args.p.now c.args.l ReadsSome ReadsNone c.args.layouts.now c.args.patches.now c.loop-k.patches c.loop-k.k c.loop-k.invariant.changed c.args.sizes.now c.requires.sizes c.index-patches-k.result c.index-layouts-k.result c.loop-k-test.true (subst ReadsSome c.index-layouts-k.is some) c.loop-k.done c.loop-k.invariant.done
    (c.loop-k.done + length c.as_slice-border.result.now - c.loop-k.done) (omega (arith, ap length (c.as_slice-border.ensures.value ∙ ap (λ (t : PatchLayout). t.border.items) c.index-layouts-k.is))))

pub loop-k-preserved : goal.loop-k-preserved
loop-k-preserved c = record {
  changed = next_where c.args.p.now c.args.l ReadsSome ReadsNone c.args.layouts.now c.args.patches.now c.loop-k.patches c.loop-k.k c.loop-k.invariant.changed _ c.requires.steps c.index-patches-k.result c.index-layouts-k.result c.loop-k-test.true c.step_if_border.new.patch (λ some. c.step_if_border.ensures.stepped (subst ReadsSome (sym c.index-layouts-k.is) some)) (λ none. c.step_if_border.ensures.stays (subst ReadsNone (sym c.index-layouts-k.is) none));
  room = c.step_if_border.ensures.room ∙ c.loop-k.invariant.room;
  done = let is = end_is c.args.layouts.now c.loop-k.k c.index-layouts-k.result (omega (arith, c.loop-k-test.true, c.requires.steps.count)) c.loop-k.done c.loop-k.invariant.done c.as_slice-border.result.now (c.as_slice-border.ensures.value ∙ ap (λ (t : PatchLayout). t.border.items) c.index-layouts-k.is) in omega (arith, is);
}

pub returns-clause-stepped : goal.returns-clause-stepped
returns-clause-stepped c = all_where c.args.p.now c.args.l ReadsSome ReadsNone c.args.layouts.now c.args.patches.now c.loop-k.patches c.loop-k.k c.loop-k.invariant.changed (omega (arith, c.loop-k-test.false))
