use Rattle.std.proofs.Common.{◌∙◌, length, get_or, refl, subst, arith}
use Rattle.std.proofs.lemmas.List.{get_or_default}
use Rattle.amr_flux.specs.Rooms.{widest}
use Rattle.amr_flux.specs.declared.fluxes.PatchSides.{PatchSides}
use Rattle.amr_layout.specs.LevelFlowLists.{flow_lists}
use Rattle.amr_lots.specs.Lots.{IsSweptOn}
use Rattle.amr_lots.proofs.InPlaces.{each_changed}
use Rattle.amr_lots.proofs.InTurn.{all_added, can_add_here, may_step_here, next_done, no_sides, none_done, zeros}
use Rattle.amr_lots.proofs.sweep.sweep_patches.Goals as goal

pub loop-k-init : goal.loop-k-init
loop-k-init c = record {
  swept = none_done (λ k q r. (d : PatchSides) → IsSweptOn c.args.p.now c.args.l (get_or c.args.sides.now k d) q r) c.args.p.now c.args.l c.args.patches.now (flow_lists c.args.flows.now (length c.args.patches.now)) c.fill.new.self (zeros c.fill.new.self (length c.args.totals.now) (c.fill.ensures.after (λ y e. e)));
  room = refl;
  count = refl;
}

pub of-requires : goal.of-requires
of-requires c = c.requires.flows.there c.loop-k.k c.loop-k-test.true

pub sweep_patch-requires-clause-step : goal.sweep_patch-requires-clause-step
sweep_patch-requires-clause-step c = may_step_here (λ k q r. (d : PatchSides) → IsSweptOn c.args.p.now c.args.l (get_or c.args.sides.now k d) q r) c.args.p.now c.args.l (widest c.args.room.now) (length c.args.totals.now) c.args.patches.now c.args.flows.now c.args.sides.now c.requires.ready c.requires.flows c.loop-k.patches c.loop-k.totals c.loop-k.k c.loop-k.invariant.swept c.index-patches-k.result c.of.result.now c.of.ensures c.loop-k-test.true

pub sweep_patch-requires-clause-adds : goal.sweep_patch-requires-clause-adds
sweep_patch-requires-clause-adds c = can_add_here (λ k q r. (d : PatchSides) → IsSweptOn c.args.p.now c.args.l (get_or c.args.sides.now k d) q r) c.args.p.now c.args.l (widest c.args.room.now) (length c.args.totals.now) c.args.patches.now c.args.flows.now c.args.sides.now c.requires.ready c.requires.flows c.loop-k.patches c.loop-k.totals c.loop-k.k c.loop-k.invariant.swept c.index-patches-k.result c.of.result.now c.of.ensures c.loop-k-test.true (omega (arith, c.loop-k.invariant.count, c.fill.ensures.len))

pub loop-k-preserved : goal.loop-k-preserved
loop-k-preserved c = record {
  swept = next_done (λ k q r. (d : PatchSides) → IsSweptOn c.args.p.now c.args.l (get_or c.args.sides.now k d) q r) c.args.p.now c.args.l (widest c.args.room.now) (length c.args.totals.now) c.args.patches.now c.args.flows.now c.args.sides.now c.requires.ready c.requires.flows c.loop-k.patches c.loop-k.totals c.loop-k.k c.loop-k.invariant.swept c.index-patches-k.result c.of.result.now c.of.ensures c.loop-k-test.true c.sweep_patch.new.patch c.sweep_patch.new.totals (λ d. subst (λ (s : PatchSides). IsSweptOn c.args.p.now c.args.l s (get_or c.loop-k.patches c.loop-k.k c.index-patches-k.result) c.sweep_patch.new.patch) (get_or_default c.args.sides.now c.loop-k.k no_sides d (omega (arith, c.loop-k-test.true, c.requires.flows.count))) c.sweep_patch.ensures.swept) c.sweep_patch.ensures.added.adds;
  room = c.sweep_patch.ensures.room ∙ c.loop-k.invariant.room;
  count = c.sweep_patch.ensures.added.count ∙ c.loop-k.invariant.count;
}

pub returns-clause-swept : goal.returns-clause-swept
returns-clause-swept c = record {
  count = c.loop-k.invariant.swept.changed.count;
  each = λ k q d lt. each_changed (λ k q r. (d : PatchSides) → IsSweptOn c.args.p.now c.args.l (get_or c.args.sides.now k d) q r) c.args.patches.now c.loop-k.k c.loop-k.patches c.loop-k.invariant.swept.changed (omega (arith, c.loop-k-test.false)) k q lt d;
}

pub returns-clause-totals : goal.returns-clause-totals
returns-clause-totals c = all_added (λ k q r. (d : PatchSides) → IsSweptOn c.args.p.now c.args.l (get_or c.args.sides.now k d) q r) c.args.p.now c.args.l (widest c.args.room.now) (length c.args.totals.now) c.args.patches.now c.args.flows.now c.args.sides.now c.requires.ready c.requires.flows c.loop-k.patches c.loop-k.totals c.loop-k.k c.loop-k.invariant.swept (omega (arith, c.loop-k-test.false))
