use Rattle.std.proofs.Common.{◌∙◌, length, refl, arith}
use Rattle.amr_flux.specs.Rooms.{widest}
use Rattle.amr_layout.specs.LevelFlowLists.{flow_lists}
use Rattle.amr_lots.specs.Lots.{HasStepped}
use Rattle.amr_lots.proofs.InPlaces.{all_changed}
use Rattle.amr_lots.proofs.InTurn.{all_added, can_add_here, may_step_here, next_done, none_done, room_here, zeros}
use Rattle.amr_lots.proofs.alone.step_patches.Goals as goal

pub loop-k-init : goal.loop-k-init
loop-k-init c = record {
  stepped = none_done (λ _. HasStepped c.args.p.now c.args.l) c.args.p.now c.args.l c.args.patches.now (flow_lists c.args.flows.now (length c.args.patches.now)) c.fill.new.self (zeros c.fill.new.self (length c.args.totals.now) (c.fill.ensures.after (λ y e. e)));
  room = refl;
  count = refl;
}

pub of-requires : goal.of-requires
of-requires c = c.requires.flows.there c.loop-k.k c.loop-k-test.true

pub step_patch-requires-clause-step : goal.step_patch-requires-clause-step
step_patch-requires-clause-step c = may_step_here (λ _. HasStepped c.args.p.now c.args.l) c.args.p.now c.args.l (widest c.args.room.now) (length c.args.totals.now) c.args.patches.now c.args.flows.now c.args.sides.now c.requires.ready c.requires.flows c.loop-k.patches c.loop-k.totals c.loop-k.k c.loop-k.invariant.stepped c.index-patches-k.result c.of.result.now c.of.ensures c.loop-k-test.true

pub step_patch-requires-clause-adds : goal.step_patch-requires-clause-adds
step_patch-requires-clause-adds c = can_add_here (λ _. HasStepped c.args.p.now c.args.l) c.args.p.now c.args.l (widest c.args.room.now) (length c.args.totals.now) c.args.patches.now c.args.flows.now c.args.sides.now c.requires.ready c.requires.flows c.loop-k.patches c.loop-k.totals c.loop-k.k c.loop-k.invariant.stepped c.index-patches-k.result c.of.result.now c.of.ensures c.loop-k-test.true (omega (arith, c.loop-k.invariant.count, c.fill.ensures.len))

pub step_patch-requires-clause-room : goal.step_patch-requires-clause-room
step_patch-requires-clause-room c = let wide = room_here (λ _. HasStepped c.args.p.now c.args.l) c.args.p.now c.args.l (widest c.args.room.now) (length c.args.totals.now) c.args.patches.now c.args.flows.now c.args.sides.now c.requires.ready c.requires.flows c.loop-k.patches c.loop-k.totals c.loop-k.k c.loop-k.invariant.stepped c.index-patches-k.result c.of.result.now c.of.ensures c.loop-k-test.true in omega (arith, wide, c.loop-k.invariant.room)

pub loop-k-preserved : goal.loop-k-preserved
loop-k-preserved c = record {
  stepped = next_done (λ _. HasStepped c.args.p.now c.args.l) c.args.p.now c.args.l (widest c.args.room.now) (length c.args.totals.now) c.args.patches.now c.args.flows.now c.args.sides.now c.requires.ready c.requires.flows c.loop-k.patches c.loop-k.totals c.loop-k.k c.loop-k.invariant.stepped c.index-patches-k.result c.of.result.now c.of.ensures c.loop-k-test.true c.step_patch.new.patch c.step_patch.new.totals c.step_patch.ensures.stepped c.step_patch.ensures.added.adds;
  room = c.step_patch.ensures.room ∙ c.loop-k.invariant.room;
  count = c.step_patch.ensures.added.count ∙ c.loop-k.invariant.count;
}

pub returns-clause-stepped : goal.returns-clause-stepped
returns-clause-stepped c = all_changed (λ _. HasStepped c.args.p.now c.args.l) c.args.patches.now c.loop-k.k c.loop-k.patches c.loop-k.invariant.stepped.changed (HasStepped c.args.p.now c.args.l) (λ k x y h. h) (omega (arith, c.loop-k-test.false))

pub returns-clause-totals : goal.returns-clause-totals
returns-clause-totals c = all_added (λ _. HasStepped c.args.p.now c.args.l) c.args.p.now c.args.l (widest c.args.room.now) (length c.args.totals.now) c.args.patches.now c.args.flows.now c.args.sides.now c.requires.ready c.requires.flows c.loop-k.patches c.loop-k.totals c.loop-k.k c.loop-k.invariant.stepped (omega (arith, c.loop-k-test.false))
