use Rattle.std.proofs.Common.{◌≡◌, ◌∙◌, ℕ, List, length, refl, sym, ap, subst}
use Rattle.std.specs.Prelude.{slice_index}
use Rattle.std.specs.Vec.{with_items}
use Rattle.amr_flux.specs.Rooms.{widest}
use Rattle.amr_flux.specs.declared.fluxes.PatchSides.{PatchSides}
use Rattle.amr_lots.specs.declared.lot.Workspace.{Workspace}
use Rattle.amr_layout.specs.LevelFlowLists.{flow_lists}
use Rattle.amr_lots.specs.Lots.{AreReady}
use Rattle.amr_lots.specs.Ready.{HasFlowsIn}
use Rattle.amr_lots.proofs.Filled.{flows_now, given_items, has_begun, ready_now}
use Rattle.amr_lots.proofs.alone.step_alone.Goals as goal

pub begin-requires : goal.begin-requires
begin-requires c = record { inside = c.requires.inside; fill = c.requires.fill; edges = c.requires.lists }

pub step_patches-requires-clause-ready : goal.step_patches-requires-clause-ready
step_patches-requires-clause-ready c =
    let t = c.begin.new.workspace in
    subst (λ (ws : List ℕ). AreReady c.args.p.now c.args.l (widest t.room) (length ws) c.begin.new.patches (flow_lists t.flows (length c.begin.new.patches))) (sym c.deref_mut.ensures.value)
    (ready_now c.args.p.now c.args.l c.args.patches.now c.begin.new.patches c.args.edges.now c.args.workspace.now c.begin.new.workspace c.requires c.begin.ensures.outer c.begin.ensures.filled c.begin.ensures.others)

pub step_patches-requires-clause-flows : goal.step_patches-requires-clause-flows
step_patches-requires-clause-flows c =
    subst (λ (ds : List PatchSides). HasFlowsIn c.begin.new.workspace.flows ds c.begin.new.patches) (sym c.deref.ensures.value) (flows_now c.args.p.now c.args.l c.args.patches.now c.begin.new.patches c.args.edges.now c.args.workspace.now c.begin.new.workspace c.requires c.begin.ensures.outer c.begin.ensures.filled c.begin.ensures.others)

pub returns : goal.returns
returns c =
    let s = c.args.workspace.now in
    let t = c.begin.new.workspace in
    let totals : (with_items t.totals c.step_patches.new.totals).items ≡ c.step_patches.new.totals = given_items t.totals c.deref_mut.result.now c.step_patches.new.totals c.deref_mut.ensures.value (sym c.step_patches.ensures.count) in
    let after : Workspace = record t { totals = with_items t.totals c.step_patches.new.totals; room = c.step_patches.new.room } in
    record {
      filled = c.begin.new.patches;
      begun = has_begun c.args.p.now c.args.l c.args.patches.now c.begin.new.patches c.args.edges.now c.begin.new.edges s t after c.begin.ensures.outer c.begin.ensures.filled c.begin.ensures.others c.begin.ensures.nets
          c.step_patches.ensures.room (ap length totals ∙ c.step_patches.ensures.count ∙ ap length c.deref_mut.ensures.value) (λ word. ap (λ ws. slice_index ws word) totals ∙ c.step_patches.ensures.totals word) refl;
      stepped = c.step_patches.ensures.stepped;
    }
