-- What a lot keeps through a phase: what serves its run of the level's patches.
use Rattle.std.proofs.Common.{◌≡◌, ◌∙◌, ℕ, ◌+◌, ◌*◌, ◌<◌, List, length, get_or, map, refl, sym, ap, subst, arith}
use Rattle.std.specs.Global.{Box, Vec}
use Rattle.std.specs.List.{All, AllZip}
use Rattle.amr_flux.specs.Rooms.{widest}
use Rattle.amr_flux.specs.declared.fluxes.PatchSides.{PatchSides}
use Rattle.amr_ghost.specs.Outer.{HasOuterPlaces}
use Rattle.amr_ghost.specs.declared.messages.Message.{Message}
use Rattle.amr_ghost.specs.declared.parts.FrameParts.{FrameParts}
use Rattle.amr_layout.specs.declared.FlowTo.{FlowTo}
use Rattle.amr_layout.specs.declared.PatchLayout.{PatchLayout}
use Rattle.amr_layout.specs.declared.level_flows.LevelFlows.{LevelFlows}
use Rattle.amr_layout.specs.Adds.{flows_of}
use Rattle.amr_layout.specs.LevelFlowLists.{AreFlowsOf, flow_lists}
use Rattle.amr_layout.specs.Places.{HasMask}
use Rattle.amr_layout.specs.PartFlows.{AreNumbered, AreOnce}
use Rattle.amr_layout.specs.Surroundings.{Around, domain_around}
use Rattle.amr_lots.specs.declared.lot.Lot.{Lot}
use Rattle.amr_lots.specs.declared.lot.Workspace.{Workspace}
use Rattle.amr_lots.specs.Ready.{HasFlowsIn}
use Rattle.amr_lots.specs.Runs.{IsDelivered, KeepAllButEdges, KeepOthers, run}
use Rattle.amr_lots.specs.Duties.{HasSent}
use Rattle.amr_lots.specs.Works.{KeepsLayout, places_read}
use Rattle.amr_patch.specs.declared.patches.Patch.{Patch}
use Rattle.amr_patch.specs.Patches.{box}
use Rattle.amr_advance.specs.Lots.{HasLayoutsOf, HasOthersOf, HasWordsOf, AreMessagesOf, IsLotOf, IsWholeLot, PutsLieOn, ServesRun}

-- all that a workspace has by boxes alone, but for its messages
pub record KeepsPlan (a b : Workspace) : Type 0 where
  pub layouts : b.layouts ≡ a.layouts
  pub flows : b.flows ≡ a.flows
  pub sides : b.sides ≡ a.sides
  pub words : b.words ≡ a.words
  pub totals : length b.totals.items ≡ length a.totals.items
  pub copies : b.copies ≡ a.copies
  pub spans : b.outer.spans ≡ a.outer.spans
  pub places : HasOuterPlaces a.outer → HasOuterPlaces b.outer
  pub room : widest b.room ≡ widest a.room
  pub sizes : length b.sizes.items ≡ length a.sizes.items

pub plan_itself : (a : Workspace) → KeepsPlan a a
plan_itself a = record { layouts = refl; flows = refl; sides = refl; words = refl; totals = refl; copies = refl; spans = refl; places = λ h. h; room = refl; sizes = refl }

pub plan_same : (a b : Workspace) → b ≡ a → KeepsPlan a b
plan_same a b is = subst (KeepsPlan a) (sym is) (plan_itself a)

pub plan_handed : (a b : Box Lot) → KeepOthers a b → KeepsPlan a.value.workspace b.value.workspace
plan_handed a b h = plan_same a.value.workspace b.value.workspace (ap (λ (z : Lot). z.workspace) h)

pub plan_lent : (a b : Box Lot) → KeepAllButEdges a b → KeepsPlan a.value.workspace b.value.workspace
plan_lent a b h = plan_same a.value.workspace b.value.workspace (ap (λ (z : Lot). z.workspace) h)

pub plan_exchanged : (a b : Lot) → IsDelivered a b → KeepsPlan a.workspace b.workspace
plan_exchanged a b h = subst (λ (z : Lot). KeepsPlan a.workspace z.workspace) (sym h.others) (record { layouts = refl; flows = refl; sides = refl; words = refl; totals = refl; copies = refl; spans = refl; places = λ p. p; room = refl; sizes = refl })

pub plan_sent : (a b : Lot) → HasSent a b → KeepsPlan a.workspace b.workspace
plan_sent a b h = subst (λ (z : Lot). KeepsPlan a.workspace z.workspace) (sym h.others) (record { layouts = refl; flows = refl; sides = refl; words = refl; totals = refl; copies = refl; spans = refl; places = λ p. p; room = refl; sizes = refl })

-- a step keeps it, too
pub plan_stepped : (a b : Workspace) → KeepsLayout a b → HasOuterPlaces b.outer → KeepsPlan a b
plan_stepped a b h places = record { layouts = h.layouts; flows = h.flows; sides = h.sides; words = h.words; totals = h.totals; copies = h.copies; spans = h.spans; places = λ p. places; room = h.room; sizes = h.sizes }

module _ {s : Around} {each k runs : ℕ} {parts : FrameParts} {a : Workspace} (of : ServesRun s each k runs parts a) (b : Workspace) (plan : KeepsPlan a b) where
  -- so it serves its run as before, where it has messages of the same copies
  pub still_serves : AreMessagesOf parts (λ t. k * runs + t) k runs b.outbox.items → AreMessagesOf parts (λ u. u * runs + k) k runs b.inbox.items → ServesRun s each k runs parts b
  still_serves outbox inbox = record {
    copies = λ v. (λ i. (plan.copies i).items) ∙ of.copies v;
    outer = λ v. (λ i. (plan.spans i).items) ∙ of.outer v;
    outer_places = plan.places of.outer_places;
    outbox = outbox;
    inbox = inbox;
    room = λ i q lt_i. let r = of.room i q lt_i in omega (arith, r, plan.room);
    flows = subst (λ (v : LevelFlows). HasFlowsIn v b.sides.items (run each k s.patches)) (sym plan.flows) (subst (λ (d : Vec PatchSides). HasFlowsIn a.flows d.items (run each k s.patches)) (sym plan.sides) of.flows);
  }

  pub same_outbox : b.outbox ≡ a.outbox → AreMessagesOf parts (λ t. k * runs + t) k runs b.outbox.items
  same_outbox is = subst (λ (xs : Vec Message). AreMessagesOf parts (λ t. k * runs + t) k runs xs.items) (sym is) of.outbox

  pub same_inbox : b.inbox ≡ a.inbox → AreMessagesOf parts (λ u. u * runs + k) k runs b.inbox.items
  same_inbox is = subst (λ (xs : Vec Message). AreMessagesOf parts (λ u. u * runs + k) k runs xs.items) (sym is) of.inbox

  pub serves_same : b.outbox ≡ a.outbox → b.inbox ≡ a.inbox → ServesRun s each k runs parts b
  serves_same out in_ = still_serves (same_outbox out) (same_inbox in_)

-- the flows of the patches of a run
abbrev lists_in : Around → ℕ → ℕ → List (List FlowTo)
lists_in s each k = map (λ (q : Patch). flows_of s (box q)) (run each k s.patches)

module _ {s : Around} {each k : ℕ} {a : Workspace} (b : Workspace) (plan : KeepsPlan a b) where
  pub still_words : HasWordsOf s each k a → HasWordsOf s each k b
  still_words of = record {
    numbered = subst (λ (v : LevelFlows). AreNumbered b.words.items (lists_in s each k) (flow_lists v (length (run each k s.patches)))) (sym plan.flows) (subst (λ (ws : Vec ℕ). AreNumbered ws.items (lists_in s each k) (flow_lists a.flows (length (run each k s.patches)))) (sym plan.words) of.numbered);
    once = subst (λ (ws : Vec ℕ). AreOnce ws.items) (sym plan.words) of.once;
    within = subst (λ (ws : Vec ℕ). All (λ w. w < 2 + 2 * length s.cells) ws.items) (sym plan.words) of.within;
    totals = plan.totals ∙ of.totals ∙ (λ i. length (sym plan.words i).items);
  }

  pub still_layouts : HasLayoutsOf s each k a → HasLayoutsOf s each k b
  still_layouts of = record {
    puts = (λ i. map (λ (t : PatchLayout). t.puts.items) (plan.layouts i).items) ∙ of.puts;
    borders = (λ i. map (λ (t : PatchLayout). t.border.items) (plan.layouts i).items) ∙ of.borders;
    masks = subst (λ (ts : Vec PatchLayout). AllZip (HasMask (domain_around s) s.patches each) (run each k s.patches) ts.items) (sym plan.layouts) of.masks;
    sides = λ i q t d lt.
        subst (λ (ts : Vec PatchLayout). PutsLieOn (get_or b.sides.items i d) (box (get_or (run each k s.patches) i q)) (get_or ts.items i t).puts.items) (sym plan.layouts)
        (subst (λ (ds : Vec PatchSides). PutsLieOn (get_or ds.items i d) (box (get_or (run each k s.patches) i q)) (get_or a.layouts.items i t).puts.items) (sym plan.sides) (of.sides i q t d lt));
    sizes = omega (arith, of.sizes, plan.sizes, ap (λ (ts : Vec PatchLayout). length (places_read ts.items)) plan.layouts);
  }

-- so a lot is the lot of the same run
pub still_lot : {s : Around} {each k runs : ℕ} {parts : FrameParts} {a : Lot} → IsLotOf s each k runs parts a → (b : Lot) → KeepsPlan a.workspace b.workspace → AreMessagesOf parts (λ t. k * runs + t) k runs b.workspace.outbox.items → AreMessagesOf parts (λ u. u * runs + k) k runs b.workspace.inbox.items
    → HasOthersOf (run each k s.patches) b → IsLotOf s each k runs parts b
still_lot of b plan outbox inbox others = record {
  serves = still_serves of.serves b.workspace plan outbox inbox;
  words = still_words b.workspace plan of.words;
  layouts = still_layouts b.workspace plan of.layouts;
  others = others;
}

-- and a lot that is all of its level stays so
pub still_whole : {s : Around} {each : ℕ} {parts : FrameParts} {a : Lot} → IsWholeLot s each parts a → (b : Lot) → KeepsPlan a.workspace b.workspace → b.workspace.outbox ≡ a.workspace.outbox → b.workspace.inbox ≡ a.workspace.inbox → IsWholeLot s each parts b
still_whole {s = s} of b plan out in_ = record {
  serves = serves_same of.serves b.workspace plan out in_;
  flows = subst (AreFlowsOf s) (sym plan.flows) of.flows;
  words = subst (λ (v : LevelFlows). All (λ (y : FlowTo). y.word < 2 + 2 * length s.cells) v.flows.items) (sym plan.flows) of.words;
  totals = plan.totals ∙ of.totals;
}
