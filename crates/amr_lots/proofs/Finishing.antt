-- A swept lot that is finished: it stands for what it stood for.
use Rattle.std.proofs.Common.{◌≡◌, ◌∙◌, ℕ, zero, suc, ◌<◌, length, get_or, refl, sym, ap, subst, arith}
use Rattle.std.specs.declared.snapshot.Snapshot.{Snapshot}
use Rattle.std.specs.Global.{Vec}
use Rattle.std.specs.List.{All, AllZip}
use Rattle.std.proofs.lemmas.List.{get_or_default}
use Rattle.amr_def.specs.declared.problem.Problem.{Problem}
use Rattle.amr_def.specs.State.{Masses}
use Rattle.amr_def.specs.Flux.{net}
use Rattle.amr_patch.specs.declared.patches.Patch.{Patch}
use Rattle.amr_flux.specs.Rooms.{widest}
use Rattle.amr_ghost.specs.Messages.{HasPacked}
use Rattle.amr_ghost.specs.Outer.{HasOuterPlaces}
use Rattle.amr_ghost.specs.declared.messages.Message.{Message}
use Rattle.amr_layout.specs.declared.PatchLayout.{PatchLayout}
use Rattle.amr_register.specs.declared.edges.EdgeCell.{EdgeCell}
use Rattle.amr_register.specs.CoarseFlows.{edge_flows}
use Rattle.amr_register.specs.EdgeCells.{IsSmallNet, SameEdges, lists_of}
use Rattle.amr_register.proofs.EdgeLists.{first_of, zip_from}
use Rattle.amr_lots.specs.declared.lot.StepBasis.{StepBasis}
use Rattle.amr_lots.specs.declared.lot.Duty.{Duty}
use Rattle.amr_lots.specs.declared.lot.Duty.TheVariants.{Correct, Keep, Send, Step}
use Rattle.amr_lots.specs.declared.lot.Lot.{Lot}
use Rattle.amr_lots.specs.declared.lot.LotStage.TheVariants.{Finished, Raw, Swept}
use Rattle.amr_lots.specs.declared.lot.Work.{Work}
use Rattle.amr_lots.specs.FrameValues.{HasValuesBy}
use Rattle.amr_lots.specs.Lots.{IsStepped}
use Rattle.amr_lots.specs.Ready.{MayFinish}
use Rattle.amr_lots.specs.LotSteps.{HasFinishedLot}
use Rattle.amr_lots.specs.Works.{HasFoundNets, IsSwept, IsUnderWay, KeepsLayout, KeepsTask, StandsFor, StandsForIn, coarser_of, flux, layouts_of, masses_of, patches_of}
use Rattle.amr_lots.proofs.Showing.{steps}

-- ---- what was swept is finished

module _ (w v : Work) (way : IsUnderWay w v) (swept : v.stage ≡ Swept) where
  abbrev p : Problem
  p = w.basis.value.problem.value

  abbrev l : ℕ
  l = w.level

  abbrev m : Masses
  m = masses_of w.basis.value

  abbrev old : Masses
  old = coarser_of w.basis.value

  module _ (z : Work) (finished : z.stage ≡ Finished) (h : HasFinishedLot w.basis.value.problem.value w.level v.lot.value z.lot.value) where
    abbrev a : Lot
    a = v.lot.value

    abbrev b : Lot
    b = h.stepped

    patches_are : z.lot.value.patches ≡ b.patches
    patches_are = ap (λ (x : Lot). x.patches) h.sends.others

    count : length b.patches.items ≡ length (patches_of w)
    count = h.steps.patches.count ∙ way.count

    -- each patch has its new masses
    one : (k : ℕ) (q : Patch) (t : PatchLayout) → k < length (patches_of w) → IsStepped (flux w) (get_or (patches_of w) k q) (get_or b.patches.items k q)
    one k q t lt = by_reads (length (get_or (layouts_of w) k t).border.items) refl
      where
        there : k < length (patches_of v)
        there = omega (arith, lt, way.count)

        part : IsSwept p l m old (get_or (layouts_of w) k t) (get_or (patches_of w) k q) (get_or (patches_of v) k q)
        part = way.swept swept k q t lt

        same : length (get_or (layouts_of v) k t).border.items ≡ length (get_or (layouts_of w) k t).border.items
        same = ap (λ (x : Vec PatchLayout). length (get_or x.items k t).border.items) way.layout.layouts

        by_reads : (n : ℕ) → length (get_or (layouts_of w) k t).border.items ≡ n → IsStepped (flux w) (get_or (patches_of w) k q) (get_or b.patches.items k q)
        by_reads zero e = subst (IsStepped (flux w) (get_or (patches_of w) k q)) (sym (h.steps.patches.stays k q t there (same ∙ e))) (part.inner e)
        by_reads (suc n) e =
            let waits = part.waits (omega (arith, e)) in
            steps p l m old (get_or (patches_of v) k q) waits.shows (get_or (patches_of w) k q) (get_or b.patches.items k q) waits.of_box waits.masses (h.steps.patches.steps k q t there (omega (arith, same, e)))

    layout : KeepsLayout w.lot.value.workspace z.lot.value.workspace
    layout = record {
      layouts = ap (λ (x : Lot). x.workspace.layouts) h.sends.others ∙ ap (λ (x : Lot). x.workspace.layouts) h.steps.others ∙ way.layout.layouts;
      flows = ap (λ (x : Lot). x.workspace.flows) h.sends.others ∙ ap (λ (x : Lot). x.workspace.flows) h.steps.others ∙ way.layout.flows;
      sides = ap (λ (x : Lot). x.workspace.sides) h.sends.others ∙ ap (λ (x : Lot). x.workspace.sides) h.steps.others ∙ way.layout.sides;
      words = ap (λ (x : Lot). x.workspace.words) h.sends.others ∙ ap (λ (x : Lot). x.workspace.words) h.steps.others ∙ way.layout.words;
      totals = ap (λ (x : Lot). length x.workspace.totals.items) h.sends.others ∙ ap (λ (x : Lot). length x.workspace.totals.items) h.steps.others ∙ way.layout.totals;
      copies = ap (λ (x : Lot). x.workspace.copies) h.sends.others ∙ ap (λ (x : Lot). x.workspace.copies) h.steps.others ∙ way.layout.copies;
      spans = ap (λ (x : Lot). x.workspace.outer.spans) h.sends.others ∙ ap (λ (x : Lot). x.workspace.outer.spans) h.steps.others ∙ way.layout.spans;
      coarser = ap (λ (x : Lot). x.workspace.outer.coarser) h.sends.others ∙ ap (λ (x : Lot). x.workspace.outer.coarser) h.steps.others ∙ way.layout.coarser;
      inbox = ap (λ (x : Lot). x.workspace.inbox) h.sends.others ∙ ap (λ (x : Lot). x.workspace.inbox) h.steps.others ∙ way.layout.inbox;
      room = ap (λ (x : Lot). widest x.workspace.room) h.sends.others ∙ h.steps.room ∙ way.layout.room;
      sizes = ap (λ (x : Lot). length x.workspace.sizes.items) h.sends.others ∙ ap (λ (x : Lot). length x.workspace.sizes.items) h.steps.others ∙ way.layout.sizes;
    }

    edges_are : z.lot.value.edges ≡ v.lot.value.edges
    edges_are = ap (λ (x : Lot). x.edges) h.sends.others ∙ ap (λ (x : Lot). x.edges) h.steps.others

    nets : HasFoundNets w z
    nets = record {
      same = subst (λ (es : Vec (Vec EdgeCell)). SameEdges (lists_of w.lot.value.edges.items) (lists_of es.items)) (sym edges_are) way.edges.same;
      small = subst (λ (es : Vec (Vec EdgeCell)). All (All IsSmallNet) (lists_of es.items)) (sym edges_are) way.edges.small;
      nets = λ fine edges. subst (λ (es : Vec (Vec EdgeCell)). All (All (λ (c : EdgeCell). c.net ≡ net (edge_flows p l m old fine) c.cell)) (lists_of es.items)) (sym edges_are) (way.edges.nets fine edges);
    }

    outer_is : z.lot.value.workspace.outer ≡ v.lot.value.workspace.outer
    outer_is = ap (λ (x : Lot). x.workspace.outer) h.sends.others ∙ ap (λ (x : Lot). x.workspace.outer) h.steps.others

    pub finished_way : length (layouts_of w) ≡ length (patches_of w) → IsUnderWay w z
    finished_way layouts = record {
      begun = λ e. let wrong : Finished ≡ Raw = sym finished ∙ e in cc;
      layout = layout;
      before = ap (λ (x : Lot). x.before) h.sends.others ∙ ap (λ (x : Lot). x.before) h.steps.others ∙ way.before;
      correction = ap (λ (x : Lot). x.correction) h.sends.others ∙ ap (λ (x : Lot). x.correction) h.steps.others ∙ way.correction;
      places = subst HasOuterPlaces (sym outer_is) way.places;
      values = subst (HasValuesBy p l old) (sym outer_is) way.values;
      count = ap (λ (x : Vec Patch). length x.items) patches_are ∙ count;
      swept = λ e. absurd (let wrong : Finished ≡ Swept = sym finished ∙ e in cc);
      finished = λ e. subst (λ (x : Vec Patch). AllZip (IsStepped (flux w)) (patches_of w) x.items) (sym patches_are)
          (zip_from (IsStepped (flux w)) (patches_of w) b.patches.items count (λ k q r lt.
          subst (IsStepped (flux w) (get_or (patches_of w) k q)) (get_or_default b.patches.items k q r (omega (arith, lt, count))) (one k q (first_of (layouts_of w) k (omega (arith, lt, layouts))) lt)));
      edges = nets;
      unsent = λ e. absurd (let wrong : Finished ≡ Swept = sym finished ∙ e in cc);
      sent = λ e.
          let before : b.workspace.outbox ≡ w.lot.value.workspace.outbox = ap (λ (x : Lot). x.workspace.outbox) h.steps.others ∙ way.unsent swept in
          subst (λ (x : Vec Patch). AllZip (HasPacked x.items) w.lot.value.workspace.outbox.items z.lot.value.workspace.outbox.items) (sym patches_are)
          (subst (λ (x : Vec Message). AllZip (HasPacked b.patches.items) x.items z.lot.value.workspace.outbox.items) before h.sends.packed);
    }

-- ---- the piece

-- a piece that is swept makes a step
pub swept_steps : (d : Duty) (w v : Work) → StandsForIn d w v → v.stage ≡ Swept → IsUnderWay w v
swept_steps Step w v h e = h
swept_steps Send w v h e = absurd (let wrong : Swept ≡ Finished = sym e ∙ h.0 in cc)
swept_steps Correct w v h e = absurd (let wrong : Swept ≡ Finished = sym e ∙ h.0 in cc)
swept_steps Keep w v h e = absurd (let wrong : Swept ≡ Finished = sym e ∙ h.0 in cc)

-- and stands so in its duty
pub steps_stand : (d : Duty) (w v z : Work) → StandsForIn d w v → v.stage ≡ Swept → IsUnderWay w z → StandsForIn d w z
steps_stand Step w v z h e way = way
steps_stand Send w v z h e way = absurd (let wrong : Swept ≡ Finished = sym e ∙ h.0 in cc)
steps_stand Correct w v z h e way = absurd (let wrong : Swept ≡ Finished = sym e ∙ h.0 in cc)
steps_stand Keep w v z h e way = absurd (let wrong : Swept ≡ Finished = sym e ∙ h.0 in cc)

module _ (q : Problem) (faces : ℕ → ℕ) (places : ℕ) (v z : Work) (may : MayFinish q faces places v) (keeps : KeepsTask v z) where
  -- a swept piece that was finished stands for what it stood for
  pub finished_stands : z.stage ≡ Finished → HasFinishedLot q v.level v.lot.value z.lot.value → (w : Work) → StandsFor w v → StandsFor w z
  finished_stands finished h w stands =
      let way = swept_steps w.duty w v stands.does may.swept in
      let problem : q ≡ w.basis.value.problem.value = sym may.problem ∙ ap (λ (b : Snapshot StepBasis). b.value.problem.value) stands.keeps.basis in
      let lots : HasFinishedLot w.basis.value.problem.value w.level v.lot.value z.lot.value =
      subst (λ n. HasFinishedLot w.basis.value.problem.value n v.lot.value z.lot.value) stands.keeps.level (subst (λ (u : Problem). HasFinishedLot u v.level v.lot.value z.lot.value) problem h) in
      record {
        keeps = record { task = keeps.task ∙ stands.keeps.task; level = keeps.level ∙ stands.keeps.level; duty = keeps.duty ∙ stands.keeps.duty; basis = keeps.basis ∙ stands.keeps.basis };
        does = steps_stand w.duty w v z stands.does may.swept
            (finished_way w v way may.swept z finished lots (sym (ap (λ (x : Vec PatchLayout). length x.items) way.layout.layouts) ∙ may.count ∙ way.count));
      }
