-- A lot whose task was drawn: once its frames are filled its patches may make their step, and what they post is what its piece says.
use Rattle.std.proofs.Common.{◌≡◌, ◌∙◌, ℕ, ◌^◌, ◌<◌, true, List, length, get_or, sym, ap, subst, arith}
use Rattle.std.specs.declared.option.Option.TheVariants.{Some}
use Rattle.std.specs.List.{All}
use Rattle.std.proofs.lemmas.List.Elements.{AllZip-get_or, length_all_zip}
use Rattle.amr_box.specs.declared.Cell.{Cell}
use Rattle.amr_box.specs.Cells.{Extent, holds, width}
use Rattle.amr_def.specs.declared.problem.Problem.{Problem}
use Rattle.amr_def.specs.Domain.{domain}
use Rattle.amr_def.specs.State.{Masses}
use Rattle.amr_patch.specs.declared.patches.Patch.{Patch}
use Rattle.amr_patch.specs.Patches.{box, mass_in}
use Rattle.amr_faces.specs.Faces.{IsInDomain, ShowsValues}
use Rattle.amr_flux.specs.Rooms.{widest}
use Rattle.amr_ghost.specs.GhostCells.{KeepsCells}
use Rattle.amr_ghost.specs.declared.outer.OuterGhosts.{OuterGhosts}
use Rattle.amr_phase.specs.Plans.{PlanOf}
use Rattle.amr_layout.specs.declared.FlowTo.{FlowTo}
use Rattle.amr_layout.specs.LevelFlowLists.{flows_at}
use Rattle.amr_lots.specs.declared.lot.Work.{Work}
use Rattle.amr_lots.specs.declared.lot.Workspace.{Workspace}
use Rattle.amr_lots.specs.FrameValues.{AreFilled, HasFoundOuter}
use Rattle.amr_layout.specs.LevelFlowLists.{flow_lists}
use Rattle.amr_lots.specs.Lots.{AreReady, MayStep}
use Rattle.amr_lots.specs.Ready.{CanStep, MayStepBeside}
use Rattle.amr_lots.specs.Works.{coarser_of, flows_in, masses_of, patches_of}
use Rattle.amr_lots.proofs.InTurn.{list_at, list_count}
use Rattle.amr_lots.proofs.Showing.{may_step, totals_are}

module _ (plan : PlanOf) (w : Work) (may : MayStepBeside plan w) where
  abbrev p : Problem
  p = w.basis.value.problem.value

  abbrev l : ℕ
  l = w.level

  abbrev m : Masses
  m = masses_of w.basis.value

  abbrev old : Masses
  old = coarser_of w.basis.value

  abbrev s : Workspace
  s = w.lot.value.workspace

  -- the frames filled
  module _ (x : OuterGhosts) (fs : List Patch) (found : HasFoundOuter w.basis.value.problem.value w.level w.lot.value.workspace.outer x) (filled : AreFilled w.lot.value.workspace x (patches_of w) fs) where
    pub fs_count : length fs ≡ length (patches_of w)
    fs_count = sym (length_all_zip KeepsCells (patches_of w) fs filled.kept)

    pub shows : All (ShowsValues w.basis.value.problem.value w.level (masses_of w.basis.value) (coarser_of w.basis.value)) fs
    shows = (may.shows x fs found filled).0

    module _ (k : ℕ) (q : Patch) (lt : k < length (patches_of w)) where
      pub keeps : KeepsCells (get_or (patches_of w) k q) (get_or fs k q)
      keeps = AllZip-get_or KeepsCells (patches_of w) fs k q q filled.kept lt

      pub lies : IsInDomain (domain w.basis.value.problem.value w.level) (box (get_or fs k q))
      lies = subst (λ (b : Extent). IsInDomain (domain p l) b) (sym keeps.of_box) (may.inside k q lt)

      mass_here : (c : Cell) → holds (box (get_or fs k q)) c ≡ true → m c ≡ Some (mass_in (get_or fs k q) c)
      mass_here c h =
          let held : holds (box (get_or (patches_of w) k q)) c ≡ true = ap (λ (b : Extent). holds b c) (sym keeps.of_box) ∙ h in
          may.of_level k q lt c held ∙ ap Some (sym (keeps.masses c held))

      pub may_here : MayStep w.basis.value.problem.value w.level (get_or fs k q)
      may_here = may_step p l m old (get_or fs k q) (shows k q (omega (arith, lt, fs_count))) mass_here may.fill.level lies may.numbers

    pub ready : AreReady w.basis.value.problem.value w.level (widest w.lot.value.workspace.room) (length w.lot.value.workspace.totals.items) fs (flow_lists w.lot.value.workspace.flows (length (patches_of w)))
    ready = record {
      count = list_count s.flows (length (patches_of w)) ∙ sym fs_count;
      step = λ k q lt. may_here k q (omega (arith, lt, fs_count));
      room = λ k q lt. let below : k < length (patches_of w) = omega (arith, lt, fs_count) in let r = may.serves.room k q below in let e = ap width (keeps k q below).of_box in omega (arith, r, e);
      flows = (may.shows x fs found filled).1;
      words = λ k xs lt.
          let below : k < length (patches_of w) = omega (arith, lt, list_count s.flows (length (patches_of w))) in
          subst (All (λ (y : FlowTo). y.word < length s.totals.items)) (sym (list_at s.flows (length (patches_of w)) k xs below))
          (subst (λ n. All (λ (y : FlowTo). y.word < n) (flows_at s.flows k)) may.serves.words (may.serves.to_words k below));
      fits = λ word. subst (λ n. n < 2 ^ 63) (sym (totals_are p l m old word fs (flows_in w) shows (may.shows x fs found filled).1)) (may.totals word);
    }

  pub can_step : CanStep w.basis.value.problem.value w.level (patches_of w) w.lot.value.edges.items w.lot.value.workspace
  can_step = record { inside = may.inside; fill = may.fill; lists = may.edges; flows = may.serves.flows; ready = λ x fs found filled. ready x fs found filled }
