-- A swept piece may be finished by what its plan has at the places that it reads: while its board is shared, and when that is closed.
use Rattle.std.proofs.Common.{◌≡◌, ◌∙◌, inl, inr, ℕ, zero, suc, ◌<◌, true, length, get_or, map, refl, sym, ap, subst, arith}
use Rattle.std.specs.Prelude.{slice_index}
use Rattle.std.specs.declared.option.Option.TheVariants.{Some}
use Rattle.std.specs.declared.snapshot.Snapshot.{Snapshot}
use Rattle.std.specs.Global.{Vec}
use Rattle.amr_box.specs.Cells.{Extent, holds, width}
use Rattle.amr_def.specs.declared.problem.Problem.{Problem}
use Rattle.amr_def.specs.Domain.{domain}
use Rattle.amr_def.specs.State.{Masses}
use Rattle.amr_patch.specs.declared.patches.Patch.{Patch}
use Rattle.amr_patch.specs.Patches.{box}
use Rattle.amr_faces.specs.Faces.{IsInDomain}
use Rattle.amr_flux.specs.Rooms.{widest}
use Rattle.amr_phase.specs.Plans.{PlanOf, planned_face}
use Rattle.amr_board.specs.Ended.{EndedOf, face_of}
use Rattle.amr_layout.specs.declared.PatchLayout.{PatchLayout}
use Rattle.amr_register.proofs.EdgeLists.{first_of}
use Rattle.amr_lots.specs.declared.lot.StepBasis.{StepBasis}
use Rattle.amr_lots.specs.declared.lot.Duty.{Duty}
use Rattle.amr_lots.specs.declared.lot.Duty.TheVariants.{Correct, Keep, Send, Step}
use Rattle.amr_lots.specs.declared.lot.LotStage.{LotStage}
use Rattle.amr_lots.specs.declared.lot.LotStage.TheVariants.{Finished, Raw, Swept}
use Rattle.amr_lots.specs.declared.lot.Work.{Work}
use Rattle.amr_lots.specs.Ready.{MayBegin, MayBeginIn, MayComplete, MayFinish, MayStepBeside, MayUpdate, ReadsBorder}
use Rattle.amr_lots.specs.Duties.{MaySend}
use Rattle.amr_lots.specs.Works.{IsSwept, IsUnderWay, IsWaiting, StandsFor, StandsForIn, coarser_of, flux, layouts_of, masses_of, patches_of, places_read}
use Rattle.amr_lots.proofs.Finishing.{swept_steps}
use Rattle.amr_lots.proofs.Sending.{sends_on_boxes}
use Rattle.amr_lots.proofs.Showing.{may_step}
use Rattle.amr_lots.proofs.SteppedBoxes.{boxes_same}

module _ (plan : PlanOf) (w v : Work) (may : MayStepBeside plan w) (way : IsUnderWay w v) (swept : v.stage ≡ Swept) where
  abbrev p : Problem
  p = w.basis.value.problem.value

  abbrev l : ℕ
  l = w.level

  abbrev m : Masses
  m = masses_of w.basis.value

  abbrev old : Masses
  old = coarser_of w.basis.value

  -- a patch that waits, with the places of its border
  module _ (k : ℕ) (q : Patch) (t : PatchLayout) (lt : k < length (patches_of w)) where
    part : IsSwept w.basis.value.problem.value w.level (masses_of w.basis.value) (coarser_of w.basis.value) (get_or (layouts_of w) k t) (get_or (patches_of w) k q) (get_or (patches_of v) k q)
    part = way.swept swept k q t lt

    pub box_here : box (get_or (patches_of v) k q) ≡ box (get_or (patches_of w) k q)
    box_here = by_reads (length (get_or (layouts_of w) k t).border.items) refl
      where
        by_reads : (n : ℕ) → length (get_or (layouts_of w) k t).border.items ≡ n → box (get_or (patches_of v) k q) ≡ box (get_or (patches_of w) k q)
        by_reads zero e = (part.inner e).of_box
        by_reads (suc n) e = (part.waits (omega (arith, e))).of_box

    pub may_update : (faces : ℕ → ℕ) → ((place : ℕ) → place < plan.places → faces place ≡ planned_face plan place) → 0 < length (get_or (layouts_of w) k t).border.items
        → MayUpdate w.basis.value.problem.value w.level (widest v.lot.value.workspace.room) (masses_of w.basis.value) (coarser_of w.basis.value) faces plan.places (get_or (layouts_of w) k t) (get_or (patches_of v) k q)
    may_update faces agree some =
        let waits : IsWaiting p l m old (get_or (patches_of w) k q) (get_or (patches_of v) k q) = part.waits some in
        let border : ReadsBorder (planned_face plan) plan.places (flux w) (box (get_or (patches_of w) k q)) (get_or (layouts_of w) k t) = may.borders k q t lt in
        let wide = may.serves.room k q lt in
        record {
          step = may_step p l m old (get_or (patches_of v) k q) waits.shows
              (λ c h. let held : holds (box (get_or (patches_of w) k q)) c ≡ true = ap (λ (b : Extent). holds b c) (sym waits.of_box) ∙ h in may.of_level k q lt c held ∙ ap Some (sym (waits.masses c held)))
              may.fill.level (subst (λ (b : Extent). IsInDomain (domain p l) b) (sym waits.of_box) (may.inside k q lt)) may.numbers;
          room = omega (arith, wide, way.layout.room, ap width waits.of_box);
          shows = waits.shows;
          border = subst (λ (b : Extent). ReadsBorder faces plan.places (flux w) b (get_or (layouts_of w) k t)) (sym waits.of_box)
              (record { count = border.count; within = border.within; sizes = λ j f below. agree (slice_index (get_or (layouts_of w) k t).border.items j) (border.within j 0 below) ∙ border.sizes j f below });
        }

  same_boxes : length (layouts_of w) ≡ length (patches_of w) → map box (patches_of v) ≡ map box (patches_of w)
  same_boxes layouts = boxes_same (patches_of w) (patches_of v) way.count (λ k d lt. box_here k d (first_of (layouts_of w) k (omega (arith, lt, layouts))) lt)

  still_sends : MaySend v.lot.value
  still_sends = sends_on_boxes w.lot.value v.lot.value (same_boxes may.serves.layouts) (way.unsent swept) may.sends

  -- by faces that are the planned ones
  pub may_go_on : (q : Problem) → w.basis.value.problem.value ≡ q → v.level ≡ w.level → v.basis ≡ w.basis → (faces : ℕ → ℕ) → ((place : ℕ) → place < plan.places → faces place ≡ planned_face plan place) → MayFinish q faces plan.places v
  may_go_on q problem level basis faces agree = record {
    swept = swept;
    problem = ap (λ (b : Snapshot StepBasis). b.value.problem.value) basis ∙ problem;
    count = ap (λ (x : Vec PatchLayout). length x.items) way.layout.layouts ∙ may.serves.layouts ∙ sym way.count;
    sizes = omega (arith, may.serves.sizes, way.layout.sizes, ap (λ (x : Vec PatchLayout). length (places_read x.items)) way.layout.layouts);
    waits = λ k x t lt some.
        let below : k < length (patches_of w) = omega (arith, lt, way.count) in
        let same : length (get_or (layouts_of v) k t).border.items ≡ length (get_or (layouts_of w) k t).border.items = ap (λ (y : Vec PatchLayout). length (get_or y.items k t).border.items) way.layout.layouts in
        subst (λ (y : Vec PatchLayout). MayUpdate q v.level (widest v.lot.value.workspace.room) (masses_of v.basis.value) (coarser_of v.basis.value) faces plan.places (get_or y.items k t) (get_or (patches_of v) k x)) (sym way.layout.layouts)
        (subst (λ (b : Snapshot StepBasis). MayUpdate q v.level (widest v.lot.value.workspace.room) (masses_of b.value) (coarser_of b.value) faces plan.places (get_or (layouts_of w) k t) (get_or (patches_of v) k x)) (sym basis)
        (subst (λ n. MayUpdate q n (widest v.lot.value.workspace.room) m old faces plan.places (get_or (layouts_of w) k t) (get_or (patches_of v) k x)) (sym level)
        (subst (λ (u : Problem). MayUpdate u l (widest v.lot.value.workspace.room) m old faces plan.places (get_or (layouts_of w) k t) (get_or (patches_of v) k x)) problem
        (may_update k x t below faces agree (omega (arith, some, same))))));
    sends = still_sends;
  }

-- a piece that stands for one that might be worked on, and is swept, makes a step
steps_beside : (d : Duty) (plan : PlanOf) (w v : Work) → MayBeginIn d plan w → StandsForIn d w v → v.stage ≡ Swept → MayStepBeside plan w
steps_beside Step plan w v may h e = may
steps_beside Send plan w v may h e = absurd (let wrong : Swept ≡ Finished = sym e ∙ h.0 in cc)
steps_beside Correct plan w v may h e = absurd (let wrong : Swept ≡ Finished = sym e ∙ h.0 in cc)
steps_beside Keep plan w v may h e = absurd (let wrong : Swept ≡ Finished = sym e ∙ h.0 in cc)

module _ (p : Problem) (plan : PlanOf) (w v : Work) (begin : MayBegin p plan w) (stands : StandsFor w v) where
  pub may_finish : (faces : ℕ → ℕ) → ((place : ℕ) → place < plan.places → faces place ≡ planned_face plan place) → v.stage ≡ Swept → MayFinish p faces plan.places v
  may_finish faces agree swept = may_go_on plan w v (steps_beside w.duty plan w v begin.duty stands.does swept) (swept_steps w.duty w v stands.does swept) swept p begin.problem stands.keeps.level stands.keeps.basis faces agree

  -- a piece that is no more raw is finished, or may be
  pub may_complete : (ended : EndedOf Work) → ended.places ≡ plan.places → ((place : ℕ) → place < plan.places → face_of ended place ≡ planned_face plan place) → MayComplete p ended v
  may_complete ended places agree = by_stage v.stage refl
    where
      not_raw : (d : Duty) → StandsForIn d w v → v.stage ≡ Raw → ⊥
      not_raw Step h e = h.begun e
      not_raw Send h e = let wrong : Raw ≡ Finished = sym e ∙ h.0 in cc
      not_raw Correct h e = let wrong : Raw ≡ Finished = sym e ∙ h.0 in cc
      not_raw Keep h e = let wrong : Raw ≡ Finished = sym e ∙ h.0 in cc

      by_stage : (s : LotStage) → v.stage ≡ s → MayComplete p ended v
      by_stage Raw e = absurd (not_raw w.duty stands.does e)
      by_stage Swept e = inr (subst (λ n. MayFinish p (face_of ended) n v) (sym places) (may_finish (face_of ended) agree e))
      by_stage Finished e = inl e
