-- Frames that were filled before a step: where a lot has no ghost cells to fill, it leaves them as they are.
use Rattle.amr_ghost.specs.Plans.{IsSpan}
use Rattle.amr_def.specs.Domain.{Domain}
use Rattle.std.proofs.Common.{◌≡◌, ◌∙◌, ◌||◌, ℕ, ◌+◌, ◌*◌, ◌<◌, List, [], ◌∷◌, length, get_or, IsTrue, refl, sym, ap, subst, arith, Bool, true, false}
use Rattle.std.specs.Global.{Vec}
use Rattle.std.specs.List.{All}
use Rattle.std.proofs.lemmas.Bool.{and_parts}
use Rattle.std.proofs.lemmas.List.Elements.{AllZip-get_or, All-same}
use Rattle.amr_box.specs.declared.Cell.{Cell}
use Rattle.amr_box.specs.Cells.{Extent, within}
use Rattle.amr_def.specs.declared.problem.Problem.{Problem}
use Rattle.amr_def.specs.State.{Masses}
use Rattle.amr_def.specs.Value.{value_at}
use Rattle.amr_patch.specs.declared.patches.Patch.{Patch}
use Rattle.amr_patch.specs.Patches.{box, mark_in}
use Rattle.amr_patch.specs.Places.{in_frame}
use Rattle.amr_ghost.specs.Frames.{HasGhostValues, is_beside}
use Rattle.amr_ghost.specs.GhostCells.{KeepsGhosts}
use Rattle.amr_ghost.specs.Messages.{AreMassesFor, HasFilled, IsCopyFor, IsMessageFor, AreMassesOf, CarriesMasses}
use Rattle.amr_ghost.specs.Outer.{AreOuterFor, AreOuterValuesFor}
use Rattle.amr_ghost.specs.Parts.{IsParted}
use Rattle.amr_ghost.specs.declared.messages.Message.{Message}
use Rattle.amr_ghost.specs.declared.outer.OuterGhosts.{OuterGhosts}
use Rattle.amr_ghost.specs.declared.parts.FrameCopy.{FrameCopy}
use Rattle.amr_ghost.specs.declared.parts.FrameParts.{FrameParts}
use Rattle.amr_ghost.specs.declared.plan.FramePlan.{FramePlan}
use Rattle.amr_ghost.specs.declared.sources.GhostSpan.{GhostSpan}
use Rattle.amr_ghost.proofs.Zips.{zip_box}
use Rattle.amr_advance.specs.Lots.{AreMessagesOf, PlansUnlessFilled}
use Rattle.amr_advance.proofs.Boxes.{box_copies}

no_items : {X : Type 0} (xs : List X) → All (λ (x : X). ⊥) xs → xs ≡ []
no_items [] h = refl
no_items (x ∷ xs) h = absurd (h 0 x (omega arith))

-- a plan of frames has spans beside the patches
pub spans_of : (filled : Bool) (d : Domain) (ps : List Patch) (plan : FramePlan) → PlansUnlessFilled filled d ps plan → All (IsSpan d ps) plan.spans.items
spans_of false d ps plan h = h.spans
spans_of true d ps plan h = All-same (IsSpan d ps) plan.spans.items [] h (λ k x lt. absurd (omega (arith, lt)))

module _ (plan : FramePlan) (each runs : ℕ) (parts : FrameParts) (none : plan.spans.items ≡ []) (parted : IsParted plan each runs parts) where
  no_outer : (k : ℕ) (v : Vec GhostSpan) → k < runs → (get_or parts.outer.items k v).items ≡ []
  no_outer k v lt = no_items (get_or parts.outer.items k v).items (λ n x below. let a = (parted.outer k v lt n x below).2 in absurd (let m = a.2 in omega (arith, m, ap length none)))

  no_copies : (u t : ℕ) (v : Vec FrameCopy) → u < runs → t < runs → All (λ (c : FrameCopy). ⊥) (get_or parts.copies.items (u * runs + t) v).items
  no_copies u t v from_there there = λ n c below. let a = (parted.copies u t v from_there there n c below).2 in absurd (let m = a.2 in omega (arith, m, ap length none))

  -- so messages carry whatever masses there are
  pub none_carry : (M : Masses) (k : ℕ) (v : Vec FrameCopy) (out : List Message) → k < runs → AreMessagesOf parts (λ t. k * runs + t) k runs out → All (CarriesMasses M) out
  none_carry M k v out lt of = λ n x below.
      let empty = no_items (get_or out n x).copies.items (box_copies of (λ (c : FrameCopy). ⊥) v (λ t there. no_copies k t v lt there) n x below).0 in
      subst (λ (cs : List FrameCopy). AreMassesOf M cs (get_or out n x).masses.items) (sym empty) tt

  module _ (p : Problem) (l : ℕ) (m old : Masses) (k : ℕ) (lt : k < runs) (rs fs : List Patch) (given : OuterGhosts) (spans : given.spans.items ≡ (get_or parts.outer.items k given.spans).items)
      (v : Vec FrameCopy) (inbox : List Message) (of_inbox : AreMessagesOf parts (λ u. u * runs + k) k runs inbox) (filled : HasFilled given (get_or parts.copies.items (k * runs + k) v).items inbox rs fs) where
    module _ (i : ℕ) (q : Patch) (below : i < length rs) (h : HasGhostValues p l m old (get_or rs i q)) where
      abbrev V : Cell → ℕ
      V = value_at p l m old

      outer : AreOuterFor V (mark_in (get_or rs i q)) given
      outer = subst (λ (ss : List GhostSpan). AreOuterValuesFor V (mark_in (get_or rs i q)) ss given.values.items) (sym (spans ∙ no_outer k given.spans lt)) tt

      copies : All (IsCopyFor V (mark_in (get_or rs i q)) rs) (get_or parts.copies.items (k * runs + k) v).items
      copies = λ n c inside. absurd (no_copies k k v lt lt n c inside)

      messages : All (IsMessageFor V (mark_in (get_or rs i q))) inbox
      messages = λ n x inside.
          let empty = no_items (get_or inbox n x).copies.items (box_copies of_inbox (λ (c : FrameCopy). ⊥) v (λ u there. no_copies u k v there lt) n x inside).0 in
          subst (λ (cs : List FrameCopy). AreMassesFor V (mark_in (get_or rs i q)) cs (get_or inbox n x).masses.items) (sym empty) tt

      keeps : KeepsGhosts V (mark_in (get_or rs i q)) (get_or rs i q) (get_or fs i q)
      keeps = AllZip-get_or (KeepsGhosts V (mark_in (get_or rs i q))) rs fs i q q (filled.ghosts V (mark_in (get_or rs i q)) outer copies messages) below

      -- a frame that is filled stays so
      pub still_filled : HasGhostValues p l m old (get_or fs i q)
      still_filled = λ c beside.
          let here : IsTrue (is_beside (box (get_or rs i q)) c) = subst (λ (b : Extent). IsTrue (is_beside b c)) (zip_box rs fs i q q filled.kept below) beside in
          (keeps.at c (and_parts (in_frame (box (get_or rs i q)) c) (within (box (get_or rs i q)).lo.x (box (get_or rs i q)).hi.x c.x || within (box (get_or rs i q)).lo.y (box (get_or rs i q)).hi.y c.y) here).0 (record { valued = h c here; marked = refl })).valued
