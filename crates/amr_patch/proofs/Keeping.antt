-- Lists of patches whose boxes, frames and fluxes stay.
use Rattle.std.proofs.Common.{IsTrue, List, [], ap, arith, map, refl, subst, sym, ◌∙◌, ◌∷◌, ◌≡◌}
use Rattle.amr_box.specs.Cells.{Extent, holds}
use Rattle.amr_patch.specs.declared.patches.Patch.{Patch}
use Rattle.amr_patch.specs.Patches.{ArePatchesApart, KeepsFrameAndFluxes, box}
use Rattle.amr_patch.specs.Places.{in_frame}
use Rattle.amr_patch.specs.Pairwise.{Pairwise}
use Rattle.amr_patch.specs.declared.lookup.Order.{Order}
use Rattle.amr_patch.specs.Orders.{IsOrderOf}
use Rattle.amr_patch.proofs.Standing.{order_of_boxes}
use Rattle.amr_patch.proofs.LevelLaws.{pairwise_at, pairwise_length}

pub kept_twice : (p q r : Patch) → KeepsFrameAndFluxes p q → KeepsFrameAndFluxes q r → KeepsFrameAndFluxes p r
kept_twice p q r h k = record {
  of_box = k.of_box ∙ h.of_box;
  ghosts = λ c t. k.ghosts c (subst (λ (b : Extent). IsTrue (in_frame b c)) (sym h.of_box) t) ∙ h.ghosts c t;
  marks = λ c. k.marks c ∙ h.marks c;
  fluxes = λ f. k.fluxes f ∙ h.fluxes f;
}

pub kept_boxes : (ps qs : List Patch) → Pairwise KeepsFrameAndFluxes ps qs → map box qs ≡ map box ps
kept_boxes [] [] h = refl
kept_boxes [] (q ∷ qs) h = absurd h
kept_boxes (p ∷ ps) [] h = absurd h
kept_boxes (p ∷ ps) (q ∷ qs) h = λ i. h.0.of_box i ∷ kept_boxes ps qs h.1 i

pub kept_order : (o : Order) (ps qs : List Patch) → Pairwise KeepsFrameAndFluxes ps qs → IsOrderOf o ps → IsOrderOf o qs
kept_order o ps qs h = order_of_boxes o ps qs (kept_boxes ps qs h)

pub kept_apart : (ps qs : List Patch) → Pairwise KeepsFrameAndFluxes ps qs → ArePatchesApart ps → ArePatchesApart qs
kept_apart ps qs h apart i j d lt l c a b =
    let n = pairwise_length KeepsFrameAndFluxes ps qs h in
    let p = pairwise_at KeepsFrameAndFluxes ps qs i d d h (omega arith) in
    let q = pairwise_at KeepsFrameAndFluxes ps qs j d d h l in
    apart i j d lt (omega (arith, n)) c (ap (λ (t : Extent). holds t c) (sym p.of_box) ∙ a) (ap (λ (t : Extent). holds t c) (sym q.of_box) ∙ b)
