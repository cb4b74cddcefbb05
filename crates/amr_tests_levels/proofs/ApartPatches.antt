-- What tests find out of patches before they fill their frames.
use Rattle.std.proofs.Common.{◌≡◌, ◌∙◌, ℕ, suc, ◌<◌, Bool, true, false, ◌&&◌, ◌||◌, ℤ, ◌≤ℤ◌, List, [], ◌∷◌, length, map, get_or, IsTrue, IsNone, is_some, refl, sym, ap, arith}
use Rattle.std.specs.Prelude.{◌↔◌}
use Rattle.std.specs.declared.option.Option.{Option}
use Rattle.std.specs.declared.option.Option.TheVariants.{None, Some}
use Rattle.std.proofs.lemmas.Int.{ints}
use Rattle.std.proofs.lemmas.Bool.{and_from, and_parts}
use Rattle.std.proofs.lemmas.List.{length-map}
use Rattle.std.proofs.lemmas.List.Folds.{list_any_at}
use Rattle.std.proofs.Math.ListN.{get_or-map}
use Rattle.std.specs.List.{All}
use Rattle.amr_box.specs.declared.Cell.{Cell}
use Rattle.amr_box.specs.Cells.{AreDisjoint, Extent, holds}
use Rattle.amr_def.specs.Domain.{Domain, in_domain, is_inside}
use Rattle.amr_patch.specs.declared.patches.Patch.{Patch}
use Rattle.amr_patch.specs.Patches.{box, in_patches}
use Rattle.amr_faces.specs.Faces.{IsInDomain}
use Rattle.amr_ghost.specs.Frames.{AreInDomain}
use Rattle.amr_ghost.proofs.Homes.{bounds}

-- boxes that have no box in common have no cell in common
pub apart_boxes : (o : Option Extent) (a b : Extent) → (IsNone o ↔ AreDisjoint a b) → is_some o ≡ false → (c : Cell) → IsTrue (holds a c) → IsTrue (holds b c) → ⊥
apart_boxes (Some e) a b h none c s t = cc
apart_boxes None a b h none c s t = neither (holds a c) (holds b c) (h.0 refl c) s t
  where
    neither : (s t : Bool) → (s && t) ≡ false → s ≡ true → t ≡ true → ⊥
    neither true true e f g = cc
    neither true false e f g = cc
    neither false t e f g = cc

inside_between : (n : ℕ) (low high z : ℤ) → IsTrue (is_inside n low) → IsTrue (is_inside n high) → low ≤ℤ z → z ≤ℤ high → IsTrue (is_inside n z)
inside_between n low high z h k from to = grind (arith, ints)

-- the cells of a box lie in a domain where its corners do
pub box_in_domain : (d : Domain) (b : Extent) → IsTrue (in_domain d b.lo) → IsTrue (in_domain d b.hi) → (c : Cell) → IsTrue (holds b c) → IsTrue (in_domain d c)
unfolding in_domain
box_in_domain d b low high c h =
    let k = bounds b c h in
    and_from (is_inside d.columns c.x) (is_inside d.rows c.y)
    (inside_between d.columns b.lo.x b.hi.x c.x ((and_parts (is_inside d.columns b.lo.x) (is_inside d.rows b.lo.y) low).0) ((and_parts (is_inside d.columns b.hi.x) (is_inside d.rows b.hi.y) high).0) k.west k.east)
    (inside_between d.rows b.lo.y b.hi.y c.y ((and_parts (is_inside d.columns b.lo.x) (is_inside d.rows b.lo.y) low).1) ((and_parts (is_inside d.columns b.hi.x) (is_inside d.rows b.hi.y) high).1) k.south k.north)

-- and those of the patches where each patch's do
pub patches_in_domain : (d : Domain) (ps : List Patch) → ((i : ℕ) (q : Patch) → i < length ps → (c : Cell) → IsTrue (holds (box (get_or ps i q)) c) → IsTrue (in_domain d c)) → AreInDomain d ps
patches_in_domain d [] each c h = absurd (cc)
patches_in_domain d (p ∷ ps) each c h = by_first (holds (box p) c) refl (patches_in_domain d ps (λ i q t. each (suc i) q (omega arith)) c) h
  where
    by_first : (t : Bool) → holds (box p) c ≡ t → (IsTrue (in_patches ps c) → IsTrue (in_domain d c)) → IsTrue (t || in_patches ps c) → IsTrue (in_domain d c)
    by_first true e rest k = each 0 p (omega arith) c e
    by_first false e rest k = rest k

-- and so of each patch, where patches have the same boxes
pub each_inside : (d : Domain) (ps qs : List Patch) → AreInDomain d ps → map box qs ≡ map box ps → All (λ (q : Patch). IsInDomain d (box q)) qs
each_inside d ps qs inside boxes = λ k r lt.
    let there : k < length ps = let n = sym (length-map qs box) ∙ ap (λ (bs : List Extent). length bs) boxes ∙ length-map ps box in omega (arith, lt, n) in
    let same : box (get_or ps k r) ≡ box (get_or qs k r) = sym (get_or-map box ps k r) ∙ ap (λ (bs : List Extent). get_or bs k (box r)) (sym boxes) ∙ get_or-map box qs k r in
    record { at = λ c h. inside c (list_any_at (λ (x : Patch). holds (box x) c) ps k r there (ap (λ (b : Extent). holds b c) same ∙ h)) }
