-- Lists of patches, patch by patch: one patch that changes, what is kept over two changes, and what the patches have together.
use Rattle.std.proofs.Common.{◌≡◌, ℕ, zero, suc, ◌<◌, Bool, true, false, cond, List, [], ◌∷◌, length, set, get_or, map, IsTrue, refl, sym, ap, subst, ◌∙◌}
use Rattle.std.specs.declared.option.Option.{Option}
use Rattle.std.specs.declared.option.Option.TheVariants.{Some}
use Rattle.std.specs.List.{AllZip}
use Rattle.std.proofs.lemmas.List.Elements.{AllZip-get_or}
use Rattle.amr_box.specs.declared.Cell.{Cell}
use Rattle.amr_box.specs.Cells.{Extent, holds}
use Rattle.amr_patch.specs.declared.patches.Patch.{Patch}
use Rattle.amr_patch.specs.Places.{in_frame}
use Rattle.amr_patch.specs.Patches.{box, mass_in}
use Rattle.amr_ghost.specs.Frames.{is_corner}
use Rattle.amr_ghost.specs.GhostCells.{KeepsCells, KeepsGhosts}

pub zip_refl : (R : Patch → Patch → Type 0) → ((q : Patch) → R q q) → (ps : List Patch) → AllZip R ps ps
zip_refl R same [] = tt
zip_refl R same (p ∷ ps) = (same p, zip_refl R same ps)

-- one patch changes
pub zip_set : (R : Patch → Patch → Type 0) → ((q : Patch) → R q q) → (ps : List Patch) (i : ℕ) (d r : Patch) → R (get_or ps i d) r → AllZip R ps (set ps i r)
zip_set R same [] i d r h = tt
zip_set R same (p ∷ ps) zero d r h = (h, zip_refl R same ps)
zip_set R same (p ∷ ps) (suc i) d r h = (same p, zip_set R same ps i d r h)

-- two changes
pub zip_trans : (R : Patch → Patch → Type 0) → ((p q r : Patch) → R p q → R q r → R p r) → (ps qs rs : List Patch) → AllZip R ps qs → AllZip R qs rs → AllZip R ps rs
zip_trans R more [] [] [] h k = tt
zip_trans R more [] [] (r ∷ rs) h k = absurd k
zip_trans R more [] (q ∷ qs) rs h k = absurd h
zip_trans R more (p ∷ ps) [] rs h k = absurd h
zip_trans R more (p ∷ ps) (q ∷ qs) [] h k = absurd k
zip_trans R more (p ∷ ps) (q ∷ qs) (r ∷ rs) h k = (more p q r h.0 k.0, zip_trans R more ps qs rs h.1 k.1)

pub zip_map : (R S : Patch → Patch → Type 0) → ((q r : Patch) → R q r → S q r) → (ps qs : List Patch) → AllZip R ps qs → AllZip S ps qs
zip_map R S into [] [] h = tt
zip_map R S into [] (q ∷ qs) h = absurd h
zip_map R S into (p ∷ ps) [] h = absurd h
zip_map R S into (p ∷ ps) (q ∷ qs) h = (into p q h.0, zip_map R S into ps qs h.1)

-- ---- cells are kept

pub keeps_refl : (q : Patch) → KeepsCells q q
keeps_refl q = record { of_box = refl; masses = λ c h. refl; fluxes = λ f. refl; corners = record { values = λ c h. refl; marks = λ c h. refl } }

pub keeps_trans : (p q r : Patch) → KeepsCells p q → KeepsCells q r → KeepsCells p r
keeps_trans p q r h k = record {
  of_box = k.of_box ∙ h.of_box;
  masses = λ c t. k.masses c (subst (λ (b : Extent). IsTrue (holds b c)) (sym h.of_box) t) ∙ h.masses c t;
  fluxes = λ f. k.fluxes f ∙ h.fluxes f;
  corners = record {
    values = λ c t. k.corners.values c (subst (λ (b : Extent). IsTrue (is_corner b c)) (sym h.of_box) t) ∙ h.corners.values c t;
    marks = λ c t. k.corners.marks c (subst (λ (b : Extent). IsTrue (is_corner b c)) (sym h.of_box) t) ∙ h.corners.marks c t;
  };
}

-- patches that have the boxes of others, one by one
pub boxes_of_zip : (R : Patch → Patch → Type 0) → ((q r : Patch) → R q r → box r ≡ box q) → (ps qs : List Patch) → AllZip R ps qs → map box qs ≡ map box ps
boxes_of_zip R same [] [] h = refl
boxes_of_zip R same [] (q ∷ qs) h = absurd h
boxes_of_zip R same (p ∷ ps) [] h = absurd h
boxes_of_zip R same (p ∷ ps) (q ∷ qs) h = λ i. same p q h.0 i ∷ boxes_of_zip R same ps qs h.1 i

pub zip_boxes : (ps qs : List Patch) → AllZip KeepsCells ps qs → map box qs ≡ map box ps
zip_boxes = boxes_of_zip KeepsCells (λ q r h. h.of_box)

-- the box of a patch
pub zip_box : (ps qs : List Patch) (i : ℕ) (d e : Patch) → AllZip KeepsCells ps qs → i < length ps → box (get_or qs i e) ≡ box (get_or ps i d)
zip_box ps qs i d e h t = (AllZip-get_or KeepsCells ps qs i d e h t).of_box

pub mass_cases : (t : Bool) (a b : ℕ) (x y : Option ℕ) → (t ≡ true → b ≡ a) → y ≡ x → cond t (Some b) y ≡ cond t (Some a) x
mass_cases true a b x y e f = ap Some (e refl)
mass_cases false a b x y e f = f

-- and the mass of a cell stays
pub still_mass : (ps qs : List Patch) (i : ℕ) (d e : Patch) (c c' : Cell) → AllZip KeepsCells ps qs → i < length ps → c' ≡ c → IsTrue (holds (box (get_or ps i d)) c) → mass_in (get_or qs i e) c' ≡ mass_in (get_or ps i d) c
still_mass ps qs i d e c c' h there is t = rw is ((AllZip-get_or KeepsCells ps qs i d e h there).masses c t)

-- ghost cells that have their values keep them over two changes
pub zip_ghosts : (value : Cell → ℕ) (mark : Cell → Bool) (ps qs rs : List Patch) → AllZip KeepsCells ps qs → AllZip (KeepsGhosts value mark) ps qs → AllZip (KeepsGhosts value mark) qs rs → AllZip (KeepsGhosts value mark) ps rs
zip_ghosts value mark [] [] [] k g h = tt
zip_ghosts value mark [] [] (r ∷ rs) k g h = absurd h
zip_ghosts value mark [] (q ∷ qs) rs k g h = absurd g
zip_ghosts value mark (p ∷ ps) [] rs k g h = absurd g
zip_ghosts value mark (p ∷ ps) (q ∷ qs) [] k g h = absurd h
zip_ghosts value mark (p ∷ ps) (q ∷ qs) (r ∷ rs) k g h = (
  record { at = λ c t has. h.0.at c (subst (λ (b : Extent). IsTrue (in_frame b c)) (sym k.0.of_box) t) (g.0.at c t has) },
  zip_ghosts value mark ps qs rs k.1 g.1 h.1,
)
