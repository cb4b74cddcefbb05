-- The boxes of a list of boxes with their masses.
use Rattle.std.proofs.Common.{◌≡◌, ℕ, zero, suc, ◌+◌, ◌<◌, Bool, true, false, ◌||◌, List, [], ◌∷◌, ◌++◌, length, get_or, map, take, cond, refl, sym, ap, ◌∙◌, arith, ◌⊎◌, inl, inr}
use Rattle.std.specs.Prelude.{slice_index_or, is_some}
use Rattle.std.specs.declared.option.Option.{Option}
use Rattle.std.specs.declared.option.Option.TheVariants.{None, Some}
use Rattle.std.proofs.lemmas.Bool.{both_ways, false_from_ne_true, or_cases}
use Rattle.std.proofs.lemmas.Grind.{take_at_read}
use Rattle.std.proofs.lemmas.List.{length-map, map-append}
use Rattle.amr_box.specs.declared.Cell.{Cell}
use Rattle.amr_box.specs.Cells.{Extent, holds, in_boxes}
use Rattle.amr_def.specs.State.{Level}
use Rattle.amr_def.proofs.Uncovered.{no_mass}
use Rattle.amr_patch.specs.declared.patches.Patch.{Patch}
use Rattle.amr_patch.specs.Patches.{ArePairwiseApart, box, in_patches, mass_in, masses_in}
use Rattle.amr_patch.proofs.Apart.{in_boxes_at}
use Rattle.amr_patch.proofs.LevelLaws.{none_here}
use Rattle.amr_patch.proofs.Lookups.{masses_in-none}
use Rattle.amr_payload.specs.Tests as tests
use Rattle.amr_payload.proofs.GridLevels.{has_masses}
use Rattle.amr_decoder.specs.declared.grid.Grid.{Grid}
use Rattle.amr_decoder.specs.Filled.{AreGridsSet}
use Rattle.amr_decoder.specs.Grids.{boxes_of, grid_of}
use Rattle.amr_patch.proofs.SameBoxes.{in_same_boxes}

pub boxes_of_grids : (bytes : List ℕ) (gs : List Grid) → map (λ g. g.box) (map (grid_of bytes) gs) ≡ boxes_of gs
boxes_of_grids bytes [] = refl
boxes_of_grids bytes (g ∷ gs) = ap (λ (bs : List Extent). g.bx ∷ bs) (boxes_of_grids bytes gs)

pub box_at_place : (gs : List Grid) (i : ℕ) (g : Grid) → i < length gs → g ≡ get_or gs i g → slice_index_or (boxes_of gs) i g.bx ≡ g.bx
box_at_place [] i g h is = absurd (omega arith)
box_at_place (k ∷ gs) zero g h is = ap (λ (g : Grid). g.bx) (sym is)
box_at_place (k ∷ gs) (suc i) g h is = box_at_place gs i g (omega arith) is

pub in_grids : (gs : List Grid) (i : ℕ) (g : Grid) (d : Cell) → i < length gs → g ≡ get_or gs i g → holds g.bx d ≡ true → in_boxes (boxes_of gs) d ≡ true
in_grids gs i g d h is held = in_boxes_at (boxes_of gs) d i g.bx (omega (arith, h, length-map gs (λ (g : Grid). g.bx))) (ap (λ (b : Extent). holds b d) (box_at_place gs i g h is) ∙ held)

pub apart_before : (gs : List Grid) (i : ℕ) (g : Grid) (d : Cell) → ArePairwiseApart (boxes_of gs) → i < length gs → g ≡ get_or gs i g → in_boxes (boxes_of (take i gs)) d ≡ true → holds g.bx d ≡ true → ⊥
apart_before [] i g d apart h is before held = absurd (omega arith)
apart_before (k ∷ gs) zero g d apart h is before held = absurd (cc)
apart_before (k ∷ gs) (suc i) g d apart h is before held = choose (or_cases (holds k.bx d) (in_boxes (boxes_of (take i gs)) d) before) (λ there. apart_before gs i g d (λ a b e less within. apart (suc a) (suc b) e (omega arith) (omega arith)) (omega arith) is there held)
  where
    choose : (holds k.bx d ≡ true) ⊎ (in_boxes (boxes_of (take i gs)) d ≡ true) → (in_boxes (boxes_of (take i gs)) d ≡ true → ⊥) → ⊥
    choose (inl here) later =
        let lt : i < length gs = omega arith in
        apart 0 (suc i) g.bx (omega arith) (omega (arith, h, length-map gs (λ (g : Grid). g.bx))) d here (ap (λ (b : Extent). holds b d) (box_at_place gs i g lt is) ∙ held)
    choose (inr there) later = later there

pub one_more : {B : Type 0} (f : Grid → B) (gs : List Grid) (i : ℕ) (g : Grid) → i < length gs → g ≡ get_or gs i g → map f (take i gs) ++ f g ∷ [] ≡ map f (take (i + 1) gs)
one_more f gs i g h is = ap (λ e. map f (take i gs) ++ f e ∷ []) is ∙ sym (map-append f (take i gs) (get_or gs i g ∷ [])) ∙ ap (map f) (sym (take_at_read gs i g h).1)

-- ---- the masses of all

pub in_from_some : (ps : List Patch) (d : Cell) → is_some (masses_in ps d) ≡ true → in_patches ps d ≡ true
in_from_some ps d h = by_test (in_patches ps d) refl
  where
    by_test : (t : Bool) → in_patches ps d ≡ t → t ≡ true
    by_test true e = refl
    by_test false e = absurd (none_here ps d h e)

some_from : (ps : List Patch) (d : Cell) → in_patches ps d ≡ true → is_some (masses_in ps d) ≡ true
some_from [] d h = absurd (cc)
some_from (p ∷ ps) d h = by_test (holds (box p) d) h (some_from ps d)
  where
    by_test : (t : Bool) → (t || in_patches ps d) ≡ true → (in_patches ps d ≡ true → is_some (masses_in ps d) ≡ true) → is_some (cond {A = Option ℕ} t (Some (mass_in p d)) (masses_in ps d)) ≡ true
    by_test true e more = refl
    by_test false e more = more e

pub all_masses : (gs : List tests.Grid) (ps qs : List Patch) → AreGridsSet gs ps qs → ((d : Cell) → in_patches ps d ≡ true → in_boxes (map (λ g. g.box) gs) d ≡ true) → masses_in qs ≡ tests.masses_in gs
all_masses gs ps qs filled inside = λ i d. at d (in_boxes (map (λ g. g.box) gs) d) refl i
  where
    at : (d : Cell) (t : Bool) → in_boxes (map (λ g. g.box) gs) d ≡ t → masses_in qs d ≡ tests.masses_in gs d
    at d true e = filled.set d e
    at d false e =
        masses_in-none qs d (in_same_boxes qs ps d filled.boxes ∙ false_from_ne_true (in_patches ps d) (λ h. both_ways (in_boxes (map (λ g. g.box) gs) d) e (inside d h)))
        ∙ sym (no_mass (tests.masses_in gs d) (has_masses gs d ∙ e))

-- ---- a level that is made of them

pub made_level : (bytes : List ℕ) (gs : List Grid) (ps qs : List Patch) (k : Level) → k.boxes ≡ boxes_of gs → k.masses ≡ masses_in qs
    → ((d : Cell) → masses_in ps d ≡ cond {A = Option ℕ} (in_boxes (boxes_of gs) d) (Some 0) None) → AreGridsSet (map (grid_of bytes) gs) ps qs → k ≡ tests.level_of (map (grid_of bytes) gs)
unfolding tests.level_of
made_level bytes gs ps qs k boxes masses blank filled =
    let same = all_masses (map (grid_of bytes) gs) ps qs filled (λ d h. ap (λ (bs : List Extent). in_boxes bs d) (boxes_of_grids bytes gs) ∙ in_blank d (in_boxes (boxes_of gs) d) (blank d) h) in
    λ i. record { boxes = (boxes ∙ sym (boxes_of_grids bytes gs)) i; masses = (masses ∙ same) i }
  where
    in_blank : (d : Cell) (t : Bool) → masses_in ps d ≡ cond {A = Option ℕ} t (Some 0) None → in_patches ps d ≡ true → t ≡ true
    in_blank d true is h = refl
    in_blank d false is h = absurd (both_ways (is_some (masses_in ps d)) (ap is_some is) (some_from ps d h))

pub level_boxes : (bytes : List ℕ) (gs : List Grid) → (tests.level_of (map (grid_of bytes) gs)).boxes ≡ boxes_of gs
unfolding tests.level_of
level_boxes bytes gs = boxes_of_grids bytes gs
