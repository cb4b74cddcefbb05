-- Boxes of a list that have no cell in common.
use Rattle.std.proofs.Common.{◌≡◌, ℕ, zero, suc, ◌+◌, ◌<◌, ◌≤◌, Bool, true, false, ◌&&◌, refl, sym, ap, ◌∙◌, arith, List, length, take, get_or}
use Rattle.std.proofs.lemmas.Bool.{or_from}
use Rattle.std.proofs.Math.Bool.{and-false}
use Rattle.std.proofs.lemmas.List.Folds.{list_any_more}
use Rattle.amr_box.specs.declared.Cell.{Cell}
use Rattle.amr_box.specs.Cells.{Extent, holds, in_boxes}
use Rattle.amr_def.proofs.Subcycle.{bool_cases, is_false}
use Rattle.amr_patch.specs.Patches.{ArePairwiseApart}

module _ (bs : List Extent) (apart : ArePairwiseApart bs) (i : ℕ) (b : Extent) (inside : i < length bs) (is : b ≡ get_or bs i b) (c : Cell) (held : holds b c ≡ true) where
  none_before : (n : ℕ) → n ≤ i → in_boxes (take n bs) c ≡ false
  none_before zero h = refl
  none_before (suc n) h =
      let here : holds (get_or bs n b) c ≡ false = is_false _ (λ e. apart n i b (omega (arith, h)) inside c e (ap (λ (x : Extent). holds x c) (sym is) ∙ held)) in
      let one : suc n ≡ n + 1 = omega arith in
      ap (λ (m : ℕ). in_boxes (take m bs) c) one
      ∙ list_any_more (λ (x : Extent). holds x c) bs n b (omega (arith, h, inside))
      ∙ or_from _ _ (none_before n (omega (arith, h))) here

-- a box and those before it
pub apart_before : (bs : List Extent) → ArePairwiseApart bs → (i : ℕ) (b : Extent) → i < length bs → b ≡ get_or bs i b → (c : Cell) → (in_boxes (take i bs) c && holds b c) ≡ false
apart_before bs apart i b inside is c =
    bool_cases (holds b c)
    (λ e. ap (λ (t : Bool). t && holds b c) (none_before bs apart i b inside is c e i (omega arith)))
    (λ e. ap (λ (t : Bool). in_boxes (take i bs) c && t) e ∙ and-false (in_boxes (take i bs) c))
