-- Levels of one box and boxes of two, for the tests.
use Rattle.std.proofs.Common.{◌≡◌, ◌⊎◌, inl, inr, ℕ, Bool, true, false, cond, List, [], ◌∷◌, refl, ap, ◌∙◌}
use Rattle.std.specs.Prelude.{is_some}
use Rattle.std.specs.declared.option.Option.TheVariants.{None, Some}
use Rattle.std.proofs.lemmas.Bool.{or_cases}
use Rattle.amr_box.specs.declared.Cell.{Cell}
use Rattle.amr_box.specs.Cells.{Extent, IsNear, holds, in_boxes}
use Rattle.amr_def.specs.State.{Masses}
use Rattle.amr_patch.specs.Patches.{AreNear, IsNearCell}
use Rattle.amr_start.proofs.Placing.{in_one_box, near_alone}

-- two boxes, each near
pub two_near : (a b : Extent) → IsNear a → IsNear b → AreNear (a ∷ b ∷ [])
two_near a b near_a near_b = λ c h. either c (or_cases (holds a c) (in_boxes (b ∷ []) c) h)
  where
    either : (c : Cell) → (holds a c ≡ true) ⊎ (in_boxes (b ∷ []) c ≡ true) → IsNearCell c
    either c (inl e) = near_alone a near_a c (in_one_box a c ∙ e)
    either c (inr e) = near_alone b near_b c e

-- which cells a level has, where each mass is 0
pub some_in : (t : Bool) → is_some {T = ℕ} (cond t (Some 0) None) ≡ t
some_in true = refl
some_in false = refl

-- the cells of a level that has mass 0 in each cell of its boxes
pub cells_of : (m : Masses) (bs : List Extent) → ((c : Cell) → m c ≡ cond (in_boxes bs c) (Some 0) None) → (c : Cell) → is_some (m c) ≡ in_boxes bs c
cells_of m bs zero c = ap is_some (zero c) ∙ some_in (in_boxes bs c)
