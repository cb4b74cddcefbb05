-- Boxes that have the same corners, and the masses of patches that have the same boxes.
use Rattle.std.proofs.Common.{◌≡◌, ◌∙◌, List, map, ap}
use Rattle.std.specs.Prelude.{is_some}
use Rattle.amr_box.specs.declared.Cell.{Cell}
use Rattle.amr_box.specs.Cells.{Extent, in_boxes}
use Rattle.amr_def.specs.State.{Masses}
use Rattle.amr_patch.specs.declared.patches.Patch.{Patch}
use Rattle.amr_patch.specs.Patches.{box, masses_in}
use Rattle.amr_patch.proofs.Lookups.{some_mass}
use Rattle.amr_patch.proofs.SameBoxes.{in_mapped}

-- the cells that have masses are those of the boxes
pub some_in_boxes : (m : Masses) (ps : List Patch) (bs : List Extent) → m ≡ masses_in ps → map box ps ≡ bs → (c : Cell) → is_some (m c) ≡ in_boxes bs c
some_in_boxes m ps bs is same c = ap (λ (n : Masses). is_some (n c)) is ∙ some_mass ps c ∙ in_mapped ps c ∙ ap (λ (xs : List Extent). in_boxes xs c) same
