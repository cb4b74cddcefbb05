-- Masses that are placed in patches.
use Rattle.std.specs.Prelude.{◌≡◌, IsTrue}
use Rattle.std.specs.declared.option.Option.TheVariants.{Some}
use Rattle.amr_box.specs.declared.Cell.{Cell}
use Rattle.amr_box.specs.Cells.{Extent, holds}
use Rattle.amr_def.specs.State.{Masses}
use Rattle.amr_patch.specs.declared.patches.Patch.{Patch}
use Rattle.amr_patch.specs.Patches.{box, mass_in}

-- the patch's cells are cells of a box
pub record LiesInBox (b : Extent) (p : Patch) : Type 0 where
  pub at : (c : Cell) → IsTrue (holds (box p) c) → IsTrue (holds b c)

-- the patch has these masses
pub record HasMassesOf (m : Masses) (p : Patch) : Type 0 where
  pub at : (c : Cell) → IsTrue (holds (box p) c) → m c ≡ Some (mass_in p c)

-- the second patch has the box of the first
pub record HasBoxOf (p q : Patch) : Type 0 where
  pub of_box : box q ≡ box p
