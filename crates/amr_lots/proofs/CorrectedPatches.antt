-- A patch that was refluxed, and whose covered cells then got their sums.
use Rattle.std.proofs.Common.{◌≡◌, ◌∙◌, ℤ, pos, ◌+ℤ◌, Bool, true, false, cond, refl, ap}
use Rattle.std.specs.Prelude.{IsTrue}
use Rattle.amr_box.specs.declared.Cell.{Cell}
use Rattle.amr_box.specs.Cells.{Extent, at_least_zero, holds}
use Rattle.amr_def.specs.State.{Masses, children_mass, is_covered}
use Rattle.amr_patch.specs.declared.patches.Patch.{Patch}
use Rattle.amr_patch.specs.Patches.{KeepsFrameAndFluxes, box, mass_in}
use Rattle.amr_patch.proofs.Keeping.{kept_twice}
use Rattle.amr_transfer.specs.Given.{IsGiven}
use Rattle.amr_lots.specs.Corrections.{IsCorrected}

pub corrected : (fine : Masses) (entry : Cell → ℤ) (p q r : Patch) → KeepsFrameAndFluxes p q → ((c : Cell) → IsTrue (holds (box p) c) → mass_in q c ≡ at_least_zero (pos (mass_in p c) +ℤ entry c)) → IsGiven (is_covered fine) (children_mass fine) q r → IsCorrected fine entry p r
corrected fine entry p q r kept refluxed given = record {
  kept = kept_twice p q r kept given.kept;
  masses = λ c inside. cases c inside (is_covered fine c) refl;
}
  where
    still : (c : Cell) → IsTrue (holds (box p) c) → IsTrue (holds (box q) c)
    still c inside = ap (λ (b : Extent). holds b c) kept.of_box ∙ inside

    cases : (c : Cell) → IsTrue (holds (box p) c) → (t : Bool) → is_covered fine c ≡ t → mass_in r c ≡ cond t (children_mass fine c) (at_least_zero (pos (mass_in p c) +ℤ entry c))
    cases c inside true is = given.given c (still c inside) is
    cases c inside false is = given.others c (still c inside) is ∙ refluxed c inside
