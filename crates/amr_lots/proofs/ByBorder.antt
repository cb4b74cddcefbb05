-- A patch that makes its step by the sizes of what flows through the faces that it reads: these flow as by its own values.
use Rattle.std.proofs.Common.{◌≡◌, ◌∙◌, ℕ, ◌^◌, ◌<◌, Bool, true, pos, ◌+ℤ◌, ◌≤ℤ◌, ◌<ℤ◌, List, sym, ap, subst, arith}
use Rattle.amr_box.specs.declared.Axis.TheVariants.{X}
use Rattle.amr_box.specs.declared.Cell.{Cell}
use Rattle.amr_box.specs.declared.Face.{Face}
use Rattle.amr_box.specs.Cells.{holds}
use Rattle.amr_def.specs.declared.problem.Problem.{Problem}
use Rattle.amr_def.specs.Flux.{face, net}
use Rattle.amr_patch.specs.declared.patches.Patch.{Patch}
use Rattle.amr_patch.specs.Patches.{box, mass_in}
use Rattle.amr_faces.specs.Faces.{flux_beside}
use Rattle.amr_faces.specs.Shares.{AreSmall}
use Rattle.amr_faces.specs.Faces.{fluxes_by}
use Rattle.amr_faces.proofs.MaskedPlaces.{by_beside, masked_face_of_box}
use Rattle.amr_layout.specs.declared.PatchLayout.{PatchLayout}
use Rattle.amr_lots.specs.Lots.{HasStepped, MayStep}
use Rattle.amr_lots.specs.LotSteps.{AreSizesAt}
use Rattle.amr_faces.proofs.Small.{beside_small}

module _ (p : Problem) (l : ℕ) (sizes : List ℕ) (t : PatchLayout) (q : Patch) (may : MayStep p l q) (are : AreSizesAt p l sizes t q) where
  no_face : Face
  no_face = face X (pos 0) (pos 0)

  pub sizes_small : AreSmall sizes
  sizes_small = record {
    at = λ k lt.
        let small = beside_small p l q may.small _ (masked_face_of_box (box q) t.mask.items k no_face (omega (arith, lt, are.count))) in
        omega (arith, small, are.are k no_face lt);
  }

  -- the mask as it was lent
  module _ (mask : List Bool) (mask_is : mask ≡ t.mask.items) where
    net_is : (c : Cell) → holds (box q) c ≡ true → net (fluxes_by p l q mask sizes) c ≡ net (flux_beside p l q) c
    net_is c h = ap (λ (ms : List Bool). net (fluxes_by p l q ms sizes) c) mask_is ∙ by_beside p l q t.mask.items sizes are.count (λ k f lt. are.are k f lt) c

    sum_is : (c : Cell) → holds (box q) c ≡ true → pos (mass_in q c) +ℤ net (fluxes_by p l q mask sizes) c ≡ pos (mass_in q c) +ℤ net (flux_beside p l q) c
    sum_is c h = ap (λ z. pos (mass_in q c) +ℤ z) (net_is c h)

    pub kept_by : (c : Cell) → holds (box q) c ≡ true → pos 0 ≤ℤ (pos (mass_in q c) +ℤ net (fluxes_by p l q mask sizes) c)
    kept_by c h = subst (λ z. pos 0 ≤ℤ z) (sym (sum_is c h)) (may.kept c h)

    pub fits_by : (c : Cell) → holds (box q) c ≡ true → (pos (mass_in q c) +ℤ net (fluxes_by p l q mask sizes) c) <ℤ pos (2 ^ 32)
    fits_by c h = subst (λ z. z <ℤ pos (2 ^ 32)) (sym (sum_is c h)) (may.fits c h)

    pub stepped_by_border : (r : Patch) → box r ≡ box q → ((c : Cell) → holds (box q) c ≡ true → pos (mass_in r c) ≡ pos (mass_in q c) +ℤ net (fluxes_by p l q mask sizes) c) → HasStepped p l q r
    stepped_by_border r of_box masses = record { of_box = of_box; masses = λ c h. masses c h ∙ sum_is c h }
