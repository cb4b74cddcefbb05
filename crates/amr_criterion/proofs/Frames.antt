-- Patches whose frames are filled: their boxes and masses are those of before.
use Rattle.std.proofs.Common.{◌≡◌, ℕ, ◌<◌, cond, List, [], ◌∷◌, length, get_or, map, refl, ap, ◌∙◌, arith}
use Rattle.std.specs.declared.option.Option.TheVariants.{Some}
use Rattle.std.specs.List.{AllZip}
use Rattle.amr_box.specs.declared.Cell.{Cell}
use Rattle.amr_box.specs.Cells.{Extent, holds}
use Rattle.amr_patch.proofs.Lookups.{same_default}
use Rattle.amr_patch.proofs.SameBoxes.{box_at, same_length}
use Rattle.amr_patch.specs.declared.patches.Patch.{Patch}
use Rattle.amr_patch.specs.Patches.{box, mass_in, masses_in}
use Rattle.amr_ghost.specs.Frames.{SameMasses}
use Rattle.amr_ghost.proofs.Zips.{mass_cases}

-- ---- patches with the boxes of others

pub box_of_other : (ps qs : List Patch) (k : ℕ) (d e : Patch) → map box qs ≡ map box ps → k < length qs → box (get_or qs k d) ≡ box (get_or ps k e)
box_of_other ps qs k d e same h = box_at qs ps k d same ∙ ap box (same_default ps k d e (omega (arith, h, same_length qs ps same)))

first_box : List Extent → Extent → Extent
first_box [] b = b
first_box (a ∷ bs) b = a

rest_of : List Extent → List Extent
rest_of [] = []
rest_of (a ∷ bs) = bs

same_mass : (ps qs : List Patch) (c : Cell) → AllZip SameMasses ps qs → map box qs ≡ map box ps → masses_in qs c ≡ masses_in ps c
unfolding first_box rest_of
same_mass [] [] c h e = refl
same_mass [] (q ∷ qs) c h e = absurd h
same_mass (p ∷ ps) [] c h e = absurd h
same_mass (p ∷ ps) (q ∷ qs) c h e =
    let here : box q ≡ box p = ap (λ bs. first_box bs (box p)) e in
    ap (λ (b : Extent). cond (holds b c) (Some (mass_in q c)) (masses_in qs c)) here
    ∙ mass_cases (holds (box p) c) (mass_in p c) (mass_in q c) (masses_in ps c) (masses_in qs c) (λ t. h.0 c t) (same_mass ps qs c h.1 (ap rest_of e))

pub same_masses : (ps qs : List Patch) → AllZip SameMasses ps qs → map box qs ≡ map box ps → masses_in qs ≡ masses_in ps
same_masses ps qs h e i c = same_mass ps qs c h e i
