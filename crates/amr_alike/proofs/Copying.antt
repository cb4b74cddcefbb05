-- Patches with the masses of others have the masses of their level.
use Rattle.std.proofs.Common.{◌≡◌, suc, List, [], ◌∷◌, length, map, cond, refl, arith}
use Rattle.std.specs.List.{AllZip}
use Rattle.std.specs.declared.option.Option.TheVariants.{Some}
use Rattle.amr_box.specs.declared.Cell.{Cell}
use Rattle.amr_box.specs.Cells.{holds}
use Rattle.amr_patch.specs.declared.patches.Patch.{Patch}
use Rattle.amr_patch.specs.Patches.{box, masses_in}
use Rattle.amr_alike.specs.Copied.{AreCopied, IsCopied}

pub same_masses : (ps qs : List Patch) → length ps ≡ length qs → AreCopied (length ps) ps qs → masses_in qs ≡ masses_in ps
same_masses ps qs count h = λ i c. at ps qs count h c i
  where
    at : (ps qs : List Patch) → length ps ≡ length qs → AreCopied (length ps) ps qs → (c : Cell) → masses_in qs c ≡ masses_in ps c
    at [] [] e h c = refl
    at [] (q ∷ qs) e h c = absurd (omega (arith, e))
    at (p ∷ ps) [] e h c = absurd (omega (arith, e))
    at (p ∷ ps) (q ∷ qs) e h c =
        let first = h 0 p q (omega arith) in
        let rest = at ps qs (omega (arith, e)) (λ k d f lt. h (suc k) d f (omega (arith, lt))) c in
        λ i. cond (holds (first.of_box i) c) (Some (first.masses c i)) (rest i)

pub same_boxes : (ps qs : List Patch) → length ps ≡ length qs → AreCopied (length ps) ps qs → map box qs ≡ map box ps
same_boxes [] [] e h = refl
same_boxes [] (q ∷ qs) e h = absurd (omega (arith, e))
same_boxes (p ∷ ps) [] e h = absurd (omega (arith, e))
same_boxes (p ∷ ps) (q ∷ qs) e h = let first = h 0 p q (omega arith) in let rest = same_boxes ps qs (omega (arith, e)) (λ k d f lt. h (suc k) d f (omega (arith, lt))) in λ i. first.of_box i ∷ rest i

-- one by one
pub zip_copied : (ps qs : List Patch) → length ps ≡ length qs → AreCopied (length ps) ps qs → AllZip IsCopied ps qs
zip_copied [] [] e h = tt
zip_copied [] (q ∷ qs) e h = absurd (omega (arith, e))
zip_copied (p ∷ ps) [] e h = absurd (omega (arith, e))
zip_copied (p ∷ ps) (q ∷ qs) e h = (h 0 p q (omega arith), zip_copied ps qs (omega (arith, e)) (λ k d f lt. h (suc k) d f (omega (arith, lt))))

pub zip_masses : (ps qs : List Patch) → AllZip IsCopied ps qs → masses_in qs ≡ masses_in ps
zip_masses ps qs h = λ i c. at ps qs h c i
  where
    at : (ps qs : List Patch) → AllZip IsCopied ps qs → (c : Cell) → masses_in qs c ≡ masses_in ps c
    at [] [] h c = refl
    at [] (q ∷ qs) h c = absurd h
    at (p ∷ ps) [] h c = absurd h
    at (p ∷ ps) (q ∷ qs) h c = let rest = at ps qs h.1 c in λ i. cond (holds (h.0.of_box i) c) (Some (h.0.masses c i)) (rest i)

pub zip_boxes : (ps qs : List Patch) → AllZip IsCopied ps qs → map box qs ≡ map box ps
zip_boxes [] [] h = refl
zip_boxes [] (q ∷ qs) h = absurd h
zip_boxes (p ∷ ps) [] h = absurd h
zip_boxes (p ∷ ps) (q ∷ qs) h = let rest = zip_boxes ps qs h.1 in λ i. h.0.of_box i ∷ rest i
