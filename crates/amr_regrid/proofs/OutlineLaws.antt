-- Levels of a list, by their outlines.
use Rattle.std.proofs.Common.{◌≡◌, inl, inr, ℕ, zero, suc, ◌-◌, ◌<◌, refl, sym, ap, subst, ◌∙◌, arith, List, [], ◌∷◌, length, map, take, get_or}
use Rattle.std.specs.Prelude.{slice_index_or, slice_get}
use Rattle.std.specs.declared.option.Option.{Option}
use Rattle.std.specs.List.{All, flat_map}
use Rattle.std.specs.List.Sorted.{IsPermutation}
use Rattle.std.proofs.lemmas.List.Elements.{All-cons, All-nil}
use Rattle.amr_boxlist.specs.Chopped.{chopped}
use Rattle.amr_def.specs.State.{masses_below, no_level}
use Rattle.amr_ghost.specs.Frames.{old_masses}
use Rattle.amr_patch.specs.declared.levels.Level.{Level}
use Rattle.amr_patch.specs.Levels.{level_of}
use Rattle.amr_start.specs.PatchBoxes.{IsChopped}
use Rattle.amr_regrid.specs.Outlines.{Outline, outline, outlines, with_levels}
use Rattle.amr_regrid.specs.Remade.{AreChoppedOrKept}

-- levels that keep their outlines are the same levels
levels_by : (ks : List Level) → map level_of ks ≡ map (λ (o : Outline). o.level) (outlines ks)
levels_by [] = refl
levels_by (k ∷ ks) = ap (λ t. level_of k ∷ t) (levels_by ks)

pub same_levels : (js ks : List Level) → outlines js ≡ outlines ks → map level_of js ≡ map level_of ks
same_levels js ks e = levels_by js ∙ ap (map (λ (o : Outline). o.level)) e ∙ sym (levels_by ks)

pub same_count : (js ks : List Level) → outlines js ≡ outlines ks → length js ≡ length ks
same_count js ks e = sym (many js) ∙ ap length e ∙ many ks
  where
    many : (ls : List Level) → length (outlines ls) ≡ length ls
    many [] = refl
    many (l ∷ ls) = ap suc (many ls)

-- a level of a list
pub level_at_is : (ks : List Level) (l : ℕ) (k : Level) → l < length ks → k ≡ get_or ks l k → slice_index_or (map level_of ks) l no_level ≡ level_of k
level_at_is [] l k h e = absurd (omega (arith, h))
level_at_is (x ∷ xs) zero k h e = ap level_of (sym e)
level_at_is (x ∷ xs) (suc l) k h e = level_at_is xs l k (omega (arith, h)) e

-- the masses of the next coarser level
last_of : (ks : List Level) (l : ℕ) → suc l < length ks → old_masses (slice_get (take (suc l) ks) l) ≡ (slice_index_or (map level_of ks) l no_level).masses
last_of [] l h = absurd (omega (arith, h))
last_of (x ∷ xs) zero h = refl
last_of (x ∷ xs) (suc l) h = last_of xs l (omega (arith, h))

pub below_masses : (ks : List Level) (l : ℕ) (o : Option Level) → l < length ks → length (take l ks) ≡ l → o ≡ slice_get (take l ks) (length (take l ks) - 1) → old_masses o ≡ masses_below (with_levels ks) l
below_masses ks zero o h n e = ap old_masses e
below_masses ks (suc l) o h n e =
    let last : length (take (suc l) ks) - 1 ≡ l = omega (arith, n) in
    ap old_masses (e ∙ ap (slice_get (take (suc l) ks)) last) ∙ last_of ks l h

-- ---- patch boxes

chopped_by : (max : ℕ) (j k : Level) → outline j ≡ outline k → IsChopped max k → IsChopped max j
chopped_by max j k e h = record { patches = subst (λ (o : Outline). IsPermutation (flat_map (chopped max) o.level.boxes) o.patch_boxes) (sym e) h.patches }

pub all_chopped : (max : ℕ) (ks olds : List Level) → AreChoppedOrKept max ks (outlines olds) → All (IsChopped max) olds → All (IsChopped max) ks
all_chopped max [] olds is h = All-nil (IsChopped max)
all_chopped max (k ∷ ks) [] is h = All-cons (IsChopped max) k ks is.0 (all_chopped max ks [] is.1 h)
all_chopped max (k ∷ ks) (o ∷ os) is h = All-cons (IsChopped max) k ks first (all_chopped max ks os is.1 (λ i d f. h (suc i) d (omega (arith, f))))
  where
    first : IsChopped max k
    first = elim is.0 [
      | inl chopped ↦ chopped
      | inr same ↦ chopped_by max k o same (h 0 o (omega arith))
    ]
