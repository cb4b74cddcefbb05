-- The levels of a sound state, and those that a regrid leaves.
use Rattle.std.proofs.Common.{◌≡◌, inl, inr, ℕ, suc, ◌<◌, ◌≤◌, refl, ap, subst, ◌∙◌, arith, List, [], ◌∷◌, length, map}
use Rattle.std.specs.Prelude.{slice_index_or}
use Rattle.std.specs.List.{All}
use Rattle.std.proofs.lemmas.List.{get_or_default}
use Rattle.amr_def.specs.declared.problem.Problem.{Problem}
use Rattle.amr_def.specs.Domain.{domain, domain_box}
use Rattle.amr_def.specs.Facts.{IsLevel}
use Rattle.amr_def.specs.State as defined
use Rattle.amr_def.specs.State.{level_at, no_level}
use Rattle.amr_patch.specs.declared.levels.Level.{Level}
use Rattle.amr_patch.specs.Levels.{level_of}
use Rattle.amr_regrid.specs.declared.masses.Remade.{Remade}
use Rattle.amr_regrid.specs.declared.masses.Remade.TheVariants.{Kept, Made}
use Rattle.amr_regrid.specs.Outlines.{IsSoundWith, outlines, with_levels}
use Rattle.amr_regrid.specs.Remade.{AreChoppedOrKept, IsChoppedIfMade, HasMassesInBoxes, remade_levels}

pub level_count : (ks : List Level) → length (map level_of ks) ≡ length ks
level_count [] = refl
level_count (k ∷ ks) = ap suc (level_count ks)

module _ (p : Problem) (ks : List Level) (sound : IsSoundWith p ks) where
  pub many : length sound.state.levels ≡ length ks
  many = ap length sound.levels_are ∙ level_count ks

  pub few_levels : length ks ≤ 5
  few_levels = omega (arith, many, sound.sound.few_levels, p.limits.greatest_max_level)

  -- each level is one of its domain
  pub each_level : (k : ℕ) → k < length ks → IsLevel p k (level_at (with_levels ks) k)
  each_level k h = subst (λ (ls : List defined.Level). IsLevel p k (slice_index_or ls k no_level)) sound.levels_are (sound.sound.nested.each k (omega (arith, h, many)))

  pub base_boxes : (level_at (with_levels ks) 0).boxes ≡ domain_box (domain p 0) ∷ []
  base_boxes = subst (λ (ls : List defined.Level). (slice_index_or ls 0 no_level).boxes ≡ domain_box (domain p 0) ∷ []) sound.levels_are sound.sound.base

  pub some_level : 0 < length ks
  some_level = omega (arith, many, sound.sound.some_level)

  module _ (base : Level) (olds : List Level) (parts : ks ≡ base ∷ olds) where
    pub base_level : IsLevel p 0 (level_of base)
    base_level = subst (λ (js : List Level). IsLevel p 0 (level_at (with_levels js) 0)) parts (each_level 0 some_level)

    pub base_whole : (level_of base).boxes ≡ domain_box (domain p 0) ∷ []
    base_whole = subst (λ (js : List Level). (level_at (with_levels js) 0).boxes ≡ domain_box (domain p 0) ∷ []) parts base_boxes

    pub olds_filled : All HasMassesInBoxes (map level_of olds)
    olds_filled k d h =
        let inside : suc k < length ks = (let e : length ks ≡ suc (length olds) = ap length parts in omega (arith, e, h, level_count olds)) in
        let level : IsLevel p (suc k) (slice_index_or (map level_of olds) k no_level) = subst (λ (js : List Level). IsLevel p (suc k) (level_at (with_levels js) (suc k))) parts (each_level (suc k) inside) in
        subst HasMassesInBoxes (get_or_default (map level_of olds) k no_level d h) (record { at = level.filled })

-- ---- patch boxes

pub chopped_or_kept : (max : ℕ) (ks : List Level) (rs : List Remade) → All (IsChoppedIfMade max) rs → AreChoppedOrKept max (remade_levels ks rs) (outlines ks)
unfolding remade_levels
chopped_or_kept max ks [] m = tt
chopped_or_kept max [] (Kept ∷ rs) m = chopped_or_kept max [] rs (λ i d f. m (suc i) d (omega (arith, f)))
chopped_or_kept max [] (Made j ∷ rs) m = (m 0 (Made j) (omega arith), chopped_or_kept max [] rs (λ i d f. m (suc i) d (omega (arith, f))))
chopped_or_kept max (o ∷ os) (Kept ∷ rs) m = (inr refl, chopped_or_kept max os rs (λ i d f. m (suc i) d (omega (arith, f))))
chopped_or_kept max (o ∷ os) (Made j ∷ rs) m = (inl (m 0 (Made j) (omega arith)), chopped_or_kept max os rs (λ i d f. m (suc i) d (omega (arith, f))))
