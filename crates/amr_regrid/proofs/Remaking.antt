-- A level that is kept, or made anew, below those that come of the finer ones.
use Rattle.std.proofs.Common.{◌≡◌, ℕ, zero, suc, ◌<◌, refl, sym, ap, subst, ◌∙◌, arith, List, [], ◌∷◌, drop, length, map}
use Rattle.std.specs.Prelude.{slice_get}
use Rattle.std.specs.declared.option.Option.{Option}
use Rattle.std.specs.declared.option.Option.TheVariants.{Some}
use Rattle.std.specs.Option.{unwrap_or}
use Rattle.std.specs.List.{All}
use Rattle.amr_box.specs.Cells.{Extent}
use Rattle.amr_def.specs.declared.problem.Problem.{Problem}
use Rattle.amr_def.specs.Regrid.{first_masses, refill, refilled, rest_of}
use Rattle.amr_def.specs.State as defined
use Rattle.amr_def.specs.State.{Masses}
use Rattle.amr_laws.proofs.Refill.{new_level}
use Rattle.amr_patch.specs.declared.levels.Level.{Level}
use Rattle.amr_patch.specs.Levels.{level_of}
use Rattle.amr_regrid.specs.declared.masses.Remade.{Remade}
use Rattle.amr_regrid.specs.declared.masses.Remade.TheVariants.{Kept, Made}
use Rattle.amr_regrid.specs.Remade.{HasMassesInBoxes, Stands, remade_levels}
use Rattle.amr_regrid.proofs.Refilling.{refill_more}
use Rattle.amr_regrid.proofs.Standing.{kept_masses, next}
use Rattle.amr_transfer.specs.Shares.{masses_before}

pub rest_levels : (olds : List Level) → map level_of (drop 1 olds) ≡ rest_of (map level_of olds)
rest_levels [] = refl
rest_levels (o ∷ os) = refl

pub first_is : (olds : List Level) (o : Option Level) → o ≡ slice_get olds 0 → masses_before o ≡ first_masses (map level_of olds)
first_is [] o e = ap masses_before e
first_is (x ∷ xs) o e = ap masses_before e

pub remade_kept : (old : Level) (olds : List Level) (r : List Remade) → map level_of (remade_levels (old ∷ olds) (Kept ∷ r)) ≡ level_of old ∷ map level_of (remade_levels olds r)
unfolding remade_levels
remade_kept old olds r = refl

remade_made : (olds : List Level) (k : Level) (r : List Remade) → map level_of (remade_levels olds (Made k ∷ r)) ≡ level_of k ∷ map level_of (remade_levels (drop 1 olds) r)
unfolding remade_levels
remade_made [] k r = refl
remade_made (o ∷ os) k r = refl

pub none_remade : (olds : List Level) → map level_of (remade_levels olds []) ≡ []
unfolding remade_levels
none_remade olds = refl

-- a level by its boxes and masses
pub level_by : (k : defined.Level) (bs : List Extent) (m : Masses) → k.boxes ≡ bs → k.masses ≡ m → k ≡ record { boxes = bs; masses = m }
level_by k bs m e f = λ i. record { boxes = e i; masses = f i }

module _ (m : Masses) (olds : List Level) (boxes more : List (List Extent)) (here : List Extent) (parts : boxes ≡ here ∷ more) (some : 0 < length here) (r : List Remade) where
  pub made_step : (k : Level) → level_of k ≡ new_level m (first_masses (map level_of olds)) here → map level_of (remade_levels (drop 1 olds) r) ≡ refill (level_of k).masses (map level_of (drop 1 olds)) more → map level_of (remade_levels olds (Made k ∷ r)) ≡ refill m (map level_of olds) boxes
  made_step k is finer =
      let new = (level_of k).masses in
      let filled : new ≡ refilled m (first_masses (map level_of olds)) here = ap (λ (j : defined.Level). j.masses) is in
      let own : level_of k ≡ record { boxes = here; masses = new } = level_by (level_of k) here new (ap (λ (j : defined.Level). j.boxes) is) refl in
      remade_made olds k r ∙ (λ i. own i ∷ finer i) ∙ ap (λ (os : List defined.Level). record { boxes = here; masses = new } ∷ refill new os more) (rest_levels olds)
      ∙ refill_more m new (map level_of olds) boxes more here parts some filled

  pub kept_step : (old : Level) (rest : List Level) → olds ≡ old ∷ rest → (level_of old).boxes ≡ here → HasMassesInBoxes (level_of old) → map level_of (remade_levels (drop 1 olds) r) ≡ refill (level_of old).masses (map level_of (drop 1 olds)) more → map level_of (remade_levels olds (Kept ∷ r)) ≡ refill m (map level_of olds) boxes
  kept_step old rest is same filled finer =
      let new = (level_of old).masses in
      let tail : drop 1 olds ≡ rest = ap (drop 1) is in
      let own : level_of old ≡ record { boxes = here; masses = new } = level_by (level_of old) here new same refl in
      let first : new ≡ first_masses (map level_of olds) = sym (ap (λ (os : List Level). first_masses (map level_of os)) is) in
      let keeps : new ≡ refilled m (first_masses (map level_of olds)) here = kept_masses m (level_of old) here filled same ∙ ap (λ (o : Masses). refilled m o here) first in
      ap (λ (os : List Level). map level_of (remade_levels os (Kept ∷ r))) is
      ∙ remade_kept old rest r
      ∙ ap (λ (os : List Level). level_of old ∷ map level_of (remade_levels os r)) (sym tail)
      ∙ (λ i. own i ∷ finer i)
      ∙ ap (λ (os : List defined.Level). record { boxes = here; masses = new } ∷ refill new os more) (rest_levels olds)
      ∙ refill_more m new (map level_of olds) boxes more here parts some keeps

-- ---- what stands for the next level

module _ (p : Problem) (l : ℕ) (k : defined.Level) (boxes more : List (List Extent)) (here : List Extent) (stands : Stands p l k boxes) (parts : boxes ≡ here ∷ more) (some : 0 < length here) where
  pub made_stands : (old : Masses) (fine : defined.Level) → fine ≡ new_level k.masses old here → (n : ℕ) × Stands p n fine more
  made_stands old fine is = (suc l, subst (λ (j : defined.Level). Stands p (suc l) j more) (sym is) (next p l k boxes more here stands parts some old))

  pub kept_stands : (fine : defined.Level) → fine.boxes ≡ here → HasMassesInBoxes fine → (n : ℕ) × Stands p n fine more
  kept_stands fine same filled = made_stands fine.masses fine (level_by fine here _ same (kept_masses k.masses fine here filled same))

-- ---- lists

pub all_more : {X : Type 0} (P : X → Type 0) (x : X) (xs ys : List X) → ys ≡ x ∷ xs → P x → All P xs → All P ys
all_more P x xs ys e one rest = subst (All P) (sym e) each
  where
    each : All P (x ∷ xs)
    each zero d h = one
    each (suc k) d h = rest k d (omega (arith, h))

pub all_none : {X : Type 0} (P : X → Type 0) (ys : List X) → ys ≡ [] → All P ys
all_none P ys e = subst (All P) (sym e) (λ k d h. absurd (omega (arith, h)))

pub all_rest : (P : defined.Level → Type 0) (olds : List Level) → All P (map level_of olds) → All P (map level_of (drop 1 olds))
all_rest P [] h = h
all_rest P (o ∷ os) h = λ k d f. h (suc k) d (omega (arith, f))

pub first_filled : (olds rest : List Level) (old : Level) → olds ≡ old ∷ rest → All HasMassesInBoxes (map level_of olds) → HasMassesInBoxes (level_of old)
first_filled olds rest old e h = (subst (λ (os : List Level). All HasMassesInBoxes (map level_of os)) e h) 0 (level_of old) (omega arith)

pub first_rest : (olds : List Level) (k : Level) → slice_get olds 0 ≡ Some k → olds ≡ k ∷ drop 1 olds
first_rest [] k e = absurd (cc)
first_rest (o ∷ os) k e = ap (λ (j : Level). j ∷ os) (ap (λ (x : Option Level). unwrap_or x k) e)
