-- One more entry of a mask is set, one more face counted, and one more patch has its mask.
use Rattle.std.proofs.Common.{◌≡◌, ◌≢◌, ℕ, suc, ◌+◌, ◌*◌, ◌<◌, ◌≤◌, ◌⊎◌, inl, inr, Bool, false, List, [], ◌∷◌, ◌++◌, length, get_or, set, sym, ap, subst, ◌∙◌, arith}
use Rattle.std.specs.Prelude.{slice_index_or}
use Rattle.std.specs.List.{AllZip}
use Rattle.std.proofs.Math.ListN.{get_or-append}
use Rattle.std.proofs.lemmas.Bool.{cases_eq, cases_lt}
use Rattle.std.proofs.lemmas.List.{get_or-append-add, get_or-set_other, get_or-set_same}
use Rattle.std.proofs.lemmas.Nat.{same_from_place}
use Rattle.std.proofs.Math.Nat.{mul-le-mul_right}
use Rattle.amr_def.specs.Domain.{Domain}
use Rattle.amr_patch.specs.declared.patches.Patch.{Patch}
use Rattle.amr_layout.specs.declared.PatchLayout.{PatchLayout}
use Rattle.amr_layout.specs.Places.{HasMask}

-- entry j is set: those before it stay
module _ (at : ℕ → ℕ) (want : ℕ → Bool) (mask : List Bool) (j : ℕ) (value : Bool) (there : at j < length mask) (is : value ≡ want j) where
  pub told_more : ((k : ℕ) → k < j → at k ≢ at j) → ((k : ℕ) → k < j → slice_index_or mask (at k) false ≡ want k) → (k : ℕ) → k < j + 1 → slice_index_or (set mask (at j) value) (at k) false ≡ want k
  told_more apart before k below = from (cases_eq k j)
    where
      from : (k ≡ j) ⊎ (k ≢ j) → slice_index_or (set mask (at j) value) (at k) false ≡ want k
      from (inl e) = ap (λ n. slice_index_or (set mask (at j) value) (at n) false) e ∙ get_or-set_same mask (at j) value false there ∙ is ∙ ap want (sym e)
      from (inr ne) = let lt : k < j = omega (arith, below, ne) in get_or-set_other mask (at j) (at k) value false (apart k lt) ∙ before k lt

-- an entry at another place stays
pub told_still : (mask : List Bool) (n m : ℕ) (value want : Bool) → m ≢ n → slice_index_or mask m false ≡ want → slice_index_or (set mask n value) m false ≡ want
told_still mask n m value want ne is = get_or-set_other mask n m value false ne ∙ is

-- the ends of two rows, the cells beyond two columns, and one of each, stand apart
pub ends_apart : (w k j : ℕ) → k < j → (k + 1) * (w + 2) + (w + 1) ≢ (j + 1) * (w + 2) + (w + 1)
ends_apart w k j lt e = let same = same_from_place (k + 1) (w + 1) (j + 1) (w + 1) (w + 2) (omega arith) (omega arith) e in omega (arith, same.0, lt)

pub tops_apart : (w h k i : ℕ) → k < i → (h + 1) * (w + 2) + (k + 1) ≢ (h + 1) * (w + 2) + (i + 1)
tops_apart w h k i lt e = omega (arith, e, lt)

pub end_and_top_apart : (w h k i : ℕ) → k < h → i < w → (k + 1) * (w + 2) + (w + 1) ≢ (h + 1) * (w + 2) + (i + 1)
end_and_top_apart w h k i lt narrow e = let same = same_from_place (k + 1) (w + 1) (h + 1) (i + 1) (w + 2) (omega arith) (omega (arith, narrow)) e in omega (arith, same.0, lt)

-- they are within the mask
pub end_within : (w h j n : ℕ) → n ≡ (h + 2) * (w + 2) → j < h → (j + 1) * (w + 2) + (w + 1) < n
end_within w h j n e lt =
    let step : (j + 1) * (w + 2) ≤ h * (w + 2) = mul-le-mul_right (w + 2) (let le : j + 1 ≤ h = omega (arith, lt) in le) in
    let all : (h + 2) * (w + 2) ≡ h * (w + 2) + 2 * (w + 2) = omega arith in
    omega (arith, e, step, all)

pub top_within : (w h i n : ℕ) → n ≡ (h + 2) * (w + 2) → i < w → (h + 1) * (w + 2) + (i + 1) < n
top_within w h i n e lt =
    let all : (h + 2) * (w + 2) ≡ (h + 1) * (w + 2) + (w + 2) = omega arith in
    omega (arith, e, all, lt)

-- one more patch has its mask
pub masks_more : (d : Domain) (ps : List Patch) (each i : ℕ) (ts : List PatchLayout) (new : PatchLayout) → length ts ≡ i → ((q : Patch) → HasMask d ps each (get_or ps i q) new)
    → ((k : ℕ) (q : Patch) (t : PatchLayout) → k < i → HasMask d ps each (get_or ps k q) (get_or ts k t)) → (k : ℕ) (q : Patch) (t : PatchLayout) → k < i + 1 → HasMask d ps each (get_or ps k q) (get_or (ts ++ new ∷ []) k t)
masks_more d ps each i ts new count last before k q t below = from (cases_lt k i)
  where
    from : (k < i) ⊎ (i ≤ k) → HasMask d ps each (get_or ps k q) (get_or (ts ++ new ∷ []) k t)
    from (inl lt) = subst (HasMask d ps each (get_or ps k q)) (sym (get_or-append ts (new ∷ []) t k (omega (arith, lt, count)))) (before k q t lt)
    from (inr past) =
        let here : k ≡ i = omega (arith, past, below) in
        let at : get_or (ts ++ new ∷ []) k t ≡ new = ap (λ n. get_or (ts ++ new ∷ []) n t) (here ∙ sym count ∙ (let z : length ts ≡ length ts + 0 = omega arith in z)) ∙ get_or-append-add ts (new ∷ []) 0 t in
        let P : ℕ → Type 0 = λ n. HasMask d ps each (get_or ps n q) new in
        subst (HasMask d ps each (get_or ps k q)) (sym at) (subst P (sym here) (last q))

-- as lists that go side by side
pub masks_all : (d : Domain) (ps : List Patch) (each : ℕ) (qs : List Patch) (ts : List PatchLayout) → length ts ≡ length qs → ((k : ℕ) (q : Patch) (t : PatchLayout) → k < length qs → HasMask d ps each (get_or qs k q) (get_or ts k t)) → AllZip (HasMask d ps each) qs ts
masks_all d ps each [] [] e h = tt
masks_all d ps each [] (t ∷ ts) e h = absurd (omega arith)
masks_all d ps each (q ∷ qs) [] e h = absurd (omega arith)
masks_all d ps each (q ∷ qs) (t ∷ ts) e h = (h 0 q t (omega arith), masks_all d ps each qs ts (omega (arith, e)) (λ k r u lt. h (suc k) r u (omega (arith, lt))))
