-- Graham's bound for list scheduling.
use Rattle.std.proofs.Common.{◌≡◌, ℕ, zero, suc, ◌+◌, ◌*◌, ◌<◌, ◌≤◌, ◌==◌, cond, List, [], ◌∷◌, ◌++◌, length, get_or, max, take, sum, sym, ap, subst, ◌∙◌, inl, inr, arith, add-one, mul-add, suc-mul}
use Rattle.std.proofs.Math.Nat.{mul-le-mul_left}
use Rattle.std.proofs.lemmas.Bool.Decides.{eqb_tells}
use Rattle.std.proofs.lemmas.List.{take_more}
use Rattle.amr_balance.specs.Shares.{Owner, IsLeast, IsFair, load, largest}
use Rattle.amr_balance.proofs.Owners.{load_more}
use Rattle.amr_balance.proofs.Loads.{loads_together, taken_more, least_is_low}

-- the largest of some areas and one more
largest-append : (xs : List ℕ) (a : ℕ) → largest (xs ++ a ∷ []) ≡ max (largest xs) a
largest-append [] a = omega arith
largest-append (x ∷ xs) a = omega (arith, largest-append xs a)

largest_more : (areas : List ℕ) (n : ℕ) → n < length areas → largest (take (suc n) areas) ≡ max (largest (take n areas)) (get_or areas n 0)
largest_more areas n there = ap largest (ap (λ k. take k areas) (sym (add-one n)) ∙ take_more areas n 0 there) ∙ largest-append (take n areas) (get_or areas n 0)

-- each worker's load, so many times, is at most all that was given out and the largest of it for each other worker
pub balanced : (areas : List ℕ) (others n : ℕ) (owner : Owner) → IsFair areas (suc others) n owner → n ≤ length areas → (w : ℕ) → w < suc others
    → suc others * load areas owner n w ≤ sum (take n areas) + others * largest (take n areas)
balanced areas others zero owner h there w below = omega arith
balanced areas others (suc n) owner h there w below =
    let a = get_or areas n 0 in
    let L = largest (take n areas) in
    let M = largest (take (suc n) areas) in
    let fair : IsFair areas (suc others) n owner = record { each = λ k under. h.each k (omega arith) } in
    let before : suc others * load areas owner n w ≤ sum (take n areas) + others * L = balanced areas others n owner fair (omega arith) w below in
    let least : IsLeast (suc others) (load areas owner n) (owner n) = h.each n (omega arith) in
    let low : suc others * load areas owner n (owner n) ≤ sum (take n areas) =
    subst (λ (t : ℕ). suc others * load areas owner n (owner n) ≤ t) (loads_together areas (suc others) n owner (λ k under. (fair.each k under).there) (omega arith))
    (least_is_low (suc others) (load areas owner n) (owner n) (suc others) least (omega arith)) in
    let total : sum (take (suc n) areas) ≡ sum (take n areas) + a = taken_more areas n there in
    let larger : M ≡ max L a = largest_more areas n there in
    let up_old : others * L ≤ others * M = mul-le-mul_left others (omega arith) in
    let up_new : others * a ≤ others * M = mul-le-mul_left others (omega arith) in
    let more : load areas owner (suc n) w ≡ load areas owner n w + cond (owner n == w) a 0 = load_more areas owner n w in
    elim (eqb_tells (owner n) w) [
      | inl here ↦
          let is : load areas owner (suc n) w ≡ load areas owner n (owner n) + a = more ∙ ap (λ b. load areas owner n w + cond b a 0) here.0 ∙ ap (λ v. load areas owner n v + a) (sym here.1) in
          let goal : suc others * (load areas owner n (owner n) + a) ≤ sum (take (suc n) areas) + others * M = omega (arith, mul-add (suc others) (load areas owner n (owner n)) a, suc-mul others a) in
          subst (λ (x : ℕ). suc others * x ≤ sum (take (suc n) areas) + others * M) (sym is) goal
      | inr other ↦
          let is : load areas owner (suc n) w ≡ load areas owner n w = more ∙ ap (λ b. load areas owner n w + cond b a 0) other.0 ∙ omega arith in
          subst (λ (x : ℕ). suc others * x ≤ sum (take (suc n) areas) + others * M) (sym is) (omega arith)
    ]
