-- The loads of all workers together, and the least of them.
use Rattle.std.proofs.Common.{◌≡◌, ℕ, zero, suc, ◌+◌, ◌*◌, ◌<◌, ◌≤◌, ◌==◌, cond, List, length, get_or, take, sum, refl, sym, ap, ◌∙◌, inl, inr, arith, ne_eqb, add-one, zero-mul, suc-mul}
use Rattle.std.proofs.Math.Numerals.{lt_of_le_of_ne}
use Rattle.std.proofs.lemmas.Bool.Decides.{eqb_tells}
use Rattle.std.proofs.lemmas.List.{take_more}
use Rattle.std.proofs.lemmas.List.Sums.{sum_by_push}
use Rattle.amr_balance.specs.Shares.{Owner, IsLeast, load}
use Rattle.amr_balance.proofs.Owners.{load_more}

-- f 0 + .. + f (n - 1)
abbrev pub sum_to : (ℕ → ℕ) → ℕ → ℕ
sum_to f zero = 0
sum_to f (suc n) = sum_to f n + f n

pub sum_to-same : (f g : ℕ → ℕ) (n : ℕ) → ((k : ℕ) → f k ≡ g k) → sum_to f n ≡ sum_to g n
sum_to-same f g zero h = refl
sum_to-same f g (suc n) h = omega (arith, sum_to-same f g n h, h n)

-- more for one worker beyond the first n is nothing for these
none_more : (f : ℕ → ℕ) (o a n : ℕ) → n ≤ o → sum_to (λ w. f w + cond (o == w) a 0) n ≡ sum_to f n
none_more f o a zero h = refl
none_more f o a (suc n) h =
    let other : cond (o == n) a 0 ≡ 0 = ap (λ b. cond b a 0) (ne_eqb o n (λ e. omega arith)) in
    omega (arith, none_more f o a n (omega arith), other)

one_more : (f : ℕ → ℕ) (o a n : ℕ) → o < n → sum_to (λ w. f w + cond (o == w) a 0) n ≡ sum_to f n + a
one_more f o a zero h = elim h [ ]
one_more f o a (suc n) h = elim (eqb_tells o n) [
  | inl here ↦
      let is : cond (o == n) a 0 ≡ a = ap (λ b. cond b a 0) here.0 in
      omega (arith, none_more f o a n (omega (arith, here.1)), is)
  | inr other ↦
      let is : cond (o == n) a 0 ≡ 0 = ap (λ b. cond b a 0) other.0 in
      let below : o < n = lt_of_le_of_ne (omega arith) other.1 in
      omega (arith, one_more f o a n below, is)
]

no_loads : (areas : List ℕ) (owner : Owner) (workers : ℕ) → sum_to (load areas owner 0) workers ≡ 0
no_loads areas owner zero = refl
no_loads areas owner (suc n) = omega (arith, no_loads areas owner n)

-- one more of some areas
pub taken_more : (areas : List ℕ) (n : ℕ) → n < length areas → sum (take (suc n) areas) ≡ sum (take n areas) + get_or areas n 0
taken_more areas n there = ap sum (ap (λ k. take k areas) (sym (add-one n)) ∙ take_more areas n 0 there) ∙ sum_by_push (λ x. x) (take n areas) (get_or areas n 0)

-- the workers' loads together are the areas given out
pub loads_together : (areas : List ℕ) (workers n : ℕ) (owner : Owner) → ((k : ℕ) → k < n → owner k < workers) → n ≤ length areas → sum_to (load areas owner n) workers ≡ sum (take n areas)
loads_together areas workers zero owner h there = no_loads areas owner workers
loads_together areas workers (suc n) owner h there =
    let before = loads_together areas workers n owner (λ k below. h k (omega arith)) (omega arith) in
    let parts : sum_to (load areas owner (suc n)) workers ≡ sum_to (λ w. load areas owner n w + cond (owner n == w) (get_or areas n 0) 0) workers = sum_to-same (load areas owner (suc n)) (λ w. load areas owner n w + cond (owner n == w) (get_or areas n 0) 0) workers (load_more areas owner n) in
    let more : sum_to (λ w. load areas owner n w + cond (owner n == w) (get_or areas n 0) 0) workers ≡ sum_to (load areas owner n) workers + get_or areas n 0 = one_more (load areas owner n) (owner n) (get_or areas n 0) workers (h n (omega arith)) in
    omega (arith, before, parts, more, taken_more areas n there)

-- so many times the least of the loads is at most all of them
pub least_is_low : (workers : ℕ) (f : ℕ → ℕ) (w n : ℕ) → IsLeast workers f w → n ≤ workers → n * f w ≤ sum_to f n
least_is_low workers f w zero h few = omega (arith, zero-mul (f w))
least_is_low workers f w (suc n) h few = omega (arith, suc-mul n (f w), least_is_low workers f w n h (omega arith), h.least n few)

-- each is at most all together
pub part_of : (f : ℕ → ℕ) (w n : ℕ) → w < n → f w ≤ sum_to f n
part_of f w zero h = elim h [ ]
part_of f w (suc n) h = elim (eqb_tells w n) [
  | inl here ↦ omega (arith, ap f here.1)
  | inr other ↦ omega (arith, part_of f w n (lt_of_le_of_ne (omega arith) other.1))
]
