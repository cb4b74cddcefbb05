-- Sums over lists.
use Rattle.std.proofs.Common.{◌≡◌, ℕ, zero, suc, ◌+◌, ◌<◌, ◌≤◌, min, List, [], ◌∷◌, length, get_or, set, take, drop, refl, arith, add-one}
use Rattle.amr_phase.specs.Plans.{total}

module _ {X : Type 0} where
  -- one more value, as at a step of a loop
  pub total_more : (f : X → ℕ) (xs : List X) (n : ℕ) (d : X) → n < length xs → total f (take (n + 1) xs) ≡ total f (take n xs) + f (get_or xs n d)
  total_more f xs n d h = rw add-one (go f xs n d h)
    where
      go : (f : X → ℕ) (xs : List X) (n : ℕ) (d : X) → n < length xs → total f (take (suc n) xs) ≡ total f (take n xs) + f (get_or xs n d)
      go f [] n d h = absurd (omega arith)
      go f (x ∷ xs) zero d h = let r : f x + 0 ≡ 0 + f x = omega arith in r
      go f (x ∷ xs) (suc n) d h = let k = go f xs n d (omega arith) in let r : f x + total f (take (suc n) xs) ≡ (f x + total f (take n xs)) + f (get_or xs n d) = omega arith in r

  pub total_le : (f : X → ℕ) (xs : List X) (i : ℕ) (d : X) → i < length xs → f (get_or xs i d) ≤ total f xs
  total_le f [] i d h = absurd (omega arith)
  total_le f (x ∷ xs) zero d h = let r : f x ≤ f x + total f xs = omega arith in r
  total_le f (x ∷ xs) (suc i) d h = let k = total_le f xs i d (omega arith) in let r : f (get_or xs i d) ≤ f x + total f xs = omega arith in r

  pub total_take : (f : X → ℕ) (xs : List X) (n : ℕ) → total f (take n xs) ≤ total f xs
  total_take f xs zero = let r : 0 ≤ total f xs = omega arith in r
  total_take f [] (suc n) = let r : 0 ≤ 0 = omega arith in r
  total_take f (x ∷ xs) (suc n) = let h = total_take f xs n in let r : f x + total f (take n xs) ≤ f x + total f xs = omega arith in r

  pub total_take_drop : (f : X → ℕ) (xs : List X) (n : ℕ) → total f (take n xs) + total f (drop n xs) ≡ total f xs
  total_take_drop f xs zero = let r : 0 + total f xs ≡ total f xs = omega arith in r
  total_take_drop f [] (suc n) = refl
  total_take_drop f (x ∷ xs) (suc n) = let h = total_take_drop f xs n in let r : (f x + total f (take n xs)) + total f (drop n xs) ≡ f x + total f xs = omega arith in r

  -- where each value is 0, so is the sum
  pub total_zero : (f : X → ℕ) (xs : List X) (d : X) → ((i : ℕ) → i < length xs → f (get_or xs i d) ≡ 0) → total f xs ≡ 0
  total_zero f [] d z = refl
  total_zero f (x ∷ xs) d z =
      let a : f x ≡ 0 = z 0 (omega arith) in
      let b : total f xs ≡ 0 = total_zero f xs d (λ i lt. z (suc i) (omega arith)) in
      let r : f x + total f xs ≡ 0 = omega arith in r

  -- where the sum is 0, so is the sum of what is 0 with it
  pub zero_too : (f g : X → ℕ) (xs : List X) → ((x : X) → f x ≡ 0 → g x ≡ 0) → total f xs ≡ 0 → total g xs ≡ 0
  zero_too f g [] z h = refl
  zero_too f g (x ∷ xs) z h =
      let h' : f x + total f xs ≡ 0 = h in
      let a : g x ≡ 0 = z x (omega arith) in
      let b : total g xs ≡ 0 = zero_too f g xs z (omega arith) in
      let r : g x + total g xs ≡ 0 = omega arith in r

  pub total_set : (f : X → ℕ) (xs : List X) (i : ℕ) (y d : X) → i < length xs → total f (set xs i y) + f (get_or xs i d) ≡ total f xs + f y
  total_set f [] i y d h = absurd (omega arith)
  total_set f (x ∷ xs) zero y d h = let r : (f y + total f xs) + f x ≡ (f x + total f xs) + f y = omega arith in r
  total_set f (x ∷ xs) (suc i) y d h = let k = total_set f xs i y d (omega arith) in let r : (f x + total f (set xs i y)) + f (get_or xs i d) ≡ (f x + total f xs) + f y = omega arith in r

  -- within the list every default reads the same
  pub same_default : (xs : List X) (i : ℕ) (d e : X) → i < length xs → get_or xs i d ≡ get_or xs i e
  same_default [] i d e lt = absurd (omega arith)
  same_default (x ∷ xs) zero d e lt = refl
  same_default (x ∷ xs) (suc i) d e lt = same_default xs i d e (omega arith)
