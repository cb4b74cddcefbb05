-- Totals over lists.
use Rattle.std.proofs.Common.{◌≡◌, ℕ, suc, ◌+◌, ◌*◌, ◌≤◌, List, [], ◌∷◌, ◌++◌, map, refl, arith}
use Rattle.std.specs.List.{All}
use Rattle.amr_phase.specs.Plans.{total}

module _ {X : Type 0} where
  pub total_append : (f : X → ℕ) (xs ys : List X) → total f (xs ++ ys) ≡ total f xs + total f ys
  total_append f [] ys = omega arith
  total_append f (x ∷ xs) ys = let rest = total_append f xs ys in let r : f x + total f (xs ++ ys) ≡ (f x + total f xs) + total f ys = omega (arith, rest) in r

  pub total_each : (f g : X → ℕ) (xs : List X) → All (λ x. f x ≡ g x) xs → total f xs ≡ total g xs
  total_each f g [] h = refl
  total_each f g (x ∷ xs) h = λ i. h 0 x (omega arith) i + total_each f g xs (λ k d lt. h (suc k) d (omega arith)) i

  pub total_add : (f g : X → ℕ) (xs : List X) → total (λ x. f x + g x) xs ≡ total f xs + total g xs
  total_add f g [] = refl
  total_add f g (x ∷ xs) = let rest = total_add f g xs in let r : (f x + g x) + total (λ y. f y + g y) xs ≡ (f x + total f xs) + (g x + total g xs) = omega (arith, rest) in r

  pub total_most : (f g : X → ℕ) (k : ℕ) (xs : List X) → All (λ x. f x ≤ k * g x) xs → total f xs ≤ k * total g xs
  total_most f g k [] h = omega arith
  total_most f g k (x ∷ xs) h =
      let rest : total f xs ≤ k * total g xs = total_most f g k xs (λ j d lt. h (suc j) d (omega (arith, lt))) in
      let here : f x ≤ k * g x = h 0 x (omega arith) in
      let r : f x + total f xs ≤ k * (g x + total g xs) = omega (arith, here, rest) in r

pub total_image : {X Y : Type 0} (f : Y → ℕ) (g : X → Y) (h : X → ℕ) → ((x : X) → f (g x) ≡ h x) → (xs : List X) → total f (map g xs) ≡ total h xs
total_image f g h same [] = refl
total_image f g h same (x ∷ xs) = λ i. same x i + total_image f g h same xs i
