-- Sums of whole numbers over a range, and how they telescope.
use Rattle.std.proofs.Common.{◌≡◌, ℕ, zero, suc, ◌+◌, ◌<◌, ℤ, pos, negsuc, ◌+ℤ◌, ◌-ℤ◌, refl, ap, arith, add-one}
use Rattle.std.proofs.lemmas.Int.{ints}
use Rattle.amr_box.specs.Cells.{at_least_zero}
use Rattle.amr_def.specs.Ledger.{sum_to, below_zero}

abbrev pub sum_z : (ℕ → ℤ) → ℕ → ℤ
sum_z f zero = pos 0
sum_z f (suc n) = sum_z f n +ℤ f n

pub sum_z-add : (f g : ℕ → ℤ) (n : ℕ) → sum_z (λ i. f i +ℤ g i) n ≡ sum_z f n +ℤ sum_z g n
sum_z-add f g zero = refl
sum_z-add f g (suc n) = omega (arith, ints, sum_z-add f g n)

pub sum_z-sub : (f g : ℕ → ℤ) (n : ℕ) → sum_z (λ i. f i -ℤ g i) n ≡ sum_z f n -ℤ sum_z g n
sum_z-sub f g zero = refl
sum_z-sub f g (suc n) = omega (arith, ints, sum_z-sub f g n)

pub sum_z-same : (f g : ℕ → ℤ) (n : ℕ) → ((i : ℕ) → i < n → f i ≡ g i) → sum_z f n ≡ sum_z g n
sum_z-same f g zero h = refl
sum_z-same f g (suc n) h = omega (arith, ints, sum_z-same f g n (λ i k. h i (omega arith)), h n (omega arith))

pub telescope : (f : ℕ → ℤ) (n : ℕ) → sum_z (λ i. f i -ℤ f (i + 1)) n ≡ f 0 -ℤ f n
telescope f zero = omega (arith, ints)
telescope f (suc n) = omega (arith, ints, telescope f n, ap f (add-one n))

pub pos-sum_to : (f : ℕ → ℕ) (n : ℕ) → pos (sum_to f n) ≡ sum_z (λ i. pos (f i)) n
pos-sum_to f zero = refl
pos-sum_to f (suc n) = omega (arith, ints, pos-sum_to f n)

pub split_sign : (z : ℤ) → z ≡ pos (at_least_zero z) -ℤ pos (below_zero z)
split_sign (pos n) = omega (arith, ints)
split_sign (negsuc n) = omega (arith, ints)

-- what passes inward through both ends, less what passes outward
pub through_ends : (f g : ℕ → ℤ) (n : ℕ) → pos (sum_to (λ i. at_least_zero (f i) + below_zero (g i)) n) -ℤ pos (sum_to (λ i. below_zero (f i) + at_least_zero (g i)) n) ≡ sum_z (λ i. f i -ℤ g i) n
through_ends f g zero = refl
through_ends f g (suc n) = omega (arith, ints, through_ends f g n, split_sign (f n), split_sign (g n))

pub sum_z-zero : (f : ℕ → ℤ) (n : ℕ) → ((i : ℕ) → i < n → f i ≡ pos 0) → sum_z f n ≡ pos 0
sum_z-zero f zero h = refl
sum_z-zero f (suc n) h = omega (arith, ints, sum_z-zero f n (λ i k. h i (omega arith)), h n (omega arith))
