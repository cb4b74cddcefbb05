-- Boxes on multiples of an even number, chopped by an even size, have even low and odd high coordinates.
use Rattle.std.proofs.Common.{◌≡◌, ◌∙◌, ℕ, zero, suc, ◌+◌, ◌-◌, ◌*◌, ◌/◌, ◌%◌, ◌<◌, ◌≤◌, Bool, true, false, ℤ, pos, negsuc, ◌+ℤ◌, List, [], ◌∷◌, length, map, ap, arith}
use Rattle.std.specs.Prelude.{cond, int_lt, slice_index_or}
use Rattle.std.specs.List.{All, flat_map, range_with_len}
use Rattle.std.specs.List.Sorted.{IsPermutation}
use Rattle.std.specs.Int.{int_min, int_rem_euclid}
use Rattle.std.proofs.lemmas.Int.{ints}
use Rattle.std.proofs.lemmas.List.Elements.{All-append, All-cons, All-nil}
use Rattle.std.proofs.lemmas.List.Sorted.{All-permutation}
use Rattle.amr_box.specs.Cells.{Extent, half, height, width}
use Rattle.amr_def.specs.declared.problem.Problem.{Problem}
use Rattle.amr_def.specs.Facts.{IsAligned}
use Rattle.amr_def.specs.Regrid.{odd}
use Rattle.amr_def.proofs.Nesting.{aligned_even}
use Rattle.amr_def.proofs.Nests.{IsEven, half_and_odd}
use Rattle.amr_patch.specs.declared.patches.Patch.{Patch}
use Rattle.amr_patch.specs.Patches.{box}
use Rattle.amr_boxlist.specs.Chopped.{chopped, patch_box, patch_box_count, patch_box_row}
use Rattle.amr_transfer.specs.Sums.{AreCoarsenable}

-- ---- even numbers

even_rem : (z h : ℤ) → z ≡ h +ℤ h → int_rem_euclid z (pos 2) ≡ pos 0
even_rem z h e = ap (λ (y : ℤ). int_rem_euclid y (pos 2)) e ∙ doubled h
  where
    doubled : (h : ℤ) → int_rem_euclid (h +ℤ h) (pos 2) ≡ pos 0
    doubled (pos n) = ap pos (omega arith)
    doubled (negsuc n) = omega (arith, ints)

-- a low coordinate that is even, so many even steps on
low_even : (low : ℤ) (n k : ℕ) → odd low ≡ 0 → n % 2 ≡ 0 → int_rem_euclid (low +ℤ pos (n * k)) (pos 2) ≡ pos 0
low_even low n k e even =
    let twice : n ≡ n / 2 + n / 2 = omega (arith, even) in
    let steps : n * k ≡ n / 2 * k + n / 2 * k = ap (λ (m : ℕ). m * k) twice ∙ omega arith in
    even_rem (low +ℤ pos (n * k)) (half low +ℤ pos (n / 2 * k)) (omega (arith, ints, half_and_odd low, e, steps))

-- the lower of two numbers that are odd
next_even : (a b : ℤ) → int_rem_euclid (a +ℤ pos 1) (pos 2) ≡ pos 0 → int_rem_euclid (b +ℤ pos 1) (pos 2) ≡ pos 0 → int_rem_euclid (int_min a b +ℤ pos 1) (pos 2) ≡ pos 0
next_even a b x y = by_test (int_lt b a)
  where
    by_test : (t : Bool) → int_rem_euclid (cond t b a +ℤ pos 1) (pos 2) ≡ pos 0
    by_test true = y
    by_test false = x

last_even : (low high : ℤ) (n k : ℕ) → odd low ≡ 0 → odd high ≡ 1 → n % 2 ≡ 0 → 1 ≤ n → int_rem_euclid (int_min (low +ℤ pos (n * k + (n - 1))) high +ℤ pos 1) (pos 2) ≡ pos 0
last_even low high n k e f even some =
    let next : low +ℤ pos (n * k + (n - 1)) +ℤ pos 1 ≡ low +ℤ pos (n * (k + 1)) = omega (arith, ints, some) in
    next_even (low +ℤ pos (n * k + (n - 1))) high
    (ap (λ (z : ℤ). int_rem_euclid z (pos 2)) next ∙ low_even low n (k + 1) e even)
    (even_rem (high +ℤ pos 1) (half high +ℤ pos 1) (omega (arith, ints, half_and_odd high, f)))

-- ---- lists

all_mapped : {A : Type 0} (f : A → Extent) (P : Extent → Type 0) (xs : List A) → ((x : A) → P (f x)) → All P (map f xs)
all_mapped f P [] h = All-nil P
all_mapped f P (x ∷ xs) h = All-cons P (f x) (map f xs) (h x) (all_mapped f P xs h)

all_joined : {A : Type 0} (f : A → List Extent) (P : Extent → Type 0) (xs : List A) → ((k : ℕ) (d : A) → k < length xs → All P (f (slice_index_or xs k d))) → All P (flat_map f xs)
all_joined f P [] h = All-nil P
all_joined f P (x ∷ xs) h = All-append P (f x) (flat_map f xs) (h 0 x (omega arith)) (all_joined f P xs (λ k d lt. h (suc k) d (omega arith)))

all_boxes : (P : Extent → Type 0) (ps : List Patch) → All P (map box ps) → All (λ q. P (box q)) ps
all_boxes P [] h k d lt = absurd (omega arith)
all_boxes P (q ∷ qs) h zero d lt = h 0 (box q) (omega arith)
all_boxes P (q ∷ qs) h (suc k) d lt = all_boxes P qs (λ j e l. h (suc j) e (omega arith)) k d (omega arith)

-- ---- boxes

patch_even : (n : ℕ) (b : Extent) → n % 2 ≡ 0 → 1 ≤ n → IsEven b → (i j : ℕ) → IsAligned 2 (patch_box n b i j)
patch_even n b even some e i j = record {
  west = low_even b.lo.x n i e.0 even;
  south = low_even b.lo.y n j e.1 even;
  east = last_even b.lo.x b.hi.x n i e.0 e.2 even some;
  north = last_even b.lo.y b.hi.y n j e.1 e.3 even some;
}

chopped_even : (n : ℕ) (b : Extent) → n % 2 ≡ 0 → 1 ≤ n → IsEven b → All (IsAligned 2) (chopped n b)
chopped_even n b even some e =
    all_joined (patch_box_row n b) (IsAligned 2) (range_with_len 0 (patch_box_count n (height b))) (λ k d lt.
    let j = slice_index_or (range_with_len 0 (patch_box_count n (height b))) k d in
    all_mapped (λ i. patch_box n b i j) (IsAligned 2) (range_with_len 0 (patch_box_count n (width b))) (λ i. patch_even n b even some e i j))

pub all_coarsenable : (p : Problem) (boxes : List Extent) (ps : List Patch) → All (IsAligned p.blocking) boxes → IsPermutation (flat_map (chopped p.max_grid_size) boxes) (map box ps) → AreCoarsenable ps
all_coarsenable p boxes ps aligned order =
    let n = p.max_grid_size in
    let parts : All (IsAligned 2) (flat_map (chopped n) boxes) =
    all_joined (chopped n) (IsAligned 2) boxes (λ k d lt. chopped_even n (slice_index_or boxes k d) p.limits.even_max_grid_size (omega (arith, p.limits.least_max_grid_size)) (aligned_even p.blocking (slice_index_or boxes k d) p.limits.blocking_factor (aligned k d lt))) in
    all_boxes (IsAligned 2) ps (All-permutation (IsAligned 2) (flat_map (chopped n) boxes) (map box ps) order parts)
