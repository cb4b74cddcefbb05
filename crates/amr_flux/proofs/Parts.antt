-- A list, and a part of it that was read or written.
use Rattle.std.proofs.Common.{◌≡◌, ◌≢◌, ℕ, ◌+◌, ◌-◌, ◌*◌, ◌^◌, ◌<◌, ◌≤◌, inl, inr, ℤ, pos, ◌+ℤ◌, ◌-ℤ◌, List, ◌++◌, length, get_or, take, drop, ap, ◌∙◌, arith, length-take}
use Rattle.std.specs.Prelude.{slice_index, slice_index_or}
use Rattle.std.proofs.Math.ListN.{get_or-append}
use Rattle.std.proofs.Math.Nat.{mul-le-mul_right}
use Rattle.std.proofs.lemmas.List.{get_or-append_right, get_or-drop, get_or-take, length-drop}
use Rattle.std.proofs.lemmas.List.Edits.{get_or-between}
use Rattle.std.proofs.lemmas.Bool.{cases_lt}
use borrow.Rule.Slice.PartMut.{put_mid}
use Rattle.amr_flux.specs.Rows.{net_in_row}
use Rattle.amr_faces.specs.Shares.{AreSmall}

-- ---- a part that is read

pub read : (xs : List ℕ) (a b t : ℕ) → a + t < b → slice_index (take (b - a) (drop a xs)) t ≡ slice_index xs (a + t)
read xs a b t h = get_or-between xs a b t 0 h

-- values that are such ones below 2^31
pub small_part : (part : List ℕ) (f : ℕ → ℕ) (n : ℕ) → length part ≡ n → ((k : ℕ) → k < n → slice_index part k ≡ f k) → ((k : ℕ) → k < n → f k < 2 ^ 31) → AreSmall part
small_part part f n count is small = record { at = λ k h. let below : k < n = omega (arith, h, count) in omega (arith, is k below, small k below) }

-- the values of row j from column i on stand in a patch's table, whose rows are two longer and two more
pub part_in_table : (w h i j k n : ℕ) → n ≡ (h + 2) * (w + 2) → j < h + 2 → i + k ≤ w + 2 → j * (w + 2) + i + k ≤ n
part_in_table w h i j k n e row columns =
    let all : (j + 1) * (w + 2) ≤ (h + 2) * (w + 2) = mul-le-mul_right (w + 2) (omega arith) in
    omega (arith, e, all, columns)

pub in_table : (w h i j n : ℕ) → n ≡ (h + 2) * (w + 2) → j < h + 2 → i < w + 2 → j * (w + 2) + i < n
in_table w h i j n e row column = let last : j * (w + 2) + i + 1 ≤ n = part_in_table w h i j 1 n e row (omega (arith, column)) in omega (arith, last)

-- ---- a part that was written: k entries from a on

module _ {X : Type 0} (a k : ℕ) (xs ys : List X) (d : X) (count : length ys ≡ k) (room : a + k ≤ length xs) where
  front : length (take a xs) ≡ a
  front = omega (arith, length-take a xs)

  before : (q : ℕ) → q < a → get_or (put_mid a k xs ys) q d ≡ get_or xs q d
  before q h = get_or-append (take a xs) _ d q (omega (arith, front)) ∙ get_or-take a xs q d h

  within : (t : ℕ) → t < k → get_or (put_mid a k xs ys) (a + t) d ≡ get_or ys t d
  within t h =
      let place : a + t - a ≡ t = omega arith in
      get_or-append_right (take a xs) _ a (a + t) d front (omega arith) ∙ ap (λ n. get_or (ys ++ drop k (drop a xs)) n d) place ∙ get_or-append ys _ d t (omega arith)

  after : (q : ℕ) → a + k ≤ q → get_or (put_mid a k xs ys) q d ≡ get_or xs q d
  after q h =
      let place : a + (k + (q - a - k)) ≡ q = omega arith in
      get_or-append_right (take a xs) _ a q d front (omega arith) ∙ get_or-append_right ys _ k (q - a) d count (omega arith)
      ∙ get_or-drop k (drop a xs) (q - a - k) d ∙ get_or-drop a xs (k + (q - a - k)) d ∙ ap (λ n. get_or xs n d) place

  pub written : (q t : ℕ) → q ≡ a + t → t < k → get_or (put_mid a k xs ys) q d ≡ get_or ys t d
  written q t e h = ap (λ n. get_or (put_mid a k xs ys) n d) e ∙ within t h

  pub kept : (q : ℕ) → ((t : ℕ) → t < k → q ≢ a + t) → get_or (put_mid a k xs ys) q d ≡ get_or xs q d
  kept q apart =
      elim (cases_lt q a) [
        | inl low ↦ before q low
        | inr high ↦
            elim (cases_lt q (a + k)) [
              | inl inside ↦ absurd (apart (q - a) (omega arith) (omega arith))
              | inr past ↦ after q past
            ]
      ]

-- the same in a table with r entries in a row: the part is in row j, from column s on
module _ {X : Type 0} (r j s a k : ℕ) (xs ys : List X) (d : X) (start : a ≡ j * r + s) (narrow : s + k ≤ r) (count : length ys ≡ k) (room : a + k ≤ length xs) where
  pub entry_written : (i t : ℕ) → i ≡ s + t → t < k → get_or (put_mid a k xs ys) (j * r + i) d ≡ get_or ys t d
  entry_written i t e h = written a k xs ys d count room (j * r + i) t (omega arith) h

-- the sizes from a place on
pub rest_small : (border : List ℕ) (used : ℕ) → AreSmall border → AreSmall (take (length border - used) (drop used border))
rest_small border used small =
    let n = length border - used in
    small_part (take n (drop used border)) (λ t. slice_index border (used + t)) n (omega (arith, length-take n (drop used border), length-drop used border))
    (λ t h. get_or-between border used (length border) t 0 (omega (arith, h))) (λ t h. small.at (used + t) (omega (arith, h)))

-- what comes in by the first entries of longer lists
pub inflow_part : (xs ls hs : List ℤ) (w t : ℕ) → t < w → net_in_row (take (w + 1) xs) (take w ls) (take w hs) t ≡ net_in_row xs ls hs t
inflow_part xs ls hs w t h =
    let west : slice_index_or (take (w + 1) xs) t (pos 0) ≡ slice_index_or xs t (pos 0) = get_or-take (w + 1) xs t (pos 0) (omega arith) in
    let east : slice_index_or (take (w + 1) xs) (t + 1) (pos 0) ≡ slice_index_or xs (t + 1) (pos 0) = get_or-take (w + 1) xs (t + 1) (pos 0) (omega arith) in
    let south : slice_index_or (take w ls) t (pos 0) ≡ slice_index_or ls t (pos 0) = get_or-take w ls t (pos 0) h in
    let north : slice_index_or (take w hs) t (pos 0) ≡ slice_index_or hs t (pos 0) = get_or-take w hs t (pos 0) h in
    λ i. (west i -ℤ east i) +ℤ (south i -ℤ north i)
