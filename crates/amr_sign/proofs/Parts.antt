-- Signatures of a box of rows of bits.
use Rattle.std.proofs.Common.{◌≡◌, ◌≢◌, ◌⊎◌, inl, inr, length, ℕ, ◌+◌, ◌-◌, ◌*◌, ◌/◌, ◌%◌, ◌<◌, ◌≤◌, ℤ, pos, ◌+ℤ◌, ◌-ℤ◌, List, map, drop, sym, ap, ◌∙◌, arith}
use Rattle.std.specs.Prelude.{◌==◌, slice_index, slice_set}
use Rattle.std.specs.Int.{bit_at}
use Rattle.std.specs.List.{range_with_len, slice_range}
use Rattle.std.proofs.lemmas.Int.{ints}
use Rattle.std.proofs.lemmas.List.{get_or-take, get_or-drop, get_or-set_same, get_or-set_other}
use Rattle.std.proofs.lemmas.Bool.{cases_lt}
use Rattle.amr_box.specs.declared.Axis.TheVariants.{X, Y}
use Rattle.amr_box.specs.Cells.{Extent, at_least_zero, width, height}
use Rattle.amr_def.specs.Signature.{signature}
use Rattle.amr_sign.specs.Counts.{count_to}
use Rattle.amr_sign.specs.Words.{bit_cells, bit_of, is_bit_set, row_bit}
use Rattle.amr_sign.proofs.Counts.{at, columns-are, rows-are, count_to-same, map_to-same}
use Rattle.amr_sign.proofs.Bits.{count_to-same_below}

-- a bit of the row that a loop has come to
pub row_bit-slice : (words : List ℕ) (per_row y x : ℕ) → x < 64 * per_row → row_bit (slice_range words (y * per_row) ((y + 1) * per_row)) x ≡ bit_of per_row words x y
row_bit-slice words per_row y x inside =
    let size : (y + 1) * per_row - y * per_row ≡ per_row = omega arith in
    let short : x / 64 < (y + 1) * per_row - y * per_row = omega arith in
    ap (λ (w : ℕ). bit_at w (x % 64) == 1) (get_or-take ((y + 1) * per_row - y * per_row) (drop (y * per_row) words) (x / 64) 0 short ∙ get_or-drop (y * per_row) words (x / 64) 0)

pub row-count : (words : List ℕ) (per_row west east south y : ℕ) → south ≤ y → east < 64 * per_row → count_to (λ i. row_bit (slice_range words (y * per_row) ((y + 1) * per_row)) (west + i)) (east + 1 - west) ≡ count_to (λ i. bit_of per_row words (west + i) (south + (y - south))) (east + 1 - west)
row-count words per_row west east south y from inside =
    let place : y ≡ south + (y - south) = omega arith in
    count_to-same_below _ _ (east + 1 - west) (λ i h. row_bit-slice words per_row y (west + i) (omega arith) ∙ ap (bit_of per_row words (west + i)) place)

pub row-counted : (f : ℕ → ℕ) (counts : List ℕ) (p next value : ℕ) → next ≡ p + 1 → p < length counts → ((j : ℕ) → j < p → slice_index counts j ≡ f j) → value ≡ f p → (j : ℕ) → j < next → slice_index (slice_set counts p value) j ≡ f j
row-counted f counts p next value e inside so_far is j h = choose (cases_lt j p)
  where
    choose : (j < p) ⊎ (p ≤ j) → slice_index (slice_set counts p value) j ≡ f j
    choose (inl a) = let ne : j ≢ p = omega arith in get_or-set_other counts p j value 0 ne ∙ so_far j a
    choose (inr a) = let same : j ≡ p = omega arith in rw same (get_or-set_same counts p value 0 inside ∙ is)

-- ---- the signatures of a window

-- a box by its first and last column and row
pub record IsWindow (part : Extent) (west east south north : ℕ) : Type 0 where
  pub west_is : pos west ≡ part.lo.x
  pub east_is : pos east ≡ part.hi.x
  pub south_is : pos south ≡ part.lo.y
  pub north_is : pos north ≡ part.hi.y
  pub wide : west ≤ east
  pub high : south ≤ north

size-of : (low high : ℕ) (lo hi : ℤ) → pos low ≡ lo → pos high ≡ hi → low ≤ high → at_least_zero (hi +ℤ pos 1 -ℤ lo) ≡ high + 1 - low
size-of low high lo hi e f h = let is : (hi +ℤ pos 1 -ℤ lo) ≡ pos (high + 1 - low) = omega (arith, ints) in ap at_least_zero is

place-of : (low i : ℕ) (lo : ℤ) → pos low ≡ lo → at_least_zero (lo +ℤ pos i) ≡ low + i
place-of low i lo e = ap (λ (z : ℤ). at_least_zero (z +ℤ pos i)) (sym e)

module _ (words : List ℕ) (per_row : ℕ) (part : Extent) (west east south north : ℕ) (window : IsWindow part west east south north) where
  at-window : (i j : ℕ) → at (is_bit_set words per_row) part i j ≡ bit_of per_row words (west + i) (south + j)
  at-window i j =
      ap (λ (x : ℕ). bit_of per_row words x (at_least_zero (part.lo.y +ℤ pos j))) (place-of west i part.lo.x window.west_is)
      ∙ ap (bit_of per_row words (west + i)) (place-of south j part.lo.y window.south_is)

  pub signature-columns : signature X (bit_cells words per_row part) part ≡ map (λ i. count_to (λ j. bit_of per_row words (west + i) (south + j)) (north + 1 - south)) (range_with_len 0 (east + 1 - west))
  signature-columns =
      columns-are (is_bit_set words per_row) part
      ∙ ap (λ (n : ℕ). map (λ i. count_to (at (is_bit_set words per_row) part i) n) (range_with_len 0 (width part))) (size-of south north part.lo.y part.hi.y window.south_is window.north_is window.high)
      ∙ ap (λ (n : ℕ). map (λ i. count_to (at (is_bit_set words per_row) part i) (north + 1 - south)) (range_with_len 0 n)) (size-of west east part.lo.x part.hi.x window.west_is window.east_is window.wide)
      ∙ map_to-same _ _ (east + 1 - west) (λ i h. count_to-same _ _ (north + 1 - south) (λ j. at-window i j))

  pub signature-rows : signature Y (bit_cells words per_row part) part ≡ map (λ j. count_to (λ i. bit_of per_row words (west + i) (south + j)) (east + 1 - west)) (range_with_len 0 (north + 1 - south))
  signature-rows =
      rows-are (is_bit_set words per_row) part
      ∙ ap (λ (n : ℕ). map (λ j. count_to (λ i. at (is_bit_set words per_row) part i j) n) (range_with_len 0 (height part))) (size-of west east part.lo.x part.hi.x window.west_is window.east_is window.wide)
      ∙ ap (λ (n : ℕ). map (λ j. count_to (λ i. at (is_bit_set words per_row) part i j) (east + 1 - west)) (range_with_len 0 n)) (size-of south north part.lo.y part.hi.y window.south_is window.north_is window.high)
      ∙ map_to-same _ _ (north + 1 - south) (λ j h. count_to-same _ _ (east + 1 - west) (λ i. at-window i j))
