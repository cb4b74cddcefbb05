-- Tags as rows of bits: the cells of a box are the bits of the same box counted from the low corner of the rows.
use Rattle.std.proofs.Common.{◌≡◌, ℕ, ◌+◌, ◌-◌, ◌*◌, ◌/◌, ◌<◌, ◌≤◌, Bool, true, cond, ◌&&◌, ℤ, pos, negsuc, ◌+ℤ◌, ◌-ℤ◌, ◌≤ℤ◌, ◌<ℤ◌, List, map, drop, length, refl, sym, ap, ◌∙◌, arith}
use Rattle.std.specs.Prelude.{unsigned_abs, int_le, nat_le, slice_index}
use Rattle.std.specs.declared.option.Option.TheVariants.{None}
use Rattle.std.specs.List.{count_by, range_with_len, slice_range, sum_by}
use Rattle.std.specs.Ordering.{int_eq}
use Rattle.std.proofs.lemmas.Int.{ints}
use Rattle.std.proofs.lemmas.List.{get_or-drop, get_or-take, length-drop, length-take-le}
use Rattle.std.proofs.lemmas.List.FromFn.{fill_by_all, get_or-map-range_with_len, length-map-range_with_len}
use Rattle.std.proofs.Math.Nat.{mul-div_cancel}
use Rattle.amr_box.specs.declared.Cell.{Cell}
use Rattle.amr_box.specs.declared.Axis.{Axis}
use Rattle.amr_box.specs.declared.Axis.TheVariants.{X, Y}
use Rattle.amr_box.specs.Cells.{Extent, HasCorners, IsNear, along, at_least_zero, cell, height, holds, width, within}
use Rattle.amr_box.proofs.Boxes.{int_le-yes}
use Rattle.amr_box.proofs.Numbers.{side-is}
use Rattle.amr_def.specs.Signature.{signature}
use Rattle.amr_def.specs.Cut.{best_cut}
use Rattle.amr_def.specs.Cluster.{cut_of}
use Rattle.amr_sign.specs.Counts.{count_to}
use Rattle.amr_sign.specs.Words.{LiesInRows, bit_cells, is_bit_set}
use Rattle.amr_sign.specs.Words.{bit_of as row_bit_of}
use Rattle.amr_sign.proofs.Bits.{count_to-same_below}
use Rattle.amr_sign.proofs.Counts.{columns-are, map_to-same, rows-are, rows-total}
use Rattle.amr_tags.specs.Bits.{bit_of, words_for}
use Rattle.amr_tags.specs.TagSets.{IsLaidOut, TagSet, has}
use Rattle.amr_tags.specs.Stored.{IsPart}
use Rattle.amr_cluster.specs.Work.{cells_in, cut_by}

-- ---- sizes

pub IsNear-in : (b larger : Extent) → IsPart larger b → IsNear larger → IsNear b
IsNear-in b larger i near = record {
  west = omega (arith, ints, near.west, i.west);
  east = omega (arith, ints, near.east, i.east);
  south = omega (arith, ints, near.south, i.south);
  north = omega (arith, ints, near.north, i.north);
  wide = i.wide;
  high = i.high;
}

abbrev pub size_along : Axis → Extent → ℕ
size_along X b = width b
size_along Y b = height b

-- the signature is as long as the box, and its entries add up to the cells
pub signature-length : (a : Axis) (cells : List Cell) (b : Extent) → length (signature a cells b) ≡ size_along a b
signature-length X cells b = length-map-range_with_len _ 0 (width b)
signature-length Y cells b = length-map-range_with_len _ 0 (height b)

pub signature-at : (a : Axis) (cells : List Cell) (b : Extent) (i : ℕ) → i < size_along a b → slice_index (signature a cells b) i ≡ count_by (λ c. int_eq (along a c) (along a b.lo +ℤ pos i)) cells
signature-at X cells b i h = get_or-map-range_with_len _ 0 (width b) i i 0 h (omega arith)
signature-at Y cells b i h = get_or-map-range_with_len _ 0 (height b) i i 0 h (omega arith)

-- a box round tags is cut by its signatures as it is by its cells
pub cut_by-is : (efficiency w : ℕ) (has : Cell → Bool) (b : Extent) → cut_by efficiency w (signature X (cells_in has b) b) (signature Y (cells_in has b) b) ≡ cut_of efficiency w (cells_in has b) b
cut_by-is efficiency w has b =
    let xs = signature X (cells_in has b) b in
    let ys = signature Y (cells_in has b) b in
    ap (λ (n : ℕ). cond (nat_le (efficiency * (n * length ys)) (100 * sum_by (λ k. k) ys)) None (best_cut w xs ys)) (signature-length X (cells_in has b) b)
    ∙ ap (λ (n : ℕ). cond (nat_le (efficiency * (width b * n)) (100 * sum_by (λ k. k) ys)) None (best_cut w xs ys)) (signature-length Y (cells_in has b) b)
    ∙ ap (λ (n : ℕ). cond (nat_le (efficiency * (width b * height b)) (100 * n)) None (best_cut w xs ys)) (rows-total has b)

-- the signature of a box within another, of the same cells, stands in that of the larger one
pub signature-within : (a : Axis) (cells : List Cell) (part b : Extent) (first last : ℕ) → along a b.lo ≡ along a part.lo +ℤ pos first → size_along a b ≡ last + 1 - first → first ≤ last → last < size_along a part → slice_range (signature a cells part) first (last + 1) ≡ signature a cells b
signature-within a cells part b first last at size order inside =
    let whole = signature a cells part in
    let entry : ℕ → ℕ = λ k. count_by (λ c. int_eq (along a c) (along a b.lo +ℤ pos k)) cells in
    let short : last + 1 ≤ length whole = rw (signature-length a cells part) (omega arith) in
    let left : length (drop first whole) ≡ length whole - first = length-drop first whole in
    fill_by_all entry (slice_range whole first (last + 1)) (last + 1 - first) 0 (length-take-le (last + 1 - first) (drop first whole) (omega (arith, left, short))) value
    ∙ sym (listed a size)
  where
    value : (k : ℕ) → k < last + 1 - first → slice_index (slice_range (signature a cells part) first (last + 1)) k ≡ count_by (λ c. int_eq (along a c) (along a b.lo +ℤ pos k)) cells
    value k h =
        let same : (along a part.lo +ℤ pos (first + k)) ≡ along a b.lo +ℤ pos k = omega (arith, ints, at) in
        get_or-take (last + 1 - first) (drop first (signature a cells part)) k 0 h
        ∙ get_or-drop first (signature a cells part) k 0
        ∙ signature-at a cells part (first + k) (omega arith)
        ∙ ap (λ (z : ℤ). count_by (λ c. int_eq (along a c) z) cells) same

    listed : (x : Axis) → size_along x b ≡ last + 1 - first → signature x cells b ≡ map (λ k. count_by (λ c. int_eq (along x c) (along x b.lo +ℤ pos k)) cells) (range_with_len 0 (last + 1 - first))
    listed X e = ap (λ (n : ℕ). map (λ k. count_by (λ c. int_eq c.x (b.lo.x +ℤ pos k)) cells) (range_with_len 0 n)) e
    listed Y e = ap (λ (n : ℕ). map (λ k. count_by (λ c. int_eq c.y (b.lo.y +ℤ pos k)) cells) (range_with_len 0 n)) e

-- ---- a box counted from the low corner of the tags

-- a part of the box of the tags, and the same counted from the low corner
pub record IsOffset (t : TagSet) (part at : Extent) : Type 0 where
  pub laid_out : IsLaidOut t
  pub inside : IsPart t.bx part
  pub corners : HasCorners at (part.lo.x -ℤ t.bx.lo.x) (part.lo.y -ℤ t.bx.lo.y) (part.hi.x -ℤ t.bx.lo.x) (part.hi.y -ℤ t.bx.lo.y)

module _ (t : TagSet) (part at : Extent) (is : IsOffset t part at) where
  columns_of : pos (width t.bx) ≡ t.bx.hi.x +ℤ pos 1 -ℤ t.bx.lo.x
  columns_of = side-is t.bx.lo.x t.bx.hi.x is.laid_out.near.wide

  rows_of : pos (height t.bx) ≡ t.bx.hi.y +ℤ pos 1 -ℤ t.bx.lo.y
  rows_of = side-is t.bx.lo.y t.bx.hi.y is.laid_out.near.high

  some_words : 1 ≤ words_for (width t.bx)
  some_words =
      let some : 1 ≤ width t.bx = omega (arith, ints, columns_of, is.laid_out.near.wide) in
      omega arith

  row_count : length t.words / words_for (width t.bx) ≡ height t.bx
  row_count = ap (λ (n : ℕ). n / words_for (width t.bx)) is.laid_out.rows.count ∙ mul-div_cancel (height t.bx) some_words

  pub in_rows : LiesInRows t.words (words_for (width t.bx)) at
  in_rows =
      let enough : width t.bx ≤ 64 * words_for (width t.bx) = omega arith in
      record {
        west = omega (arith, ints, is.corners.west_is, is.inside.west);
        east = omega (arith, ints, is.corners.east_is, is.inside.east, columns_of, enough);
        south = omega (arith, ints, is.corners.south_is, is.inside.south);
        north = rw row_count (omega (arith, ints, is.corners.north_is, is.inside.north, rows_of));
      }

  same_width : width at ≡ width part
  same_width = let same : (at.hi.x +ℤ pos 1 -ℤ at.lo.x) ≡ part.hi.x +ℤ pos 1 -ℤ part.lo.x = omega (arith, ints, is.corners.west_is, is.corners.east_is) in ap at_least_zero same

  same_height : height at ≡ height part
  same_height = let same : (at.hi.y +ℤ pos 1 -ℤ at.lo.y) ≡ part.hi.y +ℤ pos 1 -ℤ part.lo.y = omega (arith, ints, is.corners.south_is, is.corners.north_is) in ap at_least_zero same

  place_is : (low from to z : ℤ) (i : ℕ) → low ≡ from -ℤ to → to ≤ℤ from → at_least_zero (low +ℤ pos i) ≡ unsigned_abs ((from +ℤ pos i) -ℤ to)
  place_is low from to z i e h = let same : (low +ℤ pos i) ≡ (from +ℤ pos i) -ℤ to = omega (arith, ints) in size (low +ℤ pos i) ((from +ℤ pos i) -ℤ to) same (omega (arith, ints))
    where
      size : (a b : ℤ) → a ≡ b → pos 0 ≤ℤ b → at_least_zero a ≡ unsigned_abs b
      size a (pos n) f g = ap at_least_zero f
      size a (negsuc n) f g = absurd (omega (arith, ints))

  within_is : (low high lo hi : ℤ) (i : ℕ) → low ≤ℤ lo → hi ≤ℤ high → pos i <ℤ (hi +ℤ pos 1 -ℤ lo) → within low high (lo +ℤ pos i) ≡ true
  within_is low high lo hi i a b h =
      let above : int_le low (lo +ℤ pos i) ≡ true = int_le-yes low (lo +ℤ pos i) (omega (arith, ints)) in
      let below : int_le (lo +ℤ pos i) high ≡ true = int_le-yes (lo +ℤ pos i) high (omega (arith, ints)) in
      rw (above, below) refl

  held_cell : (i j : ℕ) → i < width part → j < height part → holds t.bx (cell (part.lo.x +ℤ pos i) (part.lo.y +ℤ pos j)) ≡ true
  held_cell i j h g =
      let w : pos i <ℤ (part.hi.x +ℤ pos 1 -ℤ part.lo.x) = omega (arith, ints, side-is part.lo.x part.hi.x is.inside.wide) in
      let v : pos j <ℤ (part.hi.y +ℤ pos 1 -ℤ part.lo.y) = omega (arith, ints, side-is part.lo.y part.hi.y is.inside.high) in
      both (within_is t.bx.lo.x t.bx.hi.x part.lo.x part.hi.x i is.inside.west is.inside.east w) (within_is t.bx.lo.y t.bx.hi.y part.lo.y part.hi.y j is.inside.south is.inside.north v)
    where
      both : {a b : Bool} → a ≡ true → b ≡ true → (a && b) ≡ true
      both {a} {b} e f = rw (e, f) refl

  same_bit : (i j : ℕ) → i < width part → j < height part → is_bit_set t.words (words_for (width t.bx)) (cell (at.lo.x +ℤ pos i) (at.lo.y +ℤ pos j)) ≡ has t (cell (part.lo.x +ℤ pos i) (part.lo.y +ℤ pos j))
  same_bit i j h g =
      let per_row = words_for (width t.bx) in
      ap (λ (x : ℕ). row_bit_of per_row t.words x (at_least_zero (at.lo.y +ℤ pos j))) (place_is at.lo.x part.lo.x t.bx.lo.x (pos 0) i is.corners.west_is is.inside.west)
      ∙ ap (row_bit_of per_row t.words (unsigned_abs ((part.lo.x +ℤ pos i) -ℤ t.bx.lo.x))) (place_is at.lo.y part.lo.y t.bx.lo.y (pos 0) j is.corners.south_is is.inside.south)
      ∙ sym (ap (λ (b : Bool). b && bit_of per_row t.words (unsigned_abs ((part.lo.x +ℤ pos i) -ℤ t.bx.lo.x)) (unsigned_abs ((part.lo.y +ℤ pos j) -ℤ t.bx.lo.y))) (held_cell i j h g))

  pub signature-offset : (axis : Axis) → signature axis (bit_cells t.words (words_for (width t.bx)) at) at ≡ signature axis (cells_in (has t) part) part
  signature-offset X =
      let per_row = words_for (width t.bx) in
      columns-are (is_bit_set t.words per_row) at
      ∙ ap (λ (n : ℕ). map (λ i. count_to (λ j. is_bit_set t.words per_row (cell (at.lo.x +ℤ pos i) (at.lo.y +ℤ pos j))) n) (range_with_len 0 (width at))) same_height
      ∙ ap (λ (n : ℕ). map (λ i. count_to (λ j. is_bit_set t.words per_row (cell (at.lo.x +ℤ pos i) (at.lo.y +ℤ pos j))) (height part)) (range_with_len 0 n)) same_width
      ∙ map_to-same _ _ (width part) (λ i h. count_to-same_below _ _ (height part) (λ j g. same_bit i j h g))
      ∙ sym (columns-are (has t) part)
  signature-offset Y =
      let per_row = words_for (width t.bx) in
      rows-are (is_bit_set t.words per_row) at
      ∙ ap (λ (n : ℕ). map (λ j. count_to (λ i. is_bit_set t.words per_row (cell (at.lo.x +ℤ pos i) (at.lo.y +ℤ pos j))) n) (range_with_len 0 (height at))) same_width
      ∙ ap (λ (n : ℕ). map (λ j. count_to (λ i. is_bit_set t.words per_row (cell (at.lo.x +ℤ pos i) (at.lo.y +ℤ pos j))) (width part)) (range_with_len 0 n)) same_height
      ∙ map_to-same _ _ (height part) (λ j h. count_to-same_below _ _ (width part) (λ i g. same_bit i j g h))
      ∙ sym (rows-are (has t) part)
