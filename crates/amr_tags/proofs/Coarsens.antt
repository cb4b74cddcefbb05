-- Rows coarsened, as the set of the parents of their cells.
use Rattle.std.proofs.Common.{◌≡◌, ℕ, ◌+◌, ◌*◌, ◌/◌, ◌<◌, ◌≤◌, Bool, true, false, ◌&&◌, ◌||◌, ℤ, pos, negsuc, ◌+ℤ◌, ◌-ℤ◌, ◌≤ℤ◌, refl, sym, ap, ◌∙◌, subst, arith, List, length}
use Rattle.std.specs.Prelude.{nat_lt, unsigned_abs}
use Rattle.std.proofs.lemmas.Int.{ints}
use Rattle.std.proofs.lemmas.Nat.{mul-add-lt}
use Rattle.std.proofs.lemmas.Bool.Decides.{nat_tests}
use Rattle.std.proofs.lemmas.Bool.{and_left, and_parts, and_right, lt-ltb, ltb-false as past, ltb-true}
use Rattle.amr_box.specs.declared.Cell.{Cell}
use Rattle.amr_box.specs.Cells.{Extent, IsNear, child, half, has_child_where, height, holds, parents_of, width}
use Rattle.amr_box.proofs.Tests.{and_apart, opposite}
use Rattle.amr_box.proofs.Numbers.{side-is}
use Rattle.amr_tags.specs.Bits.{AreRows, bit_of, words_for}
use Rattle.amr_tags.specs.Coarse.{IsEvenCorner, coarse_bit, there}
use Rattle.amr_tags.specs.Grown.{AreBits}
use Rattle.amr_tags.specs.Parts.{in_rows}
use Rattle.amr_tags.specs.TagSets.{column_in, row_in}
use Rattle.amr_tags.proofs.Places.{column_within, in_holds, is_in, row_within}
use Rattle.amr_tags.proofs.CellCounts.{column_there}

-- ---- bits beyond the rows

pub no-column : (w h : ℕ) (words : List ℕ) (i j : ℕ) → AreRows w h words → w ≤ i → there (words_for w) h words i j ≡ false
no-column w h words i j rows past =
    and_apart (nat_lt (i / 64) (words_for w) && nat_lt j h) (bit_of (words_for w) words i j)
    (λ e. rows.unused i j past (in_word i (words_for w) (ltb-true (i / 64) (words_for w) (and_parts _ _ e).0)) (ltb-true j h (and_parts _ _ e).1))
  where
    in_word : (i p : ℕ) → i / 64 < p → i < 64 * p
    in_word i p h = omega (arith, h)

no-row : (w h : ℕ) (words : List ℕ) (i j : ℕ) → h ≤ j → there (words_for w) h words i j ≡ false
no-row w h words i j past = ap (λ (t : Bool). (nat_lt (i / 64) (words_for w) && t) && bit_of (words_for w) words i j) outside ∙ and_left _ _ (and_right (nat_lt (i / 64) (words_for w)) false refl)
  where
    outside : nat_lt j h ≡ false
    outside = grind (arith, nat_tests)

-- ---- a bit and its cell

module _ (b : Extent) (near : IsNear b) (words : List ℕ) (rows : AreRows (width b) (height b) words) where
  abbrev bit_there : ℕ → ℕ → Bool
  bit_there = there (words_for (width b)) (height b) words

  offset : (lo z : ℤ) (i : ℕ) → z ≡ lo +ℤ pos i → unsigned_abs (z -ℤ lo) ≡ i
  offset lo z i e = let d : z -ℤ lo ≡ pos i = omega (arith, ints, e) in ap unsigned_abs d

  -- the bit in column i and row j is that of the cell that stands there
  pub of-cell : (c : Cell) (i j : ℕ) → c.x ≡ b.lo.x +ℤ pos i → c.y ≡ b.lo.y +ℤ pos j → bit_there i j ≡ in_rows b words c
  of-cell c i j x y = split (nat_lt i (width b)) refl (nat_lt j (height b)) refl
    where
      column : column_in b c ≡ i
      column = offset b.lo.x c.x i x

      row : row_in b c ≡ j
      row = offset b.lo.y c.y j y

      word : (i w : ℕ) → i < w → nat_lt (i / 64) (words_for w) ≡ true
      word i w h = let k : i / 64 < words_for w = omega (arith, h) in lt-ltb (i / 64) (words_for w) k

      outside : (bit_there i j ≡ false) → (holds b c ≡ true → ⊥) → bit_there i j ≡ in_rows b words c
      outside none out = none ∙ sym (and_apart (holds b c) (bit_of (words_for (width b)) words (column_in b c) (row_in b c)) (λ h. absurd (out h)))

      split : (s : Bool) → nat_lt i (width b) ≡ s → (t : Bool) → nat_lt j (height b) ≡ t → bit_there i j ≡ in_rows b words c
      split true hi true hj =
          let i_less = ltb-true i (width b) hi in
          let j_less = ltb-true j (height b) hj in
          let wide = side-is b.lo.x b.hi.x near.wide in
          let high = side-is b.lo.y b.hi.y near.high in
          let held : holds b c ≡ true = in_holds b c (omega (arith, ints, x)) (omega (arith, ints, x, i_less, wide)) (omega (arith, ints, y)) (omega (arith, ints, y, j_less, high)) in
          (λ k. (word i (width b) i_less k && hj k) && bit_of (words_for (width b)) words i j)
          ∙ (λ k. bit_of (words_for (width b)) words (sym column k) (sym row k))
          ∙ sym (ap (λ (t : Bool). t && bit_of (words_for (width b)) words (column_in b c) (row_in b c)) held)
      split true hi false hj =
          let j_past = past j (height b) hj in
          outside (no-row (width b) (height b) words i j j_past) (λ h. let r = row_within b c (is_in b c h) in absurd (omega (arith, r, row, j_past)))
      split false hi t hj =
          let i_past = past i (width b) hi in
          outside (no-column (width b) (height b) words i j rows i_past) (λ h. let r = column_within b c (is_in b c h) in absurd (omega (arith, r, column, i_past)))

  -- ---- the coarse box

  module _ (even : IsEvenCorner b.lo) (coarse : Extent) (is : coarse ≡ parents_of b) (coarse_near : IsNear coarse) where
    west : coarse.lo.x ≡ half b.lo.x
    west = ap (λ (e : Extent). e.lo.x) is

    south : coarse.lo.y ≡ half b.lo.y
    south = ap (λ (e : Extent). e.lo.y) is

    east : coarse.hi.x ≡ half b.hi.x
    east = ap (λ (e : Extent). e.hi.x) is

    north : coarse.hi.y ≡ half b.hi.y
    north = ap (λ (e : Extent). e.hi.y) is

    up_to_half : (z : ℤ) → z ≤ℤ (half z +ℤ half z +ℤ pos 1)
    up_to_half (pos n) = omega (arith, ints)
    up_to_half (negsuc n) = omega (arith, ints)

    pub twice_wide : width b ≤ 2 * width coarse
    twice_wide =
        let w = side-is b.lo.x b.hi.x near.wide in
        let v = side-is coarse.lo.x coarse.hi.x coarse_near.wide in
        omega (arith, ints, w, v, west, east, even.x, up_to_half b.hi.x)

    -- no bit beyond the coarse columns
    pub coarse-unused : (i j : ℕ) → width coarse ≤ i → coarse_bit (words_for (width b)) (height b) words i j ≡ false
    coarse-unused i j past =
        let first : width b ≤ 2 * i = omega (arith, past, twice_wide) in
        let second : width b ≤ 2 * i + 1 = omega (arith, first) in
        λ k.
        (no-column (width b) (height b) words (2 * i) (2 * j) rows first k || no-column (width b) (height b) words (2 * i) (2 * j + 1) rows first k)
        || (no-column (width b) (height b) words (2 * i + 1) (2 * j) rows second k || no-column (width b) (height b) words (2 * i + 1) (2 * j + 1) rows second k)

    in_order : (s t u v : Bool) → ((s || t) || (u || v)) ≡ (((s || u) || t) || v)
    in_order true t u v = refl
    in_order false true true v = refl
    in_order false true false v = refl
    in_order false false true v = refl
    in_order false false false v = refl

    -- a coarse bit is that of the four children
    pub of-children : (c : Cell) (i j : ℕ) → c.x ≡ coarse.lo.x +ℤ pos i → c.y ≡ coarse.lo.y +ℤ pos j → coarse_bit (words_for (width b)) (height b) words i j ≡ has_child_where (in_rows b words) c
    of-children c i j x y =
        let low : c.x +ℤ c.x +ℤ pos 0 ≡ b.lo.x +ℤ pos (2 * i) = omega (arith, ints, x, west, even.x) in
        let right : c.x +ℤ c.x +ℤ pos 1 ≡ b.lo.x +ℤ pos (2 * i + 1) = omega (arith, ints, x, west, even.x) in
        let under : c.y +ℤ c.y +ℤ pos 0 ≡ b.lo.y +ℤ pos (2 * j) = omega (arith, ints, y, south, even.y) in
        let above : c.y +ℤ c.y +ℤ pos 1 ≡ b.lo.y +ℤ pos (2 * j + 1) = omega (arith, ints, y, south, even.y) in
        in_order (bit_there (2 * i) (2 * j)) (bit_there (2 * i) (2 * j + 1)) (bit_there (2 * i + 1) (2 * j)) (bit_there (2 * i + 1) (2 * j + 1))
        ∙ (λ k. ((of-cell (child c 0) (2 * i) (2 * j) low under k || of-cell (child c 1) (2 * i + 1) (2 * j) right under k) || of-cell (child c 2) (2 * i) (2 * j + 1) low above k) || of-cell (child c 3) (2 * i + 1) (2 * j + 1) right above k)

    -- ---- outside of the coarse box

    module _ (c : Cell) (out : holds coarse c ≡ true → ⊥) where
      child_out : (k : Cell) (i j : ℕ) → i ≤ 1 → j ≤ 1 → k.x ≡ c.x +ℤ c.x +ℤ pos i → k.y ≡ c.y +ℤ c.y +ℤ pos j → in_rows b words k ≡ false
      child_out k i j hi hj x y = and_apart (holds b k) (bit_of (words_for (width b)) words (column_in b k) (row_in b k)) none
        where
          none : holds b k ≡ true → bit_of (words_for (width b)) words (column_in b k) (row_in b k) ≡ false
          none h =
              let inside = is_in b k h in
              let held : holds coarse c ≡ true = in_holds coarse c (omega (arith, ints, west, even.x, inside.west, x, hi)) (omega (arith, ints, east, up_to_half b.hi.x, inside.east, x)) (omega (arith, ints, south, even.y, inside.south, y, hj)) (omega (arith, ints, north, up_to_half b.hi.y, inside.north, y)) in
              absurd (out held)

      pub no-child : has_child_where (in_rows b words) c ≡ false
      no-child = λ k.
          ((child_out (child c 0) 0 0 (omega arith) (omega arith) refl refl k || child_out (child c 1) 1 0 (omega arith) (omega arith) refl refl k) || child_out (child c 2) 0 1 (omega arith) (omega arith) refl refl k) || child_out (child c 3) 1 1 (omega arith) (omega arith) refl refl k

    -- ---- the coarse rows

    module _ (out : List ℕ) (room : length out ≡ height coarse * words_for (width coarse)) (bits : AreBits (words_for (width coarse)) out (coarse_bit (words_for (width b)) (height b) words) (length out)) where
      spot : (i j p h : ℕ) → i / 64 < p → j < h → j * p + i / 64 < h * p
      spot i j p h k l = let m = mul-add-lt j p (i / 64) h l k in omega (arith, m)

      at : (i j : ℕ) → i / 64 < words_for (width coarse) → j < height coarse → bit_of (words_for (width coarse)) out i j ≡ coarse_bit (words_for (width b)) (height b) words i j
      at i j hi hj = bits i j hi (subst (λ (n : ℕ). j * words_for (width coarse) + i / 64 < n) (sym room) (spot i j (words_for (width coarse)) (height coarse) hi hj))

      in_word : (i p : ℕ) → i < 64 * p → i / 64 < p
      in_word i p h = omega (arith, h)

      pub coarse-rows : AreRows (width coarse) (height coarse) out
      coarse-rows = record {
        count = room;
        unused = λ i j past fits there. at i j (in_word i (words_for (width coarse)) fits) there ∙ coarse-unused i j past;
      }

      from_low : (lo z : ℤ) → lo ≤ℤ z → z ≡ lo +ℤ pos (unsigned_abs (z -ℤ lo))
      from_low lo z h = omega (arith, ints)

      pub coarse-cells : (c : Cell) → in_rows coarse out c ≡ has_child_where (in_rows b words) c
      coarse-cells c = split (holds coarse c) refl
        where
          split : (t : Bool) → holds coarse c ≡ t → (t && bit_of (words_for (width coarse)) out (column_in coarse c) (row_in coarse c)) ≡ has_child_where (in_rows b words) c
          split true h =
              let inside = is_in coarse c h in
              at (column_in coarse c) (row_in coarse c) (column_there (column_in coarse c) (width coarse) (column_within coarse c inside)) (row_within coarse c inside)
              ∙ of-children c (column_in coarse c) (row_in coarse c) (from_low coarse.lo.x c.x inside.west) (from_low coarse.lo.y c.y inside.south)
          split false h = sym (no-child c (λ (e : holds coarse c ≡ true). opposite e h))

-- ---- sizes that are those of the boxes

pub sized : (p h q p' h' q' m : ℕ) (words out : List ℕ) → p ≡ p' → h ≡ h' → q ≡ q' → AreBits q out (coarse_bit p h words) m → AreBits q' out (coarse_bit p' h' words) m
sized p h q p' h' q' m words out ep eh eq bits =
    subst (λ (n : ℕ). AreBits n out (coarse_bit p' h' words) m) eq (subst (λ (n : ℕ). AreBits q out (coarse_bit p' n words) m) eh (subst (λ (n : ℕ). AreBits q out (coarse_bit n h words) m) ep bits))
