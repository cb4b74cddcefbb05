-- A count of cells that is not 0 has a cell, and one that is 0 has none.
use Rattle.std.proofs.Common.{◌≡◌, ℕ, zero, suc, ◌+◌, ◌<◌, ◌≤◌, ◌≢◌, Bool, true, false, ◌&&◌, cond, ℤ, pos, negsuc, ◌+ℤ◌, ◌-ℤ◌, ◌≤ℤ◌, ◌<ℤ◌, refl, sym, ap, ◌∙◌, subst, arith, List, [], ◌∷◌}
use Rattle.std.specs.Prelude.{int_le, int_lt, nat_lt, ◌==◌, unsigned_abs}
use Rattle.std.proofs.lemmas.Bool.{and_from, and_left, and_parts, eqb-true}
use Rattle.std.proofs.lemmas.Bool.Decides.{nat_tests}
use Rattle.std.specs.List.{count_by}
use Rattle.std.proofs.lemmas.Int.{ints}
use Rattle.std.proofs.lemmas.List.Sums.{sum_by-cons}
use Rattle.amr_box.specs.declared.Cell.{Cell}
use Rattle.amr_box.specs.declared.Axis.{Axis}
use Rattle.amr_box.specs.declared.Axis.TheVariants.{X, Y}
use Rattle.amr_box.specs.Cells.{AreDisjoint, Extent, IsBoxOf, IsNear, along, cell, cells_of, height, holds, width, within}
use Rattle.amr_box.proofs.Tests.{and_turned}
use Rattle.amr_box.proofs.Boxes.{int_le-yes}
use Rattle.amr_box.proofs.Numbers.{below_from, le_from}
use Rattle.amr_tags.specs.Bits.{bit_of, words_for}
use Rattle.amr_tags.specs.Parts.{count_from, rows_from}
use Rattle.amr_tags.specs.Stored.{IsIn, IsPart}
use Rattle.amr_tags.specs.Edges.{HasNoneAbove, HasNoneBelow, HasOne, HasOneFrom, HasOneUpTo, in_part}
use Rattle.amr_tags.specs.TagSets.{IsLeastBox, column_in, row_in}
use Rattle.amr_tags.proofs.CellCounts.{cells-sum}
use Rattle.amr_tags.proofs.Places.{apart, column_within, high_in, is_in, low_in, row_within}

counted-cons : (p : Cell → Bool) (c : Cell) (cs : List Cell) → p c ≡ false → count_by p (c ∷ cs) ≡ count_by p cs
counted-cons p c cs e = sum_by-cons (λ c. cond (p c) 1 0) c cs ∙ ap (λ t. cond t 1 0 + count_by p cs) e ∙ zero-plus (count_by p cs)
  where
    zero-plus : (n : ℕ) → 0 + n ≡ n
    zero-plus n = omega arith

some_counted : (p : Cell → Bool) (cs : List Cell) → 0 < count_by p cs → (c : Cell) × (p c ≡ true)
some_counted p [] h = absurd (omega arith)
some_counted p (c ∷ cs) h = step (p c) refl (some_counted p cs)
  where
    step : (t : Bool) → p c ≡ t → (0 < count_by p cs → (d : Cell) × (p d ≡ true)) → (d : Cell) × (p d ≡ true)
    step true e rest = (c, e)
    step false e rest = rest (subst (λ (n : ℕ). 0 < n) (counted-cons p c cs e) h)

rows-zero : (f : ℕ → ℕ) (a n i : ℕ) → rows_from f a n ≡ 0 → a ≤ i → i < a + n → f i ≡ 0
rows-zero f a zero i e low high = absurd (omega arith)
rows-zero f a (suc n) i e low high = step (i == a) refl (rows-zero f (a + 1) n i)
  where
    step : (t : Bool) → (i == a) ≡ t → (rows_from f (a + 1) n ≡ 0 → a + 1 ≤ i → i < a + 1 + n → f i ≡ 0) → f i ≡ 0
    step true g rest = ap f (eqb-true i a g) ∙ (let first : f a ≡ 0 = omega arith in first)
    step false g rest = let other : i ≢ a = apart i a g in rest (omega arith) (omega arith) (omega arith)

one-zero : (t : Bool) → ◌≡◌ {A = ℕ} (cond t 1 0) 0 → t ≡ false
one-zero true e = absurd (omega arith)
one-zero false e = refl

back : (lo z : ℤ) → lo ≤ℤ z → (lo +ℤ pos (unsigned_abs (z -ℤ lo))) ≡ z
back lo z h = grind (arith, ints)

none_counted : (p : Cell → Bool) (b : Extent) (c : Cell) → count_by p (cells_of b) ≡ 0 → holds b c ≡ true → p c ≡ false
none_counted p b c none h =
    let inside : IsIn b c = is_in b c h in
    let row : count_from (λ i. p (cell (b.lo.x +ℤ pos i) (b.lo.y +ℤ pos (row_in b c)))) 0 (width b) ≡ 0 =
    rows-zero (λ j. count_from (λ i. p (cell (b.lo.x +ℤ pos i) (b.lo.y +ℤ pos j))) 0 (width b)) 0 (height b) (row_in b c) (sym (cells-sum p b) ∙ none) (omega arith) (omega (arith, row_within b c inside)) in
    let one : ◌≡◌ {A = ℕ} (cond (p (cell (b.lo.x +ℤ pos (column_in b c)) (b.lo.y +ℤ pos (row_in b c)))) 1 0) 0 =
    rows-zero (λ i. cond (p (cell (b.lo.x +ℤ pos i) (b.lo.y +ℤ pos (row_in b c)))) 1 0) 0 (width b) (column_in b c) row (omega arith) (omega (arith, column_within b c inside)) in
    let x = back b.lo.x c.x inside.west in
    let y = back b.lo.y c.y inside.south in
    let same : cell (b.lo.x +ℤ pos (column_in b c)) (b.lo.y +ℤ pos (row_in b c)) ≡ c = λ i. record { x = x i; y = y i } in
    sym (ap p same) ∙ one-zero (p (cell (b.lo.x +ℤ pos (column_in b c)) (b.lo.y +ℤ pos (row_in b c)))) one

-- a cell of a part is one of the box
part-holds : (b part : Extent) (c : Cell) → IsPart b part → holds part c ≡ true → holds b c ≡ true
part-holds b part c k h =
    let t = and_parts (within part.lo.x part.hi.x c.x) (within part.lo.y part.hi.y c.y) h in
    and_from _ _ (wider b.lo.x b.hi.x part.lo.x part.hi.x c.x k.west k.east t.0) (wider b.lo.y b.hi.y part.lo.y part.hi.y c.y k.south k.north t.1)
  where
    wider : (lo hi l h z : ℤ) → lo ≤ℤ l → h ≤ℤ hi → within l h z ≡ true → within lo hi z ≡ true
    wider lo hi l h z e f g = grind (arith, ints)

pub one_up_to : (b part below : Extent) (words : List ℕ) (axis : Axis) (i last : ℤ) → IsBoxOf below (λ c. holds part c && int_lt (along axis c) i) → i ≡ last +ℤ pos 1 → 0 < count_by (in_part b words below) (cells_of b) → HasOneUpTo (in_part b words part) axis last
one_up_to b part below words axis i last k e h =
    let c = some_counted (in_part b words below) (cells_of b) h in
    let s = and_parts (holds below c.0) _ c.1 in
    let t = and_parts (holds part c.0) (int_lt (along axis c.0) i) (sym (k.at c.0) ∙ s.0) in
    let lower = below_from (along axis c.0) i t.1 in
    record { at = (c.0, and_from _ _ t.0 s.1, omega (arith, ints, lower, e)) }

not_lower : (z i last : ℤ) → int_lt z i ≡ false → i ≡ last +ℤ pos 1 → (last +ℤ pos 1) ≤ℤ z
not_lower z i last f e = grind (arith, ints)

pub none_up_to : (b part below : Extent) (words : List ℕ) (axis : Axis) (i last : ℤ) → IsBoxOf below (λ c. holds part c && int_lt (along axis c) i) → i ≡ last +ℤ pos 1 → IsPart b part → count_by (in_part b words below) (cells_of b) ≡ 0 → HasNoneBelow (in_part b words part) axis (last +ℤ pos 1)
none_up_to b part below words axis i last k e p h = record { from = λ c t. step c t (int_lt (along axis c) i) refl }
  where
    step : (c : Cell) → in_part b words part c ≡ true → (s : Bool) → int_lt (along axis c) i ≡ s → (last +ℤ pos 1) ≤ℤ along axis c
    step c t true f =
        let parts = and_parts (holds part c) _ t in
        let there : in_part b words below c ≡ true = and_from _ _ (k.at c ∙ and_from _ _ parts.0 f) parts.1 in
        let not_there = none_counted (in_part b words below) b c h (part-holds b part c p parts.0) in
        absurd (clash (sym not_there ∙ there))
      where
        clash : false ≡ true → ⊥
        clash e = cc
    step c t false f = not_lower (along axis c) i last f e

pub one_from : (b part above : Extent) (words : List ℕ) (axis : Axis) (i first : ℤ) → IsBoxOf above (λ c. holds part c && int_le i (along axis c)) → i ≡ first → 0 < count_by (in_part b words above) (cells_of b) → HasOneFrom (in_part b words part) axis first
one_from b part above words axis i first k e h =
    let c = some_counted (in_part b words above) (cells_of b) h in
    let s = and_parts (holds above c.0) _ c.1 in
    let t = and_parts (holds part c.0) (int_le i (along axis c.0)) (sym (k.at c.0) ∙ s.0) in
    let higher = le_from i (along axis c.0) t.1 in
    record { at = (c.0, and_from _ _ t.0 s.1, omega (arith, ints, higher, e)) }

pub none_from : (b part above : Extent) (words : List ℕ) (axis : Axis) (i first : ℤ) → IsBoxOf above (λ c. holds part c && int_le i (along axis c)) → i ≡ first → IsPart b part → count_by (in_part b words above) (cells_of b) ≡ 0 → HasNoneAbove (in_part b words part) axis (first -ℤ pos 1)
none_from b part above words axis i first k e p h = record { to = λ c t. step c t (int_le i (along axis c)) refl }
  where
    not_higher : (z i first : ℤ) → int_le i z ≡ false → i ≡ first → z ≤ℤ (first -ℤ pos 1)
    not_higher z i first f e = grind (arith, ints)

    step : (c : Cell) → in_part b words part c ≡ true → (s : Bool) → int_le i (along axis c) ≡ s → along axis c ≤ℤ (first -ℤ pos 1)
    step c t true f =
        let parts = and_parts (holds part c) _ t in
        let there : in_part b words above c ≡ true = and_from _ _ (k.at c ∙ and_from _ _ parts.0 f) parts.1 in
        let not_there = none_counted (in_part b words above) b c h (part-holds b part c p parts.0) in
        absurd (clash (sym not_there ∙ there))
      where
        clash : false ≡ true → ⊥
        clash e = cc
    step c t false f = not_higher (along axis c) i first f e

pub some-test : (n m : ℕ) → nat_lt 0 n ≡ true → n ≡ m → 0 < m
some-test n m h e = let k : 0 < n = grind (arith, nat_tests) in omega arith

pub none-test : (n m : ℕ) → nat_lt 0 n ≡ false → n ≡ m → m ≡ 0
none-test n m h e = let k : n ≡ 0 = grind (arith, nat_tests) in sym e ∙ k

-- ---- the ends of a part

axis_low : (axis : Axis) (part : Extent) (c : Cell) → holds part c ≡ true → along axis part.lo ≤ℤ along axis c
axis_low X part c h = low_in part.lo.x part.hi.x c.x (and_parts (within part.lo.x part.hi.x c.x) (within part.lo.y part.hi.y c.y) h).0
axis_low Y part c h = low_in part.lo.y part.hi.y c.y (and_parts (within part.lo.x part.hi.x c.x) (within part.lo.y part.hi.y c.y) h).1

axis_high : (axis : Axis) (part : Extent) (c : Cell) → holds part c ≡ true → along axis c ≤ℤ along axis part.hi
axis_high X part c h = high_in part.lo.x part.hi.x c.x (and_parts (within part.lo.x part.hi.x c.x) (within part.lo.y part.hi.y c.y) h).0
axis_high Y part c h = high_in part.lo.y part.hi.y c.y (and_parts (within part.lo.x part.hi.x c.x) (within part.lo.y part.hi.y c.y) h).1

pub none_below_part : (b part : Extent) (words : List ℕ) (axis : Axis) (low : ℤ) → low ≡ along axis part.lo → HasNoneBelow (in_part b words part) axis low
none_below_part b part words axis low e = record { from = λ c t. let k = axis_low axis part c (and_parts (holds part c) _ t).0 in omega (arith, ints, k, e) }

pub none_above_part : (b part : Extent) (words : List ℕ) (axis : Axis) (high : ℤ) → high ≡ along axis part.hi → HasNoneAbove (in_part b words part) axis high
none_above_part b part words axis high e = record { to = λ c t. let k = axis_high axis part c (and_parts (holds part c) _ t).0 in omega (arith, ints, k, e) }

pub one_up_to_high : (b part : Extent) (words : List ℕ) (axis : Axis) (high : ℤ) → high ≡ along axis part.hi → HasOne (in_part b words part) → HasOneUpTo (in_part b words part) axis high
one_up_to_high b part words axis high e h = record { at = (h.at.0, h.at.1, (let k = axis_high axis part h.at.0 (and_parts (holds part h.at.0) _ h.at.1).0 in omega (arith, ints, k, e))) }

pub one_from_low : (b part : Extent) (words : List ℕ) (axis : Axis) (low : ℤ) → low ≡ along axis part.lo → HasOne (in_part b words part) → HasOneFrom (in_part b words part) axis low
one_from_low b part words axis low e h = record { at = (h.at.0, h.at.1, (let k = axis_low axis part h.at.0 (and_parts (holds part h.at.0) _ h.at.1).0 in omega (arith, ints, k, e))) }

pub near_low : (b part : Extent) (axis : Axis) → IsNear b → IsPart b part → negsuc 16777216 <ℤ along axis part.lo
near_low b part X n k = omega (arith, ints, n.west, k.west)
near_low b part Y n k = omega (arith, ints, n.south, k.south)

pub near_high : (b part : Extent) (axis : Axis) → IsNear b → IsPart b part → along axis part.hi <ℤ pos 16777217
near_high b part X n k = omega (arith, ints, n.east, k.east)
near_high b part Y n k = omega (arith, ints, n.north, k.north)

pub ends_in_order : (b part : Extent) (axis : Axis) → IsPart b part → along axis part.lo ≤ℤ along axis part.hi
ends_in_order b part X k = k.wide
ends_in_order b part Y k = k.high

pub none_below_at : (test : Cell → Bool) (axis : Axis) (a b : ℤ) → a ≡ b → HasNoneBelow test axis a → HasNoneBelow test axis b
none_below_at test axis a b e h = subst (HasNoneBelow test axis) e h

pub none_above_at : (test : Cell → Bool) (axis : Axis) (a b : ℤ) → a ≡ b → HasNoneAbove test axis a → HasNoneAbove test axis b
none_above_at test axis a b e h = subst (HasNoneAbove test axis) e h

pub one_lower : (test : Cell → Bool) (axis : Axis) (high low : ℤ) → high ≤ℤ low → HasOneUpTo test axis high → HasOneUpTo test axis low
one_lower test axis high low h k = let there = k.at.2 in record { at = (k.at.0, k.at.1, omega (arith, ints, there, h)) }

pub one_higher : (test : Cell → Bool) (axis : Axis) (low high : ℤ) → high ≤ℤ low → HasOneFrom test axis low → HasOneFrom test axis high
one_higher test axis low high h k = let there = k.at.2 in record { at = (k.at.0, k.at.1, omega (arith, ints, there, h)) }

-- ---- the least box

pub edges_in_order : (test : Cell → Bool) (axis : Axis) (low high : ℤ) → HasNoneBelow test axis low → HasNoneAbove test axis high → HasOne test → low ≤ℤ high
edges_in_order test axis low high h k one = let a = h.from one.at.0 one.at.1 in let b = k.to one.at.0 one.at.1 in omega (arith, ints, a, b)

pub least_box : (test : Cell → Bool) (b : Extent) → HasNoneBelow test X b.lo.x → HasOneUpTo test X b.lo.x → HasNoneBelow test Y b.lo.y → HasOneUpTo test Y b.lo.y → HasNoneAbove test X b.hi.x → HasOneFrom test X b.hi.x → HasNoneAbove test Y b.hi.y → HasOneFrom test Y b.hi.y → IsLeastBox b test
least_box test b w w1 s s1 e e1 n n1 = record {
  inside = λ c t. and_from _ _ (and_from _ _ (int_le-yes _ _ (w.from c t)) (int_le-yes _ _ (e.to c t))) (and_from _ _ (int_le-yes _ _ (s.from c t)) (int_le-yes _ _ (n.to c t)));
  west = (w1.at.0, w1.at.1, same w1.at.0.x b.lo.x w1.at.2 (w.from w1.at.0 w1.at.1));
  south = (s1.at.0, s1.at.1, same s1.at.0.y b.lo.y s1.at.2 (s.from s1.at.0 s1.at.1));
  east = (e1.at.0, e1.at.1, same e1.at.0.x b.hi.x (e.to e1.at.0 e1.at.1) e1.at.2);
  north = (n1.at.0, n1.at.1, same n1.at.0.y b.hi.y (n.to n1.at.0 n1.at.1) n1.at.2);
}
  where
    same : (a b : ℤ) → a ≤ℤ b → b ≤ℤ a → a ≡ b
    same a b h k = omega (arith, ints, h, k)

-- the set's cells in a box are those of the part that it has in common with the set's box
pub part-is : (a b part : Extent) (words : List ℕ) → ((c : Cell) → holds part c ≡ (holds a c && holds b c)) → (c : Cell) → in_part a words part c ≡ (holds b c && (holds a c && bit_of (words_for (width a)) words (column_in a c) (row_in a c)))
part-is a b part words h c = ap (λ t. t && bit_of (words_for (width a)) words (column_in a c) (row_in a c)) (h c) ∙ and_turned (holds a c) (holds b c) (bit_of (words_for (width a)) words (column_in a c) (row_in a c))

pub none-apart : (a b : Extent) (words : List ℕ) → AreDisjoint a b → (c : Cell) → (holds b c && (holds a c && bit_of (words_for (width a)) words (column_in a c) (row_in a c))) ≡ false
none-apart a b words h c =
    sym (and_turned (holds a c) (holds b c) (bit_of (words_for (width a)) words (column_in a c) (row_in a c))) ∙ and_left _ _ (h c)

pub one_in_part : (b part : Extent) (words : List ℕ) → 0 < count_by (in_part b words part) (cells_of b) → HasOne (in_part b words part)
one_in_part b part words h = record { at = some_counted (in_part b words part) (cells_of b) h }

pub none_in_part : (b part : Extent) (words : List ℕ) → IsPart b part → count_by (in_part b words part) (cells_of b) ≡ 0 → (c : Cell) → in_part b words part c ≡ false
none_in_part b part words p h c = step (holds part c) refl
  where
    step : (s : Bool) → holds part c ≡ s → in_part b words part c ≡ false
    step true e = none_counted (in_part b words part) b c h (part-holds b part c p e)
    step false e = ap (λ t. t && bit_of (words_for (width b)) words (column_in b c) (row_in b c)) e

pub least-is : (r : Extent) (p q : Cell → Bool) → ((c : Cell) → p c ≡ q c) → IsLeastBox r p → IsLeastBox r q
least-is r p q h k = let e : p ≡ q = λ i c. h c i in subst (λ (t : Cell → Bool). IsLeastBox r t) e k

pub not-none : (r : Extent) (p : Cell → Bool) → IsLeastBox r p → ((c : Cell) → p c ≡ false) → ⊥
not-none r p k none = clash (sym (none k.west.0) ∙ k.west.1)
  where
    clash : false ≡ true → ⊥
    clash e = cc

pub least_at : (test : Cell → Bool) (b : Extent) (west south east north : ℤ) → west ≡ b.lo.x → south ≡ b.lo.y → east ≡ b.hi.x → north ≡ b.hi.y → HasNoneBelow test X west → HasOneUpTo test X west → HasNoneBelow test Y south → HasOneUpTo test Y south → HasNoneAbove test X east → HasOneFrom test X east → HasNoneAbove test Y north → HasOneFrom test Y north → IsLeastBox b test
least_at test b west south east north ew es ee en w w1 s s1 e e1 n n1 = least_box test b (subst (HasNoneBelow test X) ew w) (subst (HasOneUpTo test X) ew w1) (subst (HasNoneBelow test Y) es s) (subst (HasOneUpTo test Y) es s1) (subst (HasNoneAbove test X) ee e) (subst (HasOneFrom test X) ee e1) (subst (HasNoneAbove test Y) en n) (subst (HasOneFrom test Y) en n1)

pub whole-part : (b : Extent) → IsNear b → IsPart b b
whole-part b n = record { west = omega (arith, ints); south = omega (arith, ints); east = omega (arith, ints); north = omega (arith, ints); wide = n.wide; high = n.high }
