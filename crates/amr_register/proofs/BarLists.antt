-- Lists of bars to which the rows of boxes are added.
use Rattle.std.proofs.Common.{◌≡◌, ◌∙◌, ℕ, suc, ◌+◌, ◌<◌, ◌≤◌, Bool, true, false, ◌&&◌, ◌||◌, ◌⊎◌, inl, inr, ℤ, pos, negsuc, ◌+ℤ◌, ◌-ℤ◌, ◌≤ℤ◌, ◌<ℤ◌, List, [], ◌∷◌, ◌++◌, length, take, refl, sym, ap, subst, arith}
use Rattle.std.proofs.Math.Bool.{and-false, or-false, or_assoc}
use Rattle.std.specs.Prelude.{is_some, slice_index_or}
use Rattle.std.specs.List.{All}
use Rattle.std.specs.List.Sorted.{IsPermutation}
use Rattle.std.specs.Cmp.{both_ways}
use Rattle.std.proofs.lemmas.Int.{ints}
use Rattle.std.proofs.lemmas.Bool.{or_cases, or_left, or_right}
use Rattle.std.proofs.lemmas.List.{get_or-take, length-take-le, take_all}
use Rattle.std.proofs.lemmas.List.Elements.{All-nil, All-push}
use Rattle.std.proofs.lemmas.List.Folds.{Any-from_list_any, list_any-append, list_any_at, list_any_more}
use Rattle.std.proofs.lemmas.List.Quantifiers.{all_pairs_push}
use Rattle.std.proofs.lemmas.List.Sorted.{All-permutation, list_any-IsPermutation}
use Rattle.amr_box.specs.declared.Cell.{Cell}
use Rattle.amr_box.specs.Cells.{Extent, HasCorners, IsNear, cell, extent, half, height, holds, in_boxes, parents_of, within}
use Rattle.amr_box.proofs.Tests.{and_shared}
use Rattle.amr_box.proofs.Numbers.{half_le, none_within}
use Rattle.amr_def.specs.Facts.{IsAligned}
use Rattle.amr_def.specs.State.{Masses, is_covered}
use Rattle.amr_def.proofs.LevelLists.{child_0}
use Rattle.amr_def.proofs.Nesting.{aligned_even, odd_small}
use Rattle.amr_def.proofs.Nests.{AllEven, IsEven, all_children, half_and_odd}
use Rattle.amr_patch.specs.Orders.{AreBoxesInRows}
use Rattle.amr_patch.specs.Patches.{ArePairwiseApart}
use Rattle.amr_patch.proofs.Apart.{apart_in_order}
use Rattle.amr_patch.proofs.Rows.{inside, sides}
use Rattle.amr_register.specs.Bars.{AreBars, IsBar}
use Rattle.amr_register.proofs.Around.{coarse_holds, even_holds, first_tells}
use Rattle.amr_register.proofs.Taken.{same_at}

-- ---- the rows of a box

-- the first n rows of a box, and the next one
abbrev pub first_rows : Extent → ℕ → Extent
first_rows b n = extent b.lo (cell b.hi.x (b.lo.y +ℤ pos n -ℤ pos 1))

abbrev pub row_at : Extent → ℕ → Extent
row_at b n = extent (cell b.lo.x (b.lo.y +ℤ pos n)) (cell b.hi.x (b.lo.y +ℤ pos n))

one_within : (low y : ℤ) (n : ℕ) → (within low (low +ℤ pos n -ℤ pos 1) y || within (low +ℤ pos n) (low +ℤ pos n) y) ≡ within low (low +ℤ pos (n + 1) -ℤ pos 1) y
one_within low y n = grind (arith, ints)

no_row_holds : (b : Extent) (c : Cell) → holds (first_rows b 0) c ≡ false
no_row_holds b c = ap (λ (t : Bool). within b.lo.x b.hi.x c.x && t) (none_within b.lo.y c.y) ∙ and-false (within b.lo.x b.hi.x c.x)

one_row_holds : (b : Extent) (n : ℕ) (c : Cell) → (holds (first_rows b n) c || holds (row_at b n) c) ≡ holds (first_rows b (n + 1)) c
one_row_holds b n c =
    and_shared (within b.lo.x b.hi.x c.x) (within b.lo.y (b.lo.y +ℤ pos n -ℤ pos 1) c.y) (within (b.lo.y +ℤ pos n) (b.lo.y +ℤ pos n) c.y)
    ∙ ap (λ (t : Bool). within b.lo.x b.hi.x c.x && t) (one_within b.lo.y c.y n)

-- the next row has no cell of the first n
rows_apart : (b : Extent) (n : ℕ) (c : Cell) → holds (first_rows b n) c ≡ true → holds (row_at b n) c ≡ true → ⊥
rows_apart b n c h k = let i = inside (first_rows b n) c h in let j = inside (row_at b n) c k in omega (arith, ints, i.north, j.south)

-- ---- rows are added

-- the cells of a box were added, as bars that no cell is in two of
pub record AddsBox (b : Extent) (old new : List Extent) : Type 0 where
  pub each : All IsBar old → All IsBar new
  pub cells : (c : Cell) → in_boxes new c ≡ (in_boxes old c || holds b c)
  pub apart : ArePairwiseApart old → ((c : Cell) → in_boxes old c ≡ true → holds b c ≡ true → ⊥) → ArePairwiseApart new

pub no_rows_added : (b : Extent) (rs : List Extent) → AddsBox (first_rows b 0) rs rs
no_rows_added b rs = record {
  each = λ h. h;
  cells = λ c. sym (or-false (in_boxes rs c)) ∙ ap (λ (t : Bool). in_boxes rs c || t) (sym (no_row_holds b c));
  apart = λ h k. h;
}

-- what a list with one box more holds
in_pushed : (rs : List Extent) (r : Extent) (c : Cell) → in_boxes (rs ++ r ∷ []) c ≡ (in_boxes rs c || holds r c)
in_pushed rs r c = list_any-append (λ (b : Extent). holds b c) rs (r ∷ []) ∙ ap (λ (t : Bool). in_boxes rs c || t) (or-false (holds r c))

pub one_row_added : (b : Extent) (old now new : List Extent) (n : ℕ) (r : Extent) → AddsBox (first_rows b n) old now → r ≡ row_at b n → b.lo.x ≤ℤ b.hi.x → new ≡ now ++ r ∷ [] → AddsBox (first_rows b (n + 1)) old new
one_row_added b old now new n r done is_row wide is_new =
    subst (λ (e : Extent). new ≡ now ++ e ∷ [] → AddsBox (first_rows b (n + 1)) old new) (sym is_row) with_row is_new
  where
    bar : IsBar (row_at b n)
    bar = record { of_row = refl; wide = wide }

    cells_of : (c : Cell) → in_boxes (now ++ row_at b n ∷ []) c ≡ (in_boxes old c || holds (first_rows b (n + 1)) c)
    cells_of c =
        in_pushed now (row_at b n) c
        ∙ ap (λ (t : Bool). t || holds (row_at b n) c) (done.cells c)
        ∙ or_assoc (in_boxes old c) (holds (first_rows b n) c) (holds (row_at b n) c)
        ∙ ap (λ (t : Bool). in_boxes old c || t) (one_row_holds b n c)

    more : (c : Cell) → holds (first_rows b n) c ≡ true → holds (first_rows b (n + 1)) c ≡ true
    more c h = sym (one_row_holds b n c) ∙ or_left (holds (first_rows b n) c) (holds (row_at b n) c) h

    last : (c : Cell) → holds (row_at b n) c ≡ true → holds (first_rows b (n + 1)) c ≡ true
    last c h = sym (one_row_holds b n c) ∙ or_right (holds (first_rows b n) c) (holds (row_at b n) c) h

    none_twice : ((c : Cell) → in_boxes old c ≡ true → holds (first_rows b (n + 1)) c ≡ true → ⊥) → (c : Cell) → (in_boxes old c ≡ true) ⊎ (holds (first_rows b n) c ≡ true) → holds (row_at b n) c ≡ true → ⊥
    none_twice out c (inl h) k = out c h (last c k)
    none_twice out c (inr h) k = rows_apart b n c h k

    apart_from : ArePairwiseApart old → ((c : Cell) → in_boxes old c ≡ true → holds (first_rows b (n + 1)) c ≡ true → ⊥) → ArePairwiseApart (now ++ row_at b n ∷ [])
    apart_from h out =
        all_pairs_push (λ (a e : Extent). (c : Cell) → holds a c ≡ true → holds e c ≡ true → ⊥) now (row_at b n) (done.apart h (λ c i k. out c i (more c k)))
        (λ k d lt c i j. none_twice out c (or_cases (in_boxes old c) (holds (first_rows b n) c) (sym (done.cells c) ∙ list_any_at (λ (e : Extent). holds e c) now k d lt i)) j)

    with_row : new ≡ now ++ row_at b n ∷ [] → AddsBox (first_rows b (n + 1)) old new
    with_row e = subst (λ (rs : List Extent). AddsBox (first_rows b (n + 1)) old rs) (sym e) (record {
      each = λ h. All-push IsBar now (row_at b n) (done.each h) bar;
      cells = cells_of;
      apart = apart_from;
    })

pub all_rows_added : (b : Extent) (old new : List Extent) (n : ℕ) → IsNear b → n ≡ height b → AddsBox (first_rows b n) old new → AddsBox b old new
all_rows_added b old new n near e done = subst (λ (x : Extent). AddsBox x old new) whole done
  where
    top : b.lo.y +ℤ pos n -ℤ pos 1 ≡ b.hi.y
    top = omega (arith, ints, e, (sides b near).high)

    whole : first_rows b n ≡ b
    whole i = record { lo = b.lo; hi = record { x = b.hi.x; y = top i } }

-- ---- box by box

-- the rows of the first n boxes' parents
pub record AreRowsOf (bs rs : List Extent) (n : ℕ) : Type 0 where
  pub each : All IsBar rs
  pub cells : (c : Cell) → in_boxes rs c ≡ in_boxes (take n bs) (child_0 c)
  pub apart : ArePairwiseApart rs

pub no_boxes_yet : (bs rs : List Extent) → rs ≡ [] → AreRowsOf bs rs 0
no_boxes_yet bs rs e = subst (λ (xs : List Extent). AreRowsOf bs xs 0) (sym e) (record { each = All-nil IsBar; cells = λ c. refl; apart = λ i j d lt l. absurd (omega arith) })

even_of : (e : Extent) → IsAligned 2 e → IsEven e
even_of e h = aligned_even 2 e refl h

pub one_box_more : (bs old new : List Extent) (n : ℕ) (e b : Extent) → ArePairwiseApart bs → All (IsAligned 2) bs → AreRowsOf bs old n → n < length bs → e ≡ slice_index_or bs n e → HasCorners b (half e.lo.x) (half e.lo.y) (half e.hi.x) (half e.hi.y) → AddsBox b old new → AreRowsOf bs new (n + 1)
one_box_more bs old new n e b apart aligned done lt at corners added = record {
  each = added.each done.each;
  cells = λ c.
      added.cells c
      ∙ (λ i. done.cells c i || held c i)
      ∙ ap (λ (x : Extent). in_boxes (take n bs) (child_0 c) || holds x (child_0 c)) at
      ∙ sym (list_any_more (λ (x : Extent). holds x (child_0 c)) bs n e lt);
  apart = added.apart done.apart (λ c i k. twice c (Any-from_list_any (λ (x : Extent). holds x (child_0 c)) (take n bs) (sym (done.cells c) ∙ i)) (sym (held c) ∙ k));
}
  where
    is_here : b ≡ parents_of e
    is_here i = record { lo = record { x = corners.west_is i; y = corners.south_is i }; hi = record { x = corners.east_is i; y = corners.north_is i } }

    even : IsEven e
    even = even_of e (subst (IsAligned 2) (sym at) (aligned n e lt))

    held : (c : Cell) → holds b c ≡ holds e (child_0 c)
    held c = ap (λ (x : Extent). holds x c) is_here ∙ both_ways (holds (parents_of e) c) (holds e (child_0 c)) (even_holds e c even) (coarse_holds e c)

    twice : (c : Cell) → (k : ℕ) × (d : Extent) × (k < length (take n bs)) × (slice_index_or (take n bs) k d ≡ d) × (holds d (child_0 c) ≡ true) → holds e (child_0 c) ≡ true → ⊥
    twice c (k, d, there, is, h) g =
        let below : k < n = omega (arith, there, length-take-le n bs (omega (arith, lt))) in
        let early : holds (slice_index_or bs k d) (child_0 c) ≡ true = ap (λ (x : Extent). holds x (child_0 c)) (sym (get_or-take n bs k d below) ∙ is) ∙ h in
        let late : holds (slice_index_or bs n d) (child_0 c) ≡ true = ap (λ (x : Extent). holds x (child_0 c)) (same_at bs n d e lt ∙ sym at) ∙ g in
        apart k n d below lt (child_0 c) early late

-- ---- all boxes

all_even : (bs : List Extent) → All (IsAligned 2) bs → AllEven bs
all_even [] h = tt
all_even (b ∷ bs) h = (even_of b (h 0 b (omega arith)), all_even bs (λ k d lt. h (suc k) d (omega arith)))

-- the bars of all boxes, in another order too, have the covered cells
pub all_covered : (fine : Masses) (bs rs es : List Extent) (n : ℕ) → length bs ≤ n → All (IsAligned 2) bs → ((c : Cell) → is_some (fine c) ≡ in_boxes bs c) → AreRowsOf bs rs n → IsPermutation rs es → (c : Cell) → in_boxes es c ≡ is_covered fine c
all_covered fine bs rs es n all aligned filled done order c =
    sym (list_any-IsPermutation (λ (b : Extent). holds b c) rs es order)
    ∙ done.cells c
    ∙ ap (λ (xs : List Extent). in_boxes xs (child_0 c)) (take_all n bs all)
    ∙ sym (filled (child_0 c))
    ∙ sym ((first_tells fine (all_children bs fine (all_even bs aligned) filled)).at c)

pub bars_in_order : (bs rs es : List Extent) (n : ℕ) → AreRowsOf bs rs n → IsPermutation rs es → AreBoxesInRows es → AreBars es
bars_in_order bs rs es n done order in_rows = record {
  each = All-permutation IsBar rs es order done.each;
  apart = apart_in_order rs es order done.apart;
  in_rows = in_rows;
}

-- the parents of a near box are near
near_half : (z : ℤ) → negsuc 16777216 <ℤ z → z <ℤ pos 16777217 → (negsuc 16777216 <ℤ half z) × (half z <ℤ pos 16777217)
near_half z h k = (omega (arith, ints, half_and_odd z, odd_small z), omega (arith, ints, half_and_odd z, odd_small z))

pub parents_near : (bs : List Extent) (n : ℕ) (e b : Extent) → All IsNear bs → n < length bs → e ≡ slice_index_or bs n e → HasCorners b (half e.lo.x) (half e.lo.y) (half e.hi.x) (half e.hi.y) → IsNear b
parents_near bs n e b near lt at corners =
    let whole : IsNear e = subst IsNear (sym at) (near n e lt) in
    let west = near_half e.lo.x whole.west (omega (arith, ints, whole.wide, whole.east)) in
    let south = near_half e.lo.y whole.south (omega (arith, ints, whole.high, whole.north)) in
    let east = near_half e.hi.x (omega (arith, ints, whole.wide, whole.west)) whole.east in
    let north = near_half e.hi.y (omega (arith, ints, whole.high, whole.south)) whole.north in
    record {
      west = omega (arith, ints, corners.west_is, west.0);
      east = omega (arith, ints, corners.east_is, east.1);
      south = omega (arith, ints, corners.south_is, south.0);
      north = omega (arith, ints, corners.north_is, north.1);
      wide = omega (arith, ints, corners.west_is, corners.east_is, half_le e.lo.x e.hi.x whole.wide);
      high = omega (arith, ints, corners.south_is, corners.north_is, half_le e.lo.y e.hi.y whole.high);
    }
