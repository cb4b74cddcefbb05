-- Cells at most n away: of n + 1 cells the first, then the other n.
use Rattle.std.proofs.Common.{◌≡◌, ℕ, ◌+◌, ◌<◌, Bool, true, false, ℤ, pos, ◌+ℤ◌, ◌-ℤ◌, ◌≤ℤ◌, ◌<ℤ◌, sym, ap, ◌∙◌, arith}
use Rattle.std.specs.Prelude.{unsigned_abs}
use Rattle.std.specs.Int.{int_rem_euclid}
use native.Mathlib.Nat.{mod-eq_of_lt}
use Rattle.std.proofs.Math.Bool.{or-false}
use Rattle.std.proofs.lemmas.Bool.{and_parts}
use Rattle.std.proofs.lemmas.Int.{ints}
use Rattle.amr_box.specs.declared.Cell.{Cell}
use Rattle.amr_box.specs.Cells.{Extent, cell, extent, height, holds, moved, width}
use Rattle.amr_box.proofs.CellLists.{IsFound, any_in_box, found_in_box}
use Rattle.amr_box.proofs.Numbers.{side-is}
use Rattle.amr_tags.specs.Stored.{IsIn}
use Rattle.amr_tags.specs.TagSets.{TagSet, has, home, is_near_tag, wrapped}
use Rattle.amr_tags.proofs.Neighbours.{split, wrapped-moved}
use Rattle.amr_tags.proofs.Places.{in_holds, is_in}

-- the offsets of a square, by their box
abbrev pub square_box : ℕ → Extent
square_box n = extent (cell (pos 0 -ℤ pos n) (pos 0 -ℤ pos n)) (cell (pos n) (pos n))

-- a cell beside one, from which the rest of the way leads on
pub record IsBeside (t : TagSet) (n : ℕ) (c : Cell) : Type 0 where
  pub step : Cell
  pub short : holds (square_box 1) step ≡ true
  pub there : holds t.bx (home t (moved c step)) ≡ true
  pub on : is_near_tag t n (home t (moved c step)) ≡ true

pub near-more : (t : TagSet) (n : ℕ) (c : Cell) → holds t.bx c ≡ true → is_near_tag t (n + 1) c ≡ true → IsBeside t n c
near-more t n c inside near = go (found_in_box (λ o. has t (home t (moved c o))) (square_box (n + 1)) near)
  where
    here : IsIn t.bx c
    here = is_in t.bx c inside

    wide : pos (width t.bx) ≡ t.bx.hi.x +ℤ pos 1 -ℤ t.bx.lo.x
    wide = side-is t.bx.lo.x t.bx.hi.x (omega (arith, ints, here.west, here.east))

    high : pos (height t.bx) ≡ t.bx.hi.y +ℤ pos 1 -ℤ t.bx.lo.y
    high = side-is t.bx.lo.y t.bx.hi.y (omega (arith, ints, here.south, here.north))

    go : IsFound (λ o. has t (home t (moved c o))) (square_box (n + 1)) → IsBeside t n c
    go f =
        let way = is_in (square_box (n + 1)) f.at f.inside in
        let tagged = and_parts (holds t.bx (home t (moved c f.at))) _ f.passes in
        let end = is_in t.bx (home t (moved c f.at)) tagged.0 in
        let x = split t.wrap_x t.bx.lo.x (width t.bx) n c.x f.at.x (omega (arith, ints, wide, here.west, here.east)) here.west (omega (arith, ints, wide, here.east)) end.west (omega (arith, ints, wide, end.east)) way.west way.east in
        let y = split t.wrap_y t.bx.lo.y (height t.bx) n c.y f.at.y (omega (arith, ints, high, here.south, here.north)) here.south (omega (arith, ints, high, here.north)) end.south (omega (arith, ints, high, end.north)) way.south way.north in
        let same : home t (moved (home t (moved c (cell x.first y.first))) (cell x.rest y.rest)) ≡ home t (moved c f.at) = λ i. cell (x.ends i) (y.ends i) in
        record {
          step = cell x.first y.first;
          short = in_holds (square_box 1) (cell x.first y.first) x.first_low x.first_high y.first_low y.first_high;
          there = in_holds t.bx (home t (moved c (cell x.first y.first))) x.inside_low (omega (arith, ints, wide, x.inside_high)) y.inside_low (omega (arith, ints, high, y.inside_high));
          on = any_in_box (λ o. has t (home t (moved (home t (moved c (cell x.first y.first))) o))) (square_box n) (cell x.rest y.rest) (in_holds (square_box n) (cell x.rest y.rest) x.rest_low x.rest_high y.rest_low y.rest_high) (ap (has t) same ∙ f.passes);
        }

pub near-joined : (t : TagSet) (n : ℕ) (c e : Cell) → 0 < width t.bx → 0 < height t.bx → holds (square_box 1) e ≡ true → is_near_tag t n (home t (moved c e)) ≡ true → is_near_tag t (n + 1) c ≡ true
near-joined t n c e some_x some_y short near = go (found_in_box (λ o. has t (home t (moved (home t (moved c e)) o))) (square_box n) near)
  where
    go : IsFound (λ o. has t (home t (moved (home t (moved c e)) o))) (square_box n) → is_near_tag t (n + 1) c ≡ true
    go f =
        let way = is_in (square_box n) f.at f.inside in
        let first = is_in (square_box 1) e short in
        let sum_x : c.x +ℤ e.x +ℤ f.at.x ≡ c.x +ℤ (e.x +ℤ f.at.x) = omega (arith, ints) in
        let sum_y : c.y +ℤ e.y +ℤ f.at.y ≡ c.y +ℤ (e.y +ℤ f.at.y) = omega (arith, ints) in
        let ends_x = wrapped-moved t.wrap_x t.bx.lo.x (width t.bx) (c.x +ℤ e.x) f.at.x some_x ∙ ap (wrapped t.wrap_x t.bx.lo.x (width t.bx)) sum_x in
        let ends_y = wrapped-moved t.wrap_y t.bx.lo.y (height t.bx) (c.y +ℤ e.y) f.at.y some_y ∙ ap (wrapped t.wrap_y t.bx.lo.y (height t.bx)) sum_y in
        let same : home t (moved (home t (moved c e)) f.at) ≡ home t (moved c (cell (e.x +ℤ f.at.x) (e.y +ℤ f.at.y))) = λ i. cell (ends_x i) (ends_y i) in
        any_in_box (λ o. has t (home t (moved c o))) (square_box (n + 1)) (cell (e.x +ℤ f.at.x) (e.y +ℤ f.at.y))
        (in_holds (square_box (n + 1)) (cell (e.x +ℤ f.at.x) (e.y +ℤ f.at.y)) (omega (arith, ints, way.west, first.west)) (omega (arith, ints, way.east, first.east)) (omega (arith, ints, way.south, first.south)) (omega (arith, ints, way.north, first.north)))
        (ap (has t) (sym same) ∙ f.passes)

-- ---- no step

pub wrapped-itself : (wrap : Bool) (low : ℤ) (w : ℕ) (z y : ℤ) → y ≡ z → low ≤ℤ z → z <ℤ (low +ℤ pos w) → wrapped wrap low w y ≡ z
wrapped-itself true low w z y e a b =
    let k = unsigned_abs (z -ℤ low) in
    let is : y -ℤ low ≡ pos k = omega (arith, ints, e) in
    let small : k < w = omega (arith, ints) in
    ap (λ (t : ℤ). low +ℤ int_rem_euclid t (pos w)) is ∙ ap (λ (t : ℕ). low +ℤ pos t) (mod-eq_of_lt small) ∙ omega (arith, ints)
wrapped-itself false low w z y e a b = e

pub near-none : (t : TagSet) (c : Cell) → holds t.bx c ≡ true → is_near_tag t 0 c ≡ has t c
near-none t c inside = or-false (has t (home t (moved c zero_step))) ∙ ap (has t) same
  where
    zero_step : Cell
    zero_step = cell (pos 0 -ℤ pos 0 +ℤ pos 0) (pos 0 -ℤ pos 0 +ℤ pos 0)

    here : IsIn t.bx c
    here = is_in t.bx c inside

    same_x : wrapped t.wrap_x t.bx.lo.x (width t.bx) (c.x +ℤ zero_step.x) ≡ c.x
    same_x = wrapped-itself t.wrap_x t.bx.lo.x (width t.bx) c.x (c.x +ℤ zero_step.x) (omega (arith, ints)) here.west (omega (arith, ints, here.west, here.east, side-is t.bx.lo.x t.bx.hi.x (omega (arith, ints, here.west, here.east))))

    same_y : wrapped t.wrap_y t.bx.lo.y (height t.bx) (c.y +ℤ zero_step.y) ≡ c.y
    same_y = wrapped-itself t.wrap_y t.bx.lo.y (height t.bx) c.y (c.y +ℤ zero_step.y) (omega (arith, ints)) here.south (omega (arith, ints, here.south, here.north, side-is t.bx.lo.y t.bx.hi.y (omega (arith, ints, here.south, here.north))))

    same : home t (moved c zero_step) ≡ c
    same = λ i. cell (same_x i) (same_y i)
