-- Belts of rows: their ends, and which cells lie in them.
use Rattle.std.proofs.Common.{◌≡◌, ℕ, ◌+◌, ◌*◌, ◌<◌, ◌≤◌, Bool, true, false, ℤ, pos, ◌+ℤ◌, ◌-ℤ◌, ◌≤ℤ◌, ◌<ℤ◌, List, refl, arith}
use Rattle.std.proofs.lemmas.Int.{ints}
use Rattle.std.proofs.lemmas.Bool.{and_from, and_parts, both_ways}
use Rattle.std.proofs.lemmas.Nat.{mul-le}
use Rattle.amr_box.specs.declared.Cell.{Cell}
use Rattle.amr_box.specs.Cells.{Extent, IsNear, cell, within}
use Rattle.amr_def.specs.Domain.{Domain, home_cell}
use Rattle.amr_def.proofs.Homes.{inside-itself}
use Rattle.amr_def.proofs.Uncovered.{inside_test}
use Rattle.amr_patch.proofs.Rows.{between, sides}
use Rattle.amr_register.specs.declared.belts.Belt.{Belt}
use Rattle.amr_register.specs.Belts.{is_in_belt}
use Rattle.amr_register.specs.Beside.{stands_beside, stands_in}
use Rattle.amr_register.specs.CellLists.{FindsAround}

-- ---- ends

pub first_fits : (k size : ℕ) → k < 4096 → size ≤ 4097 → k * size ≤ 16777215
first_fits k size few small = let most : k * size ≤ 4095 * 4097 = mul-le k size 4095 4097 (omega (arith, few)) small in omega (arith, most)

pub last_is : (k size : ℕ) (z : ℤ) → z ≡ pos (k * size) → z +ℤ pos size -ℤ pos 1 ≡ pos ((k + 1) * size) -ℤ pos 1
last_is k size z e = omega (arith, ints, e)

-- ---- what lies in none

not_between : (low high z : ℤ) (t : Bool) → within low high z ≡ t → ((low ≤ℤ z) → (z ≤ℤ high) → ⊥) → t ≡ false
not_between low high z true e h = let b = between low high z e in absurd (h b.from b.to)
not_between low high z false e h = refl

pub below_belt : (s : Belt) (c : Cell) → c.y <ℤ s.first → is_in_belt s c ≡ false
below_belt s c h = not_between s.first s.last c.y (within s.first s.last c.y) refl (λ low high. omega (arith, ints, h, low))

pub above_belt : (s : Belt) (c : Cell) → s.last <ℤ c.y → is_in_belt s c ≡ false
above_belt s c h = not_between s.first s.last c.y (within s.first s.last c.y) refl (λ low high. omega (arith, ints, h, high))

-- a row of the domain is its own
pub home_row : (d : Domain) (c : Cell) → pos 0 ≤ℤ c.y → c.y <ℤ pos d.rows → (home_cell d c).y ≡ c.y
home_row d c low high = inside-itself d.wrap_y d.rows c.y (inside_test d.rows c.y low high)

-- ---- cells beside covered ones, in a belt

pub none_off_belt : (s : Belt) (d : Domain) (covered : Cell → Bool) (c : Cell) → is_in_belt s c ≡ false → stands_in s d covered c ≡ true → ⊥
unfolding stands_in
none_off_belt s d covered c e h = both_ways (is_in_belt s c) e (and_parts (is_in_belt s c) _ h).0

pub stands_there : (s : Belt) (d : Domain) (covered : Cell → Bool) (c : Cell) → stands_in s d covered c ≡ true → stands_beside d covered c ≡ true
unfolding stands_in
stands_there s d covered c h = (and_parts (is_in_belt s c) _ h).1

pub stands_in-yes : (s : Belt) (d : Domain) (covered : Cell → Bool) (c : Cell) → is_in_belt s c ≡ true → stands_beside d covered c ≡ true → stands_in s d covered c ≡ true
unfolding stands_in
stands_in-yes s d covered c h k = and_from (is_in_belt s c) _ h k

-- ---- a box beside which no cell lies in the belt

pub far : (s : Belt) (d : Domain) (covered : Cell → Bool) (b : Extent) (cs : List Cell) → IsNear b → ((c : Cell) → (b.lo.y -ℤ pos 1) ≤ℤ c.y → c.y ≤ℤ (b.hi.y +ℤ pos 1) → is_in_belt s (home_cell d c) ≡ false) → FindsAround d (stands_in s d covered) b cs
far s d covered b cs near off = record {
  rows = record {
    left = λ j lt t. none (cell (b.lo.x -ℤ pos 1) (b.lo.y +ℤ pos j)) (omega (arith, ints)) (omega (arith, ints, lt, (sides b near).high)) t;
    right = λ j lt t. none (cell (b.hi.x +ℤ pos 1) (b.lo.y +ℤ pos j)) (omega (arith, ints)) (omega (arith, ints, lt, (sides b near).high)) t;
  };
  columns = record {
    below = λ i lt t. none (cell (b.lo.x +ℤ pos i) (b.lo.y -ℤ pos 1)) (omega (arith, ints)) (omega (arith, ints, near.high)) t;
    above = λ i lt t. none (cell (b.lo.x +ℤ pos i) (b.hi.y +ℤ pos 1)) (omega (arith, ints, near.high)) (omega (arith, ints)) t;
  };
}
  where
    none : {P : Type 0} (c : Cell) → (b.lo.y -ℤ pos 1) ≤ℤ c.y → c.y ≤ℤ (b.hi.y +ℤ pos 1) → stands_in s d covered (home_cell d c) ≡ true → P
    none c low high t = absurd (none_off_belt s d covered (home_cell d c) (off c low high) t)
