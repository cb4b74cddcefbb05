-- Parents along a row of cells, and the parents of children.
use Rattle.std.proofs.Common.{◌≡◌, ◌∙◌, ℕ, ◌+◌, ◌*◌, ◌/◌, ◌%◌, ◌<◌, ◌≤◌, ℤ, pos, negsuc, ◌+ℤ◌, ◌<ℤ◌, List, length, sym, ap, subst, arith}
use Rattle.std.specs.Prelude.{slice_index}
use Rattle.std.specs.declared.option.Option.{Option}
use Rattle.std.specs.declared.option.Option.TheVariants.{Some}
use Rattle.std.specs.Option.{unwrap_or}
use Rattle.std.proofs.lemmas.Int.{ints}
use Rattle.amr_box.specs.declared.Cell.{Cell}
use Rattle.amr_box.specs.Cells.{Extent, HasCorners, IsNear, cell, half, parent}
use Rattle.amr_box.proofs.CellEquality.{same_cell}
use Rattle.amr_box.proofs.Numbers.{half_le}
use Rattle.amr_def.specs.Regrid.{odd, child_share, split_mass}
use Rattle.amr_def.specs.State.{Masses, mass_of}
use Rattle.amr_def.proofs.Nests.{half_and_odd}
use Rattle.amr_def.proofs.Nesting.{half_ahead, odd_small}

-- ---- along a row

pub odd_ahead : (z : ℤ) (k : ℕ) → odd (z +ℤ pos k) ≡ (odd z + k) % 2
odd_ahead z k = omega (arith, ints, half_and_odd z, half_and_odd (z +ℤ pos k), odd_small z, odd_small (z +ℤ pos k))

-- the share of a cell of a row, by the masses of the parents of the row
pub share_is : (coarse : Masses) (c : Cell) (parents : List ℕ) (k : ℕ) → ((j : ℕ) → j < length parents → coarse (cell ((parent c).x +ℤ pos j) (parent c).y) ≡ Some (slice_index parents j)) → (odd c.x + k) / 2 < length parents
    → child_share (slice_index parents ((odd c.x + k) / 2)) (2 * odd c.y + (odd c.x + k) % 2) ≡ split_mass coarse (cell (c.x +ℤ pos k) c.y)
share_is coarse c parents k masses lt =
    let at : mass_of coarse (cell (half (c.x +ℤ pos k)) (half c.y)) ≡ slice_index parents ((odd c.x + k) / 2) =
    ap (λ (z : ℤ). mass_of coarse (cell z (half c.y))) (half_ahead c.x k) ∙ ap (λ (o : Option ℕ). unwrap_or o 0) (masses ((odd c.x + k) / 2) lt) in
    ap (λ (m : ℕ). child_share m (2 * odd c.y + (odd c.x + k) % 2)) (sym at)
    ∙ ap (λ (n : ℕ). child_share (mass_of coarse (cell (half (c.x +ℤ pos k)) (half c.y))) (2 * odd c.y + n)) (sym (odd_ahead c.x k))

-- ---- children

pub half_child : (z : ℤ) (i : ℕ) → i ≤ 1 → half (z +ℤ z +ℤ pos i) ≡ z
half_child z i h = omega (arith, ints, half_and_odd (z +ℤ z +ℤ pos i), odd_small (z +ℤ z +ℤ pos i))

pub odd_child : (z : ℤ) (i : ℕ) → i ≤ 1 → odd (z +ℤ z +ℤ pos i) ≡ i
odd_child z i h = omega (arith, ints, half_and_odd (z +ℤ z +ℤ pos i), odd_small (z +ℤ z +ℤ pos i))

pub parent_child : (c : Cell) (i j : ℕ) → i ≤ 1 → j ≤ 1 → parent (cell (c.x +ℤ c.x +ℤ pos i) (c.y +ℤ c.y +ℤ pos j)) ≡ c
parent_child c i j h k = same_cell (half_child c.x i h) (half_child c.y j k)

-- the share of a child
pub share_child : (coarse : Masses) (c : Cell) (i j : ℕ) → i ≤ 1 → j ≤ 1 → split_mass coarse (cell (c.x +ℤ c.x +ℤ pos i) (c.y +ℤ c.y +ℤ pos j)) ≡ child_share (mass_of coarse c) (2 * j + i)
share_child coarse c i j h k =
    ap (λ (d : Cell). child_share (mass_of coarse d) (2 * odd (c.y +ℤ c.y +ℤ pos j) + odd (c.x +ℤ c.x +ℤ pos i))) (parent_child c i j h k)
    ∙ ap (λ (n : ℕ). child_share (mass_of coarse c) (2 * n + odd (c.x +ℤ c.x +ℤ pos i))) (odd_child c.y j k)
    ∙ ap (λ (n : ℕ). child_share (mass_of coarse c) (2 * j + n)) (odd_child c.x i h)

-- ---- parents of a near box

half_from : (z : ℤ) → negsuc 16777216 <ℤ z → negsuc 16777216 <ℤ half z
half_from z h = omega (arith, ints, half_and_odd z, odd_small z)

half_to : (z : ℤ) → z <ℤ pos 16777217 → half z <ℤ pos 16777217
half_to z h = omega (arith, ints, half_and_odd z, odd_small z)

pub near_parents : (f a b : Extent) → a ≡ f → IsNear f → HasCorners b (half a.lo.x) (half a.lo.y) (half a.hi.x) (half a.hi.y) → IsNear b
near_parents f a b same near_f k =
    let near = subst (λ (e : Extent). IsNear e) (sym same) near_f in
    let west = half_from a.lo.x near.west in
    let east = half_to a.hi.x near.east in
    let south = half_from a.lo.y near.south in
    let north = half_to a.hi.y near.north in
    let wide = half_le a.lo.x a.hi.x near.wide in
    let high = half_le a.lo.y a.hi.y near.high in
    record {
      west = omega (arith, ints, west, k.west_is);
      east = omega (arith, ints, east, k.east_is);
      south = omega (arith, ints, south, k.south_is);
      north = omega (arith, ints, north, k.north_is);
      wide = omega (arith, ints, wide, k.west_is, k.east_is);
      high = omega (arith, ints, high, k.south_is, k.north_is);
    }
