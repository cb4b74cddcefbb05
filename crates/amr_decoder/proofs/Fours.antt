-- Spans of a row and of the rows of its children: each mass is the sum of a four exactly where the cell has the mass of its
-- children.
use Rattle.std.proofs.Common.{◌≡◌, ℕ, ◌+◌, ◌*◌, ◌<◌, ◌-◌, pos, ◌+ℤ◌, List, length, get_or, true, sym, ap, ◌∙◌, arith}
use Rattle.std.specs.Prelude.{IfSome}
use Rattle.std.specs.declared.option.Option.{Option}
use Rattle.std.specs.declared.option.Option.TheVariants.{None, Some}
use Rattle.std.proofs.lemmas.Int.{ints}
use Rattle.amr_box.specs.Cells.{Extent, HasCorners, cell, child, half}
use Rattle.amr_box.proofs.CellEquality.{same_cell}
use Rattle.amr_patch.specs.BoxRows.{HasCellsOf, mass_in}
use Rattle.amr_def.specs.State.{children_mass, mass_of}
use Rattle.amr_def.specs.Facts.{IsAligned}
use Rattle.amr_def.specs.Limits.{is_blocking}
use Rattle.amr_def.proofs.Nesting.{aligned_even}
use Rattle.amr_def.proofs.Nests.{even_is, odd_is}
use Rattle.amr_patch.specs.declared.levels.Level.{Level}
use Rattle.amr_patch.specs.Levels.{level_of}
use Rattle.amr_decoder.specs.Filled.{IsPlaced}
use Rattle.amr_decoder.specs.Synced.{IsOver, IsSumAt, four_at}

module _ (coarse fine : Level) (b parents : Extent) (over : IsOver coarse fine b parents) where
  -- the masses of two rows of the box are those of the children of a cell
  children_are : (row column : ℕ) → mass_in fine b (2 * row) (2 * column) + mass_in fine b (2 * row) (2 * column + 1) + mass_in fine b (2 * row + 1) (2 * column) + mass_in fine b (2 * row + 1) (2 * column + 1)
      ≡ children_mass (level_of fine).masses (cell (parents.lo.x +ℤ pos column) (parents.lo.y +ℤ pos row))
  children_are row column =
      let m = (level_of fine).masses in
      let c = cell (parents.lo.x +ℤ pos column) (parents.lo.y +ℤ pos row) in
      let first : cell (b.lo.x +ℤ pos (2 * column)) (b.lo.y +ℤ pos (2 * row)) ≡ child c 0 = same_cell (omega (arith, ints, over.west)) (omega (arith, ints, over.south)) in
      let second : cell (b.lo.x +ℤ pos (2 * column + 1)) (b.lo.y +ℤ pos (2 * row)) ≡ child c 1 = same_cell (omega (arith, ints, over.west)) (omega (arith, ints, over.south)) in
      let third : cell (b.lo.x +ℤ pos (2 * column)) (b.lo.y +ℤ pos (2 * row + 1)) ≡ child c 2 = same_cell (omega (arith, ints, over.west)) (omega (arith, ints, over.south)) in
      let fourth : cell (b.lo.x +ℤ pos (2 * column + 1)) (b.lo.y +ℤ pos (2 * row + 1)) ≡ child c 3 = same_cell (omega (arith, ints, over.west)) (omega (arith, ints, over.south)) in
      λ i. mass_of m (first i) + mass_of m (second i) + mass_of m (third i) + mass_of m (fourth i)

  module _ (row first : ℕ) (masses lower upper : List ℕ)
      (at : (k : ℕ) → k < length masses → get_or masses k 0 ≡ mass_in coarse parents row (first + k))
      (at_lower : (k : ℕ) → k < length lower → get_or lower k 0 ≡ mass_in fine b (2 * row) (2 * first + k))
      (at_upper : (k : ℕ) → k < length upper → get_or upper k 0 ≡ mass_in fine b (2 * row + 1) (2 * first + k)) where
    four_is : (k : ℕ) → 2 * k + 1 < length lower → 2 * k + 1 < length upper → four_at lower upper k ≡ children_mass (level_of fine).masses (cell (parents.lo.x +ℤ pos (first + k)) (parents.lo.y +ℤ pos row))
    four_is k low high =
        let even : 2 * first + 2 * k ≡ 2 * (first + k) = omega arith in
        let next : 2 * first + (2 * k + 1) ≡ 2 * (first + k) + 1 = omega arith in
        let w = at_lower (2 * k) (omega (arith, low)) ∙ ap (mass_in fine b (2 * row)) even in
        let e = at_lower (2 * k + 1) low ∙ ap (mass_in fine b (2 * row)) next in
        let x = at_upper (2 * k) (omega (arith, high)) ∙ ap (mass_in fine b (2 * row + 1)) even in
        let y = at_upper (2 * k + 1) high ∙ ap (mass_in fine b (2 * row + 1)) next in
        (λ i. w i + e i + x i + y i) ∙ children_are row (first + k)

    pub sum_from : (k : ℕ) → k < length masses → 2 * k + 1 < length lower → 2 * k + 1 < length upper → get_or masses k 0 ≡ four_at lower upper k → IsSumAt coarse fine parents row (first + k)
    sum_from k lt low high is = record { at = sym (at k lt) ∙ is ∙ four_is k low high }

    pub four_from : (k : ℕ) → k < length masses → 2 * k + 1 < length lower → 2 * k + 1 < length upper → IsSumAt coarse fine parents row (first + k) → get_or masses k 0 ≡ four_at lower upper k
    four_from k lt low high s = at k lt ∙ s.at ∙ sym (four_is k low high)

-- an aligned box over its parents
pub aligned_over : (blocking : ℕ) (coarse fine : Level) (b parents : Extent) → is_blocking blocking ≡ true → IsAligned blocking b → HasCorners parents (half b.lo.x) (half b.lo.y) (half b.hi.x) (half b.hi.y) → IsPlaced b → IsPlaced parents → HasCellsOf fine b → HasCellsOf coarse parents → IsOver coarse fine b parents
aligned_over blocking coarse fine b parents h aligned k placed over fine_cells coarse_cells =
    let even = aligned_even blocking b h aligned in
    record {
      children = placed;
      placed = over;
      west = even_is b.lo.x even.0 ∙ (λ i. sym k.west_is i +ℤ sym k.west_is i);
      south = even_is b.lo.y even.1 ∙ (λ i. sym k.south_is i +ℤ sym k.south_is i);
      east = odd_is b.hi.x even.2 ∙ (λ i. sym k.east_is i +ℤ sym k.east_is i +ℤ pos 1);
      north = odd_is b.hi.y even.3 ∙ (λ i. sym k.north_is i +ℤ sym k.north_is i +ℤ pos 1);
      fine_cells = fine_cells;
      coarse_cells = coarse_cells;
    }

-- ---- columns in a row

pub some_weaker : (o : Option ℕ) (P Q : ℕ → Type 0) → ((n : ℕ) → P n → Q n) → IfSome o P → IfSome o Q
some_weaker None P Q f h = tt
some_weaker (Some n) P Q f h = f n h
