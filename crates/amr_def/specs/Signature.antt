-- Signatures of a set of cells, which is given as the list of its cells, row by row. (Berger and Rigoutsos)
use Rattle.std.specs.Prelude.{ℕ, ◌+◌, ◌-◌, ◌*◌, Bool, ℤ, pos, ◌+ℤ◌, ◌-ℤ◌, List, map, nat_le, slice_index}
use Rattle.std.specs.List.{count_by, fold, range_with_len}
use Rattle.std.specs.Int.{int_min, int_max}
use Rattle.std.specs.Ordering.{int_eq}
use Rattle.amr_box.specs.declared.Cell.{Cell}
use Rattle.amr_box.specs.declared.Axis.{Axis}
use Rattle.amr_box.specs.declared.Axis.TheVariants.{X, Y}
use Rattle.amr_box.specs.Cells.{cell, Extent, extent, width, height}

-- the least box round a box and a cell
abbrev pub grown_to : Extent → Cell → Extent
grown_to b c = extent (cell (int_min b.lo.x c.x) (int_min b.lo.y c.y)) (cell (int_max b.hi.x c.x) (int_max b.hi.y c.y))

-- the least box round c and the cells cs
abbrev pub bounding : Cell → List Cell → Extent
bounding c cs = fold grown_to (extent c c) cs

abbrev pub area : Extent → ℕ
area b = width b * height b

-- whether enough of the cells of a box, in per cent, are in a set of `count` of them
abbrev pub is_efficient : ℕ → ℕ → Extent → Bool
is_efficient efficiency count b = nat_le (efficiency * area b) (100 * count)

-- how many cells of the set stand in each column or row of a box, from the low end
abbrev pub signature : Axis → List Cell → Extent → List ℕ
signature X cs b = map (λ i. count_by (λ c. int_eq c.x (b.lo.x +ℤ pos i)) cs) (range_with_len 0 (width b))
signature Y cs b = map (λ j. count_by (λ c. int_eq c.y (b.lo.y +ℤ pos j)) cs) (range_with_len 0 (height b))

-- of the entries at j - 1, j and j + 1, where there are all three
abbrev pub second_difference : List ℕ → ℕ → ℤ
second_difference s j = pos (slice_index s (j - 1)) -ℤ pos (2 * slice_index s j) +ℤ pos (slice_index s (j + 1))
