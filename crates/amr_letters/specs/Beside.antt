-- The ghost cells beside a box, numbered: the slots of its frame. (One ghost cell round each grid: Berger, M. and Colella, P., Local
-- Adaptive Mesh Refinement for Shock Hydrodynamics, Journal of Computational Physics 82 (1989))
use Rattle.std.specs.Prelude.{◌≡◌, ℕ, ◌+◌, ◌-◌, ◌*◌, ◌<◌, cond, nat_lt, int_lt, pos, ◌+ℤ◌, ◌-ℤ◌, IsTrue}
use Rattle.amr_box.specs.declared.Cell.{Cell}
use Rattle.amr_box.specs.Cells.{Extent, IsProper, cell, height, width, within}
use Rattle.amr_patch.specs.Places.{column_of, row_of}
use Rattle.amr_ghost.specs.Frames.{is_beside}

-- the cells west and east of row j of a box, and those south and north of its column i
abbrev pub west_of : Extent → ℕ → Cell
west_of b j = cell (b.lo.x -ℤ pos 1) (b.lo.y +ℤ pos j)

abbrev pub east_of : Extent → ℕ → Cell
east_of b j = cell (b.hi.x +ℤ pos 1) (b.lo.y +ℤ pos j)

abbrev pub south_of : Extent → ℕ → Cell
south_of b i = cell (b.lo.x +ℤ pos i) (b.lo.y -ℤ pos 1)

abbrev pub north_of : Extent → ℕ → Cell
north_of b i = cell (b.lo.x +ℤ pos i) (b.hi.y +ℤ pos 1)

-- how many cells lie beside a box
abbrev pub beside_count : Extent → ℕ
beside_count b = 2 * (height b + width b)

-- the cells beside a box one after another: first those west of its rows by y, then those east of them; then those south of its
-- columns by x, then those north of them
unfoldable pub beside_cell : Extent → ℕ → Cell
beside_cell b n =
    cond (nat_lt n (height b)) (west_of b n)
    (cond (nat_lt n (2 * height b)) (east_of b (n - height b))
    (cond (nat_lt n (2 * height b + width b)) (south_of b (n - 2 * height b)) (north_of b (n - (2 * height b + width b)))))

-- the slot of a cell beside a box: how many of those cells stand before it
unfoldable pub slot_of : Extent → Cell → ℕ
slot_of b c =
    cond (within b.lo.y b.hi.y c.y) (cond (int_lt c.x b.lo.x) (row_of b c) (height b + row_of b c))
    (cond (int_lt c.y b.lo.y) (2 * height b + column_of b c) (2 * height b + width b + column_of b c))

-- ---- what holds of them

-- each of those cells lies beside the box
abbrev pub AreBeside : Type 0
AreBeside = (b : Extent) (n : ℕ) → IsProper b → n < beside_count b → IsTrue (is_beside b (beside_cell b n))

-- each cell beside the box stands at its slot
abbrev pub HaveSlots : Type 0
HaveSlots = (b : Extent) (c : Cell) → IsProper b → IsTrue (is_beside b c) → beside_cell b (slot_of b c) ≡ c

-- its slot is one of the box
abbrev pub AreSlotsWithin : Type 0
AreSlotsWithin = (b : Extent) (c : Cell) → IsProper b → IsTrue (is_beside b c) → slot_of b c < beside_count b

-- no cell stands at two slots
abbrev pub AreSlotsOne : Type 0
AreSlotsOne = (b : Extent) (n : ℕ) → IsProper b → n < beside_count b → slot_of b (beside_cell b n) ≡ n
