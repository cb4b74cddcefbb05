-- Where the entries of a patch stand in its lists: values row by row over the grown box, within a row from the low column;
-- fluxes along the four edges of the box, which are the faces that its cells share with cells outside.
use Rattle.std.specs.Prelude.{ℕ, ◌+◌, ◌*◌, ℤ, Bool, ◌&&◌, ◌||◌, not, pos, ◌+ℤ◌, ◌-ℤ◌}
use Rattle.std.specs.Ordering.{int_eq}
use Rattle.amr_box.specs.declared.Cell.{Cell}
use Rattle.amr_box.specs.declared.Face.{Face}
use Rattle.amr_box.specs.declared.Axis.{Axis}
use Rattle.amr_box.specs.declared.Axis.TheVariants.{X, Y}
use Rattle.amr_box.specs.Cells.{Extent, at_least_zero, cell, extent, holds, width, within}

-- the box and one cell round it (BoxLib: a box grown by its ghost cells)
abbrev pub grown : Extent → Extent
grown b = extent (cell (b.lo.x -ℤ pos 1) (b.lo.y -ℤ pos 1)) (cell (b.hi.x +ℤ pos 1) (b.hi.y +ℤ pos 1))

-- whether a cell is of the frame: of the grown box and not of the box
abbrev pub in_frame : Extent → Cell → Bool
in_frame b c = holds (grown b) c && not (holds b c)

-- whether a face is one of a cell of the box
abbrev pub on_box : Axis → Extent → Cell → Bool
on_box X b c = within b.lo.x (b.hi.x +ℤ pos 1) c.x && within b.lo.y b.hi.y c.y
on_box Y b c = within b.lo.x b.hi.x c.x && within b.lo.y (b.hi.y +ℤ pos 1) c.y

abbrev pub is_face_of : Extent → Face → Bool
is_face_of b f = on_box f.axis b (cell f.x f.y)

-- the value of a cell of the grown box
unfoldable pub place : Extent → Cell → ℕ
place b c = at_least_zero (c.y +ℤ pos 1 -ℤ b.lo.y) * (width b + 2) + at_least_zero (c.x +ℤ pos 1 -ℤ b.lo.x)

-- ---- edges

-- whether faces at z lie at the low side of the cells from low to high, or at their high side
abbrev pub is_end : ℤ → ℤ → ℤ → Bool
is_end low high z = int_eq z low || int_eq z (high +ℤ pos 1)

-- whether the face at the low side of a cell lies on an edge of a box
abbrev pub on_edge : Axis → Extent → Cell → Bool
on_edge X b c = within b.lo.y b.hi.y c.y && is_end b.lo.x b.hi.x c.x
on_edge Y b c = within b.lo.x b.hi.x c.x && is_end b.lo.y b.hi.y c.y

abbrev pub is_edge_face : Extent → Face → Bool
is_edge_face b f = on_edge f.axis b (cell f.x f.y)

-- the row and the column of a cell, each counted from the low corner of a box
abbrev pub row_of : Extent → Cell → ℕ
row_of b c = at_least_zero (c.y -ℤ b.lo.y)

abbrev pub column_of : Extent → Cell → ℕ
column_of b c = at_least_zero (c.x -ℤ b.lo.x)
