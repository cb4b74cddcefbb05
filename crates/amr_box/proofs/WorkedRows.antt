-- Worked boxes, computed by the definitions.
use Rattle.std.proofs.Common.{◌≡◌, true, false, pos, negsuc, [], ◌∷◌, refl}
use Rattle.amr_box.specs.Cells.{Extent, cell, cells_of, extent, has_child_where, holds, parent}

-- the box from (-3, -1) to (0, 1)
abbrev worked_box : Extent
worked_box = extent (cell (negsuc 2) (negsuc 0)) (cell (pos 0) (pos 1))

-- parents round towards minus infinity: the box's corners become (-2, -1) and (0, 0)
coarsened_corners : extent (parent worked_box.lo) (parent worked_box.hi) ≡ extent (cell (negsuc 1) (negsuc 0)) (cell (pos 0) (pos 0))
coarsened_corners = refl

parent_of_the_low_corner : has_child_where (holds worked_box) (cell (negsuc 1) (negsuc 0)) ≡ true
parent_of_the_low_corner = refl

no_parent_beyond : has_child_where (holds worked_box) (cell (pos 1) (pos 0)) ≡ false
no_parent_beyond = refl

-- row by row from the low row
cells_in_order : cells_of (extent (cell (negsuc 0) (pos 0)) (cell (pos 0) (pos 1))) ≡ cell (negsuc 0) (pos 0) ∷ cell (pos 0) (pos 0) ∷ cell (negsuc 0) (pos 1) ∷ cell (pos 0) (pos 1) ∷ []
cells_in_order = refl

-- corners out of order hold nothing
no_cells : cells_of (extent (cell (pos 1) (pos 0)) (cell (pos 0) (pos 0))) ≡ []
no_cells = refl
