-- What is left of a box when the cells of another are taken away, as at most four boxes (BoxLib: boxDiff).
use Rattle.std.specs.Prelude.{cond, ℤ, pos, ◌+ℤ◌, ◌-ℤ◌, int_lt, List, [], ◌∷◌, ◌++◌}
use Rattle.amr_box.specs.declared.Axis.{Axis}
use Rattle.amr_box.specs.declared.Axis.TheVariants.{X, Y}
use Rattle.amr_box.specs.Cells.{Extent, along, below_cut, cell, common, extent, from_cut, is_proper}

-- the part of a box below a column or row, none where there is none
abbrev pub low_part : Axis → ℤ → Extent → List Extent
low_part axis i b = cond (int_lt (along axis b.lo) i) (below_cut axis i b ∷ []) []

-- the part from a column or row on, none where there is none
abbrev pub high_part : Axis → ℤ → Extent → List Extent
high_part axis i b = cond (int_lt (along axis b.hi) i) [] (from_cut axis i b ∷ [])

-- the cells of a beside those of a box m within it: the rows below m, those above, and what is left and right of m
abbrev pub frame : Extent → Extent → List Extent
frame a m =
    let above_low = from_cut Y m.lo.y a in
    let band = below_cut Y (m.hi.y +ℤ pos 1) above_low in
    let right = from_cut X m.lo.x band in
    low_part Y m.lo.y a ++ high_part Y (m.hi.y +ℤ pos 1) above_low ++ low_part X m.lo.x band ++ high_part X (m.hi.x +ℤ pos 1) right

-- as calls cut it
abbrev pub whole_or_frame : Extent → Extent → List Extent
whole_or_frame b a = cond (is_proper (common a b)) (frame a (common a b)) (a ∷ [])

-- ---- the same by corners

-- a box, or nothing where its corners are out of order
abbrev pub if_proper : Extent → List Extent
if_proper b = cond (is_proper b) (b ∷ []) []

-- the four sides of a box a round a box m within it: the rows below m, the rows above, and of the rows of m what lies left and
-- right of it
abbrev pub south_of : Extent → Extent → Extent
south_of m a = extent a.lo (cell a.hi.x (m.lo.y -ℤ pos 1))

abbrev pub north_of : Extent → Extent → Extent
north_of m a = extent (cell a.lo.x (m.hi.y +ℤ pos 1)) a.hi

abbrev pub west_of : Extent → Extent → Extent
west_of m a = extent (cell a.lo.x m.lo.y) (cell (m.lo.x -ℤ pos 1) m.hi.y)

abbrev pub east_of : Extent → Extent → Extent
east_of m a = extent (cell (m.hi.x +ℤ pos 1) m.lo.y) (cell a.hi.x m.hi.y)

abbrev pub sides_round : Extent → Extent → List Extent
sides_round m a = if_proper (south_of m a) ++ if_proper (north_of m a) ++ if_proper (west_of m a) ++ if_proper (east_of m a)

-- what is left of a box a without the cells of b, in order: a itself where they share no cell, and else at most four boxes
abbrev pub remnants : Extent → Extent → List Extent
remnants b a = cond (is_proper (common a b)) (sides_round (common a b) a) (a ∷ [])
