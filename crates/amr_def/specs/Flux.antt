-- Donor-cell fluxes: what flows through the faces of a level in a step of it.
use Rattle.std.specs.Prelude.{ℕ, suc, ◌*◌, ◌/◌, ◌^◌, ℤ, pos, negsuc, ◌+ℤ◌, ◌-ℤ◌, neg_ℤ, List, [], ◌∷◌, slice_index_or}
use Rattle.std.specs.Option.{option_map}
use Rattle.amr_box.specs.declared.Cell.{Cell}
use Rattle.amr_box.specs.declared.Face.{Face}
use Rattle.amr_box.specs.declared.Axis.{Axis}
use Rattle.amr_box.specs.declared.Axis.TheVariants.{X, Y}
use Rattle.amr_box.specs.Cells.{cell, at_least_zero}
use Rattle.amr_def.specs.declared.problem.Problem.{Problem}
use Rattle.amr_def.specs.Domain.{domain, home_cell}
use Rattle.amr_def.specs.State.{Masses}
use Rattle.amr_def.specs.Value.{value_at}

-- what flows through each face of the plane in a step, above 0 towards the high side. On a periodic
-- axis fluxes repeat.
abbrev pub Fluxes : Type 0
Fluxes = Face → ℤ

abbrev pub face : Axis → ℤ → ℤ → Face
face a x y = record { axis = a; x = x; y = y }

abbrev pub beyond : Axis → ℤ → ℤ → Cell
beyond X x y = cell (x -ℤ pos 1) y
beyond Y x y = cell x (y -ℤ pos 1)

-- the cells on the low and on the high side of a face
abbrev pub low_cell : Face → Cell
low_cell f = beyond f.axis f.x f.y

abbrev pub high_cell : Face → Cell
high_cell f = cell f.x f.y

-- ---- the Courant number of a face

-- one number for each row or column of level 0, or one for all
abbrev pub number_for : ℤ → List ℤ → ℕ → ℤ
number_for c [] k = c
number_for c (s ∷ ss) k = slice_index_or (s ∷ ss) k (pos 0)

-- the row or column of level 0 that one of level l lies in
abbrev pub at_base : ℕ → ℤ → ℕ
at_base l z = at_least_zero z / 2 ^ l

-- on the x axis it is that of the cell's row, on the y axis that of its column
abbrev pub courant_in : Problem → ℕ → Axis → Cell → ℤ
courant_in p l X c = number_for p.cx p.shear_x (at_base l c.y)
courant_in p l Y c = number_for p.cy p.shear_y (at_base l c.x)

-- times d, the same at each level
unfoldable pub courant : Problem → ℕ → Face → ℤ
courant p l f = courant_in p l f.axis (home_cell (domain p l) (high_cell f))

-- ---- fluxes

-- what flows through a face between cells of these values at Courant number c/d: a share of the mass
-- of the cell that the flow comes from (donor cell; rounding: profile)
abbrev pub flow : ℤ → ℕ → ℕ → ℕ → ℤ
flow (pos c) d low high = pos (c * low / d)
flow (negsuc c) d low high = neg_ℤ (pos (suc c * high / d))

unfoldable pub flux_at : Problem → ℕ → Masses → Masses → Fluxes
flux_at p l m old f = flow (courant p l f) p.d (value_at p l m old (low_cell f)) (value_at p l m old (high_cell f))

-- what comes into a cell through its low faces, less what goes out through its high ones
unfoldable pub net : Fluxes → Cell → ℤ
net e c = (e (face X c.x c.y) -ℤ e (face X (c.x +ℤ pos 1) c.y)) +ℤ (e (face Y c.x c.y) -ℤ e (face Y c.x (c.y +ℤ pos 1)))

-- each mass plus its net inflow. A mass is a natural number, so that what is below 0 is cut at 0: the laws on exact masses
-- say that the cut never acts in a step of a sound state.
unfoldable pub updated : Masses → Fluxes → Masses
updated m e c = option_map (λ v. at_least_zero (pos v +ℤ net e c)) (m c)
