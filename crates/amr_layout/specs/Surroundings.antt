-- The faces on the edges of a patch, and what lies on their other side.
use Rattle.std.specs.Prelude.{◌≡◌, ℕ, ◌+◌, ◌-◌, ◌*◌, Bool, false, ◌&&◌, not, cond, nat_lt, true}
use Rattle.std.specs.Prelude.{ℤ, pos, negsuc, neg_ℤ, ◌+ℤ◌, ◌<ℤ◌, List, Contains, IsTrue}
use Rattle.std.specs.List.{All}
use Rattle.std.specs.declared.option.Option.{Option}
use Rattle.std.specs.declared.option.Option.TheVariants.{None, Some}
use Rattle.amr_box.specs.declared.Cell.{Cell}
use Rattle.amr_box.specs.declared.Face.{Face}
use Rattle.amr_box.specs.declared.Axis.{Axis}
use Rattle.amr_box.specs.declared.Axis.TheVariants.{X, Y}
use Rattle.amr_box.specs.Cells.{Extent, height, holds, near_limit, width}
use Rattle.amr_def.specs.declared.problem.Problem.{Problem}
use Rattle.amr_def.specs.Domain.{Domain, columns, domain, home_cell, in_domain, is_inside, rows}
use Rattle.amr_def.specs.State.{Masses, no_masses}
use Rattle.amr_def.specs.Flux.{courant, face, high_cell, low_cell}
use Rattle.amr_patch.specs.declared.patches.Patch.{Patch}
use Rattle.amr_patch.specs.declared.levels.Level.{Level}
use Rattle.amr_patch.specs.Levels.{level_of}
use Rattle.amr_patch.specs.Patches.{in_patches}
use Rattle.amr_faces.specs.Faces.{x_end, y_end}

-- a level with what lies around it: its problem and number, those of its patches that are worked on, all of its patches, whether the
-- frames of those that are worked on are filled beforehand, the register cells of the next coarser level in their order, and the masses
-- of the next finer level
pub record Around : Type 0 where
  pub problem : Problem
  pub level : ℕ
  pub patches : List Patch
  pub whole : List Patch
  pub filled : Bool
  pub cells : List Cell
  pub finer : Masses

-- the masses of a finer level, none where there is no such level
abbrev pub finer_masses : Option Level → Masses
finer_masses None = no_masses
finer_masses (Some k) = (level_of k).masses

-- all of a level is worked on, which fills the frames
abbrev pub around_masses : Problem → ℕ → List Patch → List Cell → Masses → Around
around_masses p l ps cells finer = record { problem = p; level = l; patches = ps; whole = ps; filled = false; cells = cells; finer = finer }

abbrev pub around : Problem → ℕ → List Patch → List Cell → Option Level → Around
around p l ps cells finer = around_masses p l ps cells (finer_masses finer)

-- of the same level these patches are, whose frames are filled
abbrev pub among : Around → List Patch → Around
among s qs = record s { patches = qs; filled = true }

-- they are some of the level's
abbrev pub AreAmong : List Patch → List Patch → Type 0
AreAmong whole = All (Contains whole)

abbrev pub domain_around : Around → Domain
domain_around s = domain s.problem s.level

-- ---- the faces on the edges of a box

-- the x face at the low side of the first cell of row j of a box, and the y face at the low side of the first cell of column i
abbrev pub x_start : Extent → ℕ → Face
x_start b j = face X b.lo.x (b.lo.y +ℤ pos j)

abbrev pub y_start : Extent → ℕ → Face
y_start b i = face Y (b.lo.x +ℤ pos i) b.lo.y

-- how many faces the edges of a box have
abbrev pub edge_count : Extent → ℕ
edge_count b = 2 * (height b + width b)

-- the faces on the edges one after another: first the x faces at the low sides of the rows by y, then those at their high
-- sides; then the y faces at the low sides of the columns by x, then those at their high sides
unfoldable pub edge_face : Extent → ℕ → Face
edge_face b n =
    cond (nat_lt n (height b)) (x_start b n)
    (cond (nat_lt n (2 * height b)) (x_end b (n - height b))
    (cond (nat_lt n (2 * height b + width b)) (y_start b (n - 2 * height b)) (y_end b (n - (2 * height b + width b)))))

-- the cell of a box beside a face on its edges, and the cell on the face's other side
abbrev pub inside : Extent → Face → Cell
inside b f = cond (holds b (high_cell f)) (high_cell f) (low_cell f)

abbrev pub outside : Extent → Face → Cell
outside b f = cond (holds b (high_cell f)) (low_cell f) (high_cell f)

-- ---- which way mass flows

-- the Courant number of a face, above 0 where mass flows into the box and below 0 where it flows out of it: a flux has the sign
-- of its Courant number (donor cell)
unfoldable pub inward : Problem → ℕ → Extent → Face → ℤ
inward p l b f = cond (holds b (high_cell f)) (courant p l f) (neg_ℤ (courant p l f))

-- ---- what lies on the other side

-- nothing: the face is one of an open side of the domain
unfoldable pub is_open : Around → Extent → Face → Bool
is_open s b f = not (in_domain (domain_around s) (home_cell (domain_around s) (outside b f)))

-- a cell that the level doesn't have: the face lies on the coarse-fine edge (Berger and Colella 1989)
unfoldable pub is_coarse_fine : Around → Extent → Face → Bool
is_coarse_fine s b f =
    in_domain (domain_around s) (home_cell (domain_around s) (outside b f)) && not (in_patches s.whole (home_cell (domain_around s) (outside b f)))

-- a cell of the level
pub record LiesBesideLevel (s : Around) (b : Extent) (f : Face) : Type 0 where
  pub not_open : is_open s b f ≡ false
  pub not_coarse_fine : is_coarse_fine s b f ≡ false

-- ---- numbers that fit

-- coordinates lie between -2^25 and 2^25, so that those of children fit 32 bits
pub record IsReachable (c : Cell) : Type 0 where
  pub west : negsuc (2 * near_limit) <ℤ c.x
  pub east : c.x <ℤ pos (2 * near_limit + 1)
  pub south : negsuc (2 * near_limit) <ℤ c.y
  pub north : c.y <ℤ pos (2 * near_limit + 1)

-- a face of a cell whose coordinates lie between -2^24 and 2^24
pub record IsNearFace (f : Face) : Type 0 where
  pub west : negsuc near_limit <ℤ f.x
  pub east : f.x <ℤ pos (near_limit + 2)
  pub south : negsuc near_limit <ℤ f.y
  pub north : f.y <ℤ pos (near_limit + 2)

-- ---- rows and columns

abbrev pub row_or_column_along : Axis → Face → ℤ
row_or_column_along X f = f.y
row_or_column_along Y f = f.x

-- the row of an x face and the column of a y face, and how many of them a level has
abbrev pub row_or_column_of : Face → ℤ
row_or_column_of f = row_or_column_along f.axis f

abbrev pub row_or_column_count : Axis → Problem → ℕ → ℕ
row_or_column_count X p l = rows p l
row_or_column_count Y p l = columns p l

-- the row or the column is one of the level
abbrev pub IsInRowOrColumn : Problem → ℕ → Face → Type 0
IsInRowOrColumn p l f = IsTrue (is_inside (row_or_column_count f.axis p l) (row_or_column_of f))
