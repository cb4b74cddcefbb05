-- Parts of the level step, as calls work them out.
use Rattle.std.specs.Prelude.{ℕ, Bool, false, ◌||◌, ℤ, pos, ◌+ℤ◌, ◌≤ℤ◌, ◌<ℤ◌, List, [], ◌∷◌}
use Rattle.amr_box.specs.declared.Cell.{Cell}
use Rattle.amr_box.specs.declared.Face.{Face}
use Rattle.amr_box.specs.declared.Axis.{Axis}
use Rattle.amr_box.specs.declared.Axis.TheVariants.{X, Y}
use Rattle.amr_box.specs.Cells.{at_least_zero}
use Rattle.amr_def.specs.declared.problem.Problem.{Problem}
use Rattle.amr_def.specs.Domain.{domain, home_cell, columns, rows}
use Rattle.amr_def.specs.State.{Masses, is_covered}
use Rattle.amr_def.specs.Flux.{face, low_cell, high_cell}
use Rattle.amr_def.specs.LevelStep.{step, through_children}

-- a mass and what came in, or 0 where that is below 0
abbrev pub new_mass : ℕ → ℤ → ℕ
new_mass v z = at_least_zero (pos v +ℤ z)

-- whether a cell beside a face is covered by the first of these levels
abbrev pub beside_covered : Problem → ℕ → List Masses → Face → Bool
beside_covered p l [] f = false
beside_covered p l (m ∷ ms) f = is_covered m (home_cell (domain p l) (low_cell f)) || is_covered m (home_cell (domain p l) (high_cell f))

-- what flows through the child faces of a face in two steps of the levels from l on, the second from what
-- the first left, above one that held m
abbrev pub through_both : Problem → ℕ → List Masses → Masses → Face → ℤ
through_both p l ms m f =
    let first = step p l ms m in
    let second = step p l first.levels m in
    through_children first.fluxes f.axis f.x f.y +ℤ through_children second.fluxes f.axis f.x f.y

pub record IsInDomain (p : Problem) (l : ℕ) (c : Cell) : Type 0 where
  pub west : pos 0 ≤ℤ c.x
  pub south : pos 0 ≤ℤ c.y
  pub east : c.x <ℤ pos (columns p l)
  pub north : c.y <ℤ pos (rows p l)

-- ---- the faces of a cell, and the child faces of a face

abbrev pub west_face : Cell → Face
west_face c = face X c.x c.y

abbrev pub east_face : Cell → Face
east_face c = face X (c.x +ℤ pos 1) c.y

abbrev pub south_face : Cell → Face
south_face c = face Y c.x c.y

abbrev pub north_face : Cell → Face
north_face c = face Y c.x (c.y +ℤ pos 1)

abbrev pub low_child : Face → Face
low_child f = face f.axis (f.x +ℤ f.x) (f.y +ℤ f.y)

abbrev pub high_child_on : Axis → ℤ → ℤ → Face
high_child_on X x y = face X (x +ℤ x) (y +ℤ y +ℤ pos 1)
high_child_on Y x y = face Y (x +ℤ x +ℤ pos 1) (y +ℤ y)

abbrev pub high_child : Face → Face
high_child f = high_child_on f.axis f.x f.y
