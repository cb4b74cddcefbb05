-- What new masses of a patch need, and what they are.
use Rattle.std.specs.Prelude.{◌≡◌, ℕ, ◌+◌, ◌*◌, ◌≤◌, ◌<◌, ◌^◌, Bool, ℤ, pos, ◌+ℤ◌, ◌≤ℤ◌, ◌<ℤ◌, List, length, slice_index}
use Rattle.amr_def.specs.declared.problem.Problem.{Problem}
use Rattle.amr_def.specs.Domain.{columns, rows}
use Rattle.amr_faces.specs.Shares.{AreSmall}
use Rattle.amr_flux.specs.declared.shape.Shape.{Shape}
use Rattle.amr_flux.specs.Tables.{AreXSmall, AreYSmall, IsOtherPlace, count_below, net_inflow, value, x_marked, x_through, y_marked, y_through}

-- there is a size for each border face, and each is below 2^31
pub record AreSizes (w h : ℕ) (marks : List Bool) (sizes : List ℕ) : Type 0 where
  pub enough : count_below (x_marked w marks) h + count_below (y_marked w h marks) w ≤ length sizes
  pub small : AreSmall sizes

-- the mass of cell (i, j) and what comes in through its faces: those of marked ones by the sizes handed in
abbrev pub new_mass : Problem → Shape → List Bool → List ℕ → List ℕ → ℕ → ℕ → ℤ
new_mass p s marks sizes values i j =
    pos (value s.w values (i + 1) (j + 1))
    +ℤ net_inflow (x_through p s.level s.row s.w marks sizes values) (y_through p s.level s.column s.w s.h marks sizes values) i j

-- a patch lies in its level, its values are below 2^31 and stand in its table, and each new mass fits 32 bits
pub record MayUpdate (p : Problem) (s : Shape) (marks : List Bool) (sizes values : List ℕ) : Type 0 where
  pub level : s.level ≤ 4
  pub columns_inside : s.column + s.w ≤ columns p s.level
  pub rows_inside : s.row + s.h ≤ rows p s.level
  pub some_columns : 0 < s.w
  pub some_rows : 0 < s.h
  pub value_count : length values ≡ (s.h + 2) * (s.w + 2)
  pub are_sizes : AreSizes s.w s.h marks sizes
  pub x_small : AreXSmall s.w s.h values
  pub y_small : AreYSmall s.w s.h values
  pub kept : (i j : ℕ) → i < s.w → j < s.h → pos 0 ≤ℤ new_mass p s marks sizes values i j
  pub fits : (i j : ℕ) → i < s.w → j < s.h → new_mass p s marks sizes values i j <ℤ pos (2 ^ 32)

-- each cell has its new mass, and all else is as before
pub record AreUpdated (p : Problem) (s : Shape) (marks : List Bool) (sizes old new : List ℕ) : Type 0 where
  pub made : (i j : ℕ) → i < s.w → j < s.h → pos (value s.w new (i + 1) (j + 1)) ≡ new_mass p s marks sizes old i j
  pub others : (k : ℕ) → IsOtherPlace s.w s.h k → slice_index new k ≡ slice_index old k
