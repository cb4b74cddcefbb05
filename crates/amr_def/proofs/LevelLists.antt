-- What a step needs of the masses of the levels, the coarsest first, and what it keeps.
use Rattle.std.specs.Prelude.{◌≡◌, ℕ, suc, ◌+◌, ◌<◌, ◌≤◌, true, ℤ, pos, ◌+ℤ◌, ◌≤ℤ◌, ◌<ℤ◌, IsSome, List, [], ◌∷◌, unsigned_abs}
use Rattle.amr_box.specs.declared.Cell.{Cell}
use Rattle.amr_box.specs.declared.Face.{Face}
use Rattle.amr_box.specs.declared.Axis.TheVariants.{X, Y}
use Rattle.amr_box.specs.Cells.{cell}
use Rattle.amr_def.specs.declared.problem.Problem.{Problem}
use Rattle.amr_def.specs.Domain.{columns, rows, domain, home_cell, in_domain}
use Rattle.amr_def.specs.State.{Masses, is_covered, mass_of, children_mass}
use Rattle.amr_def.specs.Flux.{low_cell, high_cell, courant_in}

-- each cell of level 0 is there
pub record IsWhole (p : Problem) (m : Masses) : Type 0 where
  pub at : (x y : ℕ) → x < (columns p 0) → y < (rows p 0) → IsSome (m (cell (pos x) (pos y)))

-- the Courant numbers of a cell take no more than there is
pub record IsStable (p : Problem) : Type 0 where
  pub some : 0 < p.d
  pub within : (l : ℕ) (c : Cell) → unsigned_abs (courant_in p l X c) + unsigned_abs (courant_in p l Y c) ≤ p.d

pub record HasColumns (p : Problem) : Type 0 where
  pub x : 0 < p.nx
  pub y : 0 < p.ny

-- a cell of the level lies in its domain
pub record IsCellInside (p : Problem) (l : ℕ) (c : Cell) : Type 0 where
  pub west : pos 0 ≤ℤ c.x
  pub east : c.x <ℤ pos (columns p l)
  pub south : pos 0 ≤ℤ c.y
  pub north : c.y <ℤ pos (rows p l)

-- ---- a level and the finer one

-- the children, as sums that faces have too
abbrev pub child_0 : Cell → Cell
child_0 c = cell (c.x +ℤ c.x) (c.y +ℤ c.y)

abbrev pub child_1 : Cell → Cell
child_1 c = cell (c.x +ℤ c.x +ℤ pos 1) (c.y +ℤ c.y)

abbrev pub child_2 : Cell → Cell
child_2 c = cell (c.x +ℤ c.x) (c.y +ℤ c.y +ℤ pos 1)

abbrev pub child_3 : Cell → Cell
child_3 c = cell (c.x +ℤ c.x +ℤ pos 1) (c.y +ℤ c.y +ℤ pos 1)

abbrev pub over_children : (Cell → ℤ) → Cell → ℤ
over_children f c = f (child_0 c) +ℤ f (child_1 c) +ℤ f (child_2 c) +ℤ f (child_3 c)

-- each child of a covered cell is a cell of the finer level
pub record HasAllChildren (fine : Masses) : Type 0 where
  pub k0 : (c : Cell) → is_covered fine c ≡ true → IsSome (fine (child_0 c))
  pub k1 : (c : Cell) → is_covered fine c ≡ true → IsSome (fine (child_1 c))
  pub k2 : (c : Cell) → is_covered fine c ≡ true → IsSome (fine (child_2 c))
  pub k3 : (c : Cell) → is_covered fine c ≡ true → IsSome (fine (child_3 c))

pub record IsInside (p : Problem) (l : ℕ) (m : Masses) : Type 0 where
  pub at : (c : Cell) → IsSome (m c) → IsCellInside p l c

pub record IsNest (p : Problem) (l : ℕ) (m fine : Masses) : Type 0 where
  pub children : HasAllChildren fine
  pub there : (c : Cell) → is_covered fine c ≡ true → IsSome (m c)
  -- beside a covered cell the other cell of the domain is of the level too
  pub low : (f : Face) → is_covered fine (home_cell (domain p l) (high_cell f)) ≡ true → in_domain (domain p l) (home_cell (domain p l) (low_cell f)) ≡ true → IsSome (m (home_cell (domain p l) (low_cell f)))
  pub high : (f : Face) → is_covered fine (home_cell (domain p l) (low_cell f)) ≡ true → in_domain (domain p l) (home_cell (domain p l) (high_cell f)) ≡ true → IsSome (m (home_cell (domain p l) (high_cell f)))

pub record IsSyncedPair (m fine : Masses) : Type 0 where
  pub at : (c : Cell) → is_covered fine c ≡ true → mass_of m c ≡ children_mass fine c

-- ---- all levels

abbrev pub Nested : Problem → ℕ → List Masses → Type 0
Nested p l [] = Unit {0}
Nested p l (m ∷ []) = IsInside p l m
Nested p l (m ∷ fine ∷ finer) = IsInside p l m × IsNest p l m fine × Nested p (suc l) (fine ∷ finer)

abbrev pub Synced : List Masses → Type 0
Synced [] = Unit {0}
Synced (m ∷ []) = Unit {0}
Synced (m ∷ fine ∷ finer) = IsSyncedPair m fine × Synced (fine ∷ finer)
