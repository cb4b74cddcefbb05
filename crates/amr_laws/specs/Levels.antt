-- The levels from one on, the coarsest first, as a step of them takes them.
use Rattle.std.specs.Prelude.{◌≡◌, ℕ, suc, List, [], ◌∷◌, map, IsTrue}
use Rattle.amr_box.specs.declared.Cell.{Cell}
use Rattle.amr_def.specs.declared.problem.Problem.{Problem}
use Rattle.amr_box.specs.Cells.{Extent, IsNear}
use Rattle.amr_def.specs.Domain.{domain, in_domain}
use Rattle.amr_def.specs.State.{Masses, Level, is_covered, mass_of, children_mass}
use Rattle.amr_def.specs.Facts.{IsLevel, IsNestedLevel}

-- a covered cell has the mass of its children
abbrev pub AreSynced : Masses → Masses → Type 0
AreSynced coarse fine = (c : Cell) → IsTrue (is_covered fine c) → mass_of coarse c ≡ children_mass fine c

-- levels from l on: each in its domain, nested and synced with the next finer one
abbrev pub AreLevels : Problem → ℕ → List Level → Type 0
AreLevels p l [] = Unit {0}
AreLevels p l (k ∷ []) = IsLevel p l k
AreLevels p l (k ∷ fine ∷ finer) = IsLevel p l k × IsNestedLevel p l k fine × AreSynced k.masses fine.masses × AreLevels p (suc l) (fine ∷ finer)

abbrev pub masses_of : List Level → List Masses
masses_of = map (λ k. k.masses)

-- a box of the level's domain, whose coordinates are as small as the calls on boxes ask
pub record LiesInLevel (p : Problem) (l : ℕ) (b : Extent) : Type 0 where
  pub low : IsTrue (in_domain (domain p l) b.lo)
  pub high : IsTrue (in_domain (domain p l) b.hi)
  pub near : IsNear b
