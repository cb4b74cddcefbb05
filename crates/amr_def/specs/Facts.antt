-- Facts that hold of each state of a run: nested, synced, bounded and telescoped, together sound; and
-- that a regrid covers the tags.
use Rattle.std.specs.Prelude.{◌≡◌, ℕ, ◌+◌, ◌*◌, ◌^◌, ◌<◌, ◌≤◌, cond, pos, ◌+ℤ◌, List, [], ◌∷◌, length, nat_le, slice_index_or, is_some, IsTrue}
use Rattle.std.specs.List.{All, AllPairs}
use Rattle.std.specs.Int.{int_rem_euclid}
use Rattle.amr_box.specs.declared.Cell.{Cell}
use Rattle.amr_box.specs.Cells.{Extent, IsProper, holds, in_boxes}
use Rattle.amr_def.specs.declared.problem.Problem.{Problem}
use Rattle.amr_def.specs.declared.problem.Row.{Row}
use Rattle.amr_def.specs.Domain.{Domain, domain, domain_box, in_domain, is_near}
use Rattle.amr_def.specs.State.{Level, State, level_at, is_covered, is_covered_by, mass_of, children_mass}
use Rattle.amr_def.specs.Ledger.{total_mass}
use Rattle.amr_def.specs.Tags.{is_tagged}

-- ---- nested

-- low coordinates are multiples of the blocking factor, high ones one less than a multiple (profile)
pub record IsAligned (blocking : ℕ) (b : Extent) : Type 0 where
  pub west : int_rem_euclid b.lo.x (pos blocking) ≡ pos 0
  pub south : int_rem_euclid b.lo.y (pos blocking) ≡ pos 0
  pub east : int_rem_euclid (b.hi.x +ℤ pos 1) (pos blocking) ≡ pos 0
  pub north : int_rem_euclid (b.hi.y +ℤ pos 1) (pos blocking) ≡ pos 0

-- there is a box, boxes have cells, no two have a cell in common, they lie in the domain, and the masses are those of
-- their cells (Berger and Colella: the grids of a level)
pub record IsLevel (p : Problem) (l : ℕ) (k : Level) : Type 0 where
  pub some : 0 < length k.boxes
  pub proper : All IsProper k.boxes
  pub disjoint : AllPairs (λ a b. (c : Cell) → IsTrue (holds a c) → IsTrue (holds b c) → ⊥) k.boxes
  pub inside : (c : Cell) → IsTrue (in_boxes k.boxes c) → IsTrue (in_domain (domain p l) c)
  pub filled : (c : Cell) → is_some (k.masses c) ≡ in_boxes k.boxes c

-- finer boxes over those of a level whose domain is d: each cell of d at most one away from a parent of a finer cell
-- is in a box of the level (Berger and Colella: one cell between levels l + 1 and l - 1, but at the physical boundary)
pub record IsNestedIn (d : Domain) (blocking : ℕ) (fine coarse : List Extent) : Type 0 where
  pub aligned : All (IsAligned blocking) fine
  pub around : (c : Cell) → IsTrue (in_domain d c) → IsTrue (is_near d 1 (is_covered_by fine) c) → IsTrue (in_boxes coarse c)

-- of level l and the next finer one
abbrev pub IsNestedLevel : Problem → ℕ → Level → Level → Type 0
IsNestedLevel p l coarse fine = IsNestedIn (domain p l) p.blocking fine.boxes coarse.boxes

pub record IsNested (p : Problem) (s : State) : Type 0 where
  pub each : (l : ℕ) → l < length s.levels → IsLevel p l (level_at s l)
  pub nested : (l : ℕ) → l + 1 < length s.levels → IsNestedLevel p l (level_at s l) (level_at s (l + 1))

-- ---- synced, bounded, telescoped

-- a covered cell has the mass of its children
pub record IsSynced (s : State) : Type 0 where
  pub at : (l : ℕ) (c : Cell) → l + 1 < length s.levels → IsTrue (is_covered (level_at s (l + 1)).masses c)
      → mass_of (level_at s l).masses c ≡ children_mass (level_at s (l + 1)).masses c

-- by how much the bound of masses grows at a step (profile)
abbrev pub growth : ℕ → ℕ
growth max_level = cond (nat_le max_level 2) 2048 131072

-- each mass, scaled to level 0, is at most this after n steps. Masses are natural numbers: that no step cuts one at 0 is the
-- law on exact masses.
pub record IsBounded (p : Problem) (s : State) : Type 0 where
  pub at : (l : ℕ) (c : Cell) → 4 ^ l * mass_of (level_at s l).masses c ≤ 2 ^ 30 + growth p.max_level * (s.step + 1)

abbrev pub no_row : Row
no_row = record { mass = 0; inflow = 0; outflow = 0 }

abbrev pub row_at : State → ℕ → Row
row_at s k = slice_index_or s.rows k no_row

-- a row and one more for each step: mass changes by what flowed in and out, and the last mass is that of level 0
pub record IsTelescoped (p : Problem) (s : State) : Type 0 where
  pub count : length s.rows ≡ s.step + 1
  pub no_inflow : (row_at s 0).inflow ≡ 0
  pub no_outflow : (row_at s 0).outflow ≡ 0
  pub each : (k : ℕ) → k < s.step → (row_at s (k + 1)).mass + (row_at s (k + 1)).outflow ≡ (row_at s k).mass + (row_at s (k + 1)).inflow
  pub last : (row_at s s.step).mass ≡ total_mass p (level_at s 0).masses

-- each number of a row fits 64 bits (profile)
pub record IsSmallRow (r : Row) : Type 0 where
  pub mass : r.mass < 2 ^ 64
  pub inflow : r.inflow < 2 ^ 64
  pub outflow : r.outflow < 2 ^ 64

-- ---- sound, held

pub record IsSound (p : Problem) (s : State) : Type 0 where
  pub within : s.step ≤ p.steps
  pub base : (level_at s 0).boxes ≡ domain_box (domain p 0) ∷ []
  pub some_level : 0 < length s.levels
  pub few_levels : length s.levels ≤ p.max_level + 1
  pub nested : IsNested p s
  pub synced : IsSynced s
  pub bounded : IsBounded p s
  pub telescoped : IsTelescoped p s
  pub small_rows : All IsSmallRow s.rows

-- each tagged cell of s is covered in s', but those of the greatest level
pub record IsHeld (p : Problem) (s s' : State) : Type 0 where
  pub at : (l : ℕ) (c : Cell) → l < length s.levels → l < p.max_level → IsTrue (is_tagged p s l c) → IsTrue (is_covered (level_at s' (l + 1)).masses c)
