-- The totals that a level's step adds to its words, and what they give to a register.
use Rattle.std.specs.Prelude.{◌≡◌, ℕ, ◌+◌, ◌*◌, ◌<◌, ◌^◌, pos, ◌+ℤ◌, ◌-ℤ◌, List, length, slice_index, slice_index_or, unsigned_abs}
use Rattle.std.specs.declared.option.Option.{Option}
use Rattle.std.specs.declared.option.Option.TheVariants.{None, Some}
use Rattle.amr_box.specs.declared.Cell.{Cell}
use Rattle.amr_def.specs.declared.problem.Problem.{Problem}
use Rattle.amr_def.specs.State.{Masses}
use Rattle.amr_patch.specs.declared.patches.Patch.{Patch}
use Rattle.amr_flows.specs.Laws.{ArePatchesOf, plain_size}
use Rattle.amr_flows.specs.Words.{level_total}
use Rattle.amr_layout.specs.Surroundings.{around_masses}
use Rattle.amr_register.specs.declared.register.Register.{Register}
use Rattle.amr_register.specs.Fields.{IsRegisterOf, SameCells, cells_in, entry_in}

-- each word has what the patches of a level add to it: of masses m, with the coarser masses `old` and the finer ones `fine`
pub record HasTotals (p : Problem) (l : ℕ) (m old fine : Masses) (cells : List Cell) (ws : List ℕ) : Type 0 where
  pub patches : List Patch
  pub of_level : ArePatchesOf p l m patches
  pub words : (word : ℕ) → word < length ws
      → slice_index ws word ≡ level_total (around_masses p l patches cells fine) (plain_size p l m old) word

-- ---- to a register

-- a register whose entries may take the words' gains and losses
pub record MayAbsorb (ws : List ℕ) (r : Register) : Type 0 where
  pub made : (p : Problem) × ((l : ℕ) × ((m : Masses) × ((fine : Masses) × IsRegisterOf p l m fine r)))
  pub room : (c : Cell) → unsigned_abs (entry_in r c) < 2 ^ 61
  pub net : (k : ℕ) → k < length (cells_in r) → unsigned_abs (pos (slice_index ws (2 + 2 * k)) -ℤ pos (slice_index ws (3 + 2 * k))) < 2 ^ 61

-- and has taken them
pub record HasAbsorbed (ws : List ℕ) (r s : Register) : Type 0 where
  pub gained : (k : ℕ) (c : Cell) → k < length (cells_in r) → c ≡ slice_index_or (cells_in r) k c
      → entry_in s c ≡ entry_in r c +ℤ (pos (slice_index ws (2 + 2 * k)) -ℤ pos (slice_index ws (3 + 2 * k)))
  pub cells : SameCells r s

-- where there is one
abbrev pub SomeMayAbsorb : List ℕ → Option Register → Type 0
SomeMayAbsorb ws None = Unit {0}
SomeMayAbsorb ws (Some r) = MayAbsorb ws r

abbrev pub SomeHasAbsorbed : List ℕ → Option Register → Option Register → Type 0
SomeHasAbsorbed ws None None = Unit {0}
SomeHasAbsorbed ws None (Some s) = ⊥
SomeHasAbsorbed ws (Some r) None = ⊥
SomeHasAbsorbed ws (Some r) (Some s) = HasAbsorbed ws r s
