-- The masses of a level that is made anew over a coarser one, and that these add up.
use Rattle.std.specs.Prelude.{◌≡◌, ℕ, ◌<◌, true, IsSome}
use Rattle.std.specs.declared.option.Option.{Option}
use Rattle.std.specs.declared.option.Option.TheVariants.{None, Some}
use Rattle.std.specs.Option.{unwrap_or}
use Rattle.amr_box.specs.declared.Cell.{Cell}
use Rattle.amr_box.specs.Cells.{child}
use Rattle.amr_def.specs.Regrid.{split_mass}
use Rattle.amr_def.specs.State.{Masses, children_mass, is_covered, mass_of, no_masses}
use Rattle.amr_patch.specs.declared.levels.Level.{Level}
use Rattle.amr_patch.specs.Levels.{level_of}

-- the masses of the level as it was, none where there was no such level
abbrev pub masses_before : Option Level → Masses
masses_before None = no_masses
masses_before (Some k) = (level_of k).masses

-- a cell that was of the level keeps its mass, another gets its share of its parent's
abbrev pub kept_or_split : Masses → Masses → Cell → ℕ
kept_or_split coarse old c = unwrap_or (old c) (split_mass coarse c)

-- ---- sync

-- the four children of a cell are cells of the finer level
abbrev pub HasChildren : Masses → Cell → Type 0
HasChildren fine c = (k : ℕ) → k < 4 → IsSome (fine (child c k))

-- a cell that is covered is so by all its children, and has their mass
pub record IsInSync (coarse fine : Masses) (c : Cell) : Type 0 where
  pub children : is_covered fine c ≡ true → HasChildren fine c
  pub mass : is_covered fine c ≡ true → mass_of coarse c ≡ children_mass fine c
