-- A view: at each cell of a level's domain the finest mass that is known there. (profile; as the averages that BoxLib fills a coarser or finer
-- grid with)
use Rattle.std.specs.Prelude.{ℕ, zero, suc, List}
use Rattle.std.specs.declared.option.Option.TheVariants.{Some}
use Rattle.std.specs.Option.{unwrap_or}
use Rattle.std.specs.List.{flat_map, range_with_len}
use Rattle.amr_box.specs.declared.Cell.{Cell}
use Rattle.amr_box.specs.Cells.{Extent, height, parent}
use Rattle.amr_def.specs.State.{Masses, State, level_at, mass_of}
use Rattle.amr_def.specs.Regrid.{child_number, child_share}
use Rattle.amr_def.specs.Plot.{mass_line}

-- a cell's own mass where it is of the level, and else its share of what its parent has
unfoldable pub finest_mass : State → ℕ → Cell → ℕ
finest_mass s zero c = mass_of (level_at s 0).masses c
finest_mass s (suc l) c = unwrap_or ((level_at s (suc l)).masses c) (child_share (finest_mass s l (parent c)) (child_number c))

abbrev pub finest_masses : State → ℕ → Masses
finest_masses s l c = Some (finest_mass s l c)

-- the rows of a box of level l, from the low row on
unfoldable pub view : State → ℕ → Extent → List ℕ
view s l b = flat_map (mass_line (finest_masses s l) b) (range_with_len 0 (height b))
