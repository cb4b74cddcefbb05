use Rattle.std.proofs.Common.{◌≡◌, cond, take}
use Rattle.std.specs.declared.option.Option.TheVariants.{Some}
use Rattle.amr_box.specs.declared.Cell.{Cell}
use Rattle.amr_def.specs.State.{mass_of}
use Rattle.amr_patch.specs.Levels.{level_of}
use Rattle.amr_witness.specs.Maps.{masses_of}
use Rattle.amr_witness_regrid.proofs.Filled.{among}
use Rattle.amr_witness_regrid.proofs.mesh.copy_box.Given as goal

-- the cells that were visited have their masses
abbrev pub invariant-loop-c : goal.invariant-loop-c
invariant-loop-c l = (q : Cell) → masses_of l.masses q ≡ cond (among q (take l.c-index l.c-items)) (Some (mass_of (level_of l.level).masses q)) (masses_of l.initial.masses q)
