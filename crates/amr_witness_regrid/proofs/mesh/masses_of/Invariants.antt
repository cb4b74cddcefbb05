use Rattle.std.proofs.Common.{◌≡◌, cond, take}
use Rattle.std.specs.declared.option.Option.TheVariants.{None, Some}
use Rattle.amr_box.specs.declared.Cell.{Cell}
use Rattle.amr_box.specs.Cells.{in_boxes}
use Rattle.amr_def.specs.State.{mass_of}
use Rattle.amr_patch.specs.Levels.{level_of}
use Rattle.amr_witness.specs.Maps.{masses_of}
use Rattle.amr_witness_regrid.proofs.mesh.masses_of.Given as goal

-- the cells of the boxes so far have their masses
abbrev pub invariant-loop-b : goal.invariant-loop-b
invariant-loop-b l = (q : Cell) → masses_of l.masses q ≡ cond (in_boxes (take l.b-index l.b-items) q) (Some (mass_of (level_of l.level).masses q)) None
