use Rattle.amr_def.specs.Plot.{mass_line}
use Rattle.amr_def.specs.View.{finest_masses}
use Rattle.amr_patch.specs.Meshes.{state_of}
use Rattle.amr_plot.specs.Texts.{texts}
use Rattle.amr_view.proofs.boxes.put_rows.Given as goal

-- the rows before `row` are put
abbrev pub invariant-loop-row : goal.invariant-loop-row
invariant-loop-row g l = g.P.Pen.wrote l.initial.pen l.pen (texts (mass_line (finest_masses (state_of l.mesh) l.l) l.b) l.row)
