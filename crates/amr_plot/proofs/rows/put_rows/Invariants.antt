use Rattle.std.proofs.Common.{◌+◌}
use Rattle.amr_def.specs.Plot.{mass_line}
use Rattle.amr_patch.specs.Levels.{level_of}
use Rattle.amr_plot.specs.Texts.{texts}
use Rattle.amr_plot.proofs.rows.put_rows.Given as goal

-- the rows before `row` are put, counted from the first
abbrev pub invariant-loop-row : goal.invariant-loop-row
invariant-loop-row g l = g.P.Pen.wrote l.initial.pen l.pen (texts (λ i. mass_line (level_of l.level).masses l.b (l.first + i)) l.row)
