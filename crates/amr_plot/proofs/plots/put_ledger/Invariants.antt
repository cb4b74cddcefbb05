use Rattle.std.proofs.Common.{map}
use Rattle.amr_def.specs.Facts.{row_at}
use Rattle.amr_def.specs.Plot.{ledger_lines, names_species}
use Rattle.amr_patch.specs.Meshes.{state_of}
use Rattle.amr_plot.specs.Texts.{texts}
use Rattle.amr_plot.proofs.PlotTexts.{place_text}
use Rattle.amr_plot.proofs.plots.put_ledger.Given as goal

-- the rows so far are put
abbrev pub invariant-loop-k : goal.invariant-loop-k
invariant-loop-k g l = g.P.Pen.wrote l.initial.pen l.pen (texts (place_text (ledger_lines (names_species l.p)) row_at (map state_of l.meshes)) l.k)
