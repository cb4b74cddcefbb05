use Rattle.std.proofs.Common.{map}
use Rattle.amr_def.specs.Plot.{level_text, names_species}
use Rattle.amr_def.specs.State.{level_at}
use Rattle.amr_patch.specs.Meshes.{state_of}
use Rattle.amr_plot.specs.Texts.{texts}
use Rattle.amr_plot.proofs.PlotTexts.{place_text}
use Rattle.amr_plot.proofs.levels.put_levels.Given as goal

-- the levels so far are put
abbrev pub invariant-loop-l : goal.invariant-loop-l
invariant-loop-l g l = g.P.Pen.wrote l.initial.pen l.pen (texts (place_text (level_text (names_species l.p)) level_at (map state_of l.meshes)) l.l)
