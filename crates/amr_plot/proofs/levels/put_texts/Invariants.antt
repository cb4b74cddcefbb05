use Rattle.std.proofs.Common.{take}
use Rattle.amr_plot.specs.Texts.{joined}
use Rattle.amr_plot.proofs.levels.put_texts.Given as goal

-- the texts so far are put
abbrev pub invariant-loop-made : goal.invariant-loop-made
invariant-loop-made g l = g.P.Pen.wrote l.initial.pen l.pen (joined (take l.made-index l.texts))
