use Rattle.std.proofs.Common.{get_or}
use Rattle.amr_plot.specs.BoxParts.{part_text}
use Rattle.amr_plot.specs.Texts.{texts}
use Rattle.amr_plot.proofs.Cutting.{no_part}
use Rattle.amr_plot.proofs.parts.put_parts.Given as goal

-- the parts so far are put
abbrev pub invariant-loop-part : goal.invariant-loop-part
invariant-loop-part g l = g.P.Pen.wrote l.initial.pen l.pen (texts (λ i. part_text l.layer (get_or l.parts i no_part)) l.part-index)
