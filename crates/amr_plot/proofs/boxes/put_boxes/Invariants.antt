use Rattle.std.proofs.Common.{get_or}
use Rattle.amr_def.specs.Plot.{box_text, names_species}
use Rattle.amr_patch.proofs.BoxEntries.{no_box}
use Rattle.amr_plot.specs.Layers.{layer_masses}
use Rattle.amr_plot.specs.Texts.{texts}
use Rattle.amr_plot.proofs.boxes.put_boxes.Given as goal

-- the boxes so far are put
abbrev pub invariant-loop-b : goal.invariant-loop-b
invariant-loop-b g l =
    g.P.Pen.wrote l.initial.pen l.pen (texts (λ i. box_text (names_species l.layer.problem.now) (layer_masses l.layer) (get_or l.boxes i no_box)) l.b-index)
