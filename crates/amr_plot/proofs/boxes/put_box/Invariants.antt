use Rattle.amr_plot.proofs.BoxTexts.{first_species}
use Rattle.amr_plot.proofs.boxes.put_box.Given as goal

-- the species so far are put
abbrev pub invariant-loop-species : goal.invariant-loop-species
invariant-loop-species g l = g.P.Pen.wrote l.fn.pen l.pen (first_species l.layer l.b l.species)
