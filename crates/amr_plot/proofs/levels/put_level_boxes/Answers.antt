use Rattle.std.proofs.Common.{List, sym, ap, subst, ◌∙◌}
use Rattle.std.specs.List.{All, flat_map}
use Rattle.amr_box.specs.Cells.{Extent}
use Rattle.amr_def.specs.Plot.{box_text, names_species}
use Rattle.amr_plot.specs.Layers.{IsLayerBox, layer_masses}
use Rattle.amr_plot.specs.Texts.{joined}
use Rattle.amr_plot.proofs.Layers.{each_box}
use Rattle.amr_plot.proofs.Pens.{puts_same}
use Rattle.amr_plot.proofs.levels.put_level_boxes.Goals as goal

pub returns-in-Some : goal.returns-in-Some
returns-in-Some g c =
    puts_same g.met.P.Pen.laws c.args.pen.now c.put_texts.new.pen _ _ c.put_texts.result (ap joined c.deref.ensures.value ∙ c.in-Some.ensures) c.put_texts.ensures

pub returns-in-None : goal.returns-in-None
returns-in-None g c =
    let k = c.args.layer in
    puts_same g.met.P.Pen.laws c.args.pen.now c.put_boxes.new.pen _ _ c.put_boxes.result
    (ap (λ (bs : List Extent). flat_map (box_text (names_species k.problem.now) (layer_masses k)) bs) c.boxes.ensures) c.put_boxes.ensures

pub put_boxes-requires-clause-of_layer : goal.put_boxes-requires-clause-of_layer
put_boxes-requires-clause-of_layer g c =
    subst (λ (bs : List Extent). All (IsLayerBox c.args.layer) bs) (sym c.boxes.ensures) (each_box c.args.layer c.requires.layer)
