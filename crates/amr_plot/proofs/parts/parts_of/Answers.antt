use Rattle.std.proofs.Common.{◌∙◌, ℕ, ◌++◌, List, sym, ap, subst}
use Rattle.amr_box.specs.Cells.{Extent}
use Rattle.amr_def.specs.Plot.{box_text, names_species}
use Rattle.amr_plot.specs.Layers.{IsLayerBox, layer_masses}
use Rattle.amr_plot.proofs.TextLaws.{next_taken}
use Rattle.amr_plot.proofs.parts.parts_of.Goals as goal

pub append_parts-requires-clause-of_layer : goal.append_parts-requires-clause-of_layer
append_parts-requires-clause-of_layer c =
    let l = c.loop-b in
    subst (λ (b : Extent). IsLayerBox c.args.layer b) (sym c.b-item.is) (c.requires.of_layer l.b-index c.b-item.result c.loop-b-test.true)

pub loop-b-preserved : goal.loop-b-preserved
loop-b-preserved c =
    let b = c.b-item.result in
    let l = c.loop-b in
    let text : Extent → List ℕ = box_text (names_species c.args.layer.problem.now) (layer_masses c.args.layer) in
    record {
      texts = c.in_ok-append_parts.ensures.texts ∙ ap (λ (t : List ℕ). t ++ text b) l.invariant.texts
          ∙ sym (next_taken text c.args.boxes.now l.b-index b c.loop-b-test.true c.b-item.is);
      of_layer = c.in_ok-append_parts.ensures.of_layer;
    }
