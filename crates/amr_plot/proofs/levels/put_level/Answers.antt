use Rattle.std.proofs.Common.{◌++◌, ℕ, List, length, get_or, ap, ◌∙◌}
use Rattle.std.specs.List.{flat_map}
use Rattle.amr_def.specs.Plot.{box_text, level_text, names_species}
use Rattle.amr_def.specs.State.{no_level}
use Rattle.amr_plot.specs.Layers.{layer_boxes, levels_in, layer_masses}
use Rattle.amr_plot.specs.Texts.{level_head}
use Rattle.amr_plot.proofs.Fragments.{level_fragments}
use Rattle.amr_plot.proofs.Pens.{puts_first, puts_same, puts_then}
use Rattle.amr_plot.proofs.levels.put_level.Goals as goal

pub returns-in_err-put_fragments : goal.returns-in_err-put_fragments
unfolding level_text
returns-in_err-put_fragments g c =
    let k = c.args.layer in
    let rest : List ℕ = flat_map (box_text (names_species k.problem.now) (layer_masses k)) (layer_boxes k) in
    puts_same g.met.P.Pen.laws c.args.pen.now c.put_fragments.new.self _ _ c.from_residual.result
    (ap (λ (t : List ℕ). t ++ rest) (c.level_row.ensures ∙ (λ i. level_head k.l (length (c.boxes.ensures i))) ∙ level_fragments k.l (get_or (levels_in k) 0 no_level)))
    (puts_first g.met.P.Pen.laws c.args.pen.now c.put_fragments.new.self _ rest c.from_residual.result c.from_residual.ensures.0 c.in_err-put_fragments.ensures.part)

pub returns : goal.returns
unfolding level_text
returns g c =
    let k = c.args.layer in
    let rest : List ℕ = flat_map (box_text (names_species k.problem.now) (layer_masses k)) (layer_boxes k) in
    puts_same g.met.P.Pen.laws c.args.pen.now c.put_level_boxes.new.pen _ _ c.put_level_boxes.result
    (ap (λ (t : List ℕ). t ++ rest) (c.level_row.ensures ∙ (λ i. level_head k.l (length (c.boxes.ensures i))) ∙ level_fragments k.l (get_or (levels_in k) 0 no_level)))
    (puts_then g.met.P.Pen.laws c.args.pen.now c.put_fragments.new.self c.put_level_boxes.new.pen _ rest c.put_level_boxes.result c.in_ok-put_fragments.ensures.whole c.put_level_boxes.ensures)
