use Rattle.std.proofs.Common.{◌≡◌, ◌==◌, cond, [], get_or, ◌++◌, ℕ, List, ap, sym, ◌∙◌}
use Rattle.std.specs.List.{flat_map, range_with_len}
use Rattle.amr_def.specs.Plot.{mass_line, names_species, species_line}
use Rattle.amr_def.specs.State.{Level, Masses, no_masses}
use Rattle.amr_patch.specs.Levels.{level_of}
use Rattle.amr_plot.specs.BoxParts.{some_rows}
use Rattle.amr_plot.specs.Layers.{layer_masses}
use Rattle.amr_plot.proofs.Layers.{box_cells, masses_are}
use Rattle.amr_plot.proofs.Pens.{puts_first, puts_same, puts_then}
use Rattle.amr_plot.proofs.boxes.put_some_rows.Goals as goal

pub put_rows-requires-clause-cells : goal.put_rows-requires-clause-cells
put_rows-requires-clause-cells g c =
    box_cells c.args.layer c.args.b.now c.level.result.now c.requires.of_layer c.level.ensures.sound c.level.ensures.boxes

pub returns-in_err-put_species_line : goal.returns-in_err-put_species_line
unfolding some_rows
returns-in_err-put_species_line g c =
    puts_first g.met.P.Pen.laws c.args.pen.now c.put_species_line.new.pen _ _ c.from_residual.result c.from_residual.ensures.0 c.in_err-put_species_line.ensures.part

pub returns : goal.returns
unfolding some_rows
returns g c =
    let k = c.args.layer in
    let m : (level_of c.level.result.now).masses ≡ get_or (layer_masses k) c.args.species no_masses =
    ap (λ (j : Level). j.masses) c.level.ensures.level ∙ sym (masses_are k c.requires.layer c.args.species c.requires.there) in
    let line : List ℕ = cond (c.args.first == 0) (species_line (names_species k.problem.now) c.args.species) [] in
    puts_same g.met.P.Pen.laws c.args.pen.now c.put_rows.new.pen _ _ c.put_rows.result
    (ap (λ (m : Masses). line ++ flat_map (mass_line m c.args.b.now) (range_with_len c.args.first c.args.count)) m)
    (puts_then g.met.P.Pen.laws c.args.pen.now c.put_species_line.new.pen c.put_rows.new.pen _ _ c.put_rows.result c.in_ok-put_species_line.ensures.whole c.put_rows.ensures)
