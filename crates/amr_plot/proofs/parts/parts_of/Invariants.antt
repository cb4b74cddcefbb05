use Rattle.std.proofs.Common.{◌≡◌, take}
use Rattle.std.specs.List.{All, flat_map}
use Rattle.amr_def.specs.Plot.{box_text, names_species}
use Rattle.amr_plot.specs.BoxParts.{IsPartOf, part_text}
use Rattle.amr_plot.specs.Layers.{layer_masses}
use Rattle.amr_plot.proofs.parts.parts_of.Given as goal

-- the boxes so far have their parts
abbrev pub invariant-loop-b : goal.invariant-loop-b
invariant-loop-b l = record {
  texts : flat_map (part_text l.layer) l.parts.items ≡ flat_map (box_text (names_species l.layer.problem.now) (layer_masses l.layer)) (take l.b-index l.boxes);
  of_layer : All (IsPartOf l.layer) l.parts.items;
}
