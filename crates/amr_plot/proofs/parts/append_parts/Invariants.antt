use Rattle.std.proofs.Common.{◌≡◌, ◌++◌}
use Rattle.std.specs.List.{All, flat_map}
use Rattle.amr_plot.specs.BoxParts.{IsPartOf, part_text}
use Rattle.amr_plot.proofs.BoxTexts.{first_species}
use Rattle.amr_plot.proofs.parts.append_parts.Given as goal

-- the species so far have their parts
abbrev pub invariant-loop-species : goal.invariant-loop-species
invariant-loop-species l = record {
  texts : flat_map (part_text l.layer) l.parts.items ≡ flat_map (part_text l.layer) l.fn.parts.items ++ first_species l.layer l.b l.species;
  of_layer : All (IsPartOf l.layer) l.parts.items;
}
