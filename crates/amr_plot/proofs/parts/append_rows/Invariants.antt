use Rattle.std.proofs.Common.{◌≡◌, ◌≤◌, ◌-◌, ◌++◌}
use Rattle.std.specs.List.{All, flat_map}
use Rattle.amr_box.specs.Cells.{height}
use Rattle.amr_plot.specs.BoxParts.{IsPartOf, part_text}
use Rattle.amr_plot.proofs.Cutting.{first_text}
use Rattle.amr_plot.proofs.parts.append_rows.Given as goal

-- the rows before `first` have their parts
abbrev pub invariant-loop-first : goal.invariant-loop-first
invariant-loop-first l = record {
  within : l.first ≤ height l.b;
  texts : flat_map (part_text l.layer) l.parts.items ≡ flat_map (part_text l.layer) l.fn.parts.items ++ first_text l.layer l.b l.species l.first;
  of_layer : All (IsPartOf l.layer) l.parts.items;
}

abbrev pub decreases-loop-first : goal.decreases-loop-first
decreases-loop-first l = l.height - l.first
