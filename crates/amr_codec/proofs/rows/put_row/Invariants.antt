use Rattle.std.proofs.Common.{◌≡◌, ◌≤◌, ◌-◌, ◌++◌}
use Rattle.std.specs.List.{flat_map, range_with_len}
use Rattle.amr_box.specs.Cells.{width}
use Rattle.amr_payload.specs.Payload.{number_bytes}
use Rattle.amr_codec.specs.MassWidths.{width_of}
use Rattle.amr_patch.specs.BoxRows.{mass_in}
use Rattle.amr_codec.proofs.rows.put_row.Given as goal

-- the masses before column `first` are put
abbrev pub invariant-loop-first : goal.invariant-loop-first
invariant-loop-first l = record {
  put : l.out.items ≡ l.initial.out.items ++ flat_map (λ i. number_bytes (width_of l.mass_width) (mass_in l.level l.b l.row i)) (range_with_len 0 l.first);
  within : l.first ≤ width l.b;
}

abbrev pub decreases-loop-first : goal.decreases-loop-first
decreases-loop-first l = l.columns - l.first
