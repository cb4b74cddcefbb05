use Rattle.std.proofs.Common.{◌≡◌, ◌++◌}
use Rattle.std.specs.List.{flat_map, range_with_len}
use Rattle.amr_box.specs.Cells.{width}
use Rattle.amr_payload.specs.Payload.{number_bytes}
use Rattle.amr_codec.specs.MassWidths.{width_of}
use Rattle.amr_patch.specs.BoxRows.{mass_in}
use Rattle.amr_codec.proofs.rows.put_rows.Given as goal

-- the rows before `row` are put
abbrev pub invariant-loop-row : goal.invariant-loop-row
invariant-loop-row l = l.out.items ≡ l.initial.out.items ++ flat_map (λ j. flat_map (λ i. number_bytes (width_of l.mass_width) (mass_in l.level l.b j i)) (range_with_len 0 (width l.b))) (range_with_len 0 l.row)
