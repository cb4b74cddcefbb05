use Rattle.std.proofs.Common.{◌≡◌, ◌++◌}
use Rattle.std.specs.List.{flat_map, range_with_len}
use Rattle.amr_patch.specs.Levels.{level_of}
use Rattle.amr_payload.specs.Payload.{changed_bytes}
use Rattle.amr_codec.specs.Forms.{cells_of_row, masses_before}
use Rattle.amr_codec.proofs.changes.put_changed_rows.Given as goal

-- the rows before `row` are put
abbrev pub invariant-loop-row : goal.invariant-loop-row
invariant-loop-row l = l.out.items ≡ l.initial.out.items ++ flat_map (λ j. changed_bytes (masses_before l.old) (level_of l.level).masses (cells_of_row l.b j)) (range_with_len 0 l.row)
