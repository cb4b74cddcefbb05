use Rattle.std.proofs.Common.{◌≡◌, ◌*◌, length}
use Rattle.amr_box.specs.Cells.{height, width}
use Rattle.amr_codec.specs.Forms.{masses_before}
use Rattle.amr_payload.specs.Payload.{cell_rows}
use Rattle.amr_payload.specs.Tests.{read_all_changed}
use Rattle.amr_decoder.specs.Lefts.{left_of, whole_of}
use Rattle.amr_decoder.proofs.ChangedRows.{IsAfterRows}
use Rattle.amr_decoder.proofs.changed.read_changed_rows.Given as goal

-- what is still to read comes after the rows so far
abbrev pub invariant-loop-j : goal.invariant-loop-j
invariant-loop-j l = record {
  so_far : IsAfterRows (masses_before l.old) l.p l.kind.step l.kind.level l.b (height l.b) (read_all_changed (masses_before l.old) l.p l.kind.step l.kind.level (cell_rows l.b) (left_of l.fn.reader)) l.j l.masses.items (left_of l.reader);
  count : length l.masses.items ≡ width l.b * l.j;
  whole : whole_of l.reader ≡ whole_of l.fn.reader;
}
