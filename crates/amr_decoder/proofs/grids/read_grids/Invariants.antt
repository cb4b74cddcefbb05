use Rattle.std.proofs.Common.{◌≡◌, ◌-◌, [], map}
use Rattle.std.specs.List.{All}
use Rattle.amr_codec.specs.Forms.{form_of}
use Rattle.amr_payload.specs.Tests.{read_grids}
use Rattle.amr_decoder.specs.Apart.{AreOfLevel, newest_first}
use Rattle.amr_decoder.specs.Grids.{IsWhole, grid_of}
use Rattle.amr_decoder.specs.Lefts.{left_of, whole_of}
use Rattle.amr_decoder.proofs.Lists.{also_all}
use Rattle.amr_decoder.proofs.grids.read_grids.Given as goal

-- what is still to read comes after the boxes so far
abbrev pub invariant-loop-k : goal.invariant-loop-k
invariant-loop-k l = record {
  so_far : read_grids (form_of l.form) l.p l.kind.step l.kind.level l.count [] (left_of l.fn.reader)
      ≡ also_all (map (grid_of (whole_of l.fn.reader)) l.earlier.grids) (read_grids (form_of l.form) l.p l.kind.step l.kind.level (l.count - l._k) (newest_first l.earlier.grids) (left_of l.reader));
  of_level : AreOfLevel l.p l.kind.level l.earlier;
  masses : All (IsWhole (whole_of l.fn.reader)) l.earlier.grids;
  whole : whole_of l.reader ≡ whole_of l.fn.reader;
}
