use Rattle.std.proofs.Common.{◌≡◌, ◌-◌, map}
use Rattle.std.specs.List.{All}
use Rattle.amr_codec.specs.Forms.{basis_of}
use Rattle.amr_def.specs.Facts.{IsLevel}
use Rattle.amr_patch.specs.Levels.{level_of}
use Rattle.amr_payload.specs.Tests.{read_all_finer, read_also}
use Rattle.amr_start.specs.PatchBoxes.{IsChopped}
use Rattle.amr_decoder.specs.Lefts.{left_of}
use Rattle.amr_decoder.specs.ReadLevels.{read_over}
use Rattle.amr_decoder.proofs.Lists.{also_all}
use Rattle.amr_decoder.proofs.finer.add_finer.Given as goal

-- `last` is level k, and what is still to read comes after it
abbrev pub invariant-loop-k : goal.invariant-loop-k
invariant-loop-k l = record {
  so_far : read_over (basis_of l.basis).forms l.p l.step l.count (level_of l.fn.base) (left_of l.fn.reader)
      ≡ also_all (map level_of l.levels.items) (read_also (level_of l.last) (read_all_finer (basis_of l.basis).forms l.p l.step (l.count - l.k) l.k (level_of l.last) (left_of l.reader)));
  level : IsLevel l.p l.k (level_of l.last);
  chopped : All (IsChopped l.p.max_grid_size) l.levels.items;
  last : IsChopped l.p.max_grid_size l.last;
}
