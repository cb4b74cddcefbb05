use Rattle.std.proofs.Common.{ℕ, ◌<◌}
use Rattle.std.specs.Prelude.{IsTrue, slice_index_or}
use Rattle.amr_box.specs.declared.Cell.{Cell}
use Rattle.amr_box.specs.Cells.{Extent, has_child_where, holds}
use Rattle.amr_patch.specs.Levels.{level_of}
use Rattle.amr_decoder.specs.Synced.{IsSum}
use Rattle.amr_decoder.proofs.sync.are_boxes_in_sync.Given as goal

-- the parents of the cells of the boxes so far have
abbrev pub invariant-loop-b : goal.invariant-loop-b
invariant-loop-b l = (k : ℕ) → k < l.b-index → (d : Extent) (c : Cell) → IsTrue (has_child_where (holds (slice_index_or l.b-items k d)) c) → IsSum (level_of l.coarse).masses (level_of l.fine).masses c
