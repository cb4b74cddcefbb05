use Rattle.std.proofs.Common.{◌≡◌, ◌&&◌, length}
use Rattle.amr_box.specs.declared.Cell.{Cell}
use Rattle.amr_box.specs.Cells.{height, holds, width}
use Rattle.amr_tags.specs.Bits.{AreRows}
use Rattle.amr_tags.specs.TagSets.{has, is_near_tag, tag_set}
use Rattle.amr_tags.proofs.grow.grow_by.Given as goal

abbrev pub invariant-loop-step : goal.invariant-loop-step
invariant-loop-step l = AreRows (width l.b) (height l.b) l.words.items × (length l.spare.items ≡ length l.words.items) × ((c : Cell) → has (tag_set l.b l.wrap_x l.wrap_y l.words.items) c ≡ (holds l.b c && is_near_tag (tag_set l.b l.wrap_x l.wrap_y l.initial.words.items) l._step c))
