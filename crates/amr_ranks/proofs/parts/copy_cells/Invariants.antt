use Rattle.std.proofs.Common.{◌≡◌, ◌+◌, ◌++◌, length, take}
use Rattle.amr_ranks.specs.Items.{cells_in}
use Rattle.amr_ranks.proofs.parts.copy_cells.Given as goal

abbrev pub invariant-loop-item : goal.invariant-loop-item
invariant-loop-item l = record {
  end : l.end ≡ l.start + length (cells_in (take l.item-index l.items));
  cells : take l.end l.into ≡ take l.start l.initial.into ++ cells_in (take l.item-index l.items);
}
