use Rattle.std.proofs.Common.{◌≡◌, [], length}
use Rattle.std.specs.Global.{Vec}
use Rattle.std.specs.List.{All}
use Rattle.amr_ranks.specs.declared.item.Item.{Item}
use Rattle.amr_letters.proofs.items.no_items.Given as goal

abbrev pub invariant-loop-rank : goal.invariant-loop-rank
invariant-loop-rank l = (length l.lists.items ≡ l._rank) × All (λ (v : Vec Item). v.items ≡ []) l.lists.items
