use Rattle.std.proofs.Common.{◌≡◌, take}
use Rattle.amr_post.specs.Amounts.{items_with}
use Rattle.amr_post.proofs.amounts.set_items.Given as goal

abbrev pub invariant-loop-i : goal.invariant-loop-i
invariant-loop-i l = l.letter ≡ record l.initial.letter { items = items_with l.initial.letter.items (take l.i l.amounts) }
