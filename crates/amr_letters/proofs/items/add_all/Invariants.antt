use Rattle.std.specs.List.{flat_map, range_with_len}
use Rattle.amr_letters.specs.Between.{told_to}
use Rattle.amr_letters.specs.Shared.{AreAdded, sharing}
use Rattle.amr_letters.proofs.items.add_all.Given as goal

abbrev pub invariant-loop-k : goal.invariant-loop-k
invariant-loop-k l = AreAdded (λ from. flat_map (told_to (sharing l.s) from l.to) (range_with_len 0 l.k)) l.initial.lists.items l.lists.items
