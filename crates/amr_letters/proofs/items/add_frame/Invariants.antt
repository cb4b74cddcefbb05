use Rattle.std.specs.List.{flat_map, range_with_len}
use Rattle.amr_letters.specs.Between.{told_at}
use Rattle.amr_letters.specs.Shared.{AreAdded, sharing}
use Rattle.amr_letters.proofs.items.add_frame.Given as goal

abbrev pub invariant-loop-slot : goal.invariant-loop-slot
invariant-loop-slot l = AreAdded (λ from. flat_map (told_at (sharing l.s) from l.number) (range_with_len 0 l.slot)) l.initial.lists.items l.lists.items
