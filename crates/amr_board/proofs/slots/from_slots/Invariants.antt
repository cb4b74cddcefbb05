use Rattle.std.proofs.Common.{◌≡◌, ◌+◌, ◌≤◌, ◌++◌, map, reverse, Some, vec_len}
use Rattle.std.specs.Prelude.{All, IsSome}
use Rattle.std.specs.Vec.{vec_capacity}
use Rattle.amr_board.proofs.slots.from_slots.Given as goal

abbrev pub invariant-slots : goal.invariant-slots
invariant-slots g l =
    (l.initial.slots.items ≡ l.slots.items ++ reverse (map Some l.pieces.items))
    × (vec_len l.pieces + vec_len l.slots ≡ vec_len l.initial.slots)
    × (vec_len l.initial.slots ≤ vec_capacity l.pieces)
    × All IsSome l.slots.items

abbrev pub decreases-slots : goal.decreases-slots
decreases-slots g l = vec_len l.slots
