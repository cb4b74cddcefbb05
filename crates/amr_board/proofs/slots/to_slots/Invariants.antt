use Rattle.std.proofs.Common.{◌≡◌, ◌+◌, ◌≤◌, ◌++◌, map, reverse, Some, vec_len}
use Rattle.std.specs.Vec.{vec_capacity}
use Rattle.amr_board.proofs.slots.to_slots.Given as goal

abbrev pub invariant-pieces : goal.invariant-pieces
invariant-pieces g l =
    (map Some l.initial.pieces.items ≡ map Some l.pieces.items ++ reverse l.slots.items)
    × (vec_len l.pieces + vec_len l.slots ≡ vec_len l.initial.pieces)
    × (vec_len l.initial.pieces ≤ vec_capacity l.slots)
    × (vec_len l.initial.pieces ≤ vec_capacity l.pieces)

abbrev pub decreases-pieces : goal.decreases-pieces
decreases-pieces g l = vec_len l.pieces
