use Rattle.std.proofs.Common.{◌≡◌}
use Rattle.std.specs.Vec.{vec_capacity}
use Rattle.amr_advance.specs.Phases.{ArePieces}
use Rattle.amr_advance.proofs.phases.to_pieces.Given as goal

-- the lots so far have their pieces
abbrev pub invariant-loop-lot : goal.invariant-loop-lot
invariant-loop-lot l = record {
  pieces : ArePieces l.phase.basis.now l.phase.level l.phase.duty l.yielded l.pieces.items;
  room : vec_capacity l.pieces ≡ vec_capacity l.initial.pieces;
}
