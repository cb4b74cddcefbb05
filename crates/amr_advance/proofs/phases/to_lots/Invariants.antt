use Rattle.std.proofs.Common.{◌≡◌, map}
use Rattle.std.specs.Vec.{vec_capacity}
use Rattle.amr_advance.proofs.phases.to_lots.Given as goal

-- the pieces so far have their lots there
abbrev pub invariant-loop-work : goal.invariant-loop-work
invariant-loop-work l = record {
  lots : l.lots.items ≡ map (λ w. w.lot) l.yielded;
  room : vec_capacity l.lots ≡ vec_capacity l.initial.lots;
}
