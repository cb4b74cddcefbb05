use Rattle.std.proofs.Common.{◌≡◌, ◌≤◌, ◌*◌, ◌^◌}
use Rattle.amr_def.specs.Ledger.{sum_to, row_mass}
use Rattle.amr_witness.specs.Maps.{masses_of}
use Rattle.amr_witness.proofs.ledger.total_mass.Given as goal

abbrev pub invariant-loop-y : goal.invariant-loop-y
invariant-loop-y l = (l.sum ≡ sum_to (λ y. row_mass l.p (masses_of l.m) y) l.y) × (l.sum ≤ l.y * 2 ^ 43)
