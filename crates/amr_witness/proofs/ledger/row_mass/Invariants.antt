use Rattle.std.proofs.Common.{◌≡◌, ◌≤◌, ◌*◌, ◌^◌}
use Rattle.amr_def.specs.Ledger.{sum_to, mass_at}
use Rattle.amr_witness.specs.Maps.{masses_of}
use Rattle.amr_witness.proofs.ledger.row_mass.Given as goal

abbrev pub invariant-loop-x : goal.invariant-loop-x
invariant-loop-x l = (l.sum ≡ sum_to (λ x. mass_at (masses_of l.m) x l.y) l.x) × (l.sum ≤ l.x * 2 ^ 31)
