use Rattle.std.proofs.Common.{◌≡◌, ◌*◌, ◌^◌, ◌≤◌, get_or}
use Rattle.amr_def.specs.Ledger.{sum_to}
use Rattle.amr_decoder.proofs.totals.span_mass.Given as goal

-- `sum` is the sum of the masses so far
abbrev pub invariant-loop-mass : goal.invariant-loop-mass
invariant-loop-mass l = record {
  value : l.sum ≡ sum_to (λ k. get_or l.masses k 0) l.mass-index;
  small : l.sum ≤ l.mass-index * 2 ^ 32;
}
