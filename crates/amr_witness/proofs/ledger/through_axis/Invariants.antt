use Rattle.std.proofs.Common.{◌≡◌, ◌+◌, ◌≤◌, ◌*◌, ◌^◌}
use Rattle.amr_box.specs.Cells.{at_least_zero}
use Rattle.amr_def.specs.State.{no_masses}
use Rattle.amr_def.specs.Flux.{Fluxes}
use Rattle.amr_def.specs.LevelStep.{step}
use Rattle.amr_def.specs.Ledger.{below_zero, sum_to}
use Rattle.amr_witness.specs.Ends.{along, end_face}
use Rattle.amr_witness.specs.Maps.{masses_in}
use Rattle.amr_witness.proofs.ledger.through_axis.Given as goal

abbrev pub invariant-loop-k : goal.invariant-loop-k
invariant-loop-k l =
    let e : Fluxes = (step l.p 0 (masses_in l.levels) no_masses).fluxes in
    record {
      inflow : l.inflow ≡ sum_to (λ k. at_least_zero (e (end_face l.axis 0 k)) + below_zero (e (end_face l.axis (along l.p l.axis) k))) l.k;
      outflow : l.outflow ≡ sum_to (λ k. below_zero (e (end_face l.axis 0 k)) + at_least_zero (e (end_face l.axis (along l.p l.axis) k))) l.k;
      inflow_small : l.inflow ≤ l.k * 2 ^ 51;
      outflow_small : l.outflow ≤ l.k * 2 ^ 51;
    }
