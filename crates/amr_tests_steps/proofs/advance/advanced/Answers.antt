use Rattle.std.proofs.Common.{[], ◌∷◌, arith}
use Rattle.amr_def.specs.State.{no_masses}
use Rattle.amr_patch.specs.Levels.{level_of}
use Rattle.amr_cycle.proofs.Cycling.{part_fits, part_levels}
use Rattle.amr_cycle.proofs.StateSteps.{no_coarser, sums_fit, whole_part}
use Rattle.amr_flows.proofs.SubcycleSteps.{of_level_alone}
use Rattle.amr_laws.specs.Sides.{inflow_beside, outflow_beside}
use Rattle.amr_tests_steps.proofs.advance.advanced.Goals as goal

pub advance-requires-clause-may : goal.advance-requires-clause-may
advance-requires-clause-may g c κs within =
    let p = c.args.p.now in
    let k = level_of c.in_ok-level.level in
    let part = whole_part p k [] c.in_ok-level.ensures in
    let fit = sums_fit p k [] c.in_ok-level.ensures in
    record {
      number = omega arith;
      of_domain = part_levels p 0 (k ∷ []) no_masses part;
      fits = part_fits p 0 k [] no_masses part;
      coarser = no_coarser p k [] c.in_ok-level.ensures;
      finer = tt;
      edges = tt;
      inflow = omega (arith, fit.inflow, of_level_alone (inflow_beside p) p 0 k no_masses);
      outflow = omega (arith, fit.outflow, of_level_alone (outflow_beside p) p 0 k no_masses);
    }

pub advance-requires-clause-crew : goal.advance-requires-clause-crew
advance-requires-clause-crew g c κs within = record { one_rank = omega arith; some_workers = omega arith; few_workers = omega arith; admitted = λ worker task below lt. tt }
