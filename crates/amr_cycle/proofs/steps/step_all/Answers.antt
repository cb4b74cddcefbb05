use Rattle.std.proofs.Common.{List, map, refl, subst, arith}
use Rattle.amr_patch.specs.declared.levels.Level.{Level as Held}
use Rattle.amr_patch.specs.Levels.{level_of}
use Rattle.amr_cycle.specs.Cycles.{HasStepToCome}
use Rattle.amr_cycle.specs.KeptLevels.{AreKept}
use Rattle.amr_cycle.proofs.StateSteps.{no_coarser, sums_fit, whole_part}
use Rattle.amr_cycle.proofs.steps.step_all.Goals as goal

pub step_levels-requires-clause-part : goal.step_levels-requires-clause-part
step_levels-requires-clause-part g c κs within =
    let p = c.args.p.now in
    whole_part p (level_of c.in-Some.base.now) (map level_of c.in-Some.finer.now) (subst (λ (hs : List Held). HasStepToCome p (map level_of hs)) c.in-Some.ensures.cases.0 c.requires.to_come)

pub step_levels-requires-clause-regs : goal.step_levels-requires-clause-regs
step_levels-requires-clause-regs g c κs within =
    let p = c.args.p.now in
    let above = no_coarser p (level_of c.in-Some.base.now) (map level_of c.in-Some.finer.now) (subst (λ (hs : List Held). HasStepToCome p (map level_of hs)) c.in-Some.ensures.cases.0 c.requires.to_come) in
    record { coarser = above; finer = refl }

pub step_levels-requires-clause-inflow : goal.step_levels-requires-clause-inflow
step_levels-requires-clause-inflow g c κs within =
    let p = c.args.p.now in
    let fit = sums_fit p (level_of c.in-Some.base.now) (map level_of c.in-Some.finer.now) (subst (λ (hs : List Held). HasStepToCome p (map level_of hs)) c.in-Some.ensures.cases.0 c.requires.to_come) in
    omega (arith, fit.inflow)

pub step_levels-requires-clause-outflow : goal.step_levels-requires-clause-outflow
step_levels-requires-clause-outflow g c κs within =
    let p = c.args.p.now in
    let fit = sums_fit p (level_of c.in-Some.base.now) (map level_of c.in-Some.finer.now) (subst (λ (hs : List Held). HasStepToCome p (map level_of hs)) c.in-Some.ensures.cases.0 c.requires.to_come) in
    omega (arith, fit.outflow)

pub step_levels-requires-clause-kept : goal.step_levels-requires-clause-kept
step_levels-requires-clause-kept g c κs within =
    record {
      kept = subst (λ (hs : List Held). AreKept c.args.p.now 0 (map level_of hs) c.args.kept.now) c.in-Some.ensures.cases.0 c.requires.kept;
      beside = λ e. absurd (cc);
    }

pub returns-clause-kept : goal.returns-clause-kept
returns-clause-kept g c = c.in_ok-step_levels-in-Some.ensures.kept.kept
