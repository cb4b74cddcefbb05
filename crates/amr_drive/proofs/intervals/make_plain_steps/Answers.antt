use Rattle.std.proofs.Common.{◌≡◌, ◌∙◌, refl, ◌≤◌, ap, arith}
use Rattle.amr_def.specs.State.{State}
use Rattle.amr_def.specs.Run.{stepped}
use Rattle.amr_patch.specs.Meshes.{state_of}
use Rattle.amr_drive.specs.Lanes.{stepped_to}
use Rattle.amr_drive.proofs.Kept.{coarsenable}
use Rattle.amr_drive.proofs.StepsTo.{stepped_here, stepped_more, stepped_to_step}
use Rattle.amr_drive.proofs.intervals.make_plain_steps.Goals as goal

pub loop-step-init : goal.loop-step-init
loop-step-init g c = record {
  workers = refl;
  whole = c.requires.steps.whole;
  value = stepped_here c.args.p.now (state_of c.args.mesh.now) c.step-step.result c.step-step.ensures;
  sound = c.requires.steps.sound;
  patches = c.requires.steps.patches;
  kept = c.requires.steps.kept_is;
}

pub make_plain_step-requires-clause-to_come : goal.make_plain_step-requires-clause-to_come
make_plain_step-requires-clause-to_come g c κs within =
    let at = stepped_to_step c.args.p.now (state_of c.args.mesh.now) c.loop-step._step (omega (arith, c.loop-step.auto._step, c.step-step.ensures)) in
    let here = ap (λ (s : State). s.step) c.loop-step.invariant.value in
    omega (arith, at, here, c.loop-step-test.true, c.requires.steps.within)

pub make_plain_step-requires-clause-coarsenable : goal.make_plain_step-requires-clause-coarsenable
make_plain_step-requires-clause-coarsenable g c κs within = coarsenable c.args.p.now c.loop-step.mesh c.loop-step.invariant.sound c.loop-step.invariant.patches

pub make_plain_step-requires-clause-crew : goal.make_plain_step-requires-clause-crew
make_plain_step-requires-clause-crew g c κs within = λ tasks. rw c.loop-step.invariant.workers (c.requires.crew tasks)

pub loop-step-preserved : goal.loop-step-preserved
loop-step-preserved g c =
    let p = c.args.p.now in
    let s = state_of c.args.mesh.now in
    let k = c.loop-step._step in
    let from : s.step ≤ k = omega (arith, c.loop-step.auto._step, c.step-step.ensures) in
    let said = c.in_ok-make_plain_step.ensures in
    record {
      workers = c.make_plain_step.ensures.workers ∙ c.loop-step.invariant.workers;
      whole = said.whole;
      value = said.value ∙ ap (stepped p) c.loop-step.invariant.value ∙ stepped_more p s k from;
      sound = said.sound;
      patches = said.patches said.whole c.loop-step.invariant.patches;
      kept = said.kept;
    }

pub returns : goal.returns
returns g c =
    let last : c.loop-step._step ≡ c.args.end = omega (arith, c.loop-step-test.false, c.loop-step.auto._step-end (omega (arith, c.requires.steps.ahead, c.step-step.ensures))) in
    record {
      value = c.loop-step.invariant.value ∙ ap (stepped_to c.args.p.now (state_of c.args.mesh.now)) last;
      whole = c.loop-step.invariant.whole;
      patches = c.loop-step.invariant.patches;
      kept_is = c.loop-step.invariant.kept;
    }
