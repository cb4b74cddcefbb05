use Rattle.std.proofs.Common.{◌≡◌, ◌∙◌, ◌⊎◌, inl, inr, suc, refl, ◌+◌, ◌-◌, ◌≤◌, List, Ok, Err, sym, ap, subst, arith, false, true}
use Rattle.amr_def.specs.State.{State}
use Rattle.amr_def.specs.Facts.{IsSound}
use Rattle.amr_def.specs.Run.{finish, next}
use Rattle.amr_def.proofs.Runs.{finish_step, resumes}
use Rattle.amr_patch.specs.Meshes.{is_spent, state_of}
use Rattle.amr_drive.specs.States.{states_after}
use Rattle.amr_drive.specs.declared.drives.DriveFault.TheVariants.{After, NoMemory}
use Rattle.amr_drive.proofs.Finishes.{after_more, finish_here, finish_more, finish_sound, no_fault, none_after, not_done, through}
use Rattle.amr_drive.proofs.drives.make_steps.Goals as goal

pub loop-step-init : goal.loop-step-init
loop-step-init g c =
    let p = c.args.run.now.job.problem.now in
    let s = state_of c.args.mesh.now in
    record {
      workers = refl;
      whole = c.requires.may.whole;
      value = sym (finish_here p s c.step-step.result (sym c.step-step.ensures));
      kept = c.nothing-kept.ensures p s.levels;
      patches = λ h. h;
      coarsenable = c.requires.may.coarsenable;
      made = subst (λ (ss : List State). g.A.AfterStep.made c.args.after.now ss (Ok tt) c.args.after.now) (sym (none_after p s c.step-step.result c.step-step.ensures)) (g.met.A.AfterStep.made_none c.args.after.now);
      ready = λ k more upto. c.requires.may.readiness k (omega (arith, c.step-step.ensures, more)) upto;
    }

pub make_step-requires-clause-whole : goal.make_step-requires-clause-whole
make_step-requires-clause-whole g c κs within = c.loop-step.invariant.whole

pub make_step-requires-clause-sound : goal.make_step-requires-clause-sound
make_step-requires-clause-sound g c κs within =
    subst (IsSound c.args.run.now.job.problem.now) (sym c.loop-step.invariant.value) (finish_sound c.args.run.now.job.problem.now (state_of c.args.mesh.now) c.loop-step._step c.requires.may.sound (omega (arith, c.loop-step-test.true, c.requires.may.within)))

pub make_step-requires-clause-to_come : goal.make_step-requires-clause-to_come
make_step-requires-clause-to_come g c κs within =
    let at = finish_step c.args.run.now.job.problem.now (state_of c.args.mesh.now) c.loop-step._step (omega (arith, c.loop-step.auto._step, c.step-step.ensures)) in
    let here = ap (λ (s : State). s.step) c.loop-step.invariant.value in
    omega (arith, at, here, c.loop-step-test.true, c.requires.may.within)

pub make_step-requires-clause-coarsenable : goal.make_step-requires-clause-coarsenable
make_step-requires-clause-coarsenable g c κs within = c.loop-step.invariant.coarsenable

pub make_step-requires-clause-kept : goal.make_step-requires-clause-kept
make_step-requires-clause-kept g c κs within = c.loop-step.invariant.kept

pub make_step-requires-clause-crew : goal.make_step-requires-clause-crew
make_step-requires-clause-crew g c κs within = λ tasks. rw c.loop-step.invariant.workers (c.requires.crew tasks)

pub make_step-requires-clause-ready : goal.make_step-requires-clause-ready
make_step-requires-clause-ready g c κs within =
    let p = c.args.run.now.job.problem.now in
    let s = state_of c.args.mesh.now in
    subst (g.A.AfterStep.ready c.loop-step.after) (sym (ap (next p) c.loop-step.invariant.value ∙ finish_more p s c.loop-step._step (omega (arith, c.loop-step.auto._step, c.step-step.ensures))))
    (c.loop-step.invariant.ready (c.loop-step._step + 1) (omega arith) (omega (arith, c.loop-step-test.true)))

pub returns-in_err-make_step : goal.returns-in_err-make_step
returns-in_err-make_step g c = record {
  value = not_done _ _ c.from_residual.result c.from_residual.ensures.1;
  sound = not_done _ _ c.from_residual.result c.from_residual.ensures.1;
  patches = λ left h. c.make_step.ensures.patches left (c.loop-step.invariant.patches h);
  coarsenable = c.make_step.ensures.coarsenable;
  whole = not_done _ _ c.from_residual.result c.from_residual.ensures.1;
  all_made = not_done _ _ c.from_residual.result c.from_residual.ensures.1;
  refused = λ f is.
      let p = c.args.run.now.job.problem.now in
      let s = state_of c.args.mesh.now in
      let k = c.loop-step._step in
      let from : s.step ≤ k = omega (arith, c.loop-step.auto._step, c.step-step.ensures) in
      let said = c.make_step.ensures.refused f (through c.make_step.result c.from_residual.result c.in_err-make_step.field-0.0 (After f) c.in_err-make_step.was c.from_residual.ensures.1 is) in
      let state : next p (state_of c.loop-step.mesh) ≡ finish p s (k + 1) = ap (next p) c.loop-step.invariant.value ∙ finish_more p s k from in
      let count : s.step + suc (k - s.step) ≡ k + 1 = omega (arith, from) in (
        suc (k - s.step),
        omega arith,
        omega (arith, from, c.loop-step-test.true),
        said.1,
        said.0 ∙ state ∙ ap (finish p s) (sym count),
        subst (λ (ss : List State). g.A.AfterStep.made c.args.after.now ss (Err f) c.make_step.new.after) (after_more p s k (next p (state_of c.loop-step.mesh)) from state)
            (g.met.A.AfterStep.made_more c.args.after.now c.loop-step.after c.make_step.new.after (states_after p s (k - s.step)) (next p (state_of c.loop-step.mesh)) (Err f) c.loop-step.invariant.made said.2),
      );
  memory = λ is.
      let p = c.args.run.now.job.problem.now in
      let s = state_of c.args.mesh.now in
      let k = c.loop-step._step in
      let from : s.step ≤ k = omega (arith, c.loop-step.auto._step, c.step-step.ensures) in
      let said = c.make_step.ensures.memory (through c.make_step.result c.from_residual.result c.in_err-make_step.field-0.0 NoMemory c.in_err-make_step.was c.from_residual.ensures.1 is) in
      let count : s.step + (k - s.step) ≡ k = omega (arith, from) in
      let left : (is_spent c.make_step.new.mesh ≡ true) ⊎ ((is_spent c.make_step.new.mesh ≡ false) × (state_of c.make_step.new.mesh ≡ finish p s (s.step + (k - s.step)))) =
      elim said.1 [
        | inl spent ↦ inl spent
        | inr same ↦ inr (same.0, same.1 ∙ c.loop-step.invariant.value ∙ ap (finish p s) (sym count))
      ] in
      (k - s.step, omega (arith, from, c.loop-step-test.true), left, subst (λ a. g.A.AfterStep.made c.args.after.now (states_after p s (k - s.step)) (Ok tt) a) (sym said.0) c.loop-step.invariant.made);
}

pub loop-step-preserved : goal.loop-step-preserved
loop-step-preserved g c =
    let p = c.args.run.now.job.problem.now in
    let s = state_of c.args.mesh.now in
    let k = c.loop-step._step in
    let from : s.step ≤ k = omega (arith, c.loop-step.auto._step, c.step-step.ensures) in
    let state : next p (state_of c.loop-step.mesh) ≡ finish p s (k + 1) = ap (next p) c.loop-step.invariant.value ∙ finish_more p s k from in
    let said = c.in_ok-make_step.ensures in
    let count : suc (k - s.step) ≡ k + 1 - s.step = omega (arith, from) in
    record {
      workers = c.make_step.ensures.workers ∙ c.loop-step.invariant.workers;
      whole = said.whole;
      value = said.value ∙ state;
      kept = said.kept;
      patches = λ h. said.patches said.whole (c.loop-step.invariant.patches h);
      coarsenable = said.coarsenable said.whole;
      made = subst (λ (ss : List State). g.A.AfterStep.made c.args.after.now ss (Ok tt) c.make_step.new.after) (after_more p s k (next p (state_of c.loop-step.mesh)) from state ∙ ap (states_after p s) count)
          (g.met.A.AfterStep.made_more c.args.after.now c.loop-step.after c.make_step.new.after (states_after p s (k - s.step)) (next p (state_of c.loop-step.mesh)) (Ok tt) c.loop-step.invariant.made said.answer);
      ready = λ j more upto.
          let here = ap (λ (t : State). t.step) state ∙ finish_step p s (k + 1) (omega (arith, from)) in
          let same : finish p (next p (state_of c.loop-step.mesh)) j ≡ finish p s j = ap (λ (t : State). finish p t j) state ∙ resumes p s (k + 1) j (omega (arith, from)) (omega (arith, more)) in
          subst (g.A.AfterStep.ready c.make_step.new.after) same
          (said.ready p j (omega (arith, here, more)) (subst (g.A.AfterStep.ready c.loop-step.after) (sym same) (c.loop-step.invariant.ready j (omega (arith, more)) upto)));
    }

pub returns : goal.returns
returns g c =
    let p = c.args.run.now.job.problem.now in
    let s = state_of c.args.mesh.now in
    let last : c.loop-step._step ≡ c.args.run.now.target = omega (arith, c.loop-step-test.false, c.loop-step.auto._step-end (omega (arith, c.requires.may.ahead, c.step-step.ensures))) in
    record {
      value = c.loop-step.invariant.value ∙ ap (finish p s) last;
      sound = subst (IsSound p) (sym c.loop-step.invariant.value) (finish_sound p s c.loop-step._step c.requires.may.sound (omega (arith, last, c.requires.may.within)));
      patches = λ _. c.loop-step.invariant.patches;
      coarsenable = λ _. c.loop-step.invariant.coarsenable;
      whole = c.loop-step.invariant.whole;
      all_made = subst (λ n. g.A.AfterStep.made c.args.after.now (states_after p s (n - s.step)) (Ok tt) c.loop-step.after) last c.loop-step.invariant.made;
      refused = λ f is. no_fault tt (After f) is;
      memory = λ is. no_fault tt NoMemory is;
    }
