use Rattle.std.proofs.Common.{◌<◌, ◌^◌, ◌∙◌, Err, ap, refl, [], arith}
use Rattle.amr_causes.proofs.ByteLaws.{grows_none}
use Rattle.amr_drive.specs.Flocks.{states_of}
use Rattle.amr_patch.specs.Meshes.{state_of}
use Rattle.amr_run.specs.Table.{trial_row}
use Rattle.amr_run.proofs.Outcomes.{cut_short, is_line_of_trial, out_of_memory, refused_by, trial_steps, trial_unread}
use Rattle.amr_run.specs.declared.status.Status.TheVariants.{NoMemory}
use Rattle.amr_run.proofs.commands.trial.Goals as goal

pub returns-in_err-problem-clause-outcome : goal.returns-in_err-problem-clause-outcome
returns-in_err-problem-clause-outcome g c =
    let small : c.args.number < 2 ^ 32 = omega (arith, c.ranges.number.fits) in (
      [],
      grows_none g.O.Sink.holds c.args.out.now,
      λ bytes seen. refused_by (trial_row c.args.number c.args.size) c.from_residual-in_err-problem.result _ bytes seen [] [] c.from_residual-in_err-problem.ensures.1
          (trial_unread c.args.number c.args.size c.deref.result.now c.in_err-problem.field-0.0 bytes seen small c.requires.size (c.deref.ensures.value ∙ c.in_ok-bytes.ensures) (λ f is. c.in_err-problem.ensures.refused f (ap Err is))),
    )

pub run_to-requires-clause-within : goal.run_to-requires-clause-within
run_to-requires-clause-within g c κs within =
    let small : c.args.number < 2 ^ 32 = omega (arith, c.ranges.number.fits) in
    let steps = trial_steps c.args.number c.args.size c.deref.result.now c.in_ok-problem.problem small c.requires.size (c.deref.ensures.value ∙ c.in_ok-bytes.ensures) c.in_ok-problem.ensures.accepted in
    omega (arith, steps)

pub returns-in_err-flock-clause-outcome : goal.returns-in_err-flock-clause-outcome
returns-in_err-flock-clause-outcome g c =
    ([], grows_none g.O.Sink.holds c.args.out.now, λ bytes seen. out_of_memory (trial_row c.args.number c.args.size) c.from_residual-in_err-flock.result NoMemory bytes seen c.from_residual-in_err-flock.ensures.1 refl)

pub mesh_of-requires-clause-species : goal.mesh_of-requires-clause-species
mesh_of-requires-clause-species g c = omega (arith, c.in_ok-problem.problem.limits.some_species)

pub returns-in_err-line-clause-outcome : goal.returns-in_err-line-clause-outcome
returns-in_err-line-clause-outcome g c =
    ([], grows_none g.O.Sink.holds c.args.out.now, λ bytes seen. out_of_memory (trial_row c.args.number c.args.size) c.from_residual-in_err-line.result NoMemory bytes seen c.from_residual-in_err-line.ensures.1 refl)

pub returns-in_err-write_whole-clause-outcome : goal.returns-in_err-write_whole-clause-outcome
returns-in_err-write_whole-clause-outcome g c =
    let part = c.in_err-write_whole.ensures.short in
    let small : c.args.number < 2 ^ 32 = omega (arith, c.ranges.number.fits) in
    let answer = is_line_of_trial c.args.number c.args.size c.deref.result.now c.deref-2.result.now c.in_ok-problem.problem (states_of c.in_ok-flock.flock) (state_of c.mesh_of.result.now) small c.requires.size (c.deref.ensures.value ∙ c.in_ok-bytes.ensures)
    c.in_ok-problem.ensures.accepted c.in_ok-flock.ensures.value c.mesh_of.ensures.state c.in_ok-flock.ensures.run (c.deref-2.ensures.value ∙ c.in_ok-line.ensures) in
    (part.0, part.2, λ bytes seen. cut_short (trial_row c.args.number c.args.size) c.from_residual-in_err-write_whole.result bytes seen c.deref-2.result.now part.0 c.from_residual-in_err-write_whole.ensures.1 (answer, refl) part.1)

pub returns-clause-outcome : goal.returns-clause-outcome
returns-clause-outcome g c =
    let small : c.args.number < 2 ^ 32 = omega (arith, c.ranges.number.fits) in
    let answer = is_line_of_trial c.args.number c.args.size c.deref.result.now c.deref-2.result.now c.in_ok-problem.problem (states_of c.in_ok-flock.flock) (state_of c.mesh_of.result.now) small c.requires.size (c.deref.ensures.value ∙ c.in_ok-bytes.ensures)
    c.in_ok-problem.ensures.accepted c.in_ok-flock.ensures.value c.mesh_of.ensures.state c.in_ok-flock.ensures.run (c.deref-2.ensures.value ∙ c.in_ok-line.ensures) in
    (c.deref-2.result.now, c.in_ok-write_whole.ensures.whole, λ bytes seen. (answer, refl))
