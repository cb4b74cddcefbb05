use Rattle.std.proofs.Common.{arith, ◌∙◌}
use Rattle.std.proofs.lemmas.Result.{on_ok_weaker}
use Rattle.amr_patch.specs.Meshes.{state_of}
use Rattle.amr_drive.proofs.NextStates.{next_is, same_step}
use Rattle.amr_drive.proofs.nexts.make_next.Goals as goal

pub make_plain_step-requires-clause-to_come : goal.make_plain_step-requires-clause-to_come
make_plain_step-requires-clause-to_come g c κs within =
    omega (arith, c.requires.to_come, same_step c.args.run.now.job.problem.now (state_of c.args.mesh.now) (state_of c.regrid_if_due.new.mesh) c.in_ok-regrid_if_due.ensures.value)

pub returns-clause-value : goal.returns-clause-value
returns-clause-value g c =
    on_ok_weaker c.make_plain_step.result (λ e. e ∙ next_is c.args.run.now.job.problem.now (state_of c.args.mesh.now) (state_of c.regrid_if_due.new.mesh) c.in_ok-regrid_if_due.ensures.value) c.make_plain_step.ensures.value

pub returns-clause-patches : goal.returns-clause-patches
returns-clause-patches g c = λ left h. c.make_plain_step.ensures.patches left (c.in_ok-regrid_if_due.ensures.patches h)
