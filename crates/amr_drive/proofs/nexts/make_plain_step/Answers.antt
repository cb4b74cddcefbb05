use Rattle.amr_patch.specs.Meshes.{levels_of}
use Rattle.amr_causes.proofs.Results.{on_ok_both}
use Rattle.amr_drive.proofs.Kept.{chopped_after, coarsenable_after_step, unless_spent}
use Rattle.amr_drive.proofs.nexts.make_plain_step.Goals as goal

pub returns-clause-patches : goal.returns-clause-patches
returns-clause-patches g c = λ left h.
    let made = on_ok_both c.step_kept.result (λ value patches. chopped_after c.args.p.now c.args.mesh.now c.step_kept.new.mesh c.requires.sound value patches h) c.step_kept.ensures.value c.step_kept.ensures.patches in
    unless_spent c.step_kept.result c.step_kept.ensures.spent made (λ chopped. chopped) left

pub returns-clause-coarsenable : goal.returns-clause-coarsenable
returns-clause-coarsenable g c =
    unless_spent c.step_kept.result c.step_kept.ensures.spent c.step_kept.ensures.patches (λ patches. coarsenable_after_step (levels_of c.step_kept.new.mesh) (levels_of c.args.mesh.now) patches c.requires.coarsenable)
