use Rattle.amr_patch.specs.Meshes.{levels_of, state_of}
use Rattle.amr_patch.proofs.Items.{levels_are}
use Rattle.amr_cycle.proofs.Chopped.{chopped_above}
use Rattle.amr_compare.proofs.steps.mesh_of.Goals as goal

pub returns-clause-coarsenable : goal.returns-clause-coarsenable
returns-clause-coarsenable c =
    let m = c.in-Ok.mesh in
    chopped_above c.args.p.now (state_of m) (levels_of m) c.in-Ok.ensures.sound (levels_are m) (λ n d lt. (c.in-Ok.ensures.chopped n d lt).patches)
