use Rattle.std.proofs.Common.{◌∙◌, ◌≤◌, List, ap, arith, map, subst, sym}
use Rattle.std.proofs.lemmas.Result.{on_ok_weaker}
use Rattle.amr_def.specs.Species.{finish_all, step_of}
use Rattle.amr_patch.specs.declared.meshes.Mesh.{Mesh}
use Rattle.amr_patch.specs.Meshes.{state_of}
use Rattle.amr_drive.specs.Flocks.{AreMeshesOf, meshes_of}
use Rattle.amr_drive.proofs.FlockStarts.{lent_flock, lent_states}
use Rattle.amr_drive.proofs.together.drive_all.Goals as goal

pub drive_meshes-requires-clause-crew : goal.drive_meshes-requires-clause-crew
drive_meshes-requires-clause-crew g c κs within = λ tasks. record {
  some_workers = c.requires.some_workers;
  few_workers = c.requires.few_workers;
  gate = λ worker task invited _. c.requires.gate worker task invited;
  team = tt;
}

pub drive_meshes-requires-clause-meshes : goal.drive_meshes-requires-clause-meshes
unfolding meshes_of
drive_meshes-requires-clause-meshes g c κs within = subst (AreMeshesOf c.args.p.now) (sym c.as_mut_slice.ensures.value) c.requires.flock.meshes

pub drive_meshes-requires-clause-ahead : goal.drive_meshes-requires-clause-ahead
unfolding meshes_of
drive_meshes-requires-clause-ahead g c κs within = subst (λ (ms : List Mesh). step_of (map state_of ms) ≤ c.args.target) (sym c.as_mut_slice.ensures.value) c.requires.ahead

pub returns-clause-value : goal.returns-clause-value
unfolding meshes_of
returns-clause-value g c =
    let p = c.args.p.now in
    let lent = c.as_mut_slice.result.now in
    let ns = c.drive_meshes.new.meshes in
    on_ok_weaker c.drive_meshes.result
    (λ e. lent_states p c.args.flock.now lent ns c.as_mut_slice.ensures.value (omega arith) ∙ e ∙ ap (λ (ms : List Mesh). finish_all p (map state_of ms) c.args.target) c.as_mut_slice.ensures.value)
    c.drive_meshes.ensures.value

pub returns-clause-flock : goal.returns-clause-flock
returns-clause-flock g c =
    on_ok_weaker c.drive_meshes.result
    (λ meshes. lent_flock c.args.p.now c.args.flock.now c.as_mut_slice.result.now c.drive_meshes.new.meshes c.as_mut_slice.ensures.value (omega arith) c.requires.flock meshes)
    c.drive_meshes.ensures.meshes
