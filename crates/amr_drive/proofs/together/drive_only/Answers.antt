use Rattle.std.proofs.Common.{◌+◌, arith}
use Rattle.amr_drive.proofs.OnlyMesh.{coarsenable, driven, driven_meshes, sound, step_here, whole}
use Rattle.amr_drive.proofs.together.drive_only.Goals as goal

pub drive-driven-requires-clause-whole : goal.drive-driven-requires-clause-whole
drive-driven-requires-clause-whole g c κs within = whole c.args.p.now c.args.meshes.now c.requires.only c.requires.meshes c.index-meshes-0.result

pub drive-driven-requires-clause-sound : goal.drive-driven-requires-clause-sound
drive-driven-requires-clause-sound g c κs within = sound c.args.p.now c.args.meshes.now c.requires.only c.requires.meshes c.index-meshes-0.result

pub drive-driven-requires-clause-ahead : goal.drive-driven-requires-clause-ahead
drive-driven-requires-clause-ahead g c κs within = omega (arith, step_here c.args.p.now c.args.meshes.now c.requires.only c.requires.meshes c.index-meshes-0.result, c.requires.ahead)

pub drive-driven-requires-clause-coarsenable : goal.drive-driven-requires-clause-coarsenable
drive-driven-requires-clause-coarsenable g c κs within = coarsenable c.args.p.now c.args.meshes.now c.requires.only c.requires.meshes c.index-meshes-0.result

pub drive-driven-requires-clause-some_workers : goal.drive-driven-requires-clause-some_workers
drive-driven-requires-clause-some_workers g c κs within = (c.requires.crew 0).some_workers

pub drive-driven-requires-clause-few_workers : goal.drive-driven-requires-clause-few_workers
drive-driven-requires-clause-few_workers g c κs within = (c.requires.crew 0).few_workers

pub drive-driven-requires-clause-gate : goal.drive-driven-requires-clause-gate
drive-driven-requires-clause-gate g c κs within = λ worker task invited. (c.requires.crew (task + 1)).gate worker task invited (omega arith)

pub returns-in-Ok-clause-value : goal.returns-in-Ok-clause-value
returns-in-Ok-clause-value g c =
    driven c.args.p.now c.args.meshes.now c.requires.only c.requires.meshes c.index-meshes-0.result c.args.target c.drive-driven.new.mesh c.in-Ok.ensures.value

pub returns-in-Ok-clause-meshes : goal.returns-in-Ok-clause-meshes
returns-in-Ok-clause-meshes g c =
    driven_meshes c.args.p.now c.args.meshes.now c.requires.only c.requires.meshes c.index-meshes-0.result c.args.target c.drive-driven.new.mesh c.in-Ok.ensures.value
    c.requires.within c.in-Ok.ensures.whole (c.in-Ok.ensures.patches c.in-Ok.ensures.whole)
