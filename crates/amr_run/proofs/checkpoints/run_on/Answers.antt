use Rattle.std.proofs.Common.{◌≤◌, ◌+◌, refl, sym, arith}
use Rattle.amr_checkpoint.specs.KeptCheckpoints.{run_of}
use Rattle.amr_checkpoint.specs.Outside.{outside_at}
use Rattle.amr_drive.proofs.Finishes.{finish_sound}
use Rattle.amr_drive.proofs.Kept.{coarsenable}
use Rattle.amr_patch.specs.Meshes.{state_of}
use Rattle.amr_store.specs.Stands.{problem_in}
use Rattle.amr_checkpoint.proofs.Later.{later_of_run}
use Rattle.amr_def.specs.Run.{finish}
use Rattle.amr_run.proofs.RunStates.{keeps_back, keeps_no_more, keeps_part}
use Rattle.amr_run.proofs.checkpoints.run_on.Goals as goal

pub drive-requires-clause-coarsenable : goal.drive-requires-clause-coarsenable
drive-requires-clause-coarsenable g c κs within = coarsenable c.args.keeping.now.problem.now c.args.mesh c.requires.mesh.sound c.requires.mesh.chopped

pub drive-requires-clause-ready : goal.drive-requires-clause-ready
drive-requires-clause-ready g c κs within k more upto =
    let p = c.args.keeping.now.problem.now in
    let s = state_of c.args.mesh in
    record {
      sound = finish_sound p s k c.requires.mesh.sound (omega (arith, upto, c.requires.within));
      some = c.requires.some;
      store = c.args.kept;
      is = refl;
      may = c.requires.may (finish p s k) (later_of_run p s k more);
    }

pub returns-in-Ok-clause-kept : goal.returns-in-Ok-clause-kept
returns-in-Ok-clause-kept g c =
    let at = outside_at g.D.Disk.seen g.D.Disk.moment g.D.Disk.leaves g.D.Disk.faults g.E.Sink.holds g.E.Sink.faults in
    let made = c.in-Ok.ensures.made in
    let kept = made.4 (problem_in c.args.kept.store) refl in
    keeps_back g.D.Disk.seen g.D.Disk.moment g.D.Disk.leaves g.D.Disk.faults g.E.Sink.holds g.E.Sink.faults c.args.keeping.now.deltas (at c.args.disk.now c.args.err.now) c.drive.new.after.disk.now _ c.drive.new.after.err.now _ _ _
    (c.disk-1.given.1 (sym made.3)) (c.err-1.given.1 (sym made.2)) kept.1

pub returns-in-Err-After-clause-kept : goal.returns-in-Err-After-clause-kept
returns-in-Err-After-clause-kept g c =
    let at = outside_at g.D.Disk.seen g.D.Disk.moment g.D.Disk.leaves g.D.Disk.faults g.E.Sink.holds g.E.Sink.faults in
    let before = at c.args.disk.now c.args.err.now in
    let said = c.in-Err-After.ensures.refused c.in-Err-After.fault (cc) in
    let made = said.5 in
    let kept = made.4 (problem_in c.args.kept.store) refl in
    let part = keeps_part before (at c.drive.new.after.disk.now c.drive.new.after.err.now) (run_of (problem_in c.args.kept.store) c.args.keeping.now) (state_of c.args.mesh) said.0 c.in-Err-After.fault said.2 kept.1 in
    keeps_back g.D.Disk.seen g.D.Disk.moment g.D.Disk.leaves g.D.Disk.faults g.E.Sink.holds g.E.Sink.faults c.args.keeping.now.deltas before c.drive.new.after.disk.now _ c.drive.new.after.err.now _ _ _
    (c.disk-1.given.1 (sym made.3)) (c.err-1.given.1 (sym made.2)) part

pub returns-clause-kept : goal.returns-clause-kept
returns-clause-kept g c =
    let at = outside_at g.D.Disk.seen g.D.Disk.moment g.D.Disk.leaves g.D.Disk.faults g.E.Sink.holds g.E.Sink.faults in
    let before = at c.args.disk.now c.args.err.now in
    let said = c.in-Err-NoMemory.ensures.memory (cc) in
    let made = said.3 in
    let kept = made.4 (problem_in c.args.kept.store) refl in
    let within : (state_of c.args.mesh).step + said.0 ≤ c.args.keeping.now.target = omega (arith, said.1) in
    let part = keeps_no_more before (at c.drive.new.after.disk.now c.drive.new.after.err.now) (run_of (problem_in c.args.kept.store) c.args.keeping.now) (state_of c.args.mesh) said.0 within kept.1 in
    keeps_back g.D.Disk.seen g.D.Disk.moment g.D.Disk.leaves g.D.Disk.faults g.E.Sink.holds g.E.Sink.faults c.args.keeping.now.deltas before c.drive.new.after.disk.now _ c.drive.new.after.err.now _ _ _
    (c.disk-1.given.1 (sym made.3)) (c.err-1.given.1 (sym made.2)) part
