use Rattle.std.proofs.Common.{[], sym, ◌∙◌, refl, ap, subst, inl, List, ℕ, Err}
use Rattle.amr_causes.proofs.ByteLaws.{grows_none}
use Rattle.amr_def.specs.Plot.{plot}
use Rattle.amr_patch.specs.Meshes.{state_of}
use Rattle.amr_checkpoint.specs.Contents.{IsStorable}
use Rattle.amr_run.specs.Outcome.{EndsAtSource}
use Rattle.amr_run.specs.Table.{JudgesStorable, kept_row}
use Rattle.amr_run.proofs.Causes.{caused_by, kept_causes, plot_causes, unread_causes}
use Rattle.amr_run.proofs.KeptOutcomes.{kept_replies, only_reads_none, plot_of_kept, plot_unwritten, settles, settles_by, settles_unread, stops_by, stops_run, unread_before}
use Rattle.amr_run.proofs.Outcomes.{at_source, refused_by, stops_within, unread}
use Rattle.amr_run.specs.declared.status.Status.TheVariants.{Done, WriteFault}
use Rattle.amr_run.proofs.commands.keep.Goals as goal

pub returns-in_err-given-clause-outcome : goal.returns-in_err-given-clause-outcome
returns-in_err-given-clause-outcome g c =
    let read = c.in_err-given.ensures.problem in (
      read.0,
      (
        [],
        (
          [],
          read.1,
          grows_none g.O.Sink.holds c.args.out.now,
          grows_none g.E.Sink.holds c.args.err.now,
          refused_by (kept_row c.args.marks) c.from_residual.result _ read.0 (g.D.Disk.seen c.args.disk.now) [] [] c.from_residual.ensures.1 (unread (kept_row c.args.marks) _ read.0 (g.D.Disk.seen c.args.disk.now) tt read.2),
          stops_by g.D.Disk.seen g.D.Disk.moment g.D.Disk.leaves c.args.disk.now c.args.disk.now c.from_residual.result _ read.0 c.args.marks [] c.from_residual.ensures.1
              (λ image told. inl (unread_before JudgesStorable _ read.0 read.2, only_reads_none g.D.Disk.seen g.D.Disk.moment g.D.Disk.leaves c.args.disk.now, refl)),
        ),
      ),
    )

pub keep_run-requires-clause-accepted : goal.keep_run-requires-clause-accepted
keep_run-requires-clause-accepted g c κs within =
    let read = c.in_ok-given.ensures.problem in
    subst (λ (b : List ℕ). IsStorable b c.in_ok-given.given.problem) (sym (c.deref.ensures.value ∙ read.2.0)) read.2.1

pub keep_run-requires-clause-within : goal.keep_run-requires-clause-within
keep_run-requires-clause-within g c κs within = stops_within c.args.marks.to c.in_ok-given.given.problem c.stop_of.result c.stop_of.ensures

pub returns-in_err-mesh-clause-outcome : goal.returns-in_err-mesh-clause-outcome
returns-in_err-mesh-clause-outcome g c =
    let read = c.in_ok-given.ensures.problem in
    let run = c.in_err-mesh.ensures.outcome in
    let p = c.in_ok-given.given.problem in
    let same = c.deref.ensures.value ∙ read.2.0 in (
      read.0,
      (
        [],
        (
          run.0,
          read.1,
          grows_none g.O.Sink.holds c.args.out.now,
          run.1,
          refused_by (kept_row c.args.marks) c.from_residual-in_err-mesh.result _ read.0 (g.D.Disk.seen c.args.disk.now) [] run.0 c.from_residual-in_err-mesh.ensures.1 (kept_replies _ c.deref.result.now read.0 c.args.marks p c.stop_of.result (g.D.Disk.seen c.args.disk.now) run.0 same c.stop_of.ensures read.2.1 run.2),
          stops_by g.D.Disk.seen g.D.Disk.moment g.D.Disk.leaves c.args.disk.now c.keep_run.new.disk c.from_residual-in_err-mesh.result _ read.0 c.args.marks run.0 c.from_residual-in_err-mesh.ensures.1 (stops_run g.D.Disk.seen g.D.Disk.moment g.D.Disk.leaves c.args.disk.now c.keep_run.new.disk _ _ c.deref.result.now read.0 c.args.marks p c.stop_of.result run.0 same c.stop_of.ensures read.2.1 run.3 (λ h. h) (λ ended h. h)),
        ),
      ),
    )

pub returns-in_err-plot_in_threads-clause-outcome : goal.returns-in_err-plot_in_threads-clause-outcome
returns-in_err-plot_in_threads-clause-outcome g c =
    let read = c.in_ok-given.ensures.problem in
    let run = c.in_ok-mesh.ensures.outcome in
    let p = c.in_ok-given.given.problem in
    let same = c.deref.ensures.value ∙ read.2.0 in
    let part = c.in_err-plot_in_threads.ensures.short in
    let whole = plot p (state_of c.in_ok-mesh.mesh) in
    let answer = plot_of_kept c.deref.result.now read.0 c.args.marks.to p c.args.marks.every c.stop_of.result (g.D.Disk.seen c.args.disk.now) whole run.0 same c.stop_of.ensures read.2.1 run.2 in (
      read.0,
      (
        part.0,
        (
          run.0,
          read.1,
          part.2,
          run.1,
          refused_by (kept_row c.args.marks) c.from_residual-in_err-plot_in_threads.result WriteFault read.0 (g.D.Disk.seen c.args.disk.now) part.0 run.0 c.from_residual-in_err-plot_in_threads.ensures.1 (record { whole = whole; lines = run.0; answer = answer; cut = inl (part.1, refl) }),
          stops_by g.D.Disk.seen g.D.Disk.moment g.D.Disk.leaves c.args.disk.now c.keep_run.new.disk c.from_residual-in_err-plot_in_threads.result WriteFault read.0 c.args.marks run.0 c.from_residual-in_err-plot_in_threads.ensures.1 (stops_run g.D.Disk.seen g.D.Disk.moment g.D.Disk.leaves c.args.disk.now c.keep_run.new.disk Done WriteFault c.deref.result.now read.0 c.args.marks p c.stop_of.result run.0 same c.stop_of.ensures read.2.1 run.3 (λ h. absurd h) plot_unwritten),
        ),
      ),
    )

pub returns-clause-outcome : goal.returns-clause-outcome
returns-clause-outcome g c =
    let read = c.in_ok-given.ensures.problem in
    let run = c.in_ok-mesh.ensures.outcome in
    let p = c.in_ok-given.given.problem in
    let same = c.deref.ensures.value ∙ read.2.0 in
    let whole = plot p (state_of c.in_ok-mesh.mesh) in (
      read.0,
      (
        whole,
        (
          run.0,
          read.1,
          c.in_ok-plot_in_threads.ensures.whole,
          run.1,
          plot_of_kept c.deref.result.now read.0 c.args.marks.to p c.args.marks.every c.stop_of.result (g.D.Disk.seen c.args.disk.now) whole run.0 same c.stop_of.ensures read.2.1 run.2,
          stops_run g.D.Disk.seen g.D.Disk.moment g.D.Disk.leaves c.args.disk.now c.keep_run.new.disk Done Done c.deref.result.now read.0 c.args.marks p c.stop_of.result run.0 same c.stop_of.ensures read.2.1 run.3 (λ h. h) (λ ended h. h),
        ),
      ),
    )

-- ---- what is pending

pub returns-in_err-given-clause-settled : goal.returns-in_err-given-clause-settled
returns-in_err-given-clause-settled g c =
    let read = c.in_err-given.ensures.problem in
    settles_by g.D.Disk.seen g.D.Disk.moment g.D.Disk.leaves c.args.disk.now c.args.disk.now c.from_residual.result _ c.from_residual.ensures.1 (settles_unread g.D.Disk.seen g.D.Disk.moment g.D.Disk.leaves JudgesStorable c.args.disk.now _ read.0 read.2)

pub returns-in_err-mesh-clause-settled : goal.returns-in_err-mesh-clause-settled
returns-in_err-mesh-clause-settled g c =
    settles_by g.D.Disk.seen g.D.Disk.moment g.D.Disk.leaves c.args.disk.now c.keep_run.new.disk c.from_residual-in_err-mesh.result _ c.from_residual-in_err-mesh.ensures.1
    (settles g.D.Disk.seen g.D.Disk.moment g.D.Disk.leaves c.args.disk.now c.keep_run.new.disk _ (λ other. c.in_err-mesh.ensures.settled (λ is. other (cc))))

pub returns-in_err-plot_in_threads-clause-settled : goal.returns-in_err-plot_in_threads-clause-settled
returns-in_err-plot_in_threads-clause-settled g c =
    settles_by g.D.Disk.seen g.D.Disk.moment g.D.Disk.leaves c.args.disk.now c.keep_run.new.disk c.from_residual-in_err-plot_in_threads.result WriteFault c.from_residual-in_err-plot_in_threads.ensures.1 (c.in_ok-mesh.ensures.settled (λ is. absurd (cc)))

pub returns-clause-settled : goal.returns-clause-settled
returns-clause-settled g c = c.in_ok-mesh.ensures.settled (λ is. absurd (cc))

-- ---- the disk comes after the source

pub returns-in_err-mesh-clause-source_first : goal.returns-in_err-mesh-clause-source_first
returns-in_err-mesh-clause-source_first g c ends = absurd (c.in_err-mesh.ensures.no_source (at_source c.from_residual-in_err-mesh.result _ c.from_residual-in_err-mesh.ensures.1 ends))

pub returns-in_err-plot_in_threads-clause-source_first : goal.returns-in_err-plot_in_threads-clause-source_first
returns-in_err-plot_in_threads-clause-source_first g c ends = absurd (at_source c.from_residual-in_err-plot_in_threads.result WriteFault c.from_residual-in_err-plot_in_threads.ensures.1 ends)

pub returns-clause-source_first : goal.returns-clause-source_first
returns-clause-source_first g c ends = absurd ends

-- ---- causes

pub returns-in_err-given-clause-causes : goal.returns-in_err-given-clause-causes
returns-in_err-given-clause-causes g c =
    let given = c.in_err-given.ensures in
    caused_by c.from_residual.result _ _ _ c.from_residual.ensures.1 (unread_causes JudgesStorable _ given.problem.0 _ _ given.problem.2 (λ is. given.read_fault (ap Err is)) (λ other. given.no_read_fault (λ is. other (cc))))

pub returns-in_err-mesh-clause-causes : goal.returns-in_err-mesh-clause-causes
returns-in_err-mesh-clause-causes g c =
    let kept = c.in_err-mesh.ensures in
    caused_by c.from_residual-in_err-mesh.result _ _ _ c.from_residual-in_err-mesh.ensures.1
    (kept_causes _ _ _ (λ is. kept.no_source (subst EndsAtSource (sym is) tt)) (c.in_ok-given.ensures.no_read_fault (λ is. cc)) refl (λ is. kept.disk_fault (ap Err is)) (λ other. kept.no_disk_fault (λ is. other (cc)))
    (λ is. kept.write_fault (ap Err is)) (λ other. kept.no_write_fault (λ is. other (cc))))

pub returns-in_err-plot_in_threads-clause-causes : goal.returns-in_err-plot_in_threads-clause-causes
returns-in_err-plot_in_threads-clause-causes g c =
    let kept = c.in_ok-mesh.ensures in
    caused_by c.from_residual-in_err-plot_in_threads.result WriteFault _ _ c.from_residual-in_err-plot_in_threads.ensures.1
    (plot_causes _ _ (c.in_ok-given.ensures.no_read_fault (λ is. cc)) c.in_err-plot_in_threads.ensures.cause.failed (kept.no_write_fault (λ is. cc)) (kept.no_disk_fault (λ is. cc)))

pub returns-clause-causes : goal.returns-clause-causes
returns-clause-causes g c =
    let kept = c.in_ok-mesh.ensures in
    kept_causes Done _ _ (λ is. cc) (c.in_ok-given.ensures.no_read_fault (λ is. cc)) (c.in_ok-plot_in_threads.ensures.no_fault) (λ is. absurd (cc)) (λ other. kept.no_disk_fault (λ is. cc)) (λ is. absurd (cc)) (λ other. kept.no_write_fault (λ is. cc))
