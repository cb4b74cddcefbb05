use Rattle.std.proofs.Common.{refl, sym, subst, ℕ, IfSome, Option, Some, None, Result, []}
use Rattle.amr_causes.proofs.ByteLaws.{grows_none, were_left}
use Rattle.amr_cli.specs.declared.command.Command.{Command}
use Rattle.amr_run.specs.Outcome.{EndsAtSource, RepliesBy, RepliesTo, StopsBy, StopsTo, status_of}
use Rattle.amr_run.specs.Sources.{TakesAtMost}
use Rattle.amr_run.specs.Table.{OpensStore, batch_row, check_row, meaning, run_meaning, run_row, show_row, trial_row, view_row}
use Rattle.amr_run.specs.declared.status.Status.{Status}
use Rattle.amr_run.proofs.Causes.{causes_of}
use Rattle.amr_run.proofs.KeptOutcomes.{only_reads_none}
use Rattle.amr_run.proofs.Outcomes.{never_disk_fault, never_usage, takes_none}
use Rattle.amr_run.proofs.run.answer.Goals as goal

pub returns-in-None-clause-outcome : goal.returns-in-None-clause-outcome
returns-in-None-clause-outcome g c =
    let done = c.run.ensures.outcome in
    let to = c.in-Run.options.to in
    let seen = g.D.Disk.seen c.args.disk.now in (
      done.0,
      (
        done.1.0,
        (
          [],
          done.1.1,
          done.1.2,
          grows_none g.E.Sink.holds c.args.err.now,
          subst (λ (command : Command). RepliesTo (status_of c.run.result) command done.0 seen done.1.0 []) (sym c.in-Run.is)
              (subst (λ (keep : Option ℕ). RepliesBy (run_meaning to keep c.in-Run.options.deltas) (status_of c.run.result) done.0 seen done.1.0 []) (sym c.in-None.is) (done.1.3 seen)),
          subst (λ (command : Command). StopsTo g.D.Disk.seen g.D.Disk.moment g.D.Disk.leaves c.args.disk.now c.args.disk.now (status_of c.run.result) (Some command) done.0 []) (sym c.in-Run.is)
              (subst (λ (keep : Option ℕ). StopsBy g.D.Disk.seen g.D.Disk.moment g.D.Disk.leaves c.args.disk.now c.args.disk.now (status_of c.run.result) (run_meaning to keep c.in-Run.options.deltas).keeps done.0 []) (sym c.in-None.is) (only_reads_none g.D.Disk.seen g.D.Disk.moment g.D.Disk.leaves c.args.disk.now)),
        ),
      ),
    )

pub returns-in-Some-clause-outcome : goal.returns-in-Some-clause-outcome
returns-in-Some-clause-outcome g c =
    let done = c.keep.ensures.outcome in
    let all = done.1.1 in
    let to = c.in-Run.options.to in
    let seen = g.D.Disk.seen c.args.disk.now in (
      done.0,
      (
        done.1.0,
        (
          all.0,
          all.1,
          all.2,
          all.3,
          subst (λ (command : Command). RepliesTo (status_of c.keep.result) command done.0 seen done.1.0 all.0) (sym c.in-Run.is)
              (subst (λ (keep : Option ℕ). RepliesBy (run_meaning to keep c.in-Run.options.deltas) (status_of c.keep.result) done.0 seen done.1.0 all.0) (sym c.in-Some.is) all.4),
          subst (λ (command : Command). StopsTo g.D.Disk.seen g.D.Disk.moment g.D.Disk.leaves c.args.disk.now c.keep.new.disk (status_of c.keep.result) (Some command) done.0 all.0) (sym c.in-Run.is)
              (subst (λ (keep : Option ℕ). StopsBy g.D.Disk.seen g.D.Disk.moment g.D.Disk.leaves c.args.disk.now c.keep.new.disk (status_of c.keep.result) (run_meaning to keep c.in-Run.options.deltas).keeps done.0 all.0) (sym c.in-Some.is) all.5),
        ),
      ),
    )

pub returns-in-Check-clause-outcome : goal.returns-in-Check-clause-outcome
returns-in-Check-clause-outcome g c =
    let done = c.check.ensures.outcome in
    let seen = g.D.Disk.seen c.args.disk.now in (
      done.0,
      (
        done.1.0,
        (
          [],
          done.1.1,
          done.1.2,
          grows_none g.E.Sink.holds c.args.err.now,
          subst (λ (command : Command). RepliesTo (status_of c.check.result) command done.0 seen done.1.0 []) (sym c.in-Check.is) (done.1.3 seen),
          subst (λ (command : Command). StopsTo g.D.Disk.seen g.D.Disk.moment g.D.Disk.leaves c.args.disk.now c.args.disk.now (status_of c.check.result) (Some command) done.0 []) (sym c.in-Check.is) (only_reads_none g.D.Disk.seen g.D.Disk.moment g.D.Disk.leaves c.args.disk.now),
        ),
      ),
    )

pub returns-in-Show-clause-outcome : goal.returns-in-Show-clause-outcome
returns-in-Show-clause-outcome g c =
    let left = were_left (g.S.Source.left c.args.src.now) in
    let said = c.show.ensures.outcome in
    let seen = g.D.Disk.seen c.args.disk.now in (
      left.0,
      (
        said.0,
        (
          [],
          left.1,
          said.1,
          grows_none g.E.Sink.holds c.args.err.now,
          subst (λ (command : Command). RepliesTo (status_of c.show.result) command left.0 seen said.0 []) (sym c.in-Show.is) (said.2 left.0),
          subst (λ (command : Command). StopsTo g.D.Disk.seen g.D.Disk.moment g.D.Disk.leaves c.args.disk.now c.show.new.disk (status_of c.show.result) (Some command) left.0 []) (sym c.in-Show.is) c.show.ensures.reads,
        ),
      ),
    )

pub returns-in-Trial-clause-outcome : goal.returns-in-Trial-clause-outcome
returns-in-Trial-clause-outcome g c =
    let left = were_left (g.S.Source.left c.args.src.now) in
    let said = c.trial.ensures.outcome in
    let seen = g.D.Disk.seen c.args.disk.now in (
      left.0,
      (
        said.0,
        (
          [],
          left.1,
          said.1,
          grows_none g.E.Sink.holds c.args.err.now,
          subst (λ (command : Command). RepliesTo (status_of c.trial.result) command left.0 seen said.0 []) (sym c.in-Trial.is) (said.2 left.0 seen),
          subst (λ (command : Command). StopsTo g.D.Disk.seen g.D.Disk.moment g.D.Disk.leaves c.args.disk.now c.args.disk.now (status_of c.trial.result) (Some command) left.0 []) (sym c.in-Trial.is) (only_reads_none g.D.Disk.seen g.D.Disk.moment g.D.Disk.leaves c.args.disk.now),
        ),
      ),
    )

pub returns-in-Batch-clause-outcome : goal.returns-in-Batch-clause-outcome
returns-in-Batch-clause-outcome g c =
    let done = c.batch.ensures.outcome in
    let seen = g.D.Disk.seen c.args.disk.now in (
      done.0,
      (
        done.1.0,
        (
          [],
          done.1.1,
          done.1.2,
          grows_none g.E.Sink.holds c.args.err.now,
          subst (λ (command : Command). RepliesTo (status_of c.batch.result) command done.0 seen done.1.0 []) (sym c.in-Batch.is) (done.1.3 seen),
          subst (λ (command : Command). StopsTo g.D.Disk.seen g.D.Disk.moment g.D.Disk.leaves c.args.disk.now c.args.disk.now (status_of c.batch.result) (Some command) done.0 []) (sym c.in-Batch.is) (only_reads_none g.D.Disk.seen g.D.Disk.moment g.D.Disk.leaves c.args.disk.now),
        ),
      ),
    )

pub returns-in-View-clause-outcome : goal.returns-in-View-clause-outcome
returns-in-View-clause-outcome g c =
    let done = c.view.ensures.outcome in
    let seen = g.D.Disk.seen c.args.disk.now in (
      done.0,
      (
        done.1.0,
        (
          [],
          done.1.1,
          done.1.2,
          grows_none g.E.Sink.holds c.args.err.now,
          subst (λ (command : Command). RepliesTo (status_of c.view.result) command done.0 seen done.1.0 []) (sym c.in-View.is) (done.1.3 seen),
          subst (λ (command : Command). StopsTo g.D.Disk.seen g.D.Disk.moment g.D.Disk.leaves c.args.disk.now c.args.disk.now (status_of c.view.result) (Some command) done.0 []) (sym c.in-View.is) (only_reads_none g.D.Disk.seen g.D.Disk.moment g.D.Disk.leaves c.args.disk.now),
        ),
      ),
    )

-- ---- what was taken

pub returns-in-None-clause-taken : goal.returns-in-None-clause-taken
returns-in-None-clause-taken g c =
    subst (λ (command : Command). IfSome (meaning command).reads (λ most. TakesAtMost most (g.S.Source.left c.args.src.now) (g.S.Source.left c.run.new.src))) (sym c.in-Run.is)
    (subst (λ (keep : Option ℕ). IfSome (run_meaning c.in-Run.options.to keep c.in-Run.options.deltas).reads (λ most. TakesAtMost most (g.S.Source.left c.args.src.now) (g.S.Source.left c.run.new.src))) (sym c.in-None.is) c.run.ensures.taken)

pub returns-in-Some-clause-taken : goal.returns-in-Some-clause-taken
returns-in-Some-clause-taken g c =
    subst (λ (command : Command). IfSome (meaning command).reads (λ most. TakesAtMost most (g.S.Source.left c.args.src.now) (g.S.Source.left c.keep.new.src))) (sym c.in-Run.is)
    (subst (λ (keep : Option ℕ). IfSome (run_meaning c.in-Run.options.to keep c.in-Run.options.deltas).reads (λ most. TakesAtMost most (g.S.Source.left c.args.src.now) (g.S.Source.left c.keep.new.src))) (sym c.in-Some.is) c.keep.ensures.taken)

pub returns-in-Check-clause-taken : goal.returns-in-Check-clause-taken
returns-in-Check-clause-taken g c = subst (λ (command : Command). IfSome (meaning command).reads (λ most. TakesAtMost most (g.S.Source.left c.args.src.now) (g.S.Source.left c.check.new.src))) (sym c.in-Check.is) c.check.ensures.taken

pub returns-in-Show-clause-taken : goal.returns-in-Show-clause-taken
returns-in-Show-clause-taken g c = takes_none (g.S.Source.left c.args.src.now) (meaning c.args.command).reads

pub returns-in-Trial-clause-taken : goal.returns-in-Trial-clause-taken
returns-in-Trial-clause-taken g c = takes_none (g.S.Source.left c.args.src.now) (meaning c.args.command).reads

pub returns-in-Batch-clause-taken : goal.returns-in-Batch-clause-taken
returns-in-Batch-clause-taken g c = subst (λ (command : Command). IfSome (meaning command).reads (λ most. TakesAtMost most (g.S.Source.left c.args.src.now) (g.S.Source.left c.batch.new.src))) (sym c.in-Batch.is) c.batch.ensures.taken

pub returns-in-View-clause-taken : goal.returns-in-View-clause-taken
returns-in-View-clause-taken g c = subst (λ (command : Command). IfSome (meaning command).reads (λ most. TakesAtMost most (g.S.Source.left c.args.src.now) (g.S.Source.left c.view.new.src))) (sym c.in-View.is) c.view.ensures.taken

-- ---- what is pending

pub returns-in-None-clause-settled : goal.returns-in-None-clause-settled
returns-in-None-clause-settled g c opens = absurd (subst (λ (keep : Option ℕ). (run_meaning c.in-Run.options.to keep c.in-Run.options.deltas).opens) c.in-None.is (subst OpensStore c.in-Run.is opens))

pub returns-in-Some-clause-settled : goal.returns-in-Some-clause-settled
returns-in-Some-clause-settled g c opens = c.keep.ensures.settled

pub returns-in-Check-clause-settled : goal.returns-in-Check-clause-settled
returns-in-Check-clause-settled g c opens = absurd (subst OpensStore c.in-Check.is opens)

pub returns-in-Show-clause-settled : goal.returns-in-Show-clause-settled
returns-in-Show-clause-settled g c opens = c.show.ensures.settled

pub returns-in-Trial-clause-settled : goal.returns-in-Trial-clause-settled
returns-in-Trial-clause-settled g c opens = absurd (subst OpensStore c.in-Trial.is opens)

pub returns-in-Batch-clause-settled : goal.returns-in-Batch-clause-settled
returns-in-Batch-clause-settled g c opens = absurd (subst OpensStore c.in-Batch.is opens)

pub returns-in-View-clause-settled : goal.returns-in-View-clause-settled
returns-in-View-clause-settled g c opens = absurd (subst OpensStore c.in-View.is opens)

-- ---- the disk comes after the source

pub returns-in-Some-clause-source_first : goal.returns-in-Some-clause-source_first
returns-in-Some-clause-source_first g c = c.keep.ensures.source_first

pub returns-in-Show-clause-source_first : goal.returns-in-Show-clause-source_first
returns-in-Show-clause-source_first g c ends = absurd (c.show.ensures.no_source ends)

-- ---- what never refuses

pub returns-in-None-clause-refused : goal.returns-in-None-clause-refused
returns-in-None-clause-refused g c = let done = c.run.ensures.outcome in never_usage (run_row c.in-Run.options.to) c.run.result done.0 None done.1.0 [] (done.1.3 None) c.run.ensures.refused

pub returns-in-Check-clause-refused : goal.returns-in-Check-clause-refused
returns-in-Check-clause-refused g c = let done = c.check.ensures.outcome in never_usage check_row c.check.result done.0 None done.1.0 [] (done.1.3 None) c.check.ensures.refused

pub returns-in-Show-clause-refused : goal.returns-in-Show-clause-refused
returns-in-Show-clause-refused g c = let said = c.show.ensures.outcome in never_usage show_row c.show.result [] (g.D.Disk.seen c.args.disk.now) said.0 [] (said.2 []) c.show.ensures.refused

pub returns-in-Trial-clause-refused : goal.returns-in-Trial-clause-refused
returns-in-Trial-clause-refused g c = let said = c.trial.ensures.outcome in never_usage (trial_row c.in-Trial.number c.in-Trial.size) c.trial.result [] None said.0 [] (said.2 [] None) c.trial.ensures.refused

pub returns-in-Batch-clause-refused : goal.returns-in-Batch-clause-refused
returns-in-Batch-clause-refused g c = let done = c.batch.ensures.outcome in never_usage batch_row c.batch.result done.0 None done.1.0 [] (done.1.3 None) c.batch.ensures.refused

pub returns-in-View-clause-refused : goal.returns-in-View-clause-refused
returns-in-View-clause-refused g c = let done = c.view.ensures.outcome in never_usage (view_row c.in-View.asked) c.view.result done.0 None done.1.0 [] (done.1.3 None) c.view.ensures.refused

-- ---- causes

pub returns-in-None-clause-causes : goal.returns-in-None-clause-causes
returns-in-None-clause-causes g c =
    let done = c.run.ensures.outcome in
    causes_of c.run.result _ _ c.run.ensures.read_fault c.run.ensures.no_read_fault (λ is. absurd (never_disk_fault (run_row c.in-Run.options.to) c.run.result done.0 None done.1.0 [] (λ opens. opens) (done.1.3 None) is)) (λ other. refl)
    c.run.ensures.write_fault c.run.ensures.no_write_fault refl

pub returns-in-Check-clause-causes : goal.returns-in-Check-clause-causes
returns-in-Check-clause-causes g c =
    let done = c.check.ensures.outcome in
    causes_of c.check.result _ _ c.check.ensures.read_fault c.check.ensures.no_read_fault (λ is. absurd (never_disk_fault check_row c.check.result done.0 None done.1.0 [] (λ opens. opens) (done.1.3 None) is)) (λ other. refl)
    c.check.ensures.write_fault c.check.ensures.no_write_fault refl

pub returns-in-Show-clause-causes : goal.returns-in-Show-clause-causes
returns-in-Show-clause-causes g c =
    causes_of c.show.result _ _ (λ is. absurd (c.show.ensures.no_source (subst (λ (r : Result Unit Status). EndsAtSource (status_of r)) (sym is) tt))) (λ other. refl) c.show.ensures.disk_fault c.show.ensures.no_disk_fault c.show.ensures.write_fault c.show.ensures.no_write_fault refl

pub returns-in-Trial-clause-causes : goal.returns-in-Trial-clause-causes
returns-in-Trial-clause-causes g c =
    let said = c.trial.ensures.outcome in
    causes_of c.trial.result _ _ (λ is. absurd (c.trial.ensures.no_read_fault is)) (λ other. refl)
    (λ is. absurd (never_disk_fault (trial_row c.in-Trial.number c.in-Trial.size) c.trial.result [] None said.0 [] (λ opens. opens) (said.2 [] None) is)) (λ other. refl)
    c.trial.ensures.write_fault c.trial.ensures.no_write_fault refl

pub returns-in-Batch-clause-causes : goal.returns-in-Batch-clause-causes
returns-in-Batch-clause-causes g c =
    let done = c.batch.ensures.outcome in
    causes_of c.batch.result _ _ c.batch.ensures.read_fault c.batch.ensures.no_read_fault (λ is. absurd (never_disk_fault batch_row c.batch.result done.0 None done.1.0 [] (λ opens. opens) (done.1.3 None) is)) (λ other. refl)
    c.batch.ensures.write_fault c.batch.ensures.no_write_fault refl

pub returns-in-View-clause-causes : goal.returns-in-View-clause-causes
returns-in-View-clause-causes g c =
    let done = c.view.ensures.outcome in
    causes_of c.view.result _ _ c.view.ensures.read_fault c.view.ensures.no_read_fault (λ is. absurd (never_disk_fault (view_row c.in-View.asked) c.view.result done.0 None done.1.0 [] (λ opens. opens) (done.1.3 None) is)) (λ other. refl)
    c.view.ensures.write_fault c.view.ensures.no_write_fault refl
