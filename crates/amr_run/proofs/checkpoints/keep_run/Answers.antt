use Rattle.std.proofs.Common.{◌≡◌, [], Some, None, Err, refl, sym, ◌∙◌, ap, subst, inl}
use Rattle.std.proofs.lemmas.Option.{none-some, same_Some}
use Rattle.std.specs.List.{flat_map}
use Rattle.amr_causes.proofs.ByteLaws.{grows_none}
use Rattle.amr_causes.specs.Causes.{Rose}
use Rattle.amr_checkpoint.specs.declared.faults.KeepFault.TheVariants as fault
use Rattle.amr_checkpoint.specs.declared.faults.ResumeFault.TheVariants as resuming
use Rattle.amr_checkpoint.specs.Checkpoints.{content_resumed}
use Rattle.amr_checkpoint.specs.Contents.{Holds, state_from}
use Rattle.amr_checkpoint.specs.KeptCheckpoints.{made_of, run_of}
use Rattle.amr_checkpoint.specs.Marks.{answer_of_run, checkpoint_line, marks}
use Rattle.amr_checkpoint.specs.Outside.{outside_at}
use Rattle.amr_checkpoint.proofs.KeptRuns.{says_of_run}
use Rattle.amr_checkpoint.proofs.Progress.{acknowledges_marks}
use Rattle.amr_def.specs.Facts.{IsSound}
use Rattle.amr_def.specs.Plot.{plot}
use Rattle.amr_drive.proofs.Finishes.{finish_sound}
use Rattle.amr_store.specs.Phases.{OnlyReads}
use Rattle.amr_run.specs.KeptAnswers.{KeptReplies}
use Rattle.amr_run.specs.Refusals.{keep_refused, resume_refused}
use Rattle.amr_run.specs.Outcome.{EndsAtSource, EndsBefore, StopsKept}
use Rattle.amr_run.specs.declared.status.Status.{Status}
use Rattle.amr_run.specs.declared.status.Status.TheVariants.{Done}
use Rattle.amr_run.proofs.KeptOutcomes.{disk_cause, found_sound, goes_on, is_kept_run, kept_at_source, no_disk_cause, no_store, no_write_cause, resumed_at_source, stops_kept, unkept, unresumed, unresumed_before}
use Rattle.amr_run.proofs.StoreOutcomes.{if_told}
use Rattle.amr_run.proofs.checkpoints.keep_run.Goals as goal

pub returns-in-Err-clause-outcome : goal.returns-in-Err-clause-outcome
returns-in-Err-clause-outcome g c =
    let is : c.from.result ≡ resume_refused c.in-Err.fault = c.from.ensures in (
      [],
      grows_none g.E.Sink.holds c.args.err.now,
      subst (λ (s : Status). KeptReplies (Err s) c.args.bytes.now c.args.keeping.now.problem.now c.args.keeping.now.every c.args.keeping.now.target (g.D.Disk.seen c.args.disk.now) []) (sym is) (unresumed c.args.bytes.now c.args.keeping.now.problem.now c.args.keeping.now.every c.args.keeping.now.target (g.D.Disk.seen c.args.disk.now) c.in-Err.fault (λ refusal image same told. c.in-Err.ensures.refused refusal image (ap Err same) told)),
      λ image told. inl (subst EndsBefore (sym is) (unresumed_before c.in-Err.fault), c.in-Err.ensures.reads, refl),
    )

pub run_from-requires-clause-holds : goal.run_from-requires-clause-holds
run_from-requires-clause-holds g c κs within = λ image told. c.in-Ok.ensures.holds image c.args.keeping.now.problem.now (sym c.in-Ok.ensures.reads.same ∙ told) c.requires.accepted.accepted

pub returns-in-Ok-run_from-clause-sound : goal.returns-in-Ok-run_from-clause-sound
returns-in-Ok-run_from-clause-sound g c =
    let p = c.args.keeping.now.problem.now in
    let can = c.in-Ok.ensures.can_go_on p c.requires.accepted.accepted in
    subst (IsSound p) (sym c.in-Ok-run_from.ensures.value) (finish_sound p (state_from p (content_resumed c.args.bytes.now p c.in-Ok.resumed)) c.args.keeping.now.target (found_sound c.args.bytes.now p c.args.keeping.now.target c.in-Ok.resumed can) c.requires.within)

pub returns-in-Ok-run_from-clause-outcome : goal.returns-in-Ok-run_from-clause-outcome
returns-in-Ok-run_from-clause-outcome g c =
    let at = outside_at g.D.Disk.seen g.D.Disk.moment g.D.Disk.leaves g.D.Disk.faults g.E.Sink.holds g.E.Sink.faults in
    let run = run_of c.args.bytes.now c.args.keeping.now in
    let p = run.problem in
    let found = content_resumed run.bytes p c.in-Ok.resumed in
    let seen = g.D.Disk.seen c.args.disk.now in
    let can = c.in-Ok.ensures.can_go_on p c.requires.accepted.accepted in
    let held = if_told (λ image. Holds image found) seen (λ image told. c.in-Ok.ensures.holds image p told c.requires.accepted.accepted) in
    let kept = c.in-Ok-run_from.ensures.kept in
    let says = says_of_run run.deltas (at c.resume.new.disk c.args.err.now) (at c.run_from.new.disk c.run_from.new.err) (made_of run found) None (flat_map checkpoint_line (marks run.every found run.target)) kept
    (acknowledges_marks run.bytes p run.every run.target found (goes_on run.bytes p run.target c.in-Ok.resumed can)) in (
      kept.said,
      kept.grows,
      is_kept_run run.bytes p run.every run.target seen c.in-Ok.resumed _ kept.said can held c.requires.within (ap (plot p) c.in-Ok-run_from.ensures.value) says.0,
      stops_kept g.D.Disk.seen g.D.Disk.moment g.D.Disk.leaves g.D.Disk.faults g.E.Sink.holds g.E.Sink.faults run c.in-Ok.resumed c.args.disk.now c.resume.new.disk c.run_from.new.disk c.args.err.now c.run_from.new.err None Done
          tt c.in-Ok.ensures.reads (c.in-Ok.ensures.settled (λ failed. absurd (cc))) (λ image told. c.in-Ok.ensures.holds image p told c.requires.accepted.accepted) can kept,
    )

pub returns-in-Err-run_from-clause-outcome : goal.returns-in-Err-run_from-clause-outcome
returns-in-Err-run_from-clause-outcome g c =
    let at = outside_at g.D.Disk.seen g.D.Disk.moment g.D.Disk.leaves g.D.Disk.faults g.E.Sink.holds g.E.Sink.faults in
    let run = run_of c.args.bytes.now c.args.keeping.now in
    let p = run.problem in
    let found = content_resumed run.bytes p c.in-Ok.resumed in
    let seen = g.D.Disk.seen c.args.disk.now in
    let can = c.in-Ok.ensures.can_go_on p c.requires.accepted.accepted in
    let held = if_told (λ image. Holds image found) seen (λ image told. c.in-Ok.ensures.holds image p told c.requires.accepted.accepted) in
    let kept = c.in-Err-run_from.ensures.kept in
    let reason = c.in-Err-run_from.fault in
    let lines = flat_map checkpoint_line (marks run.every found run.target) in
    let says = says_of_run run.deltas (at c.resume.new.disk c.args.err.now) (at c.run_from.new.disk c.run_from.new.err) (made_of run found) (Some reason) lines kept
    (acknowledges_marks run.bytes p run.every run.target found (goes_on run.bytes p run.target c.in-Ok.resumed can)) in
    let answer = is_kept_run run.bytes p run.every run.target seen c.in-Ok.resumed (answer_of_run p found run.target) lines can held c.requires.within refl refl in
    let is : c.from-in-Err-run_from.result ≡ keep_refused reason = c.from-in-Err-run_from.ensures in (
      kept.said,
      kept.grows,
      subst (λ (s : Status). KeptReplies (Err s) run.bytes p run.every run.target seen kept.said) (sym is)
          (unkept run.bytes p run.every run.target seen (answer_of_run p found run.target) lines kept.said (g.E.Sink.faults c.args.err.now) (g.E.Sink.faults c.run_from.new.err) reason answer says),
      subst (λ (s : Status). StopsKept g.D.Disk.seen g.D.Disk.moment g.D.Disk.leaves c.args.disk.now c.run_from.new.disk s run kept.said) (sym is)
          (stops_kept g.D.Disk.seen g.D.Disk.moment g.D.Disk.leaves g.D.Disk.faults g.E.Sink.holds g.E.Sink.faults run c.in-Ok.resumed c.args.disk.now c.resume.new.disk c.run_from.new.disk c.args.err.now c.run_from.new.err
          (Some reason) (keep_refused reason) refl c.in-Ok.ensures.reads (c.in-Ok.ensures.settled (λ failed. absurd (cc))) (λ image told. c.in-Ok.ensures.holds image p told c.requires.accepted.accepted) can kept),
    )

pub returns-in-Err-run_from-clause-disk_fault : goal.returns-in-Err-run_from-clause-disk_fault
returns-in-Err-run_from-clause-disk_fault g c is =
    let same = c.in-Ok.ensures.no_disk_fault (λ failed. absurd (cc)) in
    subst (λ n. Rose n (g.D.Disk.faults c.run_from.new.disk)) same
    (disk_cause c.in-Err-run_from.fault (g.D.Disk.faults c.resume.new.disk) (g.D.Disk.faults c.run_from.new.disk) c.in-Err-run_from.ensures.kept.fails (sym c.from-in-Err-run_from.ensures ∙ (cc)))

pub returns-in-Ok-run_from-clause-no_disk_fault : goal.returns-in-Ok-run_from-clause-no_disk_fault
returns-in-Ok-run_from-clause-no_disk_fault g c other = c.in-Ok-run_from.ensures.kept.fails ∙ c.in-Ok.ensures.no_disk_fault (λ failed. absurd (cc))

pub returns-in-Err-run_from-clause-no_disk_fault : goal.returns-in-Err-run_from-clause-no_disk_fault
returns-in-Err-run_from-clause-no_disk_fault g c other =
    no_disk_cause c.in-Err-run_from.fault (g.D.Disk.faults c.resume.new.disk) (g.D.Disk.faults c.run_from.new.disk) c.in-Err-run_from.ensures.kept.fails (λ is. other (ap Err (c.from-in-Err-run_from.ensures ∙ is)))
    ∙ c.in-Ok.ensures.no_disk_fault (λ failed. absurd (cc))

pub returns-in-Err-run_from-clause-no_write_fault : goal.returns-in-Err-run_from-clause-no_write_fault
returns-in-Err-run_from-clause-no_write_fault g c other =
    no_write_cause c.in-Err-run_from.fault (g.E.Sink.faults c.args.err.now) (g.E.Sink.faults c.run_from.new.err) c.in-Err-run_from.ensures.kept.err_fails (λ is. other (ap Err (c.from-in-Err-run_from.ensures ∙ is)))

pub returns-in-Err-run_from-clause-unwritten : goal.returns-in-Err-run_from-clause-unwritten
returns-in-Err-run_from-clause-unwritten g c refusal is =
    no_store c.in-Err-run_from.fault refusal (OnlyReads g.D.Disk.seen g.D.Disk.moment g.D.Disk.leaves c.args.disk.now c.run_from.new.disk) (sym c.from-in-Err-run_from.ensures ∙ (cc))

-- ---- what is pending

pub returns-in-Err-clause-settled : goal.returns-in-Err-clause-settled
returns-in-Err-clause-settled g c other =
    c.in-Err.ensures.settled (λ failed. let is : c.in-Err.fault ≡ resuming.DiskFault = cc in other (ap Err (c.from.ensures ∙ ap resume_refused is)))

pub returns-in-Ok-run_from-clause-settled : goal.returns-in-Ok-run_from-clause-settled
returns-in-Ok-run_from-clause-settled g c other = c.in-Ok-run_from.ensures.kept.settled (λ is. none-some fault.DiskFault is) (c.in-Ok.ensures.settled (λ failed. absurd (cc)))

pub returns-in-Err-run_from-clause-settled : goal.returns-in-Err-run_from-clause-settled
returns-in-Err-run_from-clause-settled g c other =
    c.in-Err-run_from.ensures.kept.settled (λ is. other (ap Err (c.from-in-Err-run_from.ensures ∙ ap keep_refused (same_Some c.in-Err-run_from.fault fault.DiskFault is)))) (c.in-Ok.ensures.settled (λ failed. absurd (cc)))

-- ---- nothing of a source refuses it

pub returns-in-Err-clause-no_source : goal.returns-in-Err-clause-no_source
returns-in-Err-clause-no_source g c ends = resumed_at_source c.in-Err.fault (subst EndsAtSource c.from.ensures ends)

pub returns-in-Ok-run_from-clause-no_source : goal.returns-in-Ok-run_from-clause-no_source
returns-in-Ok-run_from-clause-no_source g c ends = ends

pub returns-in-Err-run_from-clause-no_source : goal.returns-in-Err-run_from-clause-no_source
returns-in-Err-run_from-clause-no_source g c ends = kept_at_source c.in-Err-run_from.fault (subst EndsAtSource c.from-in-Err-run_from.ensures ends)
