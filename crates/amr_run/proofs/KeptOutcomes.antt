-- The outcome of a run that keeps checkpoints, by what its calls kept.
use Rattle.std.proofs.Common.{◌≡◌, ℕ, ◌≤◌, List, [], Option, Some, None, IfSome, Result, Ok, Err, inl, inr, refl, sym, ◌∙◌, subst, arith}
use Rattle.std.specs.List.{flat_map}
use Rattle.std.specs.Prelude.{◌⊎◌, IsErrAnd}
use Rattle.amr_causes.specs.Causes.{Rose}
use Rattle.amr_def.specs.declared.problem.Problem.{Problem}
use Rattle.amr_def.specs.Facts.{IsSound}
use Rattle.amr_def.proofs.SoundRun.{start-sound}
use Rattle.amr_disk.specs.Image.{Only}
use Rattle.amr_disk.specs.Moments.{StaysDurable}
use Rattle.amr_disk.specs.Replay.{rests_same}
use Rattle.amr_drive.proofs.Finishes.{finish_sound, run_holds}
use Rattle.amr_drive.proofs.StartLaws.{start-holds_tags}
use Rattle.amr_laws.proofs.SoundRegrid.{regrid-sound}
use Rattle.amr_store.specs.Phases.{OnlyReads}
use Rattle.amr_checkpoint.specs.declared.faults.KeepFault.{KeepFault}
use Rattle.amr_checkpoint.specs.declared.faults.KeepFault.TheVariants as fault
use Rattle.amr_checkpoint.specs.declared.faults.ResumeFault.{ResumeFault}
use Rattle.amr_checkpoint.specs.declared.faults.ResumeFault.TheVariants as resuming
use Rattle.amr_checkpoint.specs.declared.refusal.Refusal.{Refusal}
use Rattle.amr_checkpoint.specs.declared.resumption.Resumed.{Resumed}
use Rattle.amr_checkpoint.specs.declared.resumption.Resumed.TheVariants as resumed
use Rattle.amr_checkpoint.specs.Checkpoints.{CanGoOn, content_resumed}
use Rattle.amr_checkpoint.specs.Contents.{Content, Holds, IsStorable, state_from}
use Rattle.amr_checkpoint.specs.KeptCheckpoints.{ErrFailsBy, FailsBy, IsSaid, Keeps, KeptRun, SameUntil, made_of}
use Rattle.amr_checkpoint.specs.Laws.{IsInSequence}
use Rattle.amr_checkpoint.specs.Made.{ReadsWith}
use Rattle.amr_checkpoint.specs.Marks.{answer_of_run, checkpoint_line, marks}
use Rattle.amr_checkpoint.specs.Refusals.{GoesOn, RefusesRun}
use Rattle.amr_checkpoint.specs.Outside.{DiskAt, disk_at, outside_at}
use Rattle.amr_checkpoint.proofs.KeptRuns.{SaysOfRun}
use Rattle.amr_checkpoint.proofs.Progress.{checkpoints_rise}
use Rattle.amr_cli.specs.declared.command.Command.{Command}
use Rattle.amr_run.specs.Answer.{IsKeptRun, IsPlotOfKeptRun, WasFound, stop_of}
use Rattle.amr_run.specs.KeptAnswers.{KeptReplies}
use Rattle.amr_run.specs.Outcome.{BeginsLines, EndsAtSource, EndsBefore, EndsRun, EndsSettled, RefusesStored, RepliesBy, RunsThrough, StopsBy, StopsKept, StopsRun, StopsTo, status_of}
use Rattle.amr_run.specs.Sources.{RefusesBy}
use Rattle.amr_run.specs.Refusals.{keep_refused, resume_refused}
use Rattle.amr_run.specs.Table.{JudgesStorable, RefusesRunTo, kept_row, meaning}
use Rattle.amr_run.specs.declared.commands.Marks.{Marks}
use Rattle.amr_run.specs.declared.status.Status.{Status}
use Rattle.amr_run.specs.declared.status.Status.TheVariants as status
use Rattle.amr_run.proofs.StoreOutcomes.{if_told}

-- ---- what was found

pub goes_on : (bytes : List ℕ) (p : Problem) (target : ℕ) (r : Resumed) → CanGoOn bytes p target r → GoesOn bytes target (content_resumed bytes p r)
goes_on bytes p target resumed.Nothing can = tt
goes_on bytes p target (resumed.Fresh store) can = refl
goes_on bytes p target (resumed.At store mesh) can = (refl, can.2)

pub found_sound : (bytes : List ℕ) (p : Problem) (target : ℕ) (r : Resumed) → CanGoOn bytes p target r → IsSound p (state_from p (content_resumed bytes p r))
found_sound bytes p target resumed.Nothing can = start-sound p (regrid-sound p)
found_sound bytes p target (resumed.Fresh store) can = start-sound p (regrid-sound p)
found_sound bytes p target (resumed.At store mesh) can = can.1.mesh_is.sound

in_sequence : (bytes : List ℕ) (p : Problem) (r : Resumed) → IsInSequence (content_resumed bytes p r)
in_sequence bytes p resumed.Nothing = tt
in_sequence bytes p (resumed.Fresh store) = tt
in_sequence bytes p (resumed.At store mesh) = refl

-- the answer of a run from it
pub is_kept_run : (bytes : List ℕ) (p : Problem) (every target : ℕ) (seen : Option (List ℕ)) (r : Resumed) (out lines : List ℕ) → CanGoOn bytes p target r → WasFound seen (content_resumed bytes p r) → target ≤ p.steps
    → out ≡ answer_of_run p (content_resumed bytes p r) target → lines ≡ flat_map checkpoint_line (marks every (content_resumed bytes p r) target) → IsKeptRun bytes p every target seen out lines
is_kept_run bytes p every target seen r out lines can held within text said =
    let found : Content = content_resumed bytes p r in
    let sound = found_sound bytes p target r can in
    record {
      found = found;
      held = held;
      on = goes_on bytes p target r can;
      text = text;
      acknowledged = said;
      run = record {
        sound = finish_sound p (state_from p found) target sound within;
        start_held = start-holds_tags p;
        held = run_holds p (state_from p found) target sound within;
      };
    }

-- ---- exits of the run

-- what is stored could not be read, or refuses the run
pub unresumed : (bytes : List ℕ) (p : Problem) (every target : ℕ) (seen : Option (List ℕ)) (e : ResumeFault)
    → ((refusal : Refusal) (image : List ℕ) → e ≡ resuming.Refused refusal → seen ≡ Some image → (content : Content) × Holds image content × RefusesRun bytes target content refusal)
    → KeptReplies (Err (resume_refused e)) bytes p every target seen []
unresumed bytes p every target seen resuming.DiskFault refused = (tt, refl, inl refl)
unresumed bytes p every target seen (resuming.Refused refusal) refused =
    (if_told (RefusesStored (RefusesRun bytes target) refusal) seen (λ image told. let by = refused refusal image refl told in record { content = by.0; held = by.1; refused = by.2 }), refl, refl)
unresumed bytes p every target seen resuming.NoMemory refused = (refl, inl refl)

-- a state was not kept
pub unkept : (bytes : List ℕ) (p : Problem) (every target : ℕ) (seen : Option (List ℕ)) (whole lines said : List ℕ) (before now : ℕ) (e : KeepFault) → IsKeptRun bytes p every target seen whole lines → SaysOfRun (Some e) said lines before now
    → KeptReplies (Err (keep_refused e)) bytes p every target seen said
unkept bytes p every target seen whole lines said before now fault.DiskFault answer says = (tt, refl, inr record { whole = whole; lines = lines; answer = answer; prefix = says.0 })
unkept bytes p every target seen whole lines said before now fault.NoMemory answer says = (refl, inr record { whole = whole; lines = lines; answer = answer; prefix = says.0 })
unkept bytes p every target seen whole lines said before now fault.WriteFault answer says = record { whole = whole; lines = lines; answer = answer; cut = inr (refl, says.0) }

pub no_write_cause : (e : KeepFault) (before now : ℕ) → ErrFailsBy (Some e) before now → (keep_refused e ≡ status.WriteFault → ⊥) → now ≡ before
no_write_cause fault.DiskFault before now fails other = fails
no_write_cause fault.NoMemory before now fails other = fails
no_write_cause fault.WriteFault before now fails other = absurd (other refl)

pub disk_cause : (e : KeepFault) (before now : ℕ) → FailsBy (Some e) before now → keep_refused e ≡ status.DiskFault → Rose before now
disk_cause fault.DiskFault before now fails is = fails
disk_cause fault.NoMemory before now fails is = absurd (cc)
disk_cause fault.WriteFault before now fails is = absurd (cc)

pub no_disk_cause : (e : KeepFault) (before now : ℕ) → FailsBy (Some e) before now → (keep_refused e ≡ status.DiskFault → ⊥) → now ≡ before
no_disk_cause fault.DiskFault before now fails other = absurd (other refl)
no_disk_cause fault.NoMemory before now fails other = fails
no_disk_cause fault.WriteFault before now fails other = fails

pub no_store : (e : KeepFault) (refusal : Refusal) (P : Type 0) → keep_refused e ≡ status.Store refusal → P
no_store fault.DiskFault refusal P is = absurd (cc)
no_store fault.NoMemory refusal P is = absurd (cc)
no_store fault.WriteFault refusal P is = absurd (cc)

-- ---- of the problem that the source gave, at the step that it stops at

if_still : (P Q : List ℕ → Type 0) (seen : Option (List ℕ)) → ((image : List ℕ) → P image → Q image) → IfSome seen P → IfSome seen Q
if_still P Q None still h = tt
if_still P Q (Some image) still h = still image h

pub plot_of_kept : (given bytes : List ℕ) (to : Option ℕ) (p : Problem) (every target : ℕ) (seen : Option (List ℕ)) (out lines : List ℕ) → given ≡ bytes → target ≡ stop_of to p → IsStorable bytes p
    → IsKeptRun given p every target seen out lines → IsPlotOfKeptRun bytes to every seen out lines
plot_of_kept given bytes to p every target seen out lines same stops accepted kept = record {
  problem = p;
  accepted = accepted;
  kept = subst (λ n. IsKeptRun bytes p every n seen out lines) stops (subst (λ (b : List ℕ). IsKeptRun b p every target seen out lines) same kept);
}

refuses_to : (given bytes : List ℕ) (to : Option ℕ) (p : Problem) (target : ℕ) (seen : Option (List ℕ)) (refusal : Refusal) → given ≡ bytes → target ≡ stop_of to p → IsStorable bytes p
    → IfSome seen (RefusesStored (RefusesRun given target) refusal) → IfSome seen (RefusesStored (RefusesRunTo to bytes) refusal)
refuses_to given bytes to p target seen refusal same stops accepted refuses =
    if_still (RefusesStored (RefusesRun given target) refusal) (RefusesStored (RefusesRunTo to bytes) refusal) seen
    (λ image h. record {
      content = h.content;
      held = h.held;
      refused = record { problem = p; accepted = accepted; refuses = subst (λ n. RefusesRun bytes n h.content refusal) stops (subst (λ (b : List ℕ). RefusesRun b target h.content refusal) same h.refused) };
    }) refuses

begun : (given bytes : List ℕ) (to : Option ℕ) (p : Problem) (every target : ℕ) (seen : Option (List ℕ)) (said : List ℕ) → given ≡ bytes → target ≡ stop_of to p → IsStorable bytes p
    → (said ≡ []) ⊎ BeginsLines (IsKeptRun given p every target seen) said → (said ≡ []) ⊎ BeginsLines (IsPlotOfKeptRun bytes to every seen) said
begun given bytes to p every target seen said same stops accepted (inl none) = inl none
begun given bytes to p every target seen said same stops accepted (inr h) =
    inr record { whole = h.whole; lines = h.lines; answer = plot_of_kept given bytes to p every target seen h.whole h.lines same stops accepted h.answer; prefix = h.prefix }

storable : (bytes : List ℕ) (p : Problem) → IsStorable bytes p → JudgesStorable bytes None
storable bytes p is = record { problem = p; accepted = is.accepted; has = is.alone }

pub kept_replies : (s : Status) (given bytes : List ℕ) (marked : Marks) (p : Problem) (target : ℕ) (seen : Option (List ℕ)) (said : List ℕ) → given ≡ bytes → target ≡ stop_of marked.to p → IsStorable bytes p
    → KeptReplies (Err s) given p marked.every target seen said → RepliesBy (kept_row marked) s bytes seen [] said
kept_replies status.Done given bytes marked p target seen said same stops accepted h = plot_of_kept given bytes marked.to p marked.every target seen [] said same stops accepted h
kept_replies (status.Problem reason) given bytes marked p target seen said same stops accepted h = absurd h.0
kept_replies (status.BadBatch place) given bytes marked p target seen said same stops accepted h = absurd h.0
kept_replies (status.Species k) given bytes marked p target seen said same stops accepted h = absurd h.0
kept_replies (status.BadView outside) given bytes marked p target seen said same stops accepted h = absurd h.0
kept_replies status.ReadFault given bytes marked p target seen said same stops accepted h = absurd h.0
kept_replies (status.Store refusal) given bytes marked p target seen said same stops accepted h = ((tt, storable bytes p accepted, refuses_to given bytes marked.to p target seen refusal same stops accepted h.0), h.1, h.2)
kept_replies status.DiskFault given bytes marked p target seen said same stops accepted h = ((tt, storable bytes p accepted), h.1, begun given bytes marked.to p marked.every target seen said same stops accepted h.2)
kept_replies status.NoMemory given bytes marked p target seen said same stops accepted h = (h.0, begun given bytes marked.to p marked.every target seen said same stops accepted h.1)
kept_replies status.WriteFault given bytes marked p target seen said same stops accepted h =
    record { whole = h.whole; lines = h.lines; answer = plot_of_kept given bytes marked.to p marked.every target seen h.whole h.lines same stops accepted h.answer; cut = h.cut }
kept_replies status.Usage given bytes marked p target seen said same stops accepted h = h

-- ---- stops

-- a run whose calls all ended well, and whose plot did not go out
pub plot_unwritten : (ended : Option KeepFault) → EndsRun ended status.Done → EndsRun ended status.WriteFault
plot_unwritten None is = tt
plot_unwritten (Some fault.DiskFault) is = absurd (cc)
plot_unwritten (Some fault.NoMemory) is = absurd (cc)
plot_unwritten (Some fault.WriteFault) is = absurd (cc)

-- what a stop left while the disk was read, it leaves on the later disk
stays_past : (image : List ℕ) (first last : ℕ) (was leaves : ℕ → List ℕ → Type 0) → SameUntil last was leaves → StaysDurable (Some image) first last was → StaysDurable (Some image) first last leaves
stays_past image first last was leaves same stays = λ k t from order to settled c left.
    stays k t from order to (λ e there. settled e (same.still k e (omega (arith, order, to)) there)) c (same.kept t c to left)

-- by another status of a run whose calls ended so
runs_on : (before after : DiskAt) (was status : Status) (run : KeptRun) (image said : List ℕ) → ((ended : Option KeepFault) → EndsRun ended was → EndsRun ended status) → RunsThrough before after was run image said
    → RunsThrough before after status run image said
runs_on before after was status run image said still h =
    record { opened = h.opened; since = h.since; stays = h.stays; held = h.held; on = h.on; ended = h.ended; ends = still h.ended h.ends; history = h.history }

module _ {D : Type 0} (seen : D → Option (List ℕ)) (moment : D → ℕ) (leaves : D → ℕ → List ℕ → Type 0) where
  -- the run went on from what was read
  pub stops_kept : {E : Type 0} (disk_faults : D → ℕ) (holds : E → List ℕ → Type 0) (err_faults : E → ℕ) (run : KeptRun) (r : Resumed) (d read later_d : D) (e later_e : E) (ended : Option KeepFault) (status : Status)
      → EndsRun ended status → OnlyReads seen moment leaves d read → Only (seen read) (leaves read (moment read)) → ((image : List ℕ) → seen d ≡ Some image → Holds image (content_resumed run.bytes run.problem r))
      → CanGoOn run.bytes run.problem run.target r
      → (h : Keeps run.deltas (outside_at seen moment leaves disk_faults holds err_faults read e) (outside_at seen moment leaves disk_faults holds err_faults later_d later_e) (made_of run (content_resumed run.bytes run.problem r)) ended)
      → StopsKept seen moment leaves d later_d status run h.said
  stops_kept disk_faults holds err_faults run r d read later_d e later_e ended status ends reads settled held can h image told =
      let found : Content = content_resumed run.bytes run.problem r in
      let on = goes_on run.bytes run.problem run.target r can in
      let through = h.stops image found (reads.same ∙ told) (held image told) settled (checkpoints_rise run.bytes run.problem run.every run.target found on (in_sequence run.bytes run.problem r)) in
      inr record {
        opened = record { moment = moment read; content = found };
        since = reads.images.passes.later;
        stays = stays_past image (moment d) (moment read) (leaves read) (leaves later_d) through.past (subst (λ (o : Option (List ℕ)). StaysDurable o (moment d) (moment read) (leaves read)) told reads.images.stays);
        held = held image told;
        on = on;
        ended = ended;
        ends = ends;
        history = record {
          times = through.times;
          attempt = through.attempt;
          leave = through.leave;
          begun = through.begun;
          acknowledged = subst (IsSaid ended h.said) (sym through.made) h.says;
          made = λ no. subst (ReadsWith run.deltas (seen later_d) image) (sym through.made) (h.made no image (reads.same ∙ told));
        };
      }

  -- of the problem that the source gave
  pub stops_run : (d later_d : D) (was status : Status) (given bytes : List ℕ) (marked : Marks) (p : Problem) (target : ℕ) (said : List ℕ) → given ≡ bytes → target ≡ stop_of marked.to p → IsStorable bytes p
      → StopsKept seen moment leaves d later_d was (record { bytes = given; problem = p; every = marked.every; target = target; deltas = marked.deltas }) said → (EndsBefore was → EndsBefore status)
      → ((ended : Option KeepFault) → EndsRun ended was → EndsRun ended status) → StopsRun seen moment leaves d later_d status marked bytes said
  stops_run d later_d was status given bytes marked p target said same stops accepted h before still image told = elim (h image told) [
    | inl reads ↦ inl (before reads.0, reads.1, reads.2)
    | inr through ↦ let first = disk_at seen moment leaves d in
        let last = disk_at seen moment leaves later_d in
        let by : List ℕ → ℕ → KeptRun = λ b n. record { bytes = b; problem = p; every = marked.every; target = n; deltas = marked.deltas } in
        inr record {
          problem = p;
          accepted = accepted;
          through = subst (λ n. RunsThrough first last status (by bytes n) image said) stops
              (subst (λ (b : List ℕ). RunsThrough first last status (by b target) image said) same (runs_on first last was status (by given target) image said still through));
        }
  ]

  -- by the status that an error became
  pub stops_by : (d later_d : D) (r : Result Unit Status) (s : Status) (bytes : List ℕ) (marked : Marks) (said : List ℕ) → IsErrAnd r (λ x. x ≡ s)
      → StopsRun seen moment leaves d later_d s marked bytes said → StopsRun seen moment leaves d later_d (status_of r) marked bytes said
  stops_by d later_d (Ok done) s bytes marked said is stops = absurd is
  stops_by d later_d (Err x) s bytes marked said is stops = subst (λ (t : Status). StopsRun seen moment leaves d later_d t marked bytes said) (sym is) stops

  -- a disk that was not called
  pub only_reads_none : (d : D) → OnlyReads seen moment leaves d d
  only_reads_none d = record { same = refl; images = rests_same (seen d) (moment d) (leaves d) }

  stops_before : (d : D) (s : Status) (keeps : Option Marks) (bytes : List ℕ) → EndsBefore s → StopsBy seen moment leaves d d s keeps bytes []
  stops_before d s None bytes before = only_reads_none d
  stops_before d s (Some marked) bytes before = λ image told. inl (before, only_reads_none d, refl)

  pub stops_none : (d : D) (s : Status) (asked : Option Command) (bytes : List ℕ) → EndsBefore s → StopsTo seen moment leaves d d s asked bytes []
  stops_none d s None bytes before = only_reads_none d
  stops_none d s (Some command) bytes before = stops_before d s (meaning command).keeps bytes before

  -- ---- what is pending

  pub settles : (d later_d : D) (s : Status) → ((s ≡ status.DiskFault → ⊥) → Only (seen later_d) (leaves later_d (moment later_d))) → EndsSettled seen moment leaves d later_d s
  settles d later_d status.Done only = only (λ is. absurd (cc))
  settles d later_d (status.Store refusal) only = only (λ is. absurd (cc))
  settles d later_d status.WriteFault only = only (λ is. absurd (cc))
  settles d later_d status.NoMemory only = inr (only (λ is. absurd (cc)))
  settles d later_d status.DiskFault only = tt
  settles d later_d status.Usage only = tt
  settles d later_d status.ReadFault only = tt
  settles d later_d (status.Problem reason) only = tt
  settles d later_d (status.BadBatch place) only = tt
  settles d later_d (status.Species k) only = tt
  settles d later_d (status.BadView outside) only = tt

  -- a disk that was not called, as its problem was not read
  pub settles_unread : (judges : List ℕ → Option Status → Type 0) (d : D) (s : Status) (bytes : List ℕ) → RefusesBy judges s bytes → EndsSettled seen moment leaves d d s
  settles_unread judges d status.Done bytes h = absurd h
  settles_unread judges d (status.Store refusal) bytes h = absurd h
  settles_unread judges d status.WriteFault bytes h = absurd h
  settles_unread judges d status.NoMemory bytes h = inl refl
  settles_unread judges d status.DiskFault bytes h = tt
  settles_unread judges d status.Usage bytes h = tt
  settles_unread judges d status.ReadFault bytes h = tt
  settles_unread judges d (status.Problem reason) bytes h = tt
  settles_unread judges d (status.BadBatch place) bytes h = tt
  settles_unread judges d (status.Species k) bytes h = tt
  settles_unread judges d (status.BadView outside) bytes h = tt

  -- by the status that an error became
  pub settles_by : (d later_d : D) (r : Result Unit Status) (s : Status) → IsErrAnd r (λ x. x ≡ s) → EndsSettled seen moment leaves d later_d s → EndsSettled seen moment leaves d later_d (status_of r)
  settles_by d later_d (Ok done) s is settled = absurd is
  settles_by d later_d (Err x) s is settled = subst (λ (t : Status). EndsSettled seen moment leaves d later_d t) (sym is) settled

pub unread_before : (judges : List ℕ → Option Status → Type 0) (s : Status) (bytes : List ℕ) → RefusesBy judges s bytes → EndsBefore s
unread_before judges status.Done bytes h = absurd h
unread_before judges (status.Store refusal) bytes h = tt
unread_before judges status.WriteFault bytes h = absurd h
unread_before judges status.NoMemory bytes h = tt
unread_before judges status.DiskFault bytes h = tt
unread_before judges status.Usage bytes h = tt
unread_before judges status.ReadFault bytes h = tt
unread_before judges (status.Problem reason) bytes h = tt
unread_before judges (status.BadBatch place) bytes h = tt
unread_before judges (status.Species k) bytes h = tt
unread_before judges (status.BadView outside) bytes h = tt

-- a store that was not gone on with
pub unresumed_before : (e : ResumeFault) → EndsBefore (resume_refused e)
unresumed_before resuming.DiskFault = tt
unresumed_before (resuming.Refused refusal) = tt
unresumed_before resuming.NoMemory = tt

-- what refuses a run that was begun is not of its source
pub resumed_at_source : (e : ResumeFault) → EndsAtSource (resume_refused e) → ⊥
resumed_at_source resuming.DiskFault ends = ends
resumed_at_source (resuming.Refused refusal) ends = ends
resumed_at_source resuming.NoMemory ends = ends

pub kept_at_source : (e : KeepFault) → EndsAtSource (keep_refused e) → ⊥
kept_at_source fault.DiskFault ends = ends
kept_at_source fault.WriteFault ends = ends
kept_at_source fault.NoMemory ends = ends
