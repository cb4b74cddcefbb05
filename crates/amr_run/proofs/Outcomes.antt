-- The outcome at each exit, by what the layers below say of it.
use Rattle.std.proofs.Common.{◌≡◌, ◌≢◌, ◌≤◌, ◌<◌, ◌^◌, ◌⊎◌, inl, inr, ⊎_elim, IfErr, IfSome, ℕ, ◌+◌, List, [], ◌++◌, length, get_or, Option, Some, None, Result, Ok, Err, OnErr, refl, sym, ◌∙◌, ap, subst, arith, length-append, OnOk}
use Rattle.std.proofs.lemmas.List.{append-nil}
use Rattle.std.proofs.lemmas.Option.{none-some, same_Some}
use Rattle.std.specs.Prelude.{IsErrAnd}
use Rattle.std.specs.Io.KnownBytes.{Consumes, IsAtEnd}
use Rattle.amr_causes.specs.Causes.{HasCause, Rose}
use Rattle.amr_causes.specs.Bytes.{Grows, IsPrefix, WereLeft}
use Rattle.amr_io.specs.Short.{FallsShort, IsProperPrefix}
use Rattle.amr_causes.proofs.ByteLaws.{consumes_none, prefix_whole, were_left}
use Rattle.amr_batch.proofs.OneReading.{is_one_or_the_other}
use Rattle.amr_def.specs.declared.problem.Problem.{Problem}
use Rattle.amr_def.specs.State.{State}
use Rattle.amr_def.specs.Plot.{plot_all}
use Rattle.amr_def.specs.Species.{no_state, run_all}
use Rattle.amr_def.specs.View.{view}
use Rattle.amr_io.specs.declared.source.ReadAll.{ReadAll}
use Rattle.amr_io.specs.declared.source.ReadAll.TheVariants as reading
use Rattle.amr_problem.specs.declared.fault.JudgeFault.{JudgeFault}
use Rattle.amr_problem.specs.declared.fault.JudgeFault.TheVariants as judging
use Rattle.amr_problem.specs.declared.fault.ProblemFault.{ProblemFault}
use Rattle.amr_problem.specs.Judgement.{fault_of, IsProblemOf}
use Rattle.amr_box.specs.Cells.{Extent}
use Rattle.amr_laws.proofs.FlockOfOne.{run_of_one}
use Rattle.amr_problem.proofs.OneProblem.{one_problem}
use Rattle.amr_cli.specs.declared.command.Command.{Command}
use Rattle.amr_cli.specs.declared.command.Command.TheVariants.{Run, Check, Show, Trial, Batch, View}
use Rattle.amr_cli.specs.declared.command.ViewOptions.{ViewOptions}
use Rattle.amr_trial.specs.Summary.{summary}
use Rattle.amr_trial.specs.Trial.{IsSize, text}
use Rattle.amr_trial.proofs.Problems.{one_species, sixteen_steps}
use Rattle.amr_trial.proofs.Accepted.{no_fault}
use Rattle.amr_checkpoint.specs.declared.refusal.Refusal.{Refusal}
use Rattle.amr_checkpoint.specs.Contents.{Content, Holds}
use Rattle.amr_run.specs.Answer.{IsLineOfProblem, IsLineOfTrial, IsPlotOfRun, IsSoundRun, IsViewOfRun, seen_state, stop_of}
use Rattle.amr_run.specs.Outcome.{EndsAtSource, EndsByLine, Outcome, RefusesStored, RepliesBy, RepliesTo, status_of}
use Rattle.amr_run.specs.Sources.{ReadsBy, RefusesBy, TakesAtMost}
use Rattle.amr_run.specs.Table.{HasAnswer, IsGiven, JudgesBatch, JudgesProblem, JudgesStorable, JudgesView, Meaning, TellsAccepted, meaning, run_meaning, trial_row, view_row}
use Rattle.amr_run.specs.Refusals.{judge_refused, read_refused}
use Rattle.amr_run.specs.Texts.{message, problem_line}
use Rattle.amr_run.specs.Views.{bad_view, box_of}
use Rattle.amr_run.proofs.Seen.{is_seen}
use Rattle.amr_view.proofs.AddUp.{views_add_up}
use Rattle.amr_run.specs.declared.status.Status.{Status}
use Rattle.amr_run.specs.declared.status.Status.TheVariants as status
use Rattle.amr_run.specs.declared.views.ViewPart.{ViewPart}

-- ---- the bytes that a source had left

-- all that it gave, where it came to its end
pub all_taken : (old new : Option (List ℕ)) (bytes : List ℕ) → Consumes old new bytes → IsAtEnd new → WereLeft old bytes
all_taken None new bytes taken ended = tt
all_taken (Some left) None bytes taken ended = absurd taken
all_taken (Some left) (Some rest) bytes taken ended = taken ∙ ap (λ (l : List ℕ). bytes ++ l) ended ∙ append-nil bytes

-- at least those that it gave
front_taken : (old new : Option (List ℕ)) (front : List ℕ) → Consumes old new front → (bytes : List ℕ) × WereLeft old bytes × (length front ≤ length bytes)
front_taken None new front taken = (front, tt, omega arith)
front_taken (Some left) None front taken = absurd taken
front_taken (Some left) (Some rest) front taken = (left, refl, omega (arith, ap length taken, length-append front rest))

-- ---- why a problem was not read

-- where a longer source than `most` bytes has the status `too_long`
pub reading_refused : (judges : List ℕ → Option Status → Type 0) (most : ℕ) (too_long : Status) (old new : Option (List ℕ)) (e : ReadAll) → ((bytes : List ℕ) → most < length bytes → RefusesBy judges too_long bytes)
    → (e ≡ reading.TooLong → (taken : List ℕ) × Consumes old new taken × (length taken ≡ most + 1)) → (bytes : List ℕ) × WereLeft old bytes × RefusesBy judges (read_refused too_long e) bytes
reading_refused judges most too_long old new reading.TooLong refuses long =
    let taken = long refl in
    let front = front_taken old new taken.0 taken.1 in
    (front.0, front.1, refuses front.0 (omega (arith, taken.2, front.2)))
reading_refused judges most too_long old new reading.ReadFault refuses long = let left = were_left old in (left.0, left.1, tt)
reading_refused judges most too_long old new reading.NoMemory refuses long = let left = were_left old in (left.0, left.1, tt)

-- by the status that an error became
pub reads_refused : {T : Type 0} (judges : List ℕ → Option Status → Type 0) (is : T → List ℕ → Type 0) (r : Result T Status) (s : Status) (bytes : List ℕ) → IsErrAnd r (λ x. x ≡ s) → RefusesBy judges s bytes → ReadsBy judges is r bytes
reads_refused judges is (Ok given) s bytes by refuses = absurd by
reads_refused judges is (Err x) s bytes by refuses = subst (λ (t : Status). RefusesBy judges t bytes) (sym by) refuses

-- where more is judged of the problem
pub refused_first : (judges : List ℕ → Option Status → Type 0) (s : Status) (bytes : List ℕ) → ((fault : ProblemFault) → fault_of bytes ≡ Some fault → judges bytes (Some (status.Problem fault))) → RefusesBy JudgesProblem s bytes → RefusesBy judges s bytes
refused_first judges (status.Problem fault) bytes first refuses = first fault refuses
refused_first judges (status.BadBatch place) bytes first refuses = absurd refuses
refused_first judges (status.Species k) bytes first refuses = absurd refuses
refused_first judges (status.BadView outside) bytes first refuses = absurd refuses
refused_first judges status.ReadFault bytes first refuses = tt
refused_first judges status.NoMemory bytes first refuses = tt
refused_first judges status.Done bytes first refuses = absurd refuses
refused_first judges status.Usage bytes first refuses = absurd refuses
refused_first judges status.WriteFault bytes first refuses = absurd refuses
refused_first judges status.DiskFault bytes first refuses = absurd refuses
refused_first judges (status.Store reason) bytes first refuses = absurd refuses

-- ---- exits of a command

-- where its bytes were not read, nothing went out
pub unread : (row : Meaning) (s : Status) (bytes : List ℕ) (seen : Option (List ℕ)) → IsGiven row.reads → RefusesBy row.judges s bytes → RepliesBy row s bytes seen [] []
unread row (status.Problem fault) bytes seen reads refuses = (refuses, refl, refl)
unread row (status.BadBatch place) bytes seen reads refuses = (refuses, refl, refl)
unread row (status.Species k) bytes seen reads refuses = (refuses, refl, refl)
unread row (status.BadView outside) bytes seen reads refuses = (refuses, refl, refl)
unread row status.ReadFault bytes seen reads refuses = (reads, refl, refl)
unread row status.NoMemory bytes seen reads refuses = (refl, inl refl)
unread row status.Done bytes seen reads refuses = absurd refuses
unread row status.Usage bytes seen reads refuses = absurd refuses
unread row status.WriteFault bytes seen reads refuses = absurd refuses
unread row status.DiskFault bytes seen reads refuses = absurd refuses
unread row (status.Store reason) bytes seen reads refuses = absurd refuses

-- by the status that an error became
pub refused_by : (row : Meaning) (r : Result Unit Status) (s : Status) (bytes : List ℕ) (seen : Option (List ℕ)) (out said : List ℕ) → IsErrAnd r (λ x. x ≡ s) → RepliesBy row s bytes seen out said → RepliesBy row (status_of r) bytes seen out said
refused_by row (Ok done) s bytes seen out said is replies = absurd is
refused_by row (Err x) s bytes seen out said is replies = subst (λ (t : Status). RepliesBy row t bytes seen out said) (sym is) replies

-- of a call that only memory refuses
pub out_of_memory : (row : Meaning) (r : Result Unit Status) (s : Status) (bytes : List ℕ) (seen : Option (List ℕ)) → IsErrAnd r (λ x. x ≡ s) → s ≡ status.NoMemory → RepliesBy row (status_of r) bytes seen [] []
out_of_memory row r s bytes seen is none = refused_by row r s bytes seen [] [] is (subst (λ (t : Status). RepliesBy row t bytes seen [] []) (sym none) (refl, inl refl))

-- not all of an answer with no lines went out
pub cut_short : (row : Meaning) (r : Result Unit Status) (bytes : List ℕ) (seen : Option (List ℕ)) (whole part : List ℕ) → IsErrAnd r (λ x. x ≡ status.WriteFault) → row.answers bytes seen whole [] → IsProperPrefix part whole → RepliesBy row (status_of r) bytes seen part []
cut_short row r bytes seen whole part is answer short = refused_by row r status.WriteFault bytes seen part [] is record { whole = whole; lines = []; answer = answer; cut = inl (short, refl) }

-- a command is never refused as none
pub never_usage : (row : Meaning) (r : Result Unit Status) (bytes : List ℕ) (seen : Option (List ℕ)) (out said : List ℕ) → RepliesBy row (status_of r) bytes seen out said → IfErr r (λ s. s ≢ status.Done) → IfErr r (λ s. (s ≢ status.Done) × (s ≢ status.Usage))
never_usage row (Ok done) bytes seen out said replies refused = tt
never_usage row (Err x) bytes seen out said replies refused = (refused, λ is. subst (λ (t : Status). RepliesBy row t bytes seen out said) is replies)

-- nor one that opens no store by the disk
pub never_disk_fault : (row : Meaning) (r : Result Unit Status) (bytes : List ℕ) (seen : Option (List ℕ)) (out said : List ℕ) → ¬ row.opens → RepliesBy row (status_of r) bytes seen out said → r ≡ Err status.DiskFault → ⊥
never_disk_fault row r bytes seen out said closed replies is =
    let faulted : RepliesBy row status.DiskFault bytes seen out said = subst (λ (t : Result Unit Status). RepliesBy row (status_of t) bytes seen out said) is replies in
    closed faulted.0.0

-- by the status that an error became
pub at_source : (r : Result Unit Status) (s : Status) → IsErrAnd r (λ x. x ≡ s) → EndsAtSource (status_of r) → EndsAtSource s
at_source (Ok done) s is ends = absurd is
at_source (Err x) s is ends = subst EndsAtSource is ends

-- of the command that the words are
pub of_command : (status : Status) (asked : Option Command) (command : Command) (bytes : List ℕ) (seen : Option (List ℕ)) (out said : List ℕ) → asked ≡ Some command → RepliesTo status command bytes seen out said → Outcome status asked bytes seen out said
of_command status asked command bytes seen out said is replies = subst (λ (o : Option Command). Outcome status o bytes seen out said) (sym is) replies

-- of words that were not read, as memory ran out
pub of_no_memory : (asked : Option Command) (bytes : List ℕ) (seen : Option (List ℕ)) → Outcome status.NoMemory asked bytes seen [] []
of_no_memory None bytes seen = (refl, refl)
of_no_memory (Some command) bytes seen = (refl, inl refl)

-- a source of which nothing was taken
pub takes_none : (left : Option (List ℕ)) (reads : Option ℕ) → IfSome reads (λ most. TakesAtMost most left left)
takes_none left None = tt
takes_none left (Some most) = ([], consumes_none left, omega arith)

-- ---- the answer

-- within the problem's steps
pub stops_within : (to : Option ℕ) (p : Problem) (k : ℕ) → k ≡ stop_of to p → k ≤ p.steps
stops_within None p k is = omega (arith, is)
stops_within (Some n) p k is = omega (arith, is)

-- the plot of the state that a run stops at
pub is_plot_of_run : (bytes : List ℕ) (to : Option ℕ) (p : Problem) (last : List State) (k : ℕ) → IsProblemOf bytes p → k ≡ stop_of to p → last ≡ run_all p k → IsSoundRun p k → IsPlotOfRun bytes to (plot_all p last)
is_plot_of_run bytes to p last k accepted stops is sound = record {
  problem = p;
  accepted = accepted;
  text = ap (λ (ss : List State). plot_all p ss) (is ∙ ap (run_all p) stops);
  run = subst (λ n. IsSoundRun p n) stops sound;
}

-- ---- a view

-- of no box, where a part of it is outside
pub unseen : (asked : ViewOptions) (r : Result Unit Status) (bytes : List ℕ) (seen : Option (List ℕ)) (p : Problem) (outside : ViewPart) → IsErrAnd r (λ x. x ≡ status.BadView outside) → IsProblemOf bytes p → bad_view asked p ≡ Some outside
    → RepliesBy (view_row asked) (status_of r) bytes seen [] []
unseen asked r bytes seen p outside is accepted bad = refused_by (view_row asked) r (status.BadView outside) bytes seen [] [] is (record { problem = p; accepted = accepted; has = bad }, refl, refl)

-- of the state of a species
pub is_view_of_run : (bytes : List ℕ) (asked : ViewOptions) (p : Problem) (last : List State) (s : State) (b : Extent) → IsProblemOf bytes p → bad_view asked p ≡ None → b ≡ box_of asked.corners → last ≡ run_all p p.steps
    → s ≡ get_or last asked.species no_state → IsSoundRun p p.steps → IsViewOfRun bytes asked (view s asked.level b)
is_view_of_run bytes asked p last s b accepted inside box is of_species sound =
    let own : get_or last asked.species no_state ≡ seen_state asked p = ap (λ (ss : List State). get_or ss asked.species no_state) is in
    let t : State = seen_state asked p in
    let given : asked.species < length (run_all p p.steps) = omega (arith, (is_seen asked p inside).species, sound.sound.one_each) in
    record {
      problem = p;
      accepted = accepted;
      inside = inside;
      text = ap (λ (u : State). view u asked.level b) (of_species ∙ own) ∙ ap (view t asked.level) box;
      whole = λ l. views_add_up p t l (sound.sound.alike.sound asked.species no_state given);
      run = sound;
    }

-- ---- a trial

pub trial_unread : (number size : ℕ) (bytes : List ℕ) (e : JudgeFault) (given : List ℕ) (seen : Option (List ℕ)) → number < 2 ^ 32 → IsSize size → bytes ≡ text number size → ((f : ProblemFault) → e ≡ judging.Fault f → fault_of bytes ≡ Some f) → RepliesBy (trial_row number size) (judge_refused e) given seen [] []
trial_unread number size bytes (judging.Fault f) given seen small is same fault = let wrong : Some f ≡ None = sym (fault f refl) ∙ ap fault_of same ∙ no_fault number size small is in absurd (none-some f (sym wrong))
trial_unread number size bytes judging.NoMemory given seen small is same fault = (refl, inl refl)

pub trial_steps : (number size : ℕ) (bytes : List ℕ) (p : Problem) → number < 2 ^ 32 → IsSize size → bytes ≡ text number size → IsProblemOf bytes p → p.steps ≡ 16
trial_steps number size bytes p small is same accepted = sixteen_steps number size p small is (subst (λ (bs : List ℕ). IsProblemOf bs p) same accepted)

pub is_line_of_trial : (number size : ℕ) (bytes line : List ℕ) (p : Problem) (last : List State) (s : State) → number < 2 ^ 32 → IsSize size → bytes ≡ text number size → IsProblemOf bytes p → last ≡ run_all p 16 → s ≡ get_or last 0 no_state
    → IsSoundRun p 16 → line ≡ summary number size p s → IsLineOfTrial number size line
is_line_of_trial number size bytes line p last s small is_size same accepted is first sound said =
    let given : IsProblemOf (text number size) p = subst (λ (bs : List ℕ). IsProblemOf bs p) same accepted in
    record {
      problem = p;
      accepted = given;
      line = said ∙ ap (λ (t : State). summary number size p t) (first ∙ ap (λ (ss : List State). get_or ss 0 no_state) (is ∙ run_of_one p (one_species number size p small is_size given) 16));
      run = sound;
    }

-- ---- a problem's line

pub is_line_of_problem : (bytes : List ℕ) (p : Problem) → IsProblemOf bytes p → IsLineOfProblem bytes (problem_line p)
is_line_of_problem bytes p accepted = record { problem = p; accepted = accepted; text = refl }

-- ---- all is done, or memory ran out

clash : (refuses : Content → Refusal → Type 0) (seen : Option (List ℕ)) (refusal : Refusal) → TellsAccepted refuses seen → IfSome seen (RefusesStored refuses refusal) → ⊥
clash refuses None refusal tells h = absurd (none-some tells.image tells.told)
clash refuses (Some image) refusal tells h = let same : image ≡ tells.image = same_Some image tells.image tells.told in tells.none h.content (subst (λ (i : List ℕ). Holds i h.content) same h.held) refusal h.refused

problem_once : (bytes : List ℕ) (s : Status) → JudgesProblem bytes None → JudgesProblem bytes (Some s) → ⊥
problem_once bytes (status.Problem reason) none some = absurd (none-some reason (sym none ∙ some))
problem_once bytes _ none some = some

storable_once : (bytes : List ℕ) (s : Status) → JudgesStorable bytes None → JudgesStorable bytes (Some s) → ⊥
storable_once bytes (status.Problem reason) one some = absurd (none-some reason (sym one.accepted.clean ∙ some))
storable_once bytes (status.Species k) one some =
    let same : one.problem ≡ some.problem = one_problem bytes one.problem some.problem one.accepted some.accepted in
    let is : some.problem.species ≡ 1 = subst (λ (p : Problem). p.species ≡ 1) same one.has in
    absurd (omega (arith, is, some.has.0, some.has.1))
storable_once bytes _ one some = some

view_once : (asked : ViewOptions) (bytes : List ℕ) (s : Status) → JudgesView asked bytes None → JudgesView asked bytes (Some s) → ⊥
view_once asked bytes (status.Problem reason) one some = absurd (none-some reason (sym one.accepted.clean ∙ some))
view_once asked bytes (status.BadView outside) one some =
    let same : one.problem ≡ some.problem = one_problem bytes one.problem some.problem one.accepted some.accepted in
    absurd (none-some outside (sym one.has ∙ ap (bad_view asked) same ∙ some.has))
view_once asked bytes _ one some = some

batch_once : (bytes : List ℕ) (s : Status) → JudgesBatch bytes None → JudgesBatch bytes (Some s) → ⊥
batch_once bytes (status.BadBatch place) is malformed = is_one_or_the_other bytes is.0 place is.1 malformed
batch_once bytes _ is malformed = malformed

run_once : (to keep deltas : Option ℕ) (bytes : List ℕ) (s : Status) → (run_meaning to keep deltas).judges bytes None → (run_meaning to keep deltas).judges bytes (Some s) → ⊥
run_once to None deltas bytes s none some = problem_once bytes s none some
run_once to (Some every) deltas bytes s none some = storable_once bytes s none some

judged_once : (command : Command) (bytes : List ℕ) (s : Status) → (meaning command).judges bytes None → (meaning command).judges bytes (Some s) → ⊥
judged_once (Run options) bytes s none some = run_once options.to options.keep options.deltas bytes s none some
judged_once Check bytes s none some = problem_once bytes s none some
judged_once Show bytes s none some = some
judged_once (Trial number size workers) bytes s none some = some
judged_once (Batch workers) bytes s none some = batch_once bytes s none some
judged_once (View asked) bytes s none some = view_once asked bytes s none some

completed : (s : Status) (command : Command) (bytes : List ℕ) (seen : Option (List ℕ)) (out said : List ℕ) → HasAnswer command bytes seen → RepliesTo s command bytes seen out said
    → (s ≡ status.ReadFault → ⊥) → (s ≡ status.WriteFault → ⊥) → (s ≡ status.DiskFault → ⊥) → (s ≡ status.Done) ⊎ (s ≡ status.NoMemory)
completed status.Done command bytes seen out said has h read write disk = inl refl
completed status.NoMemory command bytes seen out said has h read write disk = inr refl
completed status.ReadFault command bytes seen out said has h read write disk = absurd (read refl)
completed status.WriteFault command bytes seen out said has h read write disk = absurd (write refl)
completed status.DiskFault command bytes seen out said has h read write disk = absurd (disk refl)
completed status.Usage command bytes seen out said has h read write disk = absurd h
completed (status.Problem reason) command bytes seen out said has h read write disk = absurd (judged_once command bytes (status.Problem reason) has.taken h.0)
completed (status.BadBatch place) command bytes seen out said has h read write disk = absurd (judged_once command bytes (status.BadBatch place) has.taken h.0)
completed (status.Species k) command bytes seen out said has h read write disk = absurd (judged_once command bytes (status.Species k) has.taken h.0)
completed (status.BadView outside) command bytes seen out said has h read write disk = absurd (judged_once command bytes (status.BadView outside) has.taken h.0)
completed (status.Store refusal) command bytes seen out said has h read write disk = absurd (clash ((meaning command).refuses bytes) seen refusal (has.stored h.0.0) h.0.2)

pub is_complete : (s : Status) (asked : Option Command) (command : Command) (bytes : List ℕ) (seen : Option (List ℕ)) (out said : List ℕ) → asked ≡ Some command → HasAnswer command bytes seen → Outcome s asked bytes seen out said
    → (s ≡ status.ReadFault → ⊥) → (s ≡ status.WriteFault → ⊥) → (s ≡ status.DiskFault → ⊥) → (s ≡ status.Done) ⊎ (s ≡ status.NoMemory)
is_complete s asked command bytes seen out said is has h read write disk =
    completed s command bytes seen out said has (subst (λ (o : Option Command). Outcome s o bytes seen out said) is h) read write disk

-- ---- the line on the stream of errors

-- `err` failed before its last line, or did not
pub err_before : (s : Status) (P : Type 0) (old now : ℕ) → ((s ≡ status.WriteFault → ⊥) → now ≡ old) → (s ≡ status.WriteFault → P × (now ≡ old) ⊎ Rose old now) → (now ≡ old) ⊎ Rose old now
err_before status.Done P old now other write = inl (other (λ is. cc))
err_before status.Usage P old now other write = inl (other (λ is. cc))
err_before status.ReadFault P old now other write = inl (other (λ is. cc))
err_before (status.Problem reason) P old now other write = inl (other (λ is. cc))
err_before (status.BadBatch place) P old now other write = inl (other (λ is. cc))
err_before (status.Species k) P old now other write = inl (other (λ is. cc))
err_before (status.BadView outside) P old now other write = inl (other (λ is. cc))
err_before status.DiskFault P old now other write = inl (other (λ is. cc))
err_before (status.Store refusal) P old now other write = inl (other (λ is. cc))
err_before status.NoMemory P old now other write = inl (other (λ is. cc))
err_before status.WriteFault P old now other write = ⊎_elim (λ h. inl h.1) (λ h. inr h) (write refl)

rose_on : (old mid now : ℕ) → (mid ≡ old) ⊎ Rose old mid → Rose mid now → Rose old now
rose_on old mid now (inl same) rose = subst (λ n. Rose n now) same rose
rose_on old mid now (inr first) rose = omega (arith, first, rose)

-- the line of a refusal after the lines of checkpoints
pub ends_by_line : (s : Status) (said part : List ℕ) (old mid now : ℕ) → (mid ≡ old) ⊎ Rose old mid → IsPrefix part (message s) → (part ≡ message s) ⊎ Rose mid now → EndsByLine s said (said ++ part) old now
ends_by_line s said part old mid now before is whole = record {
  line = part;
  after = refl;
  prefix = is;
  whole = ⊎_elim (λ same. inl same) (λ rose. inr (rose_on old mid now before rose)) whole;
}

-- it went out whole, or less than the whole with a fault that has its cause
pub told : {S F : Type 0} (holds : S → List ℕ → Type 0) (old new : S) (before now : ℕ) (text : List ℕ) (r : Result Unit F) → OnOk r (Grows holds old new text) → OnErr r (FallsShort holds old new text) → HasCause before now r
    → (part : List ℕ) × Grows holds old new part × IsPrefix part text × ((part ≡ text) ⊎ Rose before now)
told holds old new before now text (Ok done) whole short cause = (text, whole, prefix_whole text, inl refl)
told holds old new before now text (Err fault) whole short cause = (short.0, short.2, record { rest = short.1.rest; split = short.1.split }, inr cause.failed)
