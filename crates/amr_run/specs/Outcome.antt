-- What a status says of the words, of the bytes of the source, of what the disk holds, and of what went out.
use Rattle.std.specs.Prelude.{ℕ, ◌≡◌, ◌≤◌, ◌⊎◌, ⊤, List, [], ◌++◌, Option, None, Some, IfSome, Result, Ok, Err}
use Rattle.amr_causes.specs.Bytes.{IsPrefix}
use Rattle.amr_causes.specs.Causes.{Rose}
use Rattle.amr_io.specs.Short.{IsProperPrefix}
use Rattle.amr_def.specs.declared.problem.Problem.{Problem}
use Rattle.amr_checkpoint.specs.declared.refusal.Refusal.{Refusal}
use Rattle.amr_checkpoint.specs.Contents.{Content, Holds, IsStorable}
use Rattle.amr_checkpoint.specs.declared.faults.KeepFault.{KeepFault}
use Rattle.amr_checkpoint.specs.KeptCheckpoints.{History, KeptRun, made_of}
use Rattle.amr_checkpoint.specs.Refusals.{GoesOn}
use Rattle.amr_checkpoint.specs.Times.{Time}
use Rattle.amr_checkpoint.specs.Outside.{DiskAt, disk_at}
use Rattle.amr_disk.specs.Image.{Only}
use Rattle.amr_disk.specs.Moments.{StaysDurable}
use Rattle.amr_store.specs.Phases.{OnlyReads}
use Rattle.amr_run.specs.Answer.{stop_of}
use Rattle.amr_run.specs.Refusals.{keep_refused}
use Rattle.amr_run.specs.Table.{IsGiven, Meaning, meaning}
use Rattle.amr_run.specs.Texts.{message}
use Rattle.amr_cli.specs.declared.command.Command.{Command}
use Rattle.amr_run.specs.declared.commands.Marks.{Marks}
use Rattle.amr_run.specs.declared.status.Status.{Status}
use Rattle.amr_run.specs.declared.status.Status.TheVariants.{Done, Usage, ReadFault, Problem as BadProblem, BadBatch}
use Rattle.amr_run.specs.declared.status.Status.TheVariants.{Species, BadView, DiskFault, Store, WriteFault, NoMemory}

-- how a command ended: with its answer, or with the status that refuses it
abbrev pub status_of : {T : Type 0} → Result T Status → Status
status_of (Ok done) = Done
status_of (Err status) = status

-- ---- an answer of which not all went out

-- the lines of an answer, or the first bytes of them
pub record BeginsLines (answers : List ℕ → List ℕ → Type 0) (said : List ℕ) : Type 0 where
  pub whole : List ℕ
  pub lines : List ℕ
  pub answer : answers whole lines
  pub prefix : IsPrefix said lines

-- less than the whole after all lines, or less than all lines
pub record IsCutShort (answers : List ℕ → List ℕ → Type 0) (out said : List ℕ) : Type 0 where
  pub whole : List ℕ
  pub lines : List ℕ
  pub answer : answers whole lines
  pub cut : (IsProperPrefix out whole × (said ≡ lines)) ⊎ ((out ≡ []) × IsProperPrefix said lines)

-- ---- replies

-- By what its answers are, with the lines that acknowledge checkpoints, and by what refuses it. All of its answer went out where all is done, less
-- than that after a fault in writing, and else nothing of it. A refusal comes before any line; after a fault of the disk, or where memory ran
-- out, lines are those of an answer, or the first bytes of them. A command is never refused as none.
abbrev pub Replies : Status → (List ℕ → List ℕ → Type 0) → (Status → Type 0) → List ℕ → List ℕ → Type 0
Replies Done answers refuses out said = answers out said
Replies Usage answers refuses out said = ⊥
Replies ReadFault answers refuses out said = refuses ReadFault × (out ≡ []) × (said ≡ [])
Replies (BadProblem fault) answers refuses out said = refuses (BadProblem fault) × (out ≡ []) × (said ≡ [])
Replies (BadBatch place) answers refuses out said = refuses (BadBatch place) × (out ≡ []) × (said ≡ [])
Replies (Species k) answers refuses out said = refuses (Species k) × (out ≡ []) × (said ≡ [])
Replies (BadView part) answers refuses out said = refuses (BadView part) × (out ≡ []) × (said ≡ [])
Replies DiskFault answers refuses out said = refuses DiskFault × (out ≡ []) × ((said ≡ []) ⊎ BeginsLines answers said)
Replies (Store refusal) answers refuses out said = refuses (Store refusal) × (out ≡ []) × (said ≡ [])
Replies WriteFault answers refuses out said = IsCutShort answers out said
Replies NoMemory answers refuses out said = (out ≡ []) × ((said ≡ []) ⊎ BeginsLines answers said)

-- what is stored refuses the command so
pub record RefusesStored (refuses : Content → Refusal → Type 0) (refusal : Refusal) (image : List ℕ) : Type 0 where
  pub content : Content
  pub held : Holds image content
  pub refused : refuses content refusal

-- ---- by the row of a command

-- The statuses that may refuse it. A source refuses only a command that reads it, and bytes exactly by what the row judges of them. The disk, and
-- what is stored where the disk tells it, refuse only a command that opens the store, once its bytes were taken.
abbrev pub RefusedBy : Meaning → List ℕ → Option (List ℕ) → Status → Type 0
RefusedBy row bytes seen ReadFault = IsGiven row.reads
RefusedBy row bytes seen (BadProblem fault) = row.judges bytes (Some (BadProblem fault))
RefusedBy row bytes seen (BadBatch place) = row.judges bytes (Some (BadBatch place))
RefusedBy row bytes seen (Species k) = row.judges bytes (Some (Species k))
RefusedBy row bytes seen (BadView part) = row.judges bytes (Some (BadView part))
RefusedBy row bytes seen DiskFault = row.opens × row.judges bytes None
RefusedBy row bytes seen (Store refusal) = row.opens × row.judges bytes None × IfSome seen (RefusesStored (row.refuses bytes) refusal)
RefusedBy row bytes seen Done = ⊥
RefusedBy row bytes seen Usage = ⊥
RefusedBy row bytes seen WriteFault = ⊥
RefusedBy row bytes seen NoMemory = ⊥

abbrev pub RepliesBy : Meaning → Status → List ℕ → Option (List ℕ) → List ℕ → List ℕ → Type 0
RepliesBy row status bytes seen out said = Replies status (row.answers bytes seen) (RefusedBy row bytes seen) out said

abbrev pub RepliesTo : Status → Command → List ℕ → Option (List ℕ) → List ℕ → List ℕ → Type 0
RepliesTo status command bytes seen out said = RepliesBy (meaning command) status bytes seen out said

-- Of the command that the words are. Where they are none, the status is that, unless memory ran out.
abbrev pub Outcome : Status → Option Command → List ℕ → Option (List ℕ) → List ℕ → List ℕ → Type 0
Outcome status (Some command) bytes seen out said = RepliesTo status command bytes seen out said
Outcome Usage None bytes seen out said = (out ≡ []) × (said ≡ [])
Outcome NoMemory None bytes seen out said = (out ≡ []) × (said ≡ [])
Outcome _ None bytes seen out said = ⊥

-- After the lines of checkpoints comes the line of a refusal, whole unless `err` failed: `before` and `now` count its faults.
pub record EndsByLine (status : Status) (said all : List ℕ) (before now : ℕ) : Type 0 where
  pub line : List ℕ
  pub after : said ++ line ≡ all
  pub prefix : IsPrefix line (message status)
  pub whole : (line ≡ message status) ⊎ Rose before now

-- ---- stops

-- By how a run's calls of its disk ended: after all of them its plot went out or did not, and else the run ended by their fault.
abbrev pub EndsRun : Option KeepFault → Status → Type 0
EndsRun None Done = ⊤
EndsRun None WriteFault = ⊤
EndsRun None _ = ⊥
EndsRun (Some fault) status = status ≡ keep_refused fault

-- A run may have ended so before it went on from its store. Where all is done, or where a line or the plot did not go out, it went on.
abbrev pub EndsBefore : Status → Type 0
EndsBefore Done = ⊥
EndsBefore WriteFault = ⊥
EndsBefore _ = ⊤

-- A run opened its store on a disk that reads as the image, found this, and went on from it. Its times begin there: a stop since then leaves what
-- was found or made last, or what was made next. Before that the disk was only read: from a moment on at which a stop leaves nothing but the
-- image, as where a sync returns, it leaves that. But where the disk failed it reads as the image with what was made, each whole.
pub record RunsThrough (before after : DiskAt) (status : Status) (run : KeptRun) (image said : List ℕ) : Type 0 where
  pub opened : Time
  pub since : before.moment ≤ opened.moment
  pub stays : StaysDurable (Some image) before.moment opened.moment after.leaves
  pub held : Holds image opened.content
  pub on : GoesOn run.bytes run.target opened.content
  pub ended : Option KeepFault
  pub ends : EndsRun ended status
  pub history : History run.deltas after opened image (made_of run opened.content) said ended

-- Where the disk tells what it reads, it was only read and nothing was said of checkpoints, or a run went on from it.
abbrev pub StopsKept : {D : Type 0} → (D → Option (List ℕ)) → (D → ℕ) → (D → ℕ → List ℕ → Type 0) → D → D → Status → KeptRun → List ℕ → Type 0
StopsKept seen moment leaves disk later_disk status run said =
    (image : List ℕ) → seen disk ≡ Some image
    → (EndsBefore status × OnlyReads seen moment leaves disk later_disk × (said ≡ []))
    ⊎ RunsThrough (disk_at seen moment leaves disk) (disk_at seen moment leaves later_disk) status run image said

-- of the problem that the bytes of the source are, at the step that it stops at
pub record RunsThroughTo (before after : DiskAt) (status : Status) (marks : Marks) (image bytes said : List ℕ) : Type 0 where
  pub problem : Problem
  pub accepted : IsStorable bytes problem
  pub through : RunsThrough before after status
      (record { bytes = bytes; problem = problem; every = marks.every; target = stop_of marks.to problem; deltas = marks.deltas }) image said

abbrev pub StopsRun : {D : Type 0} → (D → Option (List ℕ)) → (D → ℕ) → (D → ℕ → List ℕ → Type 0) → D → D → Status → Marks → List ℕ → List ℕ → Type 0
StopsRun seen moment leaves disk later_disk status marks bytes said =
    (image : List ℕ) → seen disk ≡ Some image
    → (EndsBefore status × OnlyReads seen moment leaves disk later_disk × (said ≡ []))
    ⊎ RunsThroughTo (disk_at seen moment leaves disk) (disk_at seen moment leaves later_disk) status marks image bytes said

-- By its row: a command that keeps no checkpoints only reads.
abbrev pub StopsBy : {D : Type 0} → (D → Option (List ℕ)) → (D → ℕ) → (D → ℕ → List ℕ → Type 0) → D → D → Status → Option Marks → List ℕ → List ℕ → Type 0
StopsBy seen moment leaves disk later_disk status None bytes said = OnlyReads seen moment leaves disk later_disk
StopsBy seen moment leaves disk later_disk status (Some marks) bytes said = StopsRun seen moment leaves disk later_disk status marks bytes said

-- Words that are no command only read too.
abbrev pub StopsTo : {D : Type 0} → (D → Option (List ℕ)) → (D → ℕ) → (D → ℕ → List ℕ → Type 0) → D → D → Status → Option Command → List ℕ → List ℕ → Type 0
StopsTo seen moment leaves disk later_disk status None bytes said = OnlyReads seen moment leaves disk later_disk
StopsTo seen moment leaves disk later_disk status (Some command) bytes said =
    StopsBy seen moment leaves disk later_disk status (meaning command).keeps bytes said

-- ---- the disk comes after the source

-- The source ends the call: it was not read, or its bytes are refused.
abbrev pub EndsAtSource : Status → Type 0
EndsAtSource ReadFault = Unit {0}
EndsAtSource (BadProblem fault) = Unit {0}
EndsAtSource (BadBatch place) = Unit {0}
EndsAtSource (Species k) = Unit {0}
EndsAtSource (BadView part) = Unit {0}
EndsAtSource _ = ⊥

-- ---- what is pending

-- Of a command that opens the store. Where the disk did not fail it was synced: a stop leaves what a read gives. Memory may have run out before
-- the disk was called, and the source and its problem come before it.
abbrev pub EndsSettled : {D : Type 0} → (D → Option (List ℕ)) → (D → ℕ) → (D → ℕ → List ℕ → Type 0) → D → D → Status → Type 0
EndsSettled seen moment leaves disk later_disk Done = Only (seen later_disk) (leaves later_disk (moment later_disk))
EndsSettled seen moment leaves disk later_disk (Store refusal) = Only (seen later_disk) (leaves later_disk (moment later_disk))
EndsSettled seen moment leaves disk later_disk WriteFault = Only (seen later_disk) (leaves later_disk (moment later_disk))
EndsSettled seen moment leaves disk later_disk NoMemory = (later_disk ≡ disk) ⊎ Only (seen later_disk) (leaves later_disk (moment later_disk))
EndsSettled seen moment leaves disk later_disk _ = ⊤
