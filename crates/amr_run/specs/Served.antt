-- What a call does, whole: by the command that its words are, by its status, and by its four objects before and after it.
use Rattle.std.specs.Prelude.{ℕ, ◌≡◌, ◌≢◌, ◌⊎◌, List, Option, Some, None, IfSome}
use Rattle.std.specs.Io.KnownBytes.{IsAtEnd}
use Rattle.amr_causes.specs.Bytes.{Grows, WereLeft}
use Rattle.amr_causes.specs.Causes.{Rose}
use Rattle.amr_checkpoint.specs.declared.refusal.Refusal.{Refusal}
use Rattle.amr_cli.specs.declared.command.Command.{Command}
use Rattle.amr_problem.specs.declared.fault.ProblemFault.{ProblemFault}
use Rattle.amr_store.specs.Phases.{OnlyReads}
use Rattle.amr_run.specs.Outcome.{EndsByLine, EndsSettled, Outcome, StopsTo}
use Rattle.amr_run.specs.Sources.{TakesAtMost}
use Rattle.amr_run.specs.Table.{HasAnswer, KeepsCheckpoints, OpensStore, ReadsSource, meaning}
use Rattle.amr_run.specs.declared.status.Status.{Status}
use Rattle.amr_run.specs.declared.status.Status.TheVariants.{Done, ReadFault, Problem, Species, DiskFault, Store, WriteFault, NoMemory}

pub record Serves {S O E D : Type 0} (left : S → Option (List ℕ)) (src_faults : S → ℕ) (out_holds : O → List ℕ → Type 0) (out_faults : O → ℕ)
    (err_holds : E → List ℕ → Type 0) (err_faults : E → ℕ)
    (seen : D → Option (List ℕ)) (moment : D → ℕ) (leaves : D → ℕ → List ℕ → Type 0) (disk_faults : D → ℕ)
    (asked : Option Command) (status : Status) (src later_src : S) (out later_out : O) (err later_err : E) (disk later_disk : D) : Type 0 where
  -- What the source had left, what went to `out`, the lines of checkpoints on `err`, and all that went there: these and then the line of a
  -- refusal, whole unless `err` failed. The status and what went out are those of the words, of the bytes and of what the disk holds.
  pub bytes : List ℕ
  pub sent : List ℕ
  pub said : List ℕ
  pub all : List ℕ
  pub had_left : WereLeft (left src) bytes
  pub out_grows : Grows out_holds out later_out sent
  pub err_grows : Grows err_holds err later_err all
  pub outcome : Outcome status asked bytes (seen disk) sent said
  pub line : EndsByLine status said all (err_faults err) (err_faults later_err)
  -- A stop at any moment since the store was opened leaves what was found on the disk, or what the run put last or puts next, from which
  -- its bytes follow. The lines on `err` are those of the checkpoints that stand.
  pub stops : StopsTo seen moment leaves disk later_disk status asked bytes said
  -- Nothing is pending at the end, unless the disk failed.
  pub settled : (command : Command) → asked ≡ Some command → OpensStore command → EndsSettled seen moment leaves disk later_disk status
  -- Where a command that reads its source is done, nothing of it is left. It takes no more bytes than its row says, from the front. Any other
  -- leaves the source as it was.
  pub ended : (command : Command) → asked ≡ Some command → ReadsSource command → status ≡ Done → IsAtEnd (left later_src)
  pub unread : (command : Command) → asked ≡ Some command → ¬ (ReadsSource command) → later_src ≡ src
  pub taken : (command : Command) → asked ≡ Some command → IfSome (meaning command).reads (λ most. TakesAtMost most (left src) (left later_src))
  -- A command that opens no store leaves the disk as it was. A store that refuses a command was not written.
  pub unopened : (command : Command) → asked ≡ Some command → ¬ (OpensStore command) → later_disk ≡ disk
  pub unwritten : (refusal : Refusal) → status ≡ Store refusal → OnlyReads seen moment leaves disk later_disk
  -- The disk is called once the source was read, its problem judged and its species counted: where one of these ends the call, the disk is as it
  -- was.
  pub source_first : status ≡ ReadFault → later_disk ≡ disk
  pub judged_first : (fault : ProblemFault) → status ≡ Problem fault → later_disk ≡ disk
  pub species_first : (k : ℕ) → status ≡ Species k → later_disk ≡ disk
  -- Words that are no command leave the source, `out` and the disk as they were, also where memory ran out.
  pub untouched : asked ≡ None → (later_src ≡ src) × (later_out ≡ out) × (later_disk ≡ disk)
  -- A command that keeps no checkpoints says nothing on `err` where all is done.
  pub quiet : (command : Command) → asked ≡ Some command → ¬ (KeepsCheckpoints command) → status ≡ Done → later_err ≡ err
  -- A fault of the outside comes only where that object failed in this call. With any other answer the source, the disk and `out` didn't
  -- fail, and where all is done `err` didn't either.
  pub read_fault : status ≡ ReadFault → Rose (src_faults src) (src_faults later_src)
  pub disk_fault : status ≡ DiskFault → Rose (disk_faults disk) (disk_faults later_disk)
  pub write_fault : status ≡ WriteFault → Rose (out_faults out) (out_faults later_out) ⊎ Rose (err_faults err) (err_faults later_err)
  pub no_read_fault : status ≢ ReadFault → src_faults later_src ≡ src_faults src
  pub no_disk_fault : status ≢ DiskFault → disk_faults later_disk ≡ disk_faults disk
  pub no_write_fault : status ≢ WriteFault → out_faults later_out ≡ out_faults out
  pub no_line_fault : status ≡ Done → err_faults later_err ≡ err_faults err
  -- Words that are a command, bytes that have an answer and a store that lets it come get it, unless something fails or memory runs out.
  pub complete : (command : Command) → asked ≡ Some command → ((bytes : List ℕ) → WereLeft (left src) bytes → HasAnswer command bytes (seen disk))
      → ¬ (Rose (src_faults src) (src_faults later_src)) → ¬ (Rose (out_faults out) (out_faults later_out)) → ¬ (Rose (err_faults err) (err_faults later_err))
      → ¬ (Rose (disk_faults disk) (disk_faults later_disk))
      → (status ≡ Done) ⊎ (status ≡ NoMemory)
