-- How the bytes of the source were read, as a problem or as a batch.
use Rattle.std.specs.Prelude.{ℕ, ◌≡◌, ◌≤◌, List, length, map, Option, Some, Result, Ok, Err}
use Rattle.std.specs.List.{All}
use Rattle.std.specs.Io.KnownBytes.{Consumes}
use Rattle.amr_batch.specs.Batch.{IsBatch, IsSpanOf, bytes_in}
use Rattle.amr_checkpoint.specs.Contents.{IsStorable}
use Rattle.amr_problem.specs.Judgement.{IsProblemOf}
use Rattle.amr_run.specs.Table.{JudgesBatch, JudgesProblem, JudgesStorable}
use Rattle.amr_run.specs.declared.source.ReadBatch.{ReadBatch}
use Rattle.amr_run.specs.declared.source.ReadProblem.{ReadProblem}
use Rattle.amr_run.specs.declared.status.Status.{Status}
use Rattle.amr_run.specs.declared.status.Status.TheVariants as status

-- the status by which they were not, by what is judged of them
abbrev pub RefusesBy : (List ℕ → Option Status → Type 0) → Status → List ℕ → Type 0
RefusesBy judges (status.Problem fault) bytes = judges bytes (Some (status.Problem fault))
RefusesBy judges (status.BadBatch place) bytes = judges bytes (Some (status.BadBatch place))
RefusesBy judges (status.Species k) bytes = judges bytes (Some (status.Species k))
RefusesBy judges (status.BadView part) bytes = judges bytes (Some (status.BadView part))
RefusesBy judges status.ReadFault bytes = Unit {0}
RefusesBy judges status.NoMemory bytes = Unit {0}
RefusesBy judges status.Done bytes = ⊥
RefusesBy judges status.Usage bytes = ⊥
RefusesBy judges status.WriteFault bytes = ⊥
RefusesBy judges status.DiskFault bytes = ⊥
RefusesBy judges (status.Store reason) bytes = ⊥

abbrev pub ReadsBy : {T : Type 0} → (List ℕ → Option Status → Type 0) → (T → List ℕ → Type 0) → Result T Status → List ℕ → Type 0
ReadsBy judges is (Ok given) bytes = is given bytes
ReadsBy judges is (Err refusal) bytes = RefusesBy judges refusal bytes

-- ---- a problem

abbrev pub IsProblemRead : ReadProblem → List ℕ → Type 0
IsProblemRead given bytes = (given.bytes.items ≡ bytes) × IsProblemOf bytes given.problem

abbrev pub Reads : Result ReadProblem Status → List ℕ → Type 0
Reads result bytes = ReadsBy JudgesProblem IsProblemRead result bytes

abbrev pub IsStorableRead : ReadProblem → List ℕ → Type 0
IsStorableRead given bytes = (given.bytes.items ≡ bytes) × IsStorable bytes given.problem

abbrev pub ReadsStorable : Result ReadProblem Status → List ℕ → Type 0
ReadsStorable result bytes = ReadsBy JudgesStorable IsStorableRead result bytes

-- ---- a batch

pub record IsBatchRead (given : ReadBatch) (bytes : List ℕ) : Type 0 where
  pub same : given.bytes.items ≡ bytes
  pub batch : IsBatch bytes (map (bytes_in bytes) given.jobs.items)
  pub inside : All (IsSpanOf bytes) given.jobs.items

abbrev pub ReadsBatch : Result ReadBatch Status → List ℕ → Type 0
ReadsBatch result bytes = ReadsBy JudgesBatch IsBatchRead result bytes

-- at most so many bytes were taken, from the front of those that were left
abbrev pub TakesAtMost : ℕ → Option (List ℕ) → Option (List ℕ) → Type 0
TakesAtMost most old new = (taken : List ℕ) × Consumes old new taken × (length taken ≤ most)
