-- The replies of a batch's jobs.
use Rattle.std.specs.Prelude.{◌≡◌, ℕ, ◌<◌, List, length, slice_index, slice_index_or, IfOk, IfSome}
use Rattle.std.specs.List.{All}
use Rattle.std.specs.declared.option.Option.{Option}
use Rattle.amr_batch.specs.declared.spans.Span.{Span}
use Rattle.amr_batch.specs.declared.replies.Lot.{Lot}
use Rattle.amr_batch.specs.Batch.{bytes_in}

abbrev pub no_span : Span
no_span = record { from = 0; len = 0 }

-- the bytes of the job with this number
abbrev pub job_at : List ℕ → List Span → ℕ → List ℕ
job_at bytes spans k = bytes_in bytes (slice_index_or spans k no_span)

-- numbers of so many jobs
abbrev pub AreTasks : ℕ → List ℕ → Type 0
AreTasks n numbers = All (λ k. k < n) numbers

-- one reply for each job, in order, each of the job's own bytes
pub record AreReplies {X : Type 0} (answers : List ℕ → X → Type 0) (bytes : List ℕ) (spans : List Span) (replies : List X) : Type 0 where
  pub count : length replies ≡ length spans
  pub each : (k : ℕ) (d : X) → k < length replies → answers (job_at bytes spans k) (slice_index_or replies k d)

-- one reply for each of these numbers, in their order
pub record AreRepliesTo {X : Type 0} (answers : List ℕ → X → Type 0) (bytes : List ℕ) (spans : List Span) (numbers : List ℕ) (replies : List X) : Type 0 where
  pub count : length replies ≡ length numbers
  pub each : (i : ℕ) (d : X) → i < length replies → answers (job_at bytes spans (slice_index numbers i)) (slice_index_or replies i d)

-- what stands at a job's place is its reply
pub record HasReplies {X : Type 0} (answers : List ℕ → X → Type 0) (bytes : List ℕ) (spans : List Span) (places : List (Option X)) : Type 0 where
  pub each : (k : ℕ) (d : Option X) → k < length places → IfSome (slice_index_or places k d) (answers (job_at bytes spans k))

-- a lot with numbers of so many jobs
abbrev pub HasTasks : {X : Type 0} → ℕ → Lot X → Type 0
HasTasks n lot = AreTasks n lot.numbers.items

-- a lot of which each job has its reply, unless memory ran out
pub record IsServed {X : Type 0} (answers : List ℕ → X → Type 0) (bytes : List ℕ) (spans : List Span) (lot : Lot X) : Type 0 where
  pub tasks : AreTasks (length spans) lot.numbers.items
  pub solved : IfOk lot.outcome (λ v. AreRepliesTo answers bytes spans lot.numbers.items v.items)
