-- Laws of batches, each of which a call of the crate ensures.
use Rattle.std.specs.Prelude.{◌≡◌, ℕ, ◌<◌, List, length, slice_index_or}
use Rattle.amr_batch.specs.declared.spans.Span.{Span}
use Rattle.amr_batch.specs.Batch.{IsBatch, IsMalformedAt}
use Rattle.amr_batch.specs.Replies.{AreReplies, job_at}

-- bytes are a batch of one list of jobs
abbrev pub HasOneReading : Type 0
HasOneReading = (bytes : List ℕ) (jobs others : List (List ℕ)) → IsBatch bytes jobs → IsBatch bytes others → jobs ≡ others

-- no bytes are a batch and malformed
abbrev pub IsOneOrTheOther : Type 0
IsOneOrTheOther = (bytes : List ℕ) (jobs : List (List ℕ)) (place : ℕ) → IsBatch bytes jobs → IsMalformedAt bytes place → ⊥

-- malformed bytes are so at one place
abbrev pub HasOnePlace : Type 0
HasOnePlace = (bytes : List ℕ) (place other : ℕ) → IsMalformedAt bytes place → IsMalformedAt bytes other → place ≡ other

-- isolation: where a job may have one reply only, it has the same in every batch, whatever jobs stand beside it
abbrev pub RepliesStandAlone : {V X : Type 0} → (V → List ℕ → X → Type 0) → Type 0
RepliesStandAlone {V} {X} answers = (s : V) → ((job : List ℕ) (x y : X) → answers s job x → answers s job y → x ≡ y)
    → (bytes others : List ℕ) (spans more : List Span) (replies beside : List X) (i j : ℕ) (d : X)
    → AreReplies (answers s) bytes spans replies → AreReplies (answers s) others more beside → i < length replies → j < length beside
    → job_at bytes spans i ≡ job_at others more j → slice_index_or replies i d ≡ slice_index_or beside j d
