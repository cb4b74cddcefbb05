-- Laws of the answers to batches, each of which a call of the crate ensures.
use Rattle.std.specs.Prelude.{ℕ, ◌≡◌, ◌<◌, slice_index_or, List, length}
use Rattle.amr_batch.specs.Answer.{JobReply}
use Rattle.amr_run.specs.Batch.{IsBatchAnswer, IsReplyTo}

-- a job has one reply
abbrev pub JobsHaveOneReply : Type 0
JobsHaveOneReply = (job : List ℕ) (one other : JobReply) → IsReplyTo job one → IsReplyTo job other → one ≡ other

-- two batches with the same job, at whatever places, have the same reply to it there
abbrev pub RepliesStandAlone : Type 0
RepliesStandAlone = (bytes others out more : List ℕ) (a : IsBatchAnswer bytes out) (b : IsBatchAnswer others more) (i j : ℕ) (job : List ℕ) (reply : JobReply)
    → i < length a.jobs → j < length b.jobs → slice_index_or a.jobs i job ≡ slice_index_or b.jobs j job
    → slice_index_or a.replies i reply ≡ slice_index_or b.replies j reply

-- a batch has one answer
abbrev pub BatchesHaveOneAnswer : Type 0
BatchesHaveOneAnswer = (bytes out more : List ℕ) → IsBatchAnswer bytes out → IsBatchAnswer bytes more → out ≡ more
