-- The answer to a batch.
use Rattle.std.specs.Prelude.{ℕ, ◌≡◌, ◌<◌, ◌⊎◌, slice_index_or, List, None, Some, length}
use Rattle.amr_batch.specs.Answer.{JobReply, answer_text}
use Rattle.amr_batch.specs.Batch.{IsBatch}
use Rattle.amr_problem.specs.Judgement.{fault_of}
use Rattle.amr_problem.specs.declared.fault.ProblemFault.{ProblemFault}
use Rattle.amr_run.specs.Answer.{IsPlotOfRun}
use Rattle.amr_run.specs.Texts.{message}
use Rattle.amr_run.specs.declared.status.Status.TheVariants.{Problem}

-- the bytes of a job are a problem, and this is the plot of its run to the last step
pub record HasPlot (job : List ℕ) (reply : JobReply) : Type 0 where
  pub done : reply.code ≡ 0
  pub plot : IsPlotOfRun job None reply.text

-- or they are none, and this is the line that says why
pub record HasFault (job : List ℕ) (reply : JobReply) : Type 0 where
  pub fault : ProblemFault
  pub first : fault_of job ≡ Some fault
  pub refused : reply.code ≡ 3
  pub line : reply.text ≡ message (Problem fault)

-- by the bytes of the job alone
abbrev pub IsReplyTo : List ℕ → JobReply → Type 0
IsReplyTo job reply = HasPlot job reply ⊎ HasFault job reply

-- isolation: the bytes are a batch, and the answer is the reply of each job's own bytes, in order, and the end
pub record IsBatchAnswer (bytes out : List ℕ) : Type 0 where
  pub jobs : List (List ℕ)
  pub batch : IsBatch bytes jobs
  pub replies : List JobReply
  pub count : length replies ≡ length jobs
  pub each : (k : ℕ) (job : List ℕ) (reply : JobReply) → k < length jobs → IsReplyTo (slice_index_or jobs k job) (slice_index_or replies k reply)
  pub text : out ≡ answer_text replies
