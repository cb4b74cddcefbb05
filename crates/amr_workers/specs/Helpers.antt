-- The kept workers of a team.
use Rattle.std.specs.Prelude.{ℕ, ◌≡◌, ◌+◌, ◌<◌, List, length, slice_index_or}
use Rattle.amr_board.specs.BoardOf.{BoardOf}
use Rattle.amr_mailbox.specs.declared.view.Turn.TheVariants.{Free}
use Rattle.amr_mailbox.specs.MailboxOf.{MailboxOf, EndOf, end_of}
use Rattle.amr_workers.specs.declared.helper.Recruit.{Recruit}
use Rattle.amr_workers.specs.declared.order.WorkerSetup.{WorkerSetup}
use Rattle.amr_workers.specs.Orders.{Admits}

-- a kept worker that waits for an order: of this job and this gate, and with a number below this one
pub record IsHelper {O J G : Type 0} (job : J) (gate : G) (workers : ℕ)
    (mailbox : MailboxOf (WorkerSetup J G)) (asker : EndOf O (WorkerSetup J G)) : Type 0 where
  pub waits : asker ≡ end_of mailbox Free
  pub job_is : mailbox.key.job.value ≡ job
  pub gate_is : mailbox.key.gate.value ≡ gate
  pub number : mailbox.key.number < workers

-- a kept worker that has not begun: of this job, this gate and this number
pub record IsRecruit {O J G : Type 0} (job : J) (gate : G)
    (mailbox : MailboxOf (WorkerSetup J G)) (worker : EndOf O (WorkerSetup J G)) (number : ℕ) : Type 0 where
  pub waits : worker ≡ end_of mailbox Free
  pub job_is : mailbox.key.job.value ≡ job
  pub gate_is : mailbox.key.gate.value ≡ gate
  pub number_is : mailbox.key.number ≡ number

-- they are the others of so many workers, of whom number 0 is their caller: each has a number of its own
pub record HaveNumbers {P J G : Type 0} (workers : ℕ) (recruits : List (Recruit P J G)) : Type 0 where
  pub count : 1 + length recruits ≡ workers
  pub numbers : (k : ℕ) (r : Recruit P J G) → k < length recruits → (slice_index_or recruits k r).number ≡ 1 + k

-- the worker of a mailbox is admitted to each task of a board
abbrev pub AdmitsWorker : {P J G : Type 0} → (ℕ → ℕ → Type 0) → MailboxOf (WorkerSetup J G) → BoardOf P → Type 0
AdmitsWorker admits mailbox board = Admits (admits mailbox.key.number) board
