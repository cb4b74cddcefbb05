-- The statuses by which a fault of a lower layer ends a call.
use Rattle.amr_batch.specs.declared.spans.JobsFault.{JobsFault}
use Rattle.amr_batch.specs.declared.spans.JobsFault.TheVariants as jobs
use Rattle.amr_io.specs.declared.source.ReadAll.{ReadAll}
use Rattle.amr_io.specs.declared.source.ReadAll.TheVariants as reading
use Rattle.amr_problem.specs.declared.fault.JudgeFault.{JudgeFault}
use Rattle.amr_problem.specs.declared.fault.JudgeFault.TheVariants as judging
use Rattle.amr_problem.specs.declared.fault.ProblemFault.TheVariants.{TooLong}
use Rattle.amr_checkpoint.specs.declared.faults.KeepFault.{KeepFault}
use Rattle.amr_checkpoint.specs.declared.faults.KeepFault.TheVariants as keeping
use Rattle.amr_checkpoint.specs.declared.faults.ResumeFault.{ResumeFault}
use Rattle.amr_checkpoint.specs.declared.faults.ResumeFault.TheVariants as resuming
use Rattle.amr_run.specs.declared.status.Status.{Status}
use Rattle.amr_run.specs.declared.status.Status.TheVariants.{ReadFault, Problem, BadBatch, DiskFault, Store, WriteFault, NoMemory}

-- more bytes than are taken have a status of their own
abbrev pub read_refused : Status → ReadAll → Status
read_refused too_long reading.TooLong = too_long
read_refused too_long reading.ReadFault = ReadFault
read_refused too_long reading.NoMemory = NoMemory

-- more bytes than a problem has are its first fault
abbrev pub problem_unread : ReadAll → Status
problem_unread e = read_refused (Problem TooLong) e

-- a batch that is longer than any is malformed at the place after the longest
abbrev pub batch_unread : ReadAll → Status
batch_unread e = read_refused (BadBatch 1048576) e

abbrev pub jobs_refused : JobsFault → Status
jobs_refused (jobs.BadBatch place) = BadBatch place
jobs_refused jobs.NoMemory = NoMemory

abbrev pub judge_refused : JudgeFault → Status
judge_refused (judging.Fault fault) = Problem fault
judge_refused judging.NoMemory = NoMemory

abbrev pub keep_refused : KeepFault → Status
keep_refused keeping.DiskFault = DiskFault
keep_refused keeping.WriteFault = WriteFault
keep_refused keeping.NoMemory = NoMemory

-- what is stored refuses a run, or has nothing to show
abbrev pub resume_refused : ResumeFault → Status
resume_refused resuming.DiskFault = DiskFault
resume_refused (resuming.Refused reason) = Store reason
resume_refused resuming.NoMemory = NoMemory
