-- How a run that keeps checkpoints ended, before its plot is written. (profile)
use Rattle.std.specs.Prelude.{ℕ, List, [], Option, IfSome, Result, Ok, Err}
use Rattle.amr_checkpoint.specs.Refusals.{RefusesRun}
use Rattle.amr_def.specs.declared.problem.Problem.{Problem}
use Rattle.amr_def.specs.Plot.{plot}
use Rattle.amr_patch.specs.declared.meshes.Mesh.{Mesh}
use Rattle.amr_patch.specs.Meshes.{state_of}
use Rattle.amr_run.specs.Answer.{IsKeptRun}
use Rattle.amr_run.specs.Outcome.{RefusesStored, Replies}
use Rattle.amr_run.specs.declared.status.Status.{Status}
use Rattle.amr_run.specs.declared.status.Status.TheVariants.{DiskFault, Store}

-- a run whose problem was read is refused by the disk, or by what is stored
abbrev pub RefusesKept : List ℕ → ℕ → Option (List ℕ) → Status → Type 0
RefusesKept bytes target seen DiskFault = Unit {0}
RefusesKept bytes target seen (Store refusal) = IfSome seen (RefusesStored (RefusesRun bytes target) refusal)
RefusesKept bytes target seen status = ⊥

-- its answer is the plot of the mesh that is handed on, or it was refused and nothing went out
abbrev pub KeptReplies : Result Mesh Status → List ℕ → Problem → ℕ → ℕ → Option (List ℕ) → List ℕ → Type 0
KeptReplies (Ok mesh) bytes p every target seen said = IsKeptRun bytes p every target seen (plot p (state_of mesh)) said
KeptReplies (Err status) bytes p every target seen said = Replies status (IsKeptRun bytes p every target seen) (RefusesKept bytes target seen) [] said
