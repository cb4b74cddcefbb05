-- The outcome of a command that shows what the disk holds, and what the disk tells.
use Rattle.std.proofs.Common.{◌≡◌, ℕ, List, [], Option, Some, None, IfSome, refl, inl}
use Rattle.amr_def.specs.declared.problem.Problem.{Problem}
use Rattle.amr_def.specs.Facts.{IsSound}
use Rattle.amr_def.specs.Plot.{plot}
use Rattle.amr_patch.specs.declared.meshes.Mesh.{Mesh}
use Rattle.amr_patch.specs.Meshes.{state_of}
use Rattle.amr_checkpoint.specs.declared.faults.ResumeFault.{ResumeFault}
use Rattle.amr_checkpoint.specs.declared.faults.ResumeFault.TheVariants as resuming
use Rattle.amr_checkpoint.specs.declared.refusal.Refusal.{Refusal}
use Rattle.amr_checkpoint.specs.Checkpoints.{content_at_mesh}
use Rattle.amr_checkpoint.specs.Contents.{Content, Holds}
use Rattle.amr_checkpoint.specs.Refusals.{RefusesShow}
use Rattle.amr_run.specs.Answer.{IsPlotOfStore}
use Rattle.amr_run.specs.Outcome.{RefusesStored, RepliesBy}
use Rattle.amr_run.specs.Refusals.{resume_refused}
use Rattle.amr_run.specs.Table.{show_row}

-- of what a disk tells
pub if_told : (P : List ℕ → Type 0) (seen : Option (List ℕ)) → ((image : List ℕ) → seen ≡ Some image → P image) → IfSome seen P
if_told P None each = tt
if_told P (Some image) each = each image refl

-- where nothing is shown
pub unshown : (bytes : List ℕ) (seen : Option (List ℕ)) (e : ResumeFault) → ((refusal : Refusal) (image : List ℕ) → e ≡ resuming.Refused refusal → seen ≡ Some image → (content : Content) × Holds image content × RefusesShow content refusal)
    → RepliesBy show_row (resume_refused e) bytes seen [] []
unshown bytes seen resuming.DiskFault refused = ((tt, tt), refl, inl refl)
unshown bytes seen (resuming.Refused refusal) refused =
    ((tt, tt, if_told (RefusesStored RefusesShow refusal) seen (λ image told. let by = refused refusal image refl told in record { content = by.0; held = by.1; refused = by.2 })), refl, refl)
unshown bytes seen resuming.NoMemory refused = (refl, inl refl)

pub plot_of_store : (seen : Option (List ℕ)) (p : Problem) (m : Mesh) → ((image : List ℕ) → seen ≡ Some image → (bytes : List ℕ) × Holds image (content_at_mesh bytes p m)) → IsSound p (state_of m) → IsPlotOfStore seen (plot p (state_of m))
plot_of_store None p m holds sound = record { bytes = []; problem = p; state = state_of m; held = tt; text = refl; sound = sound }
plot_of_store (Some image) p m holds sound = let held = holds image refl in record { bytes = held.0; problem = p; state = state_of m; held = held.1; text = refl; sound = sound }
