-- What the reading of a store's states says of them. (profile)
use Rattle.std.specs.Prelude.{ℕ, ◌≡◌, ◌≢◌, ◌+◌, ◌≤◌, ◌==◌, false, ⊤, List, ◌∷◌, Option, Some, None, Result, Ok, Err, drop}
use Rattle.amr_causes.specs.Causes.{Rose}
use Rattle.amr_def.specs.declared.problem.Problem.{Problem}
use Rattle.amr_def.specs.State.{State}
use Rattle.amr_patch.specs.declared.meshes.Mesh.{Mesh}
use Rattle.amr_patch.specs.Meshes.{state_of}
use Rattle.amr_store.specs.declared.part.Part.{Part}
use Rattle.amr_store.specs.declared.part.Part.TheVariants as part
use Rattle.amr_store.specs.declared.store.Store.{Store}
use Rattle.amr_store.specs.Shown.{ShowsState}
use Rattle.amr_store.specs.Stands.{IsStoreReady, SameStore, is_shut, slots_in}
use Rattle.amr_store.specs.Stored as store
use Rattle.amr_checkpoint.specs.declared.latest.StateFault.{StateFault}
use Rattle.amr_checkpoint.specs.declared.latest.StateFault.TheVariants.{Damaged as damaged, Refused}
use Rattle.amr_checkpoint.specs.declared.faults.CheckpointFault.TheVariants.{DiskFault}
use Rattle.amr_checkpoint.specs.Checkpoints.{content_at_mesh}
use Rattle.amr_checkpoint.specs.Contents.{Content, Damaged, in_sequence, record_read}

-- this state, or where there is none this part is damaged
abbrev pub ReadsAs : Option State → Part → Result Mesh StateFault → Type 0
ReadsAs state damage (Ok mesh) = state ≡ Some (state_of mesh)
ReadsAs state damage (Err (damaged found)) = (state ≡ None) × (found ≡ damage)
ReadsAs state damage (Err (Refused fault)) = ⊤

-- a whole state: bad at a place, or one whose sequence is its step and one
abbrev pub ReadsWhole : ℕ → Result State ℕ → Result Mesh StateFault → Type 0
ReadsWhole sequence (Err place) result = ReadsAs None (part.State place) result
ReadsWhole sequence (Ok s) result = ReadsAs (in_sequence sequence (Ok s)) part.Sequence result

-- the first of these records, of this number, on a state
pub record IsNextRead (p : Problem) (old : State) (number : ℕ) (records rest : List store.Entry) (result : Result Mesh StateFault) : Type 0 where
  pub entry : store.Entry
  pub first : records ≡ entry ∷ rest
  pub reads : ReadsAs (record_read p old entry) (part.Chain number) result

abbrev pub ReadsNext : Problem → State → ℕ → List store.Entry → List store.Entry → Result Mesh StateFault → Type 0
ReadsNext p old number records rest (Ok mesh) = IsNextRead p old number records rest (Ok mesh)
ReadsNext p old number records rest (Err (damaged found)) = IsNextRead p old number records rest (Err (damaged found))
ReadsNext p old number records rest (Err (Refused fault)) = ⊤

-- the latest state makes this content of the store of a problem's bytes
abbrev pub ReadsLatest : Content → List ℕ → Problem → Result Mesh StateFault → Type 0
ReadsLatest content bytes p (Ok mesh) = content ≡ content_at_mesh bytes p mesh
ReadsLatest content bytes p (Err (damaged found)) = content ≡ Damaged found
ReadsLatest content bytes p (Err (Refused fault)) = ⊤

-- the disk tells what is stored, and the store in memory shows it
pub record IsHeldOn (seen : Option (List ℕ)) (kept : Store) (held : store.State) : Type 0 where
  pub image : List ℕ
  pub told : seen ≡ Some image
  pub is : store.stored image ≡ store.Held held
  pub shows : ShowsState kept held

-- a store that was read from
pub record StaysRead (old new : Store) : Type 0 where
  pub same : SameStore old new
  pub slots : slots_in new ≡ slots_in old

-- and stands for what the disk holds still
pub record IsOpenStill {D : Type 0} (seen : D → Option (List ℕ)) (moment : D → ℕ) (leaves : D → ℕ → List ℕ → Type 0) (store : Store) (disk : D) : Type 0 where
  pub ready : IsStoreReady seen moment leaves store disk
  pub unshut : is_shut store ≡ false

-- the disk failed exactly where the call ended by its fault; `before` and `now` count its faults
pub record FailsAs {T : Type 0} (before now : ℕ) (result : Result T StateFault) : Type 0 where
  pub later : before ≤ now
  pub failed : result ≡ Err (Refused DiskFault) → Rose before now
  pub no_fault : result ≢ Err (Refused DiskFault) → now ≡ before
