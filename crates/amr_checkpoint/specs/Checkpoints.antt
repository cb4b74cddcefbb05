-- What reading a disk gives, and what a run goes on from. (profile)
use Rattle.std.specs.Prelude.{ℕ, ◌≡◌, ◌≢◌, ◌+◌, ◌≤◌, ◌<◌, ◌⊎◌, ◌==◌, ⊤, Bool, true, false, List, [], ◌∷◌, Option, Some, None, IfSome, if◌then◌else◌}
use Rattle.std.specs.List.{All}
use Rattle.amr_start.specs.PatchBoxes.{IsChopped}
use Rattle.amr_def.specs.declared.problem.Problem.{Problem}
use Rattle.amr_def.specs.Facts.{IsSound}
use Rattle.amr_def.specs.State.{State}
use Rattle.amr_causes.specs.Causes.{Rose}
use Rattle.amr_disk.specs.Moments.{StopsIn}
use Rattle.amr_payload.specs.Delta.{IsLater}
use Rattle.amr_patch.specs.declared.meshes.Mesh.{Mesh}
use Rattle.amr_patch.specs.Meshes.{is_spent, levels_of, state_of}
use Rattle.amr_store.specs.declared.store.Store.{Store}
use Rattle.amr_store.specs.Stands.{IsStoreReady, chain_in, deltas_in, is_shut, last_in, problem_in, slot_size_in, version_in}
use Rattle.amr_checkpoint.specs.declared.checkpoint.KeptStore.{KeptStore}
use Rattle.amr_checkpoint.specs.declared.contents.Checkpoint.{Checkpoint}
use Rattle.amr_checkpoint.specs.declared.contents.Checkpoint.TheVariants as read
use Rattle.amr_checkpoint.specs.declared.resumption.Resumed.{Resumed}
use Rattle.amr_checkpoint.specs.declared.resumption.Resumed.TheVariants as resumed
use Rattle.amr_checkpoint.specs.declared.faults.CheckpointFault.{CheckpointFault}
use Rattle.amr_checkpoint.specs.declared.faults.CheckpointFault.TheVariants.{DiskFault, NoMemory}
use Rattle.amr_checkpoint.specs.Contents.{Content, Empty, Damaged, Fresh, At, Holds, IsStorable, room_for}
use Rattle.amr_checkpoint.specs.Made.{ReadsWith, takes_record}

-- a mesh holds a state with the sequence of its step and one
abbrev pub content_at_mesh : List ℕ → Problem → Mesh → Content
content_at_mesh bytes p mesh = At bytes p (state_of mesh) ((state_of mesh).step + 1)

-- the content that was read
abbrev pub content_of : Checkpoint → Content
content_of read.Empty = Empty
content_of (read.Damaged damage) = Damaged damage
content_of (read.Fresh store p) = Fresh (problem_in store) p
content_of (read.At store p mesh) = content_at_mesh (problem_in store) p mesh

-- the content that a run of this problem goes on from
abbrev pub content_resumed : List ℕ → Problem → Resumed → Content
content_resumed bytes p resumed.Nothing = Empty
content_resumed bytes p (resumed.Fresh store) = Fresh bytes p
content_resumed bytes p (resumed.At store mesh) = content_at_mesh bytes p mesh

-- a disk that tells what it reads goes on telling it
abbrev pub StaysTold : Option (List ℕ) → Option (List ℕ) → Type 0
StaysTold old new = (s : List ℕ) → old ≡ Some s → (t : List ℕ) × (new ≡ Some t)

-- the version of a store that a checkpoint was put into: 1 becomes 2, and 2 stays
abbrev pub renewed_version : ℕ → ℕ
renewed_version version = if version == 1 then 2 else version

-- a store of the problem, with room for its states, that is not shut
pub record IsStoreFor (p : Problem) (store : Store) : Type 0 where
  pub accepted : IsStorable (problem_in store) p
  pub room : slot_size_in store ≡ room_for (version_in store) p
  pub unshut : is_shut store ≡ false

-- a mesh of the problem: its state is sound, and it is in patches
pub record IsMeshFor (p : Problem) (mesh : Mesh) : Type 0 where
  pub whole : is_spent mesh ≡ false
  pub sound : IsSound p (state_of mesh)
  pub chopped : All (IsChopped p.max_grid_size) (levels_of mesh)

-- a store whose latest state has this sequence
pub record IsStorePast (p : Problem) (sequence : ℕ) (store : Store) : Type 0 where
  pub store_is : IsStoreFor p store
  pub last : last_in store ≡ Some sequence

-- a mesh is the latest state of a store, which the next one is put on as a record
pub record IsLatest (p : Problem) (store : Store) (s : State) (mesh : Mesh) : Type 0 where
  pub whole : is_spent mesh ≡ false
  pub sound : IsSound p (state_of mesh)
  pub last : last_in store ≡ Some ((state_of mesh).step + 1)
  pub older : IsLater (state_of mesh) s
  pub version : version_in store ≡ 3

-- it is kept beside the store exactly where the next state is put so
abbrev pub KeepsLatest : Problem → Store → Option Mesh → State → Type 0
KeepsLatest p store None s = takes_record store ≡ false
KeepsLatest p store (Some mesh) s = (takes_record store ≡ true) × IsLatest p store s mesh

-- and then it is what the disk holds
abbrev pub HoldsLatest : Option (List ℕ) → Problem → Store → Option Mesh → Type 0
HoldsLatest seen p store None = ⊤
HoldsLatest seen p store (Some mesh) = (image : List ℕ) → seen ≡ Some image → Holds image (content_at_mesh (problem_in store) p mesh)

-- a state may be put into the store next
pub record MayPut {D : Type 0} (seen : D → Option (List ℕ)) (moment : D → ℕ) (leaves : D → ℕ → List ℕ → Type 0) (p : Problem) (kept : KeptStore) (s : State)
    (disk : D) : Type 0 where
  pub store_is : IsStoreFor p kept.store
  pub above : IfSome (last_in kept.store) (λ last. last < s.step + 1)
  pub ready : IsStoreReady seen moment leaves kept.store disk
  pub latest : KeepsLatest p kept.store kept.latest s
  pub held : HoldsLatest (seen disk) p kept.store kept.latest

-- a state was put into the store: now it is the latest, with so many records behind the latest whole one
pub record IsStoreAfter (p : Problem) (sequence chain : ℕ) (old store : Store) : Type 0 where
  pub past : IsStorePast p sequence store
  pub version : version_in store ≡ renewed_version (version_in old)
  pub problem : problem_in store ≡ problem_in old
  pub deltas : deltas_in store ≡ deltas_in old
  pub chain_is : chain_in store ≡ chain

-- a copy of a state is there exactly where it is asked for
abbrev pub IsCopyWhere : Bool → State → Option Mesh → Type 0
IsCopyWhere wanted s None = wanted ≡ false
IsCopyWhere wanted s (Some copy) = (wanted ≡ true) × (state_of copy ≡ s) × (is_spent copy ≡ false)

-- What a call did that puts a state into a store of these bytes, by its refusal. Where it is done the disk holds the state, and nothing else was
-- written. A stop at any moment leaves what the disk held, or the new state. Where memory ran out the disk is as it was.
pub record IsPut {D : Type 0} (seen : D → Option (List ℕ)) (moment : D → ℕ) (leaves : D → ℕ → List ℕ → Type 0) (faults : D → ℕ) (bytes : List ℕ) (p : Problem)
    (s : State) (refused : Option CheckpointFault) (old new : D) : Type 0 where
  pub holds : refused ≡ None → (image : List ℕ) → seen new ≡ Some image → Holds image (At bytes p s (s.step + 1))
  pub told : refused ≡ None → StaysTold (seen old) (seen new)
  pub made : refused ≡ None → (deltas : Option ℕ) (image : List ℕ) → seen old ≡ Some image → ReadsWith deltas (seen new) image (At bytes p s (s.step + 1) ∷ [])
  pub stops : (image : List ℕ) (content : Content) → seen old ≡ Some image → Holds image content
      → StopsIn moment leaves old new (λ c. Holds c content ⊎ Holds c (At bytes p s (s.step + 1)))
  pub memory : refused ≡ Some NoMemory → new ≡ old
  pub later : faults old ≤ faults new
  pub failed : refused ≡ Some DiskFault → Rose (faults old) (faults new)
  pub no_fault : refused ≢ Some DiskFault → faults new ≡ faults old

-- a store without a state
pub record IsFreshStore (p : Problem) (store : Store) : Type 0 where
  pub store_is : IsStoreFor p store
  pub none : last_in store ≡ None

-- a store at the mesh's state
pub record IsStoreAt (p : Problem) (store : Store) (mesh : Mesh) : Type 0 where
  pub past : IsStorePast p ((state_of mesh).step + 1) store
  pub mesh_is : IsMeshFor p mesh

-- whatever the disk tells, what was read can be used
abbrev pub IsUsable : Checkpoint → Type 0
IsUsable read.Empty = ⊤
IsUsable (read.Damaged damage) = ⊤
IsUsable (read.Fresh store p) = IsFreshStore p store
IsUsable (read.At store p mesh) = IsStoreAt p store mesh

-- and a run of the problem that these bytes are goes on from it
abbrev pub CanGoOn : List ℕ → Problem → ℕ → Resumed → Type 0
CanGoOn bytes p target resumed.Nothing = ⊤
CanGoOn bytes p target (resumed.Fresh store) = (problem_in store ≡ bytes) × IsFreshStore p store
CanGoOn bytes p target (resumed.At store mesh) = (problem_in store ≡ bytes) × IsStoreAt p store mesh × ((state_of mesh).step ≤ target)

-- the store in it stands for what the disk holds
abbrev pub IsReadReady : {D : Type 0} → (D → Option (List ℕ)) → (D → ℕ) → (D → ℕ → List ℕ → Type 0) → Checkpoint → D → Type 0
IsReadReady seen moment leaves read.Empty disk = ⊤
IsReadReady seen moment leaves (read.Damaged damage) disk = ⊤
IsReadReady seen moment leaves (read.Fresh store p) disk = IsStoreReady seen moment leaves store disk
IsReadReady seen moment leaves (read.At store p mesh) disk = IsStoreReady seen moment leaves store disk

abbrev pub IsResumedReady : {D : Type 0} → (D → Option (List ℕ)) → (D → ℕ) → (D → ℕ → List ℕ → Type 0) → Resumed → D → Type 0
IsResumedReady seen moment leaves resumed.Nothing disk = ⊤
IsResumedReady seen moment leaves (resumed.Fresh store) disk = IsStoreReady seen moment leaves store disk
IsResumedReady seen moment leaves (resumed.At store mesh) disk = IsStoreReady seen moment leaves store disk

-- a run goes on with the store that was read
abbrev pub TakesStore : Checkpoint → Resumed → Type 0
TakesStore read.Empty resumed.Nothing = ⊤
TakesStore (read.Fresh store p) (resumed.Fresh other) = other ≡ store
TakesStore (read.At store p mesh) (resumed.At other same) = (other ≡ store) × (same ≡ mesh)
TakesStore _ _ = ⊥
