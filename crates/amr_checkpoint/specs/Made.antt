-- The bytes of a disk after calls that make a store or put a state, each of them whole: one that was begun and given up leaves others. (profile)
use Rattle.std.specs.Prelude.{ℕ, ◌≡◌, ◌+◌, ◌==◌, ◌&&◌, nat_lt, is_some, true, Bool, List, [], ◌∷◌, length, Option, Some, None, if◌then◌else◌}
use Rattle.std.specs.Int.{w32}
use Rattle.amr_def.specs.declared.problem.Problem.{Problem}
use Rattle.amr_def.specs.State.{State}
use Rattle.amr_payload.specs.Delta.{delta_bytes, delta_size}
use Rattle.amr_payload.specs.Payload.{payload, slot_size}
use Rattle.amr_store.specs.declared.store.Store.{Store}
use Rattle.amr_store.specs.Created.{created_image, created_image_3, new_state, state_with}
use Rattle.amr_store.specs.Layout.{end_of}
use Rattle.amr_store.specs.Renewed.{renewed_image}
use Rattle.amr_store.specs.Stands.{Stands, chain_in, deltas_in, last_in, problem_in, put_image, record_image, slot_size_in, version_in}
use Rattle.amr_store.specs.Stored as store
use Rattle.amr_checkpoint.specs.Contents.{Content, Empty, Damaged, Fresh, At, Holds}

-- ---- a new store

-- it is of version 2, or where records are to follow each whole state, so many, of version 3
abbrev pub version_made : Option ℕ → ℕ
version_made None = 2
version_made (Some deltas) = 3

abbrev pub deltas_made : Option ℕ → ℕ
deltas_made None = 0
deltas_made (Some deltas) = deltas

abbrev pub image_made : Option ℕ → List ℕ → Problem → List ℕ → List ℕ
image_made None bytes p image = created_image 2 bytes (slot_size w32 p) image
image_made (Some deltas) bytes p image = created_image_3 deltas bytes (delta_size p) image

abbrev pub state_made : Option ℕ → List ℕ → Problem → store.State
state_made None bytes p = new_state 2 bytes (slot_size w32 p)
state_made (Some deltas) bytes p = state_with 3 deltas bytes (delta_size p)

-- ---- a state

-- the next state is put as a record: a whole one stands, and there is room behind it
abbrev pub takes_record : Store → Bool
takes_record store = is_some (last_in store) && nat_lt (chain_in store) (deltas_in store)

-- A state is put whole into the slot that is next, and into a store of version 1 by the renewal that makes it one of version 2.
abbrev pub put_whole : Store → Problem → State → List ℕ → List ℕ
put_whole store p s image =
    if version_in store == 1
    then renewed_image (end_of (length (problem_in store)) (slot_size_in store)) (problem_in store) (slot_size w32 p) (s.step + 1) (payload w32 s) image
    else put_image store (s.step + 1) (payload w32 s) image

-- Or as a record on the older state that the store is at.
abbrev pub put_into : Store → Problem → State → State → List ℕ → List ℕ
put_into store p old s image =
    if takes_record store then record_image store (s.step + 1) (delta_bytes old (old.step + 1) s) image else put_whole store p s image

-- the image is that of a store of these bytes, and this one has the state put into it
pub record HasPut (bytes : List ℕ) (p : Problem) (s : State) (image later : List ℕ) : Type 0 where
  pub store : Store
  pub stands : Stands store image
  pub of_bytes : problem_in store ≡ bytes
  pub old : State
  pub on : takes_record store ≡ true → Holds image (At bytes p old (old.step + 1))
  pub put : later ≡ put_into store p old s image

-- ---- several

-- One of these was made of the image, whole: a new store, or a checkpoint.
abbrev pub Makes : Option ℕ → Content → List ℕ → List ℕ → Type 0
Makes deltas Empty image later = ⊥
Makes deltas (Damaged damage) image later = ⊥
Makes deltas (Fresh bytes p) image later = later ≡ image_made deltas bytes p image
Makes deltas (At bytes p s sequence) image later = HasPut bytes p s image later

-- All of these, one after another. Of none the image is as it was, of whatever version.
abbrev pub MakesAll : Option ℕ → List Content → List ℕ → List ℕ → Type 0
MakesAll deltas [] image later = later ≡ image
MakesAll deltas (content ∷ rest) image later = (next : List ℕ) × Makes deltas content image next × MakesAll deltas rest next later

-- a disk that reads as the image reads as this with all of these made
abbrev pub ReadsWith : Option ℕ → Option (List ℕ) → List ℕ → List Content → Type 0
ReadsWith deltas seen image contents = (later : List ℕ) × (seen ≡ Some later) × MakesAll deltas contents image later
