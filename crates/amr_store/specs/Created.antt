-- The image of a new store without open slots, with so many records behind each base. (profile)
use Rattle.std.specs.Prelude.{ℕ, zero, suc, ◌≡◌, ◌≤◌, ◌<◌, ◌+◌, ◌*◌, ◌==◌, ◌&&◌, ◌⊎◌, nat_lt, true, false}
use Rattle.std.specs.Prelude.{slice_index, slice_range, List, [], ◌∷◌, ◌++◌, length, None, if◌then◌else◌}
use Rattle.std.specs.Int.{to_le_bytes, w32, w64}
use Rattle.amr_disk.specs.Image.{written_at}
use Rattle.amr_store.specs.Layout.{magic_1, magic_2, magic_3, long_at, word_at, lead_length, gate_at, end_of}
use Rattle.amr_store.specs.Stored.{State, Empty, Held, is_open, stored}
use Rattle.amr_store.specs.Table.{slot_count}

-- the versions of the format
abbrev pub IsVersion : ℕ → Type 0
IsVersion version = (version ≡ 1) ⊎ (version ≡ 2)

abbrev pub magic_of : ℕ → ℕ
magic_of version = if version == 1 then magic_1 else (if version == 3 then magic_3 else magic_2)

-- how many records follow a base in a store of this version
abbrev pub HasNumber : ℕ → ℕ → Type 0
HasNumber version deltas = (IsVersion version × (deltas ≡ 0)) ⊎ ((version ≡ 3) × (0 < deltas) × (deltas ≤ 7))

-- all of the head behind its gate, the problem, and the gate of the first slot
abbrev pub head_bytes : ℕ → ℕ → List ℕ → ℕ → List ℕ
head_bytes last version problem size = to_le_bytes w64 (magic_of version) ++ to_le_bytes w64 size ++ to_le_bytes w32 (length problem) ++ problem ++ last ∷ []

-- what a new store shows
abbrev pub state_with : ℕ → ℕ → List ℕ → ℕ → State
state_with version deltas problem size = record { version = version; problem = problem; slot_size = size; deltas = deltas; latest = None; records = [] }

abbrev pub new_state : ℕ → List ℕ → ℕ → State
new_state version = state_with version 0

-- the first byte is there, and closed
pub record IsShutFirst (image : List ℕ) : Type 0 where
  pub some : 0 < length image
  pub shut : is_open image 0 ≡ false

-- behind the first byte stands a new store
pub record IsNew (version deltas : ℕ) (problem : List ℕ) (size : ℕ) (image : List ℕ) : Type 0 where
  pub long : gate_at (1 + 2 * deltas) (lead_length version (length problem)) size < length image
  pub magic : long_at image 1 ≡ magic_of version
  pub size_is : long_at image 9 ≡ size
  pub text_is : word_at image 17 ≡ length problem
  pub problem_is : slice_range image 21 (21 + length problem) ≡ problem
  pub number : version ≡ 3 → slice_index image (21 + length problem) ≡ deltas
  pub shut : (k : ℕ) → k < slot_count deltas → slice_index image (gate_at k (lead_length version (length problem)) size) ≡ 0

-- what follows a store of version 1 does not renew it
pub record IsPlain (version text size : ℕ) (image : List ℕ) : Type 0 where
  pub past : version ≡ 1 → end_of text size < length image → slice_index image (end_of text size) ≡ 0

-- a new store behind the first byte, with nothing that renews it
pub record IsLaid (version deltas : ℕ) (problem : List ℕ) (size : ℕ) (image : List ℕ) : Type 0 where
  pub inner : IsNew version deltas problem size image
  pub plain : IsPlain version (length problem) size image

-- a new store behind an open first byte
pub record IsMade (version deltas : ℕ) (problem : List ℕ) (size : ℕ) (image : List ℕ) : Type 0 where
  pub laid : IsLaid version deltas problem size image
  pub opened : is_open image 0 ≡ true

-- the bytes that creation writes, and no other: a first byte that is closed, where there is none or it is the only one
abbrev pub shut_first : List ℕ → List ℕ
shut_first image = if nat_lt 1 (length image) then image else written_at 0 (0 ∷ []) image

-- head, problem and closed gates, and a 0 past the end of a store of version 1 where there is a byte
abbrev pub laid_image : ℕ → List ℕ → ℕ → List ℕ → List ℕ
laid_image version problem size image =
    if version == 1 && nat_lt (end_of (length problem) size) (length image)
    then written_at (end_of (length problem) size) (0 ∷ [])
    (written_at (gate_at 1 (length problem) size) (0 ∷ []) (written_at 1 (head_bytes 0 version problem size) image))
    else written_at (gate_at 1 (length problem) size) (0 ∷ []) (written_at 1 (head_bytes 0 version problem size) image)

-- the gates of the slots behind the first, closed
abbrev pub gates_shut : ℕ → ℕ → ℕ → List ℕ → List ℕ
gates_shut zero lead size image = image
gates_shut (suc k) lead size image = written_at (gate_at (suc k) lead size) (0 ∷ []) (gates_shut k lead size image)

-- head, problem, number of records and closed gates of a store of version 3
abbrev pub head_bytes_3 : ℕ → List ℕ → ℕ → List ℕ
head_bytes_3 deltas problem size = head_bytes deltas 3 problem size ++ 0 ∷ []

abbrev pub laid_image_3 : ℕ → List ℕ → ℕ → List ℕ → List ℕ
laid_image_3 deltas problem size image =
    gates_shut (1 + 2 * deltas) (lead_length 3 (length problem)) size (written_at 1 (head_bytes_3 deltas problem size) image)

abbrev pub created_image_3 : ℕ → List ℕ → ℕ → List ℕ → List ℕ
created_image_3 deltas problem size image = written_at 0 (165 ∷ []) (laid_image_3 deltas problem size (shut_first image))

-- and the first byte, opened
abbrev pub created_image : ℕ → List ℕ → ℕ → List ℕ → List ℕ
created_image version problem size image = written_at 0 (165 ∷ []) (laid_image version problem size (shut_first image))

-- no store, or the new one
abbrev pub EmptyOrWith : ℕ → ℕ → List ℕ → ℕ → List ℕ → List ℕ → Type 0
EmptyOrWith version deltas problem size old new = (stored new ≡ Empty) ⊎ (stored new ≡ Held (state_with version deltas problem size))

abbrev pub EmptyOrNew : ℕ → List ℕ → ℕ → List ℕ → List ℕ → Type 0
EmptyOrNew version = EmptyOrWith version 0
