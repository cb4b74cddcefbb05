-- A store of version 1, and the store of version 2 that renews it. (profile)
use Rattle.std.specs.Prelude.{ℕ, ◌≡◌, ◌+◌, ◌<◌, ◌⊎◌, nat_lt, true, false, slice_index, slice_range, List}
use Rattle.std.specs.Prelude.{[], ◌∷◌, ◌++◌, length, drop, Some, None, if◌then◌else◌}
use Rattle.std.specs.Int.{to_le_bytes, w64}
use Rattle.amr_disk.specs.Image.{written_at}
use Rattle.amr_store.specs.Created.{head_bytes}
use Rattle.amr_store.specs.Layout.{magic_2, long_at, word_at, size_of, problem_of, gate_at}
use Rattle.amr_store.specs.Stored.{State, Held, Reads, IsFilled, has_magic_1, is_open, is_renewed, end_in, state_of, slot_of, deltas_of, slots_of, stored}

-- what a renewed store shows
abbrev pub renewed_state : List ℕ → ℕ → ℕ → List ℕ → State
renewed_state problem size sequence payload =
    record { version = 2; problem = problem; slot_size = size; deltas = 0; latest = Some record { sequence = sequence; payload = payload }; records = [] }

-- all of a store of version 2 behind its gate, up to its second slot, with a state in its first slot
abbrev pub renewal_bytes : List ℕ → ℕ → ℕ → List ℕ → List ℕ
renewal_bytes problem size sequence payload = head_bytes 165 2 problem size ++ (to_le_bytes w64 sequence ++ to_le_bytes w64 (length payload)) ++ payload

-- a store of version 1 that ends at this place, and was not renewed
pub record IsOld (end : ℕ) (problem : List ℕ) (image : List ℕ) : Type 0 where
  pub reads : Reads image 0
  pub one : has_magic_1 image ≡ true
  pub plain : is_renewed image ≡ false
  pub end_is : end_in image ≡ end
  pub problem_is : problem_of image ≡ problem

-- the same, with a closed byte where it ends
pub record IsOldShut (end : ℕ) (problem : List ℕ) (image : List ℕ) : Type 0 where
  pub old : IsOld end problem image
  pub here : end < length image
  pub shut : is_open image end ≡ false

-- behind its first byte the part is a store of version 2 with this state
pub record IsRenewal (problem : List ℕ) (size sequence : ℕ) (payload part : List ℕ) : Type 0 where
  pub long : gate_at 1 (length problem) size < length part
  pub magic : long_at part 1 ≡ magic_2
  pub size_is : long_at part 9 ≡ size
  pub text_is : word_at part 17 ≡ length problem
  pub problem_is : slice_range part 21 (21 + length problem) ≡ problem
  pub opened_0 : slice_index part (gate_at 0 (length problem) size) ≡ 165
  pub filled : IsFilled part (gate_at 0 (length problem) size) size sequence payload
  pub shut_1 : slice_index part (gate_at 1 (length problem) size) ≡ 0

-- the renewed store, which begins where the old one ends
pub record IsRenewed (end : ℕ) (problem : List ℕ) (size sequence : ℕ) (payload image : List ℕ) : Type 0 where
  pub reads : Reads image end
  pub version_is : (state_of (drop end image)).version ≡ 2
  pub deltas_is : deltas_of (drop end image) ≡ 0
  pub problem_is : problem_of (drop end image) ≡ problem
  pub size_is : size_of (drop end image) ≡ size
  pub slots_is : slots_of (drop end image) ≡ Some (slot_of record { sequence = sequence; payload = payload }) ∷ None ∷ []
  pub stored_as : stored image ≡ Held (renewed_state problem size sequence payload)

-- the bytes that a renewal writes, and no other: a closed byte past the old store's end, where there is none or it is the last one
abbrev pub shut_past : ℕ → List ℕ → List ℕ
shut_past end image = if nat_lt (end + 1) (length image) then image else written_at end (0 ∷ []) image

-- the new store behind it with its state, the closed gate of its second slot, and the first byte, opened
abbrev pub renewed_image : ℕ → List ℕ → ℕ → ℕ → List ℕ → List ℕ → List ℕ
renewed_image end problem size sequence payload image =
    written_at end (165 ∷ []) (written_at (end + gate_at 1 (length problem) size) (0 ∷ [])
    (written_at (end + 1) (renewal_bytes problem size sequence payload) (shut_past end image)))

-- what was stored, or the new store with the new state
abbrev pub SameOrRenewed : List ℕ → ℕ → ℕ → List ℕ → List ℕ → List ℕ → Type 0
SameOrRenewed problem size sequence payload old new = (stored new ≡ stored old) ⊎ (stored new ≡ Held (renewed_state problem size sequence payload))
