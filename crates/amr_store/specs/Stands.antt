-- A store in memory, and the image that it stands for. (profile)
use Rattle.std.specs.Prelude.{ℕ, ◌≡◌, ◌<◌, ◌+◌, ◌⊎◌, Bool, true, false, List, [], ◌∷◌, ◌++◌, length, drop, Option, Some, None, IfSome, IsSome}
use Rattle.std.specs.Int.{to_le_bytes, w64}
use Rattle.amr_disk.specs.Image.{Only, written_at}
use Rattle.amr_store.specs.declared.put.Closed.{Closed}
use Rattle.amr_store.specs.declared.put.Filled.{Filled}
use Rattle.amr_store.specs.declared.slot.Slot.{Slot}
use Rattle.amr_store.specs.declared.store.Store.{Store}
use Rattle.amr_store.specs.Layout.{size_of, problem_of, lead_length, gate_at}
use Rattle.amr_store.specs.Stored.{Reads, IsFilled, front_in, state_of, slot_of, deltas_of, slots_of}
use Rattle.amr_store.specs.Table.{slot_count, slot_at, next_base, latest_base, sequence_in, is_base, chain_of, last_slot, last_of, HasRoomFor}

abbrev pub is_shut : Store → Bool
is_shut store = store.is_shut

-- the store, shut
abbrev pub shut_of : Store → Store
shut_of store = record store { is_shut = true }

abbrev pub version_in : Store → ℕ
version_in store = store.version

abbrev pub problem_in : Store → List ℕ
problem_in store = store.problem.items

abbrev pub slot_size_in : Store → ℕ
slot_size_in store = store.slot_size

abbrev pub base_in : Store → ℕ
base_in store = store.base

abbrev pub deltas_in : Store → ℕ
deltas_in store = store.deltas

abbrev pub slots_in : Store → List (Option Slot)
slots_in store = store.slots.items

abbrev pub slot_in : Store → ℕ → Option Slot
slot_in store k = slot_at (slots_in store) k

-- how many records count, and the last sequence that does
abbrev pub chain_in : Store → ℕ
chain_in store = chain_of (deltas_in store) (slots_in store)

abbrev pub last_in : Store → Option ℕ
last_in store = last_of (deltas_in store) (slots_in store)

-- the sequence of the latest whole state, at number 0, and of the record of this number that counts
abbrev pub counted_in : Store → ℕ → Option ℕ
counted_in store number = sequence_in (slot_in store (latest_base (deltas_in store) (slots_in store) + number))

-- the slot that the next put fills, the one that holds the latest whole state, the slot of the next record, and the place of a slot's gate on the disk
abbrev pub next_in : Store → ℕ
next_in store = next_base (deltas_in store) (slots_in store)

abbrev pub latest_slot_in : Store → ℕ
latest_slot_in store = latest_base (deltas_in store) (slots_in store)

abbrev pub next_record_in : Store → ℕ
next_record_in store = last_slot (deltas_in store) (slots_in store) + 1

abbrev pub lead_in : Store → ℕ
lead_in store = lead_length (version_in store) (length (problem_in store))

abbrev pub gate_in : Store → ℕ → ℕ
gate_in store k = base_in store + gate_at k (lead_in store) (slot_size_in store)

-- the store stands for the image: the image reads as a sound store, and what is known of it in memory is so
pub record Stands (store : Store) (image : List ℕ) : Type 0 where
  pub reads : Reads image (base_in store)
  pub version : version_in store ≡ (state_of (drop (base_in store) image)).version
  pub problem : problem_in store ≡ problem_of (drop (base_in store) image)
  pub slot_size : slot_size_in store ≡ size_of (drop (base_in store) image)
  pub deltas : deltas_in store ≡ deltas_of (drop (base_in store) image)
  pub slots : slots_in store ≡ slots_of (drop (base_in store) image)

-- a store that is not shut finds the disk as its last call left it: nothing is pending, and the store stands for what a read gives
pub record IsStoreReady {D : Type 0} (seen : D → Option (List ℕ)) (moment : D → ℕ) (leaves : D → ℕ → List ℕ → Type 0) (store : Store) (disk : D) : Type 0 where
  pub settled : is_shut store ≡ false → Only (seen disk) (leaves disk (moment disk))
  pub stands : is_shut store ≡ false → (s : List ℕ) → seen disk ≡ Some s → Stands store s

-- the bytes that the three steps of a put write
abbrev pub closing_chunk : Option Slot → List ℕ
closing_chunk None = []
closing_chunk (Some slot) = 0 ∷ []

abbrev pub closed_image : Store → ℕ → List ℕ → List ℕ
closed_image store which image = written_at (gate_in store which) (closing_chunk (slot_in store which)) image

abbrev pub filled_image : Store → ℕ → ℕ → List ℕ → List ℕ → List ℕ
filled_image store which sequence payload image =
    written_at (gate_in store which + 17) payload (written_at (gate_in store which + 1) (to_le_bytes w64 sequence ++ to_le_bytes w64 (length payload)) image)

abbrev pub opened_image : Store → ℕ → List ℕ → List ℕ
opened_image store which image = written_at (gate_in store which) (165 ∷ []) image

-- the bytes that a put writes, and no other: its three steps in turn
abbrev pub slot_image : Store → ℕ → ℕ → List ℕ → List ℕ → List ℕ
slot_image store which sequence payload image = opened_image store which (filled_image store which sequence payload (closed_image store which image))

abbrev pub put_image : Store → ℕ → List ℕ → List ℕ → List ℕ
put_image store = slot_image store (next_in store)

abbrev pub record_image : Store → ℕ → List ℕ → List ℕ → List ℕ
record_image store = slot_image store (next_record_in store)

-- the slot that a step of a put closed or filled, and what it was filled with
abbrev pub slot_closed : Closed → ℕ
slot_closed closed = closed.which

abbrev pub slot_filled : Filled → ℕ
slot_filled filled = filled.which

abbrev pub sequence_filled : Filled → ℕ
sequence_filled filled = filled.slot.sequence

abbrev pub front_filled : Filled → Option ℕ
front_filled filled = filled.slot.front

abbrev pub length_filled : Filled → ℕ
length_filled filled = filled.slot.length

-- what is known of the filled slot once it is open
abbrev pub opened_slot : Filled → Option Slot
opened_slot filled = Some filled.slot

-- what is known of the slot that a put filled
abbrev pub put_slot : ℕ → List ℕ → Option Slot
put_slot sequence payload = Some (slot_of record { sequence = sequence; payload = payload })

-- a store that is not shut: of this version, with this problem, slots of this size, and so many records behind a base
pub record IsStoreOf (version : ℕ) (problem : List ℕ) (size deltas : ℕ) (store : Store) : Type 0 where
  pub version_is : version_in store ≡ version
  pub problem_is : problem_in store ≡ problem
  pub size_is : slot_size_in store ≡ size
  pub deltas_is : deltas_in store ≡ deltas
  pub unshut : is_shut store ≡ false

-- the slot that is next: that of the next base, or that of the next record where there is room for one
abbrev pub IsNext : ℕ → Store → Type 0
IsNext which store = (which ≡ next_in store) ⊎ HasRoomFor (deltas_in store) (slots_in store) which

-- it is closed, in memory
pub record IsClosed (which : ℕ) (store : Store) : Type 0 where
  pub next : IsNext which store
  pub within : which < slot_count (deltas_in store)
  pub none : slot_in store which ≡ None

-- what may stand in the slot that is next: anything in a base, and in the slot of a record what begins with the last sequence
pub record MayStand (which : ℕ) (store : Store) (sequence : ℕ) (front : Option ℕ) : Type 0 where
  pub above : IfSome (last_in store) (λ last. last < sequence)
  pub on_last : is_base (deltas_in store) which ≡ false → (last : ℕ) × (last_in store ≡ Some last) × (front ≡ Some last)

-- a slot of the store is filled with this, behind its gate
abbrev pub IsFilledIn : ℕ → Store → List ℕ → ℕ → List ℕ → Type 0
IsFilledIn which store image sequence payload =
    IsFilled (drop (base_in store) image) (gate_at which (lead_in store) (slot_size_in store)) (slot_size_in store) sequence payload

-- a filled slot holds this payload, behind its gate
pub record HoldsFilled (filled : Filled) (store : Store) (image payload : List ℕ) : Type 0 where
  pub length_is : length payload ≡ length_filled filled
  pub front_is : front_in payload ≡ front_filled filled
  pub holds : IsFilledIn (slot_filled filled) store image (sequence_filled filled) payload

-- a record on the last sequence, where there is one
pub record IsOnLast (last : Option ℕ) (sequence : ℕ) (payload : List ℕ) : Type 0 where
  pub some : IsSome last
  pub above : IfSome last (λ l. l < sequence)
  pub begins : front_in payload ≡ last

-- what a put and each of its steps leave as it was
pub record SameStore (old new : Store) : Type 0 where
  pub version : version_in new ≡ version_in old
  pub problem : problem_in new ≡ problem_in old
  pub slot_size : slot_size_in new ≡ slot_size_in old
  pub base : base_in new ≡ base_in old
  pub deltas : deltas_in new ≡ deltas_in old
