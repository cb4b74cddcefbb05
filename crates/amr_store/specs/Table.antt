-- The table of a store's slots: two groups, each of a base and of the records behind it, so many in each. (profile)
use Rattle.std.specs.Prelude.{ℕ, zero, suc, ◌+◌, ◌*◌, ◌<◌, ◌≤◌, ◌≡◌, ◌≢◌, ◌==◌, nat_lt, Bool, true, false, not, ◌&&◌, ◌||◌, List, []}
use Rattle.std.specs.Prelude.{◌∷◌, ◌++◌, Option, Some, None, option_map, slice_index_or, if◌then◌else◌}
use Rattle.amr_store.specs.declared.slot.Slot.{Slot}

-- the first n values, in order
unfoldable pub table : {T : Type 0} → (ℕ → T) → ℕ → List T
table f zero = []
table f (suc n) = table f n ++ f n ∷ []

abbrev pub slot_count : ℕ → ℕ
slot_count deltas = 2 * (1 + deltas)

abbrev pub slot_at : List (Option Slot) → ℕ → Option Slot
slot_at slots k = slice_index_or slots k None

-- both slots are open with one sequence
abbrev pub is_tie : Option Slot → Option Slot → Bool
is_tie None second = false
is_tie (Some a) None = false
is_tie (Some a) (Some b) = a.sequence == b.sequence

-- the first of two bases holds the latest state
abbrev pub is_latest : Option Slot → Option Slot → Bool
is_latest None second = false
is_latest (Some a) None = true
is_latest (Some a) (Some b) = nat_lt b.sequence a.sequence

-- both bases are open with one sequence
unfoldable pub is_tied : ℕ → List (Option Slot) → Bool
is_tied deltas slots = is_tie (slot_at slots 0) (slot_at slots (1 + deltas))

-- the base that is written next
unfoldable pub next_base : ℕ → List (Option Slot) → ℕ
next_base deltas slots = if is_latest (slot_at slots 0) (slot_at slots (1 + deltas)) then 1 + deltas else 0

-- the base that holds the latest state, where a base is open
unfoldable pub latest_base : ℕ → List (Option Slot) → ℕ
latest_base deltas slots = if is_latest (slot_at slots 0) (slot_at slots (1 + deltas)) then 0 else 1 + deltas

abbrev pub sequence_in : Option Slot → Option ℕ
sequence_in slot = option_map (λ (s : Slot). s.sequence) slot

-- a payload that begins with this sequence
abbrev pub is_front : ℕ → Option ℕ → Bool
is_front sequence None = false
is_front sequence (Some front) = front == sequence

-- both slots are open, and the second stands on the first: its payload begins with the first one's sequence, and its own is greater
abbrev pub stands_on : Option Slot → Option Slot → Bool
stands_on None slot = false
stands_on (Some below) None = false
stands_on (Some below) (Some slot) = is_front below.sequence slot.front && nat_lt below.sequence slot.sequence

-- how many of the n slots behind slot k count, each by standing on the one before
unfoldable pub counting : List (Option Slot) → ℕ → ℕ → ℕ
counting slots zero k = 0
counting slots (suc n) k = if stands_on (slot_at slots k) (slot_at slots (k + 1)) then counting slots n (k + 1) + 1 else 0

-- how many records count behind the base that holds the latest state
abbrev pub chain_of : ℕ → List (Option Slot) → ℕ
chain_of deltas slots = counting slots deltas (latest_base deltas slots)

-- the last slot that counts, where a base is open, and its sequence
abbrev pub last_slot : ℕ → List (Option Slot) → ℕ
last_slot deltas slots = latest_base deltas slots + chain_of deltas slots

abbrev pub last_of : ℕ → List (Option Slot) → Option ℕ
last_of deltas slots = sequence_in (slot_at slots (last_slot deltas slots))

-- a sequence, or 0 where there is none
abbrev pub or_none : Option ℕ → ℕ
or_none None = 0
or_none (Some sequence) = sequence

abbrev pub is_base : ℕ → ℕ → Bool
is_base deltas k = (k == 0) || (k == 1 + deltas)

abbrev pub is_above : ℕ → Option ℕ → Bool
is_above last None = false
is_above last (Some front) = nat_lt last front

abbrev pub begins_above : ℕ → Option Slot → Bool
begins_above last None = false
begins_above last (Some slot) = is_above last slot.front

-- slot k is a record that stands on a sequence above the last one that counts
unfoldable pub is_stray : ℕ → List (Option Slot) → ℕ → Bool
is_stray deltas slots k = not (is_base deltas k) && begins_above (or_none (last_of deltas slots)) (slot_at slots k)

-- no record stands on a sequence above the last one that counts
pub record IsHarmless (deltas : ℕ) (slots : List (Option Slot)) : Type 0 where
  pub none : (k : ℕ) → k < slot_count deltas → is_stray deltas slots k ≡ false

-- records follow a base in version 3 alone: 1 to 7
pub record IsNumbered (version deltas : ℕ) : Type 0 where
  pub few : deltas ≤ 7
  pub some : version ≡ 3 → 0 < deltas
  pub none : version ≢ 3 → deltas ≡ 0

-- the bases are no tie, and no record stands on a sequence above the last one that counts
pub record AreSound (deltas : ℕ) (slots : List (Option Slot)) : Type 0 where
  pub apart : is_tied deltas slots ≡ false
  pub harmless : IsHarmless deltas slots

-- the slot of the next record: behind the last that counts, where there is room
pub record HasRoomFor (deltas : ℕ) (slots : List (Option Slot)) (k : ℕ) : Type 0 where
  pub place : k ≡ last_slot deltas slots + 1
  pub room : chain_of deltas slots < deltas

-- the first of the records that stand on a sequence above the last one, or that there is none
abbrev pub IsFirstStray : ℕ → List (Option Slot) → Option ℕ → Type 0
IsFirstStray deltas slots None = (k : ℕ) → k < slot_count deltas → is_stray deltas slots k ≡ false
IsFirstStray deltas slots (Some number) =
    (number < slot_count deltas) × ((k : ℕ) → k < number → is_stray deltas slots k ≡ false) × (is_stray deltas slots number ≡ true)
