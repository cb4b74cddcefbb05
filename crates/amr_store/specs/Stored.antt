-- What an image of the store's file holds: the first reading that applies, by the bytes alone. (profile)
use Rattle.std.specs.Prelude.{ℕ, ◌+◌, ◌^◌, ◌≡◌, ◌≤◌, ◌<◌, ◌⊎◌, ◌==◌, nat_le, nat_lt, Bool, true, false, not, ◌&&◌, ◌||◌, List, [], ◌∷◌, ◌++◌}
use Rattle.std.specs.Prelude.{length, drop, slice_index, slice_range, nat_eq, Option, Some, None, option_map, if◌then◌else◌}
use Rattle.amr_store.specs.declared.part.Part.{Part}
use Rattle.amr_store.specs.declared.part.Part.TheVariants.{Head, Text, Deltas, Size, Slot, Tie, Renewal}
use Rattle.std.specs.Cmp.Lexicographic.{pointwise}
use Rattle.amr_store.specs.declared.slot.Slot.{Slot as Known}
use Rattle.amr_store.specs.Layout.{open_gate, head_length, slot_head, long_at, magic_1, magic_2, magic_3, version_by}
use Rattle.amr_store.specs.Layout.{size_of, text_length, problem_of, lead_of, gate_at, end_of}
use Rattle.amr_store.specs.Table.{table, slot_count, is_tied, latest_base, chain_of, is_stray}

-- a state in a slot
pub record Entry : Type 0 where
  pub sequence : ℕ
  pub payload : List ℕ

-- what a store shows: its latest whole state is that of the greater sequence, and the records that count stand on it, each on the one before
pub record State : Type 0 where
  pub version : ℕ
  pub problem : List ℕ
  pub slot_size : ℕ
  pub deltas : ℕ
  pub latest : Option Entry
  pub records : List Entry

pub data Stored : Type 0 where
  Empty : Stored
  Damaged : (part : Part) → Stored
  Held : (state : State) → Stored

abbrev pub is_open : List ℕ → ℕ → Bool
is_open image gate = slice_index image gate == open_gate

-- the slot with its gate at this place: the gate lies past the end, or it is open and not whole, too long, or of sequence 0
abbrev pub is_broken : List ℕ → ℕ → ℕ → Bool
is_broken image gate size =
    nat_le (length image) gate
    || (is_open image gate
    && (nat_lt (length image) (gate + slot_head)
    || nat_lt size (long_at image (gate + 9))
    || nat_lt (length image) (gate + slot_head + long_at image (gate + 9))
    || (long_at image (gate + 1) == 0)))

-- what an unbroken slot holds
abbrev pub entry_at : List ℕ → ℕ → Option Entry
entry_at image gate =
    if is_open image gate
    then Some record { sequence = long_at image (gate + 1); payload = slice_range image (gate + slot_head) (gate + slot_head + long_at image (gate + 9)) }
    else None

-- the number in the first eight bytes of a payload
abbrev pub front_in : List ℕ → Option ℕ
front_in payload = if nat_lt (length payload) 8 then None else Some (long_at payload 0)

-- what a store knows of an entry
abbrev pub slot_of : Entry → Known
slot_of entry = record { sequence = entry.sequence; length = length entry.payload; front = front_in entry.payload }

abbrev pub has_magic_1 : List ℕ → Bool
has_magic_1 image = long_at image 1 == magic_1

abbrev pub has_magic_2 : List ℕ → Bool
has_magic_2 image = long_at image 1 == magic_2

abbrev pub has_magic_3 : List ℕ → Bool
has_magic_3 image = long_at image 1 == magic_3

abbrev pub is_known : List ℕ → Bool
is_known image = has_magic_1 image || has_magic_3 image || has_magic_2 image

-- how many records follow each base: none in versions 1 and 2
abbrev pub deltas_of : List ℕ → ℕ
deltas_of image = if has_magic_3 image then slice_index image (head_length + text_length image) else 0

abbrev pub count_of : List ℕ → ℕ
count_of image = slot_count (deltas_of image)

-- the gate of a slot, what it holds, and what is known of all slots
abbrev pub gate_of : List ℕ → ℕ → ℕ
gate_of image k = gate_at k (lead_of image) (size_of image)

abbrev pub entry_of : List ℕ → ℕ → Option Entry
entry_of image k = entry_at image (gate_of image k)

abbrev pub known_of : List ℕ → ℕ → Option Known
known_of image k = option_map slot_of (entry_of image k)

abbrev pub slots_of : List ℕ → List (Option Known)
slots_of image = table (λ k. known_of image k) (count_of image)

-- the latest whole state, where a base is open
abbrev pub latest_base_of : List ℕ → ℕ
latest_base_of image = latest_base (deltas_of image) (slots_of image)

abbrev pub latest_entry : List ℕ → Option Entry
latest_entry image = entry_of image (latest_base_of image)

-- the values that are there, in order
abbrev pub somes : {T : Type 0} → List (Option T) → List T
somes [] = []
somes (None ∷ rest) = somes rest
somes (Some x ∷ rest) = x ∷ somes rest

-- the records that count behind it, in order
abbrev pub records_of : List ℕ → List Entry
records_of image = somes (table (λ j. entry_of image (latest_base_of image + 1 + j)) (chain_of (deltas_of image) (slots_of image)))

-- in version 3: the number of records behind a base is missing, or 0, or more than 7
abbrev pub has_bad_deltas : List ℕ → Bool
has_bad_deltas image = has_magic_3 image && (nat_le (length image) (head_length + text_length image) || (deltas_of image == 0) || nat_lt 7 (deltas_of image))

-- the tests on the slots: each by itself, then the bases together, then each record on the sequence that it stands on
abbrev pub slot_tests : List ℕ → List (Bool × Part)
slot_tests image =
    table (λ k. (is_broken image (gate_of image k) (size_of image), Slot k)) (count_of image)
    ++ (is_tied (deltas_of image) (slots_of image), Tie)
    ∷ table (λ k. (is_stray (deltas_of image) (slots_of image) k, Slot k)) (count_of image)

-- the tests on a store that begins at the first byte, in their order, each with the part that it finds damaged
abbrev pub tests : Bool → List ℕ → List (Bool × Part)
tests has_magic image =
    (nat_lt (length image) head_length || not has_magic, Head)
    ∷ (nat_lt 65536 (text_length image) || nat_lt (length image) (head_length + text_length image), Text)
    ∷ (has_bad_deltas image, Deltas)
    ∷ (nat_lt (2 ^ 40) (size_of image), Size)
    ∷ slot_tests image

-- where the store ends
abbrev pub end_in : List ℕ → ℕ
end_in image = end_of (text_length image) (size_of image)

-- a version 1 store was renewed: an open gate follows its end, and more
abbrev pub is_renewed : List ℕ → Bool
is_renewed image = has_magic_1 image && nat_lt (end_in image + 1) (length image) && is_open image (end_in image)

-- the store that counts begins at this place
abbrev pub base_of : List ℕ → ℕ
base_of image = if is_renewed image then end_in image else 0

-- the further tests where the store was renewed: those on the new store, and that it holds the same problem
abbrev pub renewal_tests : List ℕ → List (Bool × Part)
renewal_tests image =
    if is_renewed image
    then tests (has_magic_2 (drop (end_in image) image)) (drop (end_in image) image)
    ++ (not (pointwise nat_eq (problem_of (drop (end_in image) image)) (problem_of image)), Renewal) ∷ []
    else []

-- the first part that is damaged
abbrev pub first_found : List (Bool × Part) → Option Part
first_found [] = None
first_found (test ∷ rest) = if test.0 then Some test.1 else first_found rest

abbrev pub damage_in : List ℕ → Option Part
damage_in image = first_found (tests (is_known image) image ++ renewal_tests image)

-- what a store that begins at the first byte shows
abbrev pub state_of : List ℕ → State
state_of image = record {
  version = version_by (long_at image 1);
  problem = problem_of image;
  slot_size = size_of image;
  deltas = deltas_of image;
  latest = latest_entry image;
  records = records_of image;
}

-- no store was made
abbrev pub is_empty : List ℕ → Bool
is_empty image = nat_le (length image) 1 || not (is_open image 0)

abbrev pub judged : Bool → Option Part → State → Stored
judged true damage state = Empty
judged false (Some part) state = Damaged part
judged false None state = Held state

abbrev pub stored : List ℕ → Stored
stored image = judged (is_empty image) (damage_in image) (state_of (drop (base_of image) image))

-- the image holds a sound store, which begins at this base
pub record Reads (image : List ℕ) (base : ℕ) : Type 0 where
  pub held : is_empty image ≡ false
  pub sound : damage_in image ≡ None
  pub base_is : base_of image ≡ base

-- a slot that was filled behind its closed gate
pub record IsFilled (image : List ℕ) (gate size sequence : ℕ) (payload : List ℕ) : Type 0 where
  pub whole : gate + 17 + length payload ≤ length image
  pub fits : length payload ≤ size
  pub some : 0 < sequence
  pub sequence_is : long_at image (gate + 1) ≡ sequence
  pub length_is : long_at image (gate + 9) ≡ length payload
  pub payload_is : slice_range image (gate + 17) (gate + 17 + length payload) ≡ payload

-- what a store shows once this is in its next slot: a base holds the latest whole state, on which no record stands, and any other slot one record more
abbrev pub put_in : Bool → State → Entry → State
put_in true state entry = record state { latest = Some entry; records = [] }
put_in false state entry = record state { records = state.records ++ entry ∷ [] }

abbrev pub with_put : Bool → Stored → ℕ → List ℕ → Stored
with_put base (Held state) sequence payload = Held (put_in base state record { sequence = sequence; payload = payload })
with_put base Empty sequence payload = Empty
with_put base (Damaged part) sequence payload = Damaged part

abbrev pub with_latest : Stored → ℕ → List ℕ → Stored
with_latest = with_put true

abbrev pub with_record : Stored → ℕ → List ℕ → Stored
with_record = with_put false

-- an image that holds what the one before it held, and one that holds that or has this state as its latest
abbrev pub SameStored : List ℕ → List ℕ → Type 0
SameStored old new = stored new ≡ stored old

abbrev pub SameOr : Bool → ℕ → List ℕ → List ℕ → List ℕ → Type 0
SameOr base sequence payload old new = (stored new ≡ stored old) ⊎ (stored new ≡ with_put base (stored old) sequence payload)

abbrev pub SameOrPut : ℕ → List ℕ → List ℕ → List ℕ → Type 0
SameOrPut = SameOr true

abbrev pub SameOrRecorded : ℕ → List ℕ → List ℕ → List ℕ → Type 0
SameOrRecorded = SameOr false
