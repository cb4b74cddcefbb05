-- What the parts of a store read as, one after the other.
use Rattle.std.specs.Prelude.{ℕ, ◌≡◌, ◌+◌, ◌-◌, ◌<◌, ◌≤◌, ◌==◌, ◌^◌, min, nat_lt, ⊤, Bool, true, false, not, ◌&&◌, ◌||◌, List}
use Rattle.std.specs.Prelude.{◌∷◌, length, slice_index, slice_range, Option, Some, None, option_map, if◌then◌else◌}
use Rattle.amr_store.specs.declared.part.Part.{Part}
use Rattle.amr_store.specs.declared.part.Part.TheVariants.{Text, Deltas, Size}
use Rattle.amr_store.specs.declared.slot.Slot.{Slot as Entered}
use Rattle.amr_store.specs.declared.fields.SlotFound.{SlotFound}
use Rattle.amr_store.specs.declared.fields.SlotFound.TheVariants.{Sound, Broken}
use Rattle.amr_store.specs.declared.fields.Head.{Head}
use Rattle.amr_store.specs.Layout.{open_gate, magic_1, magic_2, magic_3, version_by, long_at, word_at, size_of, text_length}
use Rattle.amr_store.specs.Stored.{has_magic_1, has_magic_2, has_magic_3, has_bad_deltas, deltas_of, is_open}
use Rattle.amr_store.specs.Stored.{is_broken, entry_at, front_in, slot_of, slot_tests}

-- the first n bytes of a buffer are those from a place on, as many as there are
pub record IsRead (part : List ℕ) (at : ℕ) (into : List ℕ) (n : ℕ) : Type 0 where
  pub count : n ≡ min (length into) (length part - at)
  pub bytes : (i : ℕ) → i < n → slice_index into i ≡ slice_index part (at + i)

-- the version of a magic, of all three or of the second alone
abbrev pub version_read : Bool → ℕ → Option ℕ
version_read takes_all magic =
    if magic == magic_2 then Some 2
    else (if takes_all then (if magic == magic_1 then Some 1 else (if magic == magic_3 then Some 3 else None)) else None)

abbrev pub head_with : Option ℕ → ℕ → ℕ → Option Head
head_with None size text = None
head_with (Some version) size text = Some record { version = version; slot_size = size; text = text }

-- the head in a buffer of which n bytes were read
abbrev pub head_read : List ℕ → ℕ → Bool → Option Head
head_read bytes n takes_all = if nat_lt n 21 then None else head_with (version_read takes_all (long_at bytes 1)) (long_at bytes 9) (word_at bytes 17)

-- all magics count, or the second alone
abbrev pub magic_in : Bool → List ℕ → Bool
magic_in takes_all part = (takes_all && (has_magic_1 part || has_magic_3 part)) || has_magic_2 part

abbrev pub head_test : Bool → List ℕ → Bool
head_test takes_all part = nat_lt (length part) 21 || not (magic_in takes_all part)

-- what a head says
pub record SaysHead (head : Head) (part : List ℕ) : Type 0 where
  pub version_is : head.version ≡ version_by (long_at part 1)
  pub size_is : head.slot_size ≡ size_of part
  pub text_is : head.text ≡ text_length part

abbrev pub IsHeadOf : Option Head → Bool → List ℕ → Type 0
IsHeadOf None takes_all part = head_test takes_all part ≡ true
IsHeadOf (Some head) takes_all part = (head_test takes_all part ≡ false) × SaysHead head part

-- the number that a payload of this length begins with, in the buffer of its slot
abbrev pub front_read : List ℕ → ℕ → Option ℕ
front_read bytes count = if nat_lt count 8 then None else Some (long_at bytes 17)

-- the slot in a buffer of which n bytes were read, short of the rest of its payload
abbrev pub slot_read : List ℕ → ℕ → ℕ → SlotFound
slot_read bytes n size =
    if nat_lt n 1 then Broken
    else (if slice_index bytes 0 == open_gate
    then (if nat_lt n 17 then Broken
    else (if nat_lt size (long_at bytes 9) then Broken
    else (if long_at bytes 1 == 0 then Broken
    else Sound (Some record { sequence = long_at bytes 1; length = long_at bytes 9; front = front_read bytes (long_at bytes 9) }))))
    else Sound None)

abbrev pub IsWithin : SlotFound → ℕ → Type 0
IsWithin Broken size = ⊤
IsWithin (Sound None) size = ⊤
IsWithin (Sound (Some slot)) size = slot.length ≤ size

-- an open slot, of which the payload is not looked at
pub record IsOpened (slot : Entered) (part : List ℕ) (gate size : ℕ) : Type 0 where
  pub opened : is_open part gate ≡ true
  pub head : gate + 17 ≤ length part
  pub fits : slot.length ≤ size
  pub some : (slot.sequence == 0) ≡ false
  pub sequence_is : slot.sequence ≡ long_at part (gate + 1)
  pub length_is : slot.length ≡ long_at part (gate + 9)
  pub front_is : gate + 17 + slot.length ≤ length part → slot.front ≡ front_in (slice_range part (gate + 17) (gate + 17 + slot.length))

abbrev pub IsBegun : SlotFound → List ℕ → ℕ → ℕ → Type 0
IsBegun Broken part gate size = is_broken part gate size ≡ true
IsBegun (Sound None) part gate size = (is_broken part gate size ≡ false) × (entry_at part gate ≡ None)
IsBegun (Sound (Some slot)) part gate size = IsOpened slot part gate size

abbrev pub IsSlot : SlotFound → List ℕ → ℕ → ℕ → Type 0
IsSlot Broken part gate size = is_broken part gate size ≡ true
IsSlot (Sound slot) part gate size = (is_broken part gate size ≡ false) × (slot ≡ option_map slot_of (entry_at part gate))

-- the number of records behind a base in a buffer of which n bytes were read
abbrev pub deltas_read : List ℕ → ℕ → Option ℕ
deltas_read byte n =
    if nat_lt n 1 then None
    else (if slice_index byte 0 == 0 then None
    else (if nat_lt 7 (slice_index byte 0) then None
    else Some (slice_index byte 0)))

abbrev pub AreDeltas : Option ℕ → List ℕ → Type 0
AreDeltas None part = has_bad_deltas part ≡ true
AreDeltas (Some deltas) part = (has_bad_deltas part ≡ false) × (deltas ≡ deltas_of part)

-- the tests from the one on the number of records on
abbrev pub deltas_tests : List ℕ → List (Bool × Part)
deltas_tests part = (has_bad_deltas part, Deltas) ∷ (nat_lt (2 ^ 40) (size_of part), Size) ∷ slot_tests part

-- the tests on a store from the one on its text on
abbrev pub text_tests : List ℕ → List (Bool × Part)
text_tests part =
    (nat_lt 65536 (text_length part) || nat_lt (length part) (21 + text_length part), Text)
    ∷ deltas_tests part
