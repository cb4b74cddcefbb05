-- Where the fields of a store stand, counted from the store's first byte. All numbers are little-endian. (profile)
use Rattle.std.specs.Prelude.{ℕ, ◌+◌, ◌*◌, ◌==◌, List, drop, slice_range, if◌then◌else◌}
use Rattle.std.specs.Int.{from_le_bytes, w32, w64}

-- a gate is open where its byte is this one, and closed at any other
abbrev pub open_gate : ℕ
open_gate = 165

-- the bytes of AMRSTOR1, AMRSTOR2 and AMRSTOR3 as numbers
abbrev pub magic_1 : ℕ
magic_1 = 0x3152_4f54_5352_4d41

abbrev pub magic_2 : ℕ
magic_2 = 0x3252_4f54_5352_4d41

abbrev pub magic_3 : ℕ
magic_3 = 0x3352_4f54_5352_4d41

-- the version of a magic
abbrev pub version_by : ℕ → ℕ
version_by magic = if magic == magic_1 then 1 else (if magic == magic_3 then 3 else 2)

abbrev pub head_length : ℕ
head_length = 21

-- gate, sequence and length of a slot, before its payload
abbrev pub slot_head : ℕ
slot_head = 17

-- the numbers of eight and four bytes from a place on
abbrev pub long_at : List ℕ → ℕ → ℕ
long_at image place = from_le_bytes w64 (drop place image)

abbrev pub word_at : List ℕ → ℕ → ℕ
word_at image place = from_le_bytes w32 (drop place image)

abbrev pub size_of : List ℕ → ℕ
size_of image = long_at image 9

abbrev pub text_length : List ℕ → ℕ
text_length image = word_at image 17

abbrev pub problem_of : List ℕ → List ℕ
problem_of image = slice_range image head_length (head_length + text_length image)

-- what stands between the head and the first slot: the problem, and in version 3 a byte that tells how many records follow a base
abbrev pub lead_length : ℕ → ℕ → ℕ
lead_length version text = text + (if version == 3 then 1 else 0)

abbrev pub lead_of : List ℕ → ℕ
lead_of image = lead_length (version_by (long_at image 1)) (text_length image)

-- where the gate of a slot stands, by the lengths of what stands before the slots and of a slot
abbrev pub gate_at : ℕ → ℕ → ℕ → ℕ
gate_at k lead size = head_length + lead + k * (slot_head + size)

-- where a store of two slots ends, by the lengths of problem and slot
abbrev pub end_of : ℕ → ℕ → ℕ
end_of text size = head_length + text + 2 * (slot_head + size)
