-- Worked images: a store of problem `p` (one byte) with slots of 2 bytes, so that the gates stand at 22 and 41 and the store ends at 60.
use Rattle.std.proofs.Common.{◌≡◌, ℕ, List, [], ◌∷◌, ◌++◌, replicate, take, Some, refl}
use Rattle.std.specs.Prelude.{codes}
use Rattle.std.specs.Int.{from_le_bytes, w64}
use Rattle.amr_store.specs.declared.part.Part.TheVariants.{Head, Text, Deltas, Slot}
use Rattle.amr_store.specs.Layout.{magic_1, magic_2, magic_3}
use Rattle.amr_store.specs.Stored.{Empty, Damaged, Held, stored}
use Rattle.amr_store.specs.Table.{table, is_tied, latest_base, counting, is_stray}

magic_1_is : magic_1 ≡ from_le_bytes w64 (codes "AMRSTOR1")
magic_1_is = refl

magic_2_is : magic_2 ≡ from_le_bytes w64 (codes "AMRSTOR2")
magic_2_is = refl

magic_3_is : magic_3 ≡ from_le_bytes w64 (codes "AMRSTOR3")
magic_3_is = refl

abbrev slot_1 : List ℕ
slot_1 = 165 ∷ (1 ∷ replicate 7 0) ++ (2 ∷ replicate 7 0) ++ (8 ∷ 9 ∷ [])

abbrev whole : List ℕ
whole = (165 ∷ codes "AMRSTOR1" ++ (2 ∷ replicate 7 0) ++ (1 ∷ 0 ∷ 0 ∷ 0 ∷ codes "p")) ++ slot_1 ++ 0 ∷ []

no_byte : stored [] ≡ Empty
unfolding table is_tied latest_base counting is_stray
no_byte = refl

one_open_byte : stored (165 ∷ []) ≡ Empty
unfolding table is_tied latest_base counting is_stray
one_open_byte = refl

open_byte_and_one : stored (165 ∷ 0 ∷ []) ≡ Damaged Head
unfolding table is_tied latest_base counting is_stray
open_byte_and_one = refl

cut_in_text : stored (take 21 whole) ≡ Damaged Text
unfolding table is_tied latest_base counting is_stray
cut_in_text = refl

cut_in_slot_0 : stored (take 40 whole) ≡ Damaged (Slot 0)
unfolding table is_tied latest_base counting is_stray
cut_in_slot_0 = refl

cut_before_gate_1 : stored (take 41 whole) ≡ Damaged (Slot 1)
unfolding table is_tied latest_base counting is_stray
cut_before_gate_1 = refl

held : stored whole ≡ Held record { version = 1; problem = codes "p"; slot_size = 2; deltas = 0; latest = Some record { sequence = 1; payload = 8 ∷ 9 ∷ [] }; records = [] }
unfolding table is_tied latest_base counting is_stray
held = refl

-- a store of version 3 with one record behind each base: a whole state of sequence 1 and a record of sequence 2 on it
abbrev record_2 : List ℕ
record_2 = 165 ∷ (2 ∷ replicate 7 0) ++ (9 ∷ replicate 7 0) ++ (1 ∷ replicate 7 0) ++ (5 ∷ [])

abbrev slot_1_of_9 : List ℕ
slot_1_of_9 = 165 ∷ (1 ∷ replicate 7 0) ++ (2 ∷ replicate 7 0) ++ (8 ∷ 9 ∷ replicate 7 0)

abbrev head_3 : List ℕ
head_3 = 165 ∷ codes "AMRSTOR3" ++ (9 ∷ replicate 7 0) ++ (1 ∷ 0 ∷ 0 ∷ 0 ∷ codes "p") ++ (1 ∷ [])

record_counts : stored (head_3 ++ slot_1_of_9 ++ record_2 ++ replicate 26 0 ++ 0 ∷ [])
    ≡ Held record { version = 3; problem = codes "p"; slot_size = 9; deltas = 1; latest = Some record { sequence = 1; payload = 8 ∷ 9 ∷ [] }; records = record { sequence = 2; payload = 1 ∷ replicate 7 0 ++ 5 ∷ [] } ∷ [] }
unfolding table is_tied latest_base counting is_stray
record_counts = refl

-- the number of records is missing
cut_before_number : stored (take 22 head_3) ≡ Damaged Deltas
unfolding table is_tied latest_base counting is_stray
cut_before_number = refl
