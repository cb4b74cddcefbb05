-- What stands where a chunk was written.
use Rattle.std.proofs.Common.{◌≡◌, ℕ, ◌+◌, ◌-◌, ◌≤◌, ◌<◌, ◌^◌, List, [], ◌∷◌, ◌++◌, length, take, drop, replicate, refl, sym, ◌∙◌, ap, arith, length-append, length-drop}
use Rattle.std.proofs.lemmas.Grind.{common_steps}
use Rattle.std.proofs.lemmas.List.{get_or-drop, get_or-take, get_or_append_left, get_or-append-add}
use Rattle.std.proofs.lemmas.Nat.{from_le_bytes-to_le_bytes_8}
use Rattle.std.specs.Int.{from_le_bytes, to_le_bytes, w64}
use Rattle.std.specs.Prelude.{slice_index, slice_range}
use Rattle.amr_disk.specs.Image.{Torn, written_at}
use Rattle.amr_disk.specs.Replay.{torn_written}
use Rattle.amr_store.specs.Stored.{IsFilled}
use Rattle.amr_store.specs.Layout.{long_at}
use Rattle.amr_store.proofs.Places.{same_lists}

-- the length of a range
pub range_length : (xs : List ℕ) (a n : ℕ) → a + n ≤ length xs → length (slice_range xs a (a + n)) ≡ n
range_length xs a n within = grind (arith, common_steps)

front_length : (gap at : ℕ) (old : List ℕ) → length (take at old ++ replicate (at - length old) gap) ≡ at
front_length gap at old = grind (arith, common_steps)

index_placed : (gap at i : ℕ) (bytes old : List ℕ) → i < length bytes → slice_index (take at old ++ replicate (at - length old) gap ++ bytes ++ drop (at + length bytes) old) (at + i) ≡ slice_index bytes i
index_placed gap at i bytes old lt =
    let front = take at old ++ replicate (at - length old) gap in
    let size : length front ≡ at = front_length gap at old in
    get_or_append_left (front ++ bytes) (drop (at + length bytes) old) 0 (at + i) (omega (arith, length-append front bytes, size))
    ∙ ap (λ (n : ℕ). slice_index (front ++ bytes) (n + i)) (sym size) ∙ get_or-append-add front bytes i 0

pub written_index : (at i : ℕ) (bytes old : List ℕ) → i < length bytes → slice_index (written_at at bytes old) (at + i) ≡ slice_index bytes i
written_index at i [] old lt = absurd (omega arith)
written_index at i (b ∷ bs) old lt = index_placed 0 at i (b ∷ bs) old lt

length_placed : (gap at : ℕ) (bytes old : List ℕ) → at + length bytes ≤ length (take at old ++ replicate (at - length old) gap ++ bytes ++ drop (at + length bytes) old)
length_placed gap at bytes old = grind (arith, common_steps)

pub written_length : (at : ℕ) (bytes old : List ℕ) → 0 < length bytes → at + length bytes ≤ length (written_at at bytes old)
written_length at [] old some = absurd (omega arith)
written_length at (b ∷ bs) old some = length_placed 0 at (b ∷ bs) old

pub written_byte : (at b : ℕ) (old : List ℕ) → slice_index (written_at at (b ∷ []) old) at ≡ b
written_byte at b old = ap (λ (n : ℕ). slice_index (written_at at (b ∷ []) old) n) plus ∙ written_index at 0 (b ∷ []) old (omega arith)
  where
    plus : at ≡ at + 0
    plus = omega arith

-- a number whose eight bytes these are
pub long_from : (image : List ℕ) (p n : ℕ) → n < 2 ^ 64 → ((i : ℕ) → i < 8 → slice_index image (p + i) ≡ slice_index (to_le_bytes w64 n) i) → long_at image p ≡ n
long_from image p n fits same =
    let at : (i : ℕ) → i < 8 → slice_index (drop p image) i ≡ slice_index (to_le_bytes w64 n) i = λ i lt. get_or-drop p image i 0 ∙ same i lt in
    let read : long_at image p ≡ from_le_bytes w64 (to_le_bytes w64 n) = rw (at 0 (omega arith), at 1 (omega arith), at 2 (omega arith), at 3 (omega arith), at 4 (omega arith), at 5 (omega arith), at 6 (omega arith), at 7 (omega arith)) refl in
    read ∙ from_le_bytes-to_le_bytes_8 n fits

-- a range that spells this list
pub range_is : (image : List ℕ) (a : ℕ) (bytes : List ℕ) → a + length bytes ≤ length image → ((i : ℕ) → i < length bytes → slice_index image (a + i) ≡ slice_index bytes i) → slice_range image a (a + length bytes) ≡ bytes
range_is image a bytes whole same =
    let width : a + length bytes - a ≡ length bytes = omega arith in
    let size : length (slice_range image a (a + length bytes)) ≡ length bytes = grind (arith, common_steps) in
    same_lists (slice_range image a (a + length bytes)) bytes size
    (λ i lt. get_or-take (a + length bytes - a) (drop a image) i 0 (omega arith) ∙ get_or-drop a image i 0 ∙ same i lt)

-- what stands in a range
pub range_index : (image : List ℕ) (a m i : ℕ) → i < m → a + m ≤ length image → slice_index (slice_range image a (a + m)) i ≡ slice_index image (a + i)
range_index image a m i lt within = get_or-take (a + m - a) (drop a image) i 0 (omega arith) ∙ get_or-drop a image i 0

-- the head of a slot: its sequence and the length of its payload
pub record IsSlotHead (head : List ℕ) (sequence count : ℕ) : Type 0 where
  pub size : length head ≡ 16
  pub low : (i : ℕ) → i < 8 → slice_index head i ≡ slice_index (to_le_bytes w64 sequence) i
  pub high : (i : ℕ) → i < 8 → slice_index head (8 + i) ≡ slice_index (to_le_bytes w64 count) i

pub slot_head_is : (head : List ℕ) (q n : ℕ) → head ≡ to_le_bytes w64 q ++ to_le_bytes w64 n → IsSlotHead head q n
slot_head_is head q n is = record {
  size = ap (λ (l : List ℕ). length l) is;
  low = λ i lt. ap (λ (l : List ℕ). slice_index l i) is ∙ get_or_append_left (to_le_bytes w64 q) (to_le_bytes w64 n) 0 i lt;
  high = λ i lt. ap (λ (l : List ℕ). slice_index l (8 + i)) is ∙ get_or-append-add (to_le_bytes w64 q) (to_le_bytes w64 n) i 0;
}

ends_past : (at : ℕ) (payload mid : List ℕ) → at ≤ length mid → at + length payload ≤ length (written_at at payload mid)
ends_past at [] mid within = omega arith
ends_past at (b ∷ bs) mid within = written_length at (b ∷ bs) mid (omega arith)

-- what a slot holds whose head and payload were written one after the other
pub filled_written : (s head : List ℕ) (base gate size q : ℕ) (payload : List ℕ) → IsSlotHead head q (length payload) → length payload ≤ size → 0 < q → q < 2 ^ 64 → length payload < 2 ^ 64
    → IsFilled (drop base (written_at (base + gate + 17) payload (written_at (base + gate + 1) head s))) gate size q payload
filled_written s head base gate size q payload is fits some small short =
    let mid = written_at (base + gate + 1) head s in
    let after = written_at (base + gate + 17) payload mid in
    let second : Torn (base + gate + 17) (length payload) mid after = torn_written (base + gate + 17) payload mid in
    let long : base + gate + 1 + 16 ≤ length mid = omega (arith, written_length (base + gate + 1) head s (omega (arith, is.size)), is.size) in
    let ends : base + gate + 17 + length payload ≤ length after = ends_past (base + gate + 17) payload mid (omega arith) in
    let at : (i : ℕ) → i < 16 → slice_index (drop base after) (gate + 1 + i) ≡ slice_index head i = λ i lt.
    get_or-drop base after (gate + 1 + i) 0
    ∙ ap (λ (n : ℕ). slice_index after n) (sums i)
    ∙ second.below (base + gate + 1 + i) (omega (arith, long)) (omega arith)
    ∙ written_index (base + gate + 1) i head s (omega (arith, is.size)) in
    record {
      whole = omega (arith, length-drop base after, ends);
      fits = fits;
      some = some;
      sequence_is = long_from (drop base after) (gate + 1) q small (λ i lt. at i (omega arith) ∙ is.low i lt);
      length_is = long_from (drop base after) (gate + 9) (length payload) short (λ i lt. ap (λ (n : ℕ). slice_index (drop base after) n) (later i) ∙ at (8 + i) (omega arith) ∙ is.high i lt);
      payload_is = range_is (drop base after) (gate + 17) payload (omega (arith, length-drop base after, ends))
          (λ i lt. get_or-drop base after (gate + 17 + i) 0 ∙ ap (λ (n : ℕ). slice_index after n) (payload_sums i) ∙ written_index (base + gate + 17) i payload mid lt);
    }
  where
    sums : (i : ℕ) → base + (gate + 1 + i) ≡ base + gate + 1 + i
    sums i = omega arith

    payload_sums : (i : ℕ) → base + (gate + 17 + i) ≡ base + gate + 17 + i
    payload_sums i = omega arith

    later : (i : ℕ) → gate + 9 + i ≡ gate + 1 + (8 + i)
    later i = omega arith
