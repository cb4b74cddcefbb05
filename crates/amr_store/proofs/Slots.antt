-- A slot of an image that differs from another.
use Rattle.std.proofs.Common.{◌≡◌, ℕ, ◌+◌, ◌≤◌, ◌<◌, nat_le, nat_lt, ◌==◌, Bool, true, false, ◌&&◌, ◌||◌, List, length, Some, None, inl, inr, refl, sym, ◌∙◌, ap, arith}
use Rattle.std.proofs.lemmas.Bool.{cases_Bool, ltb-false, le-ltb, leb-false, lt-leb, or_parts, or_from, and_left, and_right}
use Rattle.std.specs.Prelude.{slice_index, slice_range}
use Rattle.amr_store.proofs.Places.{long_same, range_same}
use Rattle.amr_store.specs.Layout.{open_gate, long_at}
use Rattle.amr_store.specs.Stored.{is_open, is_broken, entry_at, Entry}

-- what an open slot has that is not broken
pub record IsFull (image : List ℕ) (gate size : ℕ) : Type 0 where
  pub head : gate + 17 ≤ length image
  pub fits : long_at image (gate + 9) ≤ size
  pub whole : gate + 17 + long_at image (gate + 9) ≤ length image
  pub some : (long_at image (gate + 1) == 0) ≡ false

pub gate_within : (image : List ℕ) (gate size : ℕ) → is_broken image gate size ≡ false → gate < length image
gate_within image gate size sound = leb-false (length image) gate (or_parts _ _ sound).0

pub second_false : (a b : Bool) → a ≡ true → (a && b) ≡ false → b ≡ false
second_false true b is none = none
second_false false b is none = let no : false ≡ true = is in cc

pub full_of : (image : List ℕ) (gate size : ℕ) → is_broken image gate size ≡ false → is_open image gate ≡ true → IsFull image gate size
full_of image gate size sound open_is =
    let tests = second_false (is_open image gate) _ open_is (or_parts (nat_le (length image) gate) _ sound).1 in
    let three = (or_parts _ (long_at image (gate + 1) == 0) tests).0 in
    let two = (or_parts (nat_lt (length image) (gate + 17) || nat_lt size (long_at image (gate + 9))) (nat_lt (length image) (gate + 17 + long_at image (gate + 9))) three).0 in
    record {
      head = ltb-false (length image) (gate + 17) (or_parts _ (nat_lt size (long_at image (gate + 9))) two).0;
      fits = ltb-false size (long_at image (gate + 9)) (or_parts (nat_lt (length image) (gate + 17)) _ two).1;
      whole = ltb-false (length image) (gate + 17 + long_at image (gate + 9)) (or_parts (nat_lt (length image) (gate + 17) || nat_lt size (long_at image (gate + 9))) _ three).1;
      some = (or_parts _ (long_at image (gate + 1) == 0) tests).1;
    }

pub sound_full : (image : List ℕ) (gate size : ℕ) → IsFull image gate size → is_broken image gate size ≡ false
sound_full image gate size full =
    or_from (nat_le (length image) gate) _ (lt-leb (length image) gate (omega (arith, full.head)))
    (and_right (is_open image gate) _
    (or_from _ (long_at image (gate + 1) == 0)
    (or_from (nat_lt (length image) (gate + 17) || nat_lt size (long_at image (gate + 9))) (nat_lt (length image) (gate + 17 + long_at image (gate + 9)))
    (or_from (nat_lt (length image) (gate + 17)) (nat_lt size (long_at image (gate + 9))) (le-ltb (length image) (gate + 17) full.head) (le-ltb size (long_at image (gate + 9)) full.fits))
    (le-ltb (length image) (gate + 17 + long_at image (gate + 9)) full.whole))
    full.some))

pub sound_closed : (image : List ℕ) (gate size : ℕ) → gate < length image → is_open image gate ≡ false → is_broken image gate size ≡ false
sound_closed image gate size within closed = or_from (nat_le (length image) gate) _ (lt-leb (length image) gate within) (and_left (is_open image gate) _ closed)

pub entry_closed : (image : List ℕ) (gate : ℕ) → is_open image gate ≡ false → entry_at image gate ≡ None
entry_closed image gate closed = rw closed refl

pub entry_open : (image : List ℕ) (gate : ℕ) → is_open image gate ≡ true → entry_at image gate ≡ Some record { sequence = long_at image (gate + 1); payload = slice_range image (gate + 17) (gate + 17 + long_at image (gate + 9)) }
entry_open image gate open_is = rw open_is refl

pub record SlotKept (old new : List ℕ) (gate size : ℕ) : Type 0 where
  pub sound : is_broken new gate size ≡ false
  pub entry : entry_at new gate ≡ entry_at old gate

-- a slot whose bytes are the same
pub slot_kept : (old new : List ℕ) (gate size : ℕ) → length old ≤ length new → ((i : ℕ) → i < length old → gate ≤ i → i < gate + 17 + size → slice_index new i ≡ slice_index old i)
    → is_broken old gate size ≡ false → SlotKept old new gate size
slot_kept old new gate size longer same sound = elim (cases_Bool (is_open old gate)) [
  | inl open_is ↦
      let full = full_of old gate size sound open_is in
      let opens : is_open new gate ≡ true = still ∙ open_is in
      let sequence : long_at new (gate + 1) ≡ long_at old (gate + 1) = long_same old new (gate + 1) (λ i lt. same (gate + 1 + i) (omega (arith, full.head)) (omega arith) (omega arith)) in
      let count : long_at new (gate + 9) ≡ long_at old (gate + 9) = long_same old new (gate + 9) (λ i lt. same (gate + 9 + i) (omega (arith, full.head)) (omega arith) (omega arith)) in
      let payload : slice_range new (gate + 17) (gate + 17 + long_at old (gate + 9)) ≡ slice_range old (gate + 17) (gate + 17 + long_at old (gate + 9)) =
      range_same old new (gate + 17) (gate + 17 + long_at old (gate + 9)) full.whole (omega (arith, full.whole, longer)) (λ i from to. same i (omega (arith, full.whole)) (omega arith) (omega (arith, full.fits))) in
      record {
        sound = sound_full new gate size record {
          head = omega (arith, full.head, longer);
          fits = omega (arith, full.fits, count);
          whole = omega (arith, full.whole, longer, count);
          some = ap (λ (n : ℕ). n == 0) sequence ∙ full.some;
        };
        entry = entry_open new gate opens ∙ entry_same _ _ _ _ sequence (ap (λ (n : ℕ). slice_range new (gate + 17) (gate + 17 + n)) count ∙ payload) ∙ sym (entry_open old gate open_is);
      }
  | inr shut ↦
      let closed : is_open new gate ≡ false = still ∙ shut in
      record {
        sound = sound_closed new gate size (omega (arith, longer, gate_within old gate size sound)) closed;
        entry = entry_closed new gate closed ∙ sym (entry_closed old gate shut);
      }
]
  where
    still : is_open new gate ≡ is_open old gate
    still = ap (λ (n : ℕ). n == open_gate) (same gate (gate_within old gate size sound) (omega arith) (omega arith))

    made : ℕ → List ℕ → Entry
    made q p = record { sequence = q; payload = p }

    entry_same : (q q' : ℕ) (p p' : List ℕ) → q ≡ q' → p ≡ p' → Some (made q p) ≡ Some (made q' p')
    entry_same q q' p p' e f = cc
