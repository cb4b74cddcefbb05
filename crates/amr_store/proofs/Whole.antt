-- A store on which no test finds damage.
use Rattle.std.proofs.Common.{◌≡◌, inl, inr, ℕ, zero, suc, ◌+◌, ◌≤◌, ◌<◌, ◌^◌, nat_lt, Bool, true, false, not, List, [], ◌∷◌, ◌++◌, length, Some, None, refl, sym, ◌∙◌, ap, arith}
use Rattle.std.proofs.lemmas.Bool.{cases_Bool, ltb-true, ltb-false, le-ltb, or_parts, or_from, not-false, not_from_true}
use Rattle.amr_store.specs.declared.part.Part.{Part}
use Rattle.amr_store.specs.declared.part.Part.TheVariants.{Head, Text, Deltas, Size, Slot, Tie}
use Rattle.amr_store.specs.Layout.{size_of, text_length}
use Rattle.amr_store.specs.Stored.{tests, slot_tests, first_found, has_bad_deltas, deltas_of, count_of, gate_of, slots_of, is_broken}
use Rattle.amr_store.specs.Table.{table, is_tied, is_stray}

pub record Whole (has_magic : Bool) (image : List ℕ) : Type 0 where
  pub long : 21 ≤ length image
  pub magic : has_magic ≡ true
  pub text_fits : text_length image ≤ 65536
  pub text_whole : 21 + text_length image ≤ length image
  pub deltas : has_bad_deltas image ≡ false
  pub size_fits : size_of image ≤ 2 ^ 40
  pub slots : (k : ℕ) → k < count_of image → is_broken image (gate_of image k) (size_of image) ≡ false
  pub tie : is_tied (deltas_of image) (slots_of image) ≡ false
  pub harmless : (k : ℕ) → k < count_of image → is_stray (deltas_of image) (slots_of image) k ≡ false

-- no test of these finds damage
pub record NoneFound (rows : List (Bool × Part)) : Type 0 where
  pub none : first_found rows ≡ None

head_go : (test : Bool) (part : Part) (rest : List (Bool × Part)) → first_found ((test, part) ∷ rest) ≡ None → test ≡ false
head_go true part rest is = let no : Some part ≡ None = is in cc
head_go false part rest is = refl

rest_go : (test : Bool) (part : Part) (rest : List (Bool × Part)) → first_found ((test, part) ∷ rest) ≡ None → first_found rest ≡ None
rest_go true part rest is = let no : Some part ≡ None = is in cc
rest_go false part rest is = is

both_go : (test : Bool) (part : Part) (rest : List (Bool × Part)) → test ≡ false → first_found rest ≡ None → first_found ((test, part) ∷ rest) ≡ None
both_go true part rest passes is = let wrong : true ≡ false = passes in cc
both_go false part rest passes is = is

pub head_none : (test : Bool) (part : Part) (rest : List (Bool × Part)) → NoneFound ((test, part) ∷ rest) → test ≡ false
head_none test part rest found = head_go test part rest found.none

pub rest_none : (test : Bool) (part : Part) (rest : List (Bool × Part)) → NoneFound ((test, part) ∷ rest) → NoneFound rest
rest_none test part rest found = record { none = rest_go test part rest found.none }

pub both_none : (test : Bool) (part : Part) (rest : List (Bool × Part)) → test ≡ false → NoneFound rest → NoneFound ((test, part) ∷ rest)
both_none test part rest passes found = record { none = both_go test part rest passes found.none }

pub found_append : (front back : List (Bool × Part)) → first_found front ≡ None → first_found (front ++ back) ≡ first_found back
found_append [] back is = refl
found_append (row ∷ front) back is =
    let passes = head_go row.0 row.1 front is in
    rw passes (found_append front back (rest_go row.0 row.1 front is))

pub front_none : (front back : List (Bool × Part)) → first_found (front ++ back) ≡ None → first_found front ≡ None
front_none [] back is = refl
front_none (row ∷ front) back is =
    both_go row.0 row.1 front (head_go row.0 row.1 (front ++ back) is) (front_none front back (rest_go row.0 row.1 (front ++ back) is))

found_go : (test : Bool) (part p : Part) (front back : List (Bool × Part)) → (first_found front ≡ Some p → first_found (front ++ back) ≡ Some p)
    → first_found ((test, part) ∷ front) ≡ Some p → first_found ((test, part) ∷ (front ++ back)) ≡ Some p
found_go true part p front back rest is = is
found_go false part p front back rest is = rest is

pub front_found : (front back : List (Bool × Part)) (p : Part) → first_found front ≡ Some p → first_found (front ++ back) ≡ Some p
front_found [] back p is = let wrong : None ≡ Some p = is in cc
front_found (row ∷ front) back p is = found_go row.0 row.1 p front back (front_found front back p) is

one_none : (test : Bool) (part : Part) → test ≡ false → first_found ((test, part) ∷ []) ≡ None
one_none test part is = rw is refl

one_found : (test : Bool) (part : Part) → test ≡ true → first_found ((test, part) ∷ []) ≡ Some part
one_found test part is = rw is refl

-- rows of which each passes
pub rows_pass : (rows : ℕ → Bool × Part) (n : ℕ) → ((k : ℕ) → k < n → (rows k).0 ≡ false) → first_found (table rows n) ≡ None
unfolding table
rows_pass rows zero pass = refl
rows_pass rows (suc n) pass =
    found_append (table rows n) (rows n ∷ []) (rows_pass rows n (λ k lt. pass k (omega arith))) ∙ one_none (rows n).0 (rows n).1 (pass n (omega arith))

pub each_passes : (rows : ℕ → Bool × Part) (n : ℕ) → first_found (table rows n) ≡ None → (k : ℕ) → k < n → (rows k).0 ≡ false
unfolding table
each_passes rows zero none k lt = absurd (omega arith)
each_passes rows (suc n) none k lt =
    let front = front_none (table rows n) (rows n ∷ []) none in
    elim (cases_Bool (nat_lt k n)) [
      | inl early ↦ each_passes rows n front k (ltb-true k n early)
      | inr last ↦
          let here : k ≡ n = omega (arith, ltb-false k n last) in
          let back : first_found (rows n ∷ []) ≡ None = sym (found_append (table rows n) (rows n ∷ []) front) ∙ none in
          ap (λ (i : ℕ). (rows i).0) here ∙ head_go (rows n).0 (rows n).1 [] back
    ]

-- the first row that doesn't pass
pub row_found : (rows : ℕ → Bool × Part) (n k : ℕ) → k < n → ((j : ℕ) → j < k → (rows j).0 ≡ false) → (rows k).0 ≡ true → first_found (table rows n) ≡ Some (rows k).1
unfolding table
row_found rows zero k lt before is = absurd (omega arith)
row_found rows (suc n) k lt before is = elim (cases_Bool (nat_lt k n)) [
  | inl early ↦ front_found (table rows n) (rows n ∷ []) (rows k).1 (row_found rows n k (ltb-true k n early) before is)
  | inr last ↦
      let here : n ≡ k = omega (arith, ltb-false k n last) in
      found_append (table rows n) (rows n ∷ []) (rows_pass rows n (λ j below. before j (omega (arith, here))))
      ∙ ap (λ (i : ℕ). first_found (rows i ∷ [])) here ∙ one_found (rows k).0 (rows k).1 is
]

-- the test on a slot, with its number
unfoldable pub slot_row : List ℕ → ℕ → Bool × Part
slot_row image k = (is_broken image (gate_of image k) (size_of image), Slot k)

-- the test on a record, with its number
unfoldable pub stray_row : List ℕ → ℕ → Bool × Part
stray_row image k = (is_stray (deltas_of image) (slots_of image) k, Slot k)

abbrev pub slot_rows : List ℕ → List (Bool × Part)
slot_rows image = table (λ k. slot_row image k) (count_of image)

abbrev pub stray_rows : List ℕ → List (Bool × Part)
stray_rows image = table (λ k. stray_row image k) (count_of image)

abbrev pub tie_row : List ℕ → Bool × Part
tie_row image = (is_tied (deltas_of image) (slots_of image), Tie)

pub slot_tests_are : (image : List ℕ) → slot_tests image ≡ slot_rows image ++ tie_row image ∷ stray_rows image
unfolding slot_row stray_row
slot_tests_are image = refl

slots_sound : (image : List ℕ) → ((k : ℕ) → k < count_of image → is_broken image (gate_of image k) (size_of image) ≡ false) → first_found (slot_rows image) ≡ None
unfolding slot_row
slots_sound image sound = rows_pass (λ k. slot_row image k) (count_of image) sound

strays_pass : (image : List ℕ) → ((k : ℕ) → k < count_of image → is_stray (deltas_of image) (slots_of image) k ≡ false) → first_found (stray_rows image) ≡ None
unfolding stray_row
strays_pass image harmless = rows_pass (λ k. stray_row image k) (count_of image) harmless

-- the slots, where each is sound
pub after_slots : (image : List ℕ) → ((k : ℕ) → k < count_of image → is_broken image (gate_of image k) (size_of image) ≡ false) → first_found (slot_tests image) ≡ first_found (tie_row image ∷ stray_rows image)
after_slots image sound = ap first_found (slot_tests_are image) ∙ found_append (slot_rows image) (tie_row image ∷ stray_rows image) (slots_sound image sound)

pub slots_pass : (image : List ℕ) → ((k : ℕ) → k < count_of image → is_broken image (gate_of image k) (size_of image) ≡ false) → is_tied (deltas_of image) (slots_of image) ≡ false
    → ((k : ℕ) → k < count_of image → is_stray (deltas_of image) (slots_of image) k ≡ false) → first_found (slot_tests image) ≡ None
slots_pass image sound apart harmless = after_slots image sound ∙ both_go (is_tied (deltas_of image) (slots_of image)) Tie (stray_rows image) apart (strays_pass image harmless)

slots_each : (image : List ℕ) → first_found (slot_tests image) ≡ None → (k : ℕ) → k < count_of image → is_broken image (gate_of image k) (size_of image) ≡ false
unfolding slot_row
slots_each image none = each_passes (λ k. slot_row image k) (count_of image) (front_none (slot_rows image) (tie_row image ∷ stray_rows image) (sym (ap first_found (slot_tests_are image)) ∙ none))

tie_none : (image : List ℕ) → first_found (slot_tests image) ≡ None → first_found (tie_row image ∷ stray_rows image) ≡ None
tie_none image none = sym (after_slots image (slots_each image none)) ∙ none

tie_last : (image : List ℕ) → first_found (slot_tests image) ≡ None → is_tied (deltas_of image) (slots_of image) ≡ false
tie_last image none = head_go (is_tied (deltas_of image) (slots_of image)) Tie (stray_rows image) (tie_none image none)

strays_each : (image : List ℕ) → first_found (slot_tests image) ≡ None → (k : ℕ) → k < count_of image → is_stray (deltas_of image) (slots_of image) k ≡ false
unfolding stray_row
strays_each image none = each_passes (λ k. stray_row image k) (count_of image) (rest_go (is_tied (deltas_of image) (slots_of image)) Tie (stray_rows image) (tie_none image none))

whole_found : (has_magic : Bool) (image : List ℕ) → NoneFound (tests has_magic image) → Whole has_magic image
whole_found has_magic image none =
    let head = head_none _ _ _ none in
    let none_1 = rest_none _ _ _ none in
    let text = head_none _ _ _ none_1 in
    let none_2 = rest_none _ _ _ none_1 in
    let deltas = head_none _ _ _ none_2 in
    let none_3 = rest_none _ _ _ none_2 in
    let size = head_none _ _ _ none_3 in
    let none_4 = rest_none _ _ _ none_3 in
    record {
      long = ltb-false (length image) 21 (or_parts (nat_lt (length image) 21) (not has_magic) head).0;
      magic = not-false has_magic (or_parts (nat_lt (length image) 21) (not has_magic) head).1;
      text_fits = ltb-false 65536 (text_length image) (or_parts (nat_lt 65536 (text_length image)) (nat_lt (length image) (21 + text_length image)) text).0;
      text_whole = ltb-false (length image) (21 + text_length image) (or_parts (nat_lt 65536 (text_length image)) (nat_lt (length image) (21 + text_length image)) text).1;
      deltas = deltas;
      size_fits = ltb-false (2 ^ 40) (size_of image) size;
      slots = slots_each image none_4.none;
      tie = tie_last image none_4.none;
      harmless = strays_each image none_4.none;
    }

pub whole_of : (has_magic : Bool) (image : List ℕ) → first_found (tests has_magic image) ≡ None → Whole has_magic image
whole_of has_magic image none = whole_found has_magic image record { none = none }

pub tests_of : (has_magic : Bool) (image : List ℕ) → Whole has_magic image → first_found (tests has_magic image) ≡ None
tests_of has_magic image whole =
    let rows : NoneFound (tests has_magic image) =
    both_none _ Head _ (or_from (nat_lt (length image) 21) (not has_magic) (le-ltb (length image) 21 whole.long) (not_from_true has_magic whole.magic))
    (both_none _ Text _ (or_from (nat_lt 65536 (text_length image)) (nat_lt (length image) (21 + text_length image)) (le-ltb 65536 (text_length image) whole.text_fits) (le-ltb (length image) (21 + text_length image) whole.text_whole))
    (both_none _ Deltas _ whole.deltas
    (both_none _ Size _ (le-ltb (2 ^ 40) (size_of image) whole.size_fits)
    record { none = slots_pass image whole.slots whole.tie whole.harmless }))) in
    rows.none
