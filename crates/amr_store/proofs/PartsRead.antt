-- What the parts of a store say that were read.
use Rattle.std.proofs.Common.{◌≡◌, inl, inr, ℕ, ◌+◌, ◌≤◌, ◌<◌, ◌==◌, nat_le, nat_lt, Bool, true, false, not, ◌&&◌, ◌||◌, List, [], ◌∷◌, ◌++◌, length, drop, Option, Some, None, refl, sym, ◌∙◌, ap, subst, arith, ap₂}
use Rattle.std.proofs.lemmas.Bool.{cases_Bool, ltb-true, ltb-false, lt-ltb, le-ltb, le-leb, or_from, or_left, or_right, not_from_false, not_from_true, eqb-true}
use Rattle.std.proofs.lemmas.Bool.Decides.{nat_tests}
use Rattle.std.proofs.lemmas.List.{get_or-drop}
use Rattle.std.specs.Global.{Vec}
use Rattle.std.specs.Prelude.{slice_index, slice_range, option_map, if◌then◌else◌, Result, Ok, Err, IfOk}
use Rattle.amr_store.proofs.Slots.{sound_full, sound_closed, entry_closed, entry_open}
use Rattle.amr_store.proofs.Writes.{range_index, range_length}
use Rattle.amr_store.specs.declared.check.Outline.{Outline}
use Rattle.amr_store.specs.declared.check.Checked.{Checked}
use Rattle.amr_store.specs.declared.check.Checked.TheVariants.{Whole, Faulty}
use Rattle.amr_store.specs.declared.part.Part.{Part}
use Rattle.amr_store.specs.declared.part.Part.TheVariants.{Slot, Tie}
use Rattle.amr_store.specs.declared.check.SlotsFound.{SlotsFound}
use Rattle.amr_store.specs.declared.check.SlotsFound.TheVariants.{Sound as AllSound, Broken as AnyBroken}
use Rattle.amr_store.specs.declared.fields.Head.{Head}
use Rattle.amr_store.specs.declared.fields.SlotFound.TheVariants.{Sound, Broken}
use Rattle.amr_store.specs.declared.slot.Slot.{Slot as Known}
use Rattle.amr_store.specs.Checks.{AreSlots, SlotsRead, BrokenFirst, Checks}
use Rattle.amr_store.specs.Layout.{open_gate, magic_1, magic_2, magic_3, version_by, lead_length, lead_of, long_at, word_at, gate_at, size_of, text_length}
use Rattle.amr_store.specs.Fields.{IsRead, IsHeadOf, SaysHead, AreDeltas, IsBegun, IsOpened, IsSlot, version_read, deltas_read, head_with, head_read, magic_in, front_read, slot_read}
use Rattle.amr_store.specs.Stored.{Entry, entry_at, is_open, is_broken, front_in, slot_of, has_magic_3, has_bad_deltas, deltas_of, count_of, slots_of, slot_tests, first_found}
use Rattle.amr_store.specs.Table.{table, slot_count, is_tied, IsFirstStray}
use Rattle.amr_store.proofs.Leads.{other_sound, other_deltas, third_deltas, other_version, number_sound}
use Rattle.amr_store.proofs.Whole.{slot_row, stray_row, slot_rows, stray_rows, tie_row, slot_tests_are, after_slots, row_found, front_found, slots_pass}
use Rattle.amr_store.proofs.Tables.{table_more}

pub if_ok_both : {T E : Type 0} (r : Result T E) (P Q R : T → Type 0) → IfOk r P → IfOk r Q → ((x : T) → P x → Q x → R x) → IfOk r R
if_ok_both (Ok x) P Q R p q f = f x p q
if_ok_both (Err e) P Q R p q f = tt

pub read_long : (part bytes : List ℕ) (n at p : ℕ) → IsRead part at bytes n → p + 8 ≤ n → long_at bytes p ≡ long_at part (at + p)
read_long part bytes n at p read within =
    let e : (i : ℕ) → i < 8 → slice_index (drop p bytes) i ≡ slice_index (drop (at + p) part) i = λ i lt.
    get_or-drop p bytes i 0 ∙ read.bytes (p + i) (omega arith) ∙ ap (λ (k : ℕ). slice_index part k) (sums i) ∙ sym (get_or-drop (at + p) part i 0) in
    rw (e 0 (omega arith), e 1 (omega arith), e 2 (omega arith), e 3 (omega arith), e 4 (omega arith), e 5 (omega arith), e 6 (omega arith), e 7 (omega arith)) refl
  where
    sums : (i : ℕ) → at + (p + i) ≡ at + p + i
    sums i = omega arith

pub read_word : (part bytes : List ℕ) (n at p : ℕ) → IsRead part at bytes n → p + 4 ≤ n → word_at bytes p ≡ word_at part (at + p)
read_word part bytes n at p read within =
    let e : (i : ℕ) → i < 4 → slice_index (drop p bytes) i ≡ slice_index (drop (at + p) part) i = λ i lt.
    get_or-drop p bytes i 0 ∙ read.bytes (p + i) (omega arith) ∙ ap (λ (k : ℕ). slice_index part k) (sums i) ∙ sym (get_or-drop (at + p) part i 0) in
    rw (e 0 (omega arith), e 1 (omega arith), e 2 (omega arith), e 3 (omega arith)) refl
  where
    sums : (i : ℕ) → at + (p + i) ≡ at + p + i
    sums i = omega arith

-- the number that a range begins with
range_long : (part : List ℕ) (a m : ℕ) → 8 ≤ m → a + m ≤ length part → long_at (slice_range part a (a + m)) 0 ≡ long_at part a
range_long part a m eight within =
    let e : (i : ℕ) → i < 8 → slice_index (drop 0 (slice_range part a (a + m))) i ≡ slice_index (drop a part) i = λ i lt.
    range_index part a m i (omega arith) within ∙ sym (get_or-drop a part i 0) in
    rw (e 0 (omega arith), e 1 (omega arith), e 2 (omega arith), e 3 (omega arith), e 4 (omega arith), e 5 (omega arith), e 6 (omega arith), e 7 (omega arith)) refl

-- what a version says of the magic
abbrev KnownVersion : Option ℕ → Bool → ℕ → Type 0
KnownVersion None m k = ((m && ((k == magic_1) || (k == magic_3))) || (k == magic_2)) ≡ false
KnownVersion (Some v) m k = (v ≡ version_by k) × (((m && ((k == magic_1) || (k == magic_3))) || (k == magic_2)) ≡ true)

pub not_both : (k : ℕ) → (k == magic_2) ≡ true → (k == magic_1) ≡ false
not_both k is = ap (λ (n : ℕ). n == magic_1) (eqb-true k magic_2 is)

known_as : (o : Option ℕ) (m : Bool) (k : ℕ) → version_read m k ≡ o → KnownVersion o m k → KnownVersion (version_read m k) m k
known_as o m k read known = subst (λ (x : Option ℕ). KnownVersion x m k) (sym read) known

second_version : (m : Bool) (k : ℕ) → (k == magic_2) ≡ true → KnownVersion (version_read m k) m k
second_version m k two =
    let number : 2 ≡ version_by k = sym (ap version_by (eqb-true k magic_2 two)) in
    known_as (Some 2) m k (rw two refl) (number, or_right (m && ((k == magic_1) || (k == magic_3))) (k == magic_2) two)

first_version : (k : ℕ) → (k == magic_2) ≡ false → (k == magic_1) ≡ true → KnownVersion (version_read true k) true k
first_version k other one =
    let number : 1 ≡ version_by k = rw one refl in
    known_as (Some 1) true k (rw (other, one) refl) (number, or_left (true && ((k == magic_1) || (k == magic_3))) (k == magic_2) (or_left (k == magic_1) (k == magic_3) one))

third_version : (k : ℕ) → (k == magic_2) ≡ false → (k == magic_1) ≡ false → (k == magic_3) ≡ true → KnownVersion (version_read true k) true k
third_version k other none three =
    let number : 3 ≡ version_by k = rw (none, three) refl in
    known_as (Some 3) true k (rw (other, none, three) refl) (number, or_left (true && ((k == magic_1) || (k == magic_3))) (k == magic_2) (or_right (k == magic_1) (k == magic_3) three))

no_version : (k : ℕ) → (k == magic_2) ≡ false → (k == magic_1) ≡ false → (k == magic_3) ≡ false → KnownVersion (version_read true k) true k
no_version k other first third =
    known_as None true k (rw (other, first, third) refl) (or_from (true && ((k == magic_1) || (k == magic_3))) (k == magic_2) (or_from (k == magic_1) (k == magic_3) first third) other)

no_second : (k : ℕ) → (k == magic_2) ≡ false → KnownVersion (version_read false k) false k
no_second k none = known_as None false k (rw none refl) none

known_version : (m : Bool) (k : ℕ) → KnownVersion (version_read m k) m k
known_version true k = elim (cases_Bool (k == magic_2)) [
  | inl two ↦ second_version true k two
  | inr other ↦ elim (cases_Bool (k == magic_1)) [
    | inl one ↦ first_version k other one
    | inr none ↦ elim (cases_Bool (k == magic_3)) [
      | inl three ↦ third_version k other none three
      | inr third ↦ no_version k other none third
    ]
  ]
]
known_version false k = elim (cases_Bool (k == magic_2)) [
  | inl two ↦ second_version false k two
  | inr none ↦ no_second k none
]

pub head_told : (m : Bool) (part bytes : List ℕ) (n : ℕ) → length bytes ≡ 21 → IsRead part 0 bytes n → IsHeadOf (head_read bytes n m) m part
head_told m part bytes n size read = elim (cases_Bool (nat_lt n 21)) [
  | inl short ↦
      let less : nat_lt (length part) 21 ≡ true = lt-ltb (length part) 21 (omega (arith, read.count, ltb-true n 21 short)) in
      rw short (or_left (nat_lt (length part) 21) (not (magic_in m part)) less)
  | inr long ↦
      let enough : 21 ≤ n = ltb-false n 21 long in
      let whole : nat_lt (length part) 21 ≡ false = le-ltb (length part) 21 (omega (arith, read.count)) in
      let magic : long_at bytes 1 ≡ long_at part 1 = read_long part bytes n 0 1 read (omega arith) in
      let known = subst (λ (k : ℕ). KnownVersion (version_read m k) m (long_at part 1)) (sym magic) (known_version m (long_at part 1)) in
      rw long (go (version_read m (long_at bytes 1)) known whole (read_long part bytes n 0 9 read (omega arith)) (read_word part bytes n 0 17 read (omega arith)))
]
  where
    go : (v : Option ℕ) → KnownVersion v m (long_at part 1) → nat_lt (length part) 21 ≡ false → long_at bytes 9 ≡ long_at part 9 → word_at bytes 17 ≡ word_at part 17
        → IsHeadOf (head_with v (long_at bytes 9) (word_at bytes 17)) m part
    go None known whole size_is text_is = or_right (nat_lt (length part) 21) (not (magic_in m part)) (not_from_false (magic_in m part) known)
    go (Some v) known whole size_is text_is = (or_from (nat_lt (length part) 21) (not (magic_in m part)) whole (not_from_true (magic_in m part) known.1), record { version_is = known.0; size_is = size_is; text_is = text_is })

four_1 : (a b c d : Bool) → a ≡ true → (a || b || c || d) ≡ true
four_1 a b c d is = rw is refl

four_2 : (a b c d : Bool) → b ≡ true → (a || b || c || d) ≡ true
four_2 true b c d is = refl
four_2 false b c d is = rw is refl

four_3 : (a b c d : Bool) → c ≡ true → (a || b || c || d) ≡ true
four_3 true b c d is = refl
four_3 false true c d is = refl
four_3 false false c d is = rw is refl

four_4 : (a b c d : Bool) → d ≡ true → (a || b || c || d) ≡ true
four_4 true b c d is = refl
four_4 false true c d is = refl
four_4 false false true d is = refl
four_4 false false false d is = is

opened_broken : (a b c : Bool) → b ≡ true → c ≡ true → (a || (b && c)) ≡ true
opened_broken true b c p q = refl
opened_broken false b c p q = rw (p, q) refl

broken : (part : List ℕ) (gate size : ℕ) → is_open part gate ≡ true
    → (nat_lt (length part) (gate + 17) || nat_lt size (long_at part (gate + 9)) || nat_lt (length part) (gate + 17 + long_at part (gate + 9)) || (long_at part (gate + 1) == 0)) ≡ true → is_broken part gate size ≡ true
broken part gate size opened tests = opened_broken (nat_le (length part) gate) (is_open part gate) _ opened tests

-- what the first bytes of a slot say
pub slot_begun : (part bytes : List ℕ) (n gate size : ℕ) → length bytes ≡ 25 → IsRead part gate bytes n → IsBegun (slot_read bytes n size) part gate size
slot_begun part bytes n gate size wide read = elim (cases_Bool (nat_lt n 1)) [
  | inl none ↦
      let past : nat_le (length part) gate ≡ true = le-leb (length part) gate (omega (arith, read.count, ltb-true n 1 none)) in
      rw none (or_left (nat_le (length part) gate) _ past)
  | inr some ↦
      let here : gate < length part = omega (arith, read.count, ltb-false n 1 some) in
      let byte : slice_index bytes 0 ≡ slice_index part gate = read.bytes 0 (omega (arith, ltb-false n 1 some)) ∙ ap (λ (k : ℕ). slice_index part k) plus in
      let gates : is_open part gate ≡ (slice_index bytes 0 == open_gate) = ap (λ (k : ℕ). k == open_gate) (sym byte) in
      elim (cases_Bool (slice_index bytes 0 == open_gate)) [
        | inr shut ↦ rw (some, shut) (sound_closed part gate size here (gates ∙ shut), entry_closed part gate (gates ∙ shut))
        | inl opened ↦ rw (some, opened) (rest here (gates ∙ opened))
      ]
]
  where
    plus : gate + 0 ≡ gate
    plus = omega arith

    t_1 : Bool
    t_1 = nat_lt (length part) (gate + 17)

    t_2 : Bool
    t_2 = nat_lt size (long_at part (gate + 9))

    t_3 : Bool
    t_3 = nat_lt (length part) (gate + 17 + long_at part (gate + 9))

    t_4 : Bool
    t_4 = long_at part (gate + 1) == 0

    -- the payload begins with the number that was read
    same_front : (payload : List ℕ) (m : ℕ) → length payload ≡ m → (nat_lt m 8 ≡ false → long_at bytes 17 ≡ long_at payload 0) → front_read bytes m ≡ front_in payload
    same_front payload m count is = elim (cases_Bool (nat_lt m 8)) [
      | inl short ↦ let less : nat_lt (length payload) 8 ≡ true = ap (λ (k : ℕ). nat_lt k 8) count ∙ short in rw (short, less) refl
      | inr long ↦ let enough : nat_lt (length payload) 8 ≡ false = ap (λ (k : ℕ). nat_lt k 8) count ∙ long in rw (long, enough) (ap (λ (k : ℕ). Some k) (is long))
    ]

    fronts : long_at bytes 9 ≡ long_at part (gate + 9) → gate + 17 + long_at bytes 9 ≤ length part → front_read bytes (long_at bytes 9) ≡ front_in (slice_range part (gate + 17) (gate + 17 + long_at bytes 9))
    fronts count whole =
        let m = long_at bytes 9 in
        same_front (slice_range part (gate + 17) (gate + 17 + m)) m (range_length part (gate + 17) m whole) (λ long.
        let eight : 8 ≤ m = ltb-false m 8 long in
        read_long part bytes n gate 17 read (omega (arith, read.count, wide, whole, eight)) ∙ sym (range_long part (gate + 17) m eight whole))

    rest : gate < length part → is_open part gate ≡ true
        → IsBegun (if nat_lt n 17 then Broken else (if nat_lt size (long_at bytes 9) then Broken else (if long_at bytes 1 == 0 then Broken else Sound (Some record { sequence = long_at bytes 1; length = long_at bytes 9; front = front_read bytes (long_at bytes 9) })))) part gate size
    rest here opened = elim (cases_Bool (nat_lt n 17)) [
      | inl short ↦ rw short (broken part gate size opened (four_1 t_1 t_2 t_3 t_4 (lt-ltb (length part) (gate + 17) (omega (arith, read.count, ltb-true n 17 short)))))
      | inr long ↦
          let enough : 17 ≤ n = ltb-false n 17 long in
          let count : long_at bytes 9 ≡ long_at part (gate + 9) = read_long part bytes n gate 9 read (omega arith) in
          let number : long_at bytes 1 ≡ long_at part (gate + 1) = read_long part bytes n gate 1 read (omega arith) in
          elim (cases_Bool (nat_lt size (long_at bytes 9))) [
            | inl large ↦ rw (long, large) (broken part gate size opened (four_2 t_1 t_2 t_3 t_4 (ap (λ (k : ℕ). nat_lt size k) (sym count) ∙ large)))
            | inr fits ↦ elim (cases_Bool (long_at bytes 1 == 0)) [
              | inl nought ↦ rw (long, fits, nought) (broken part gate size opened (four_4 t_1 t_2 t_3 t_4 (ap (λ (k : ℕ). k == 0) (sym number) ∙ nought)))
              | inr counted ↦ rw (long, fits, counted) record {
                opened = opened;
                head = omega (arith, read.count);
                fits = ltb-false size (long_at bytes 9) fits;
                some = counted;
                sequence_is = number;
                length_is = count;
                front_is = fronts count;
              }
            ]
          ]
    ]

pub slot_cut : (slot : Known) (part : List ℕ) (gate size : ℕ) → IsOpened slot part gate size → nat_lt (gate + 16 + slot.length) (length part) ≡ false → is_broken part gate size ≡ true
slot_cut slot part gate size is short =
    broken part gate size is.opened
    (four_3 (nat_lt (length part) (gate + 17)) (nat_lt size (long_at part (gate + 9))) (nat_lt (length part) (gate + 17 + long_at part (gate + 9))) (long_at part (gate + 1) == 0)
    (lt-ltb (length part) (gate + 17 + long_at part (gate + 9)) (omega (arith, is.length_is, ltb-false (gate + 16 + slot.length) (length part) short))))

pub slot_whole : (slot : Known) (part : List ℕ) (gate size : ℕ) → IsOpened slot part gate size → nat_lt (gate + 16 + slot.length) (length part) ≡ true → IsSlot (Sound (Some slot)) part gate size
slot_whole slot part gate size is long =
    let whole : gate + 17 + long_at part (gate + 9) ≤ length part = omega (arith, is.length_is, ltb-true (gate + 16 + slot.length) (length part) long) in
    let sound : is_broken part gate size ≡ false = sound_full part gate size record {
      head = is.head;
      fits = omega (arith, is.fits, is.length_is);
      whole = whole;
      some = ap (λ (k : ℕ). k == 0) (sym is.sequence_is) ∙ is.some;
    } in
    let count : slot.length ≡ length (slice_range part (gate + 17) (gate + 17 + long_at part (gate + 9))) = is.length_is ∙ sym (range_length part (gate + 17) (long_at part (gate + 9)) whole) in
    let front = is.front_is (omega (arith, is.length_is, whole)) ∙ ap (λ (m : ℕ). front_in (slice_range part (gate + 17) (gate + 17 + m))) is.length_is in
    (sound, slots _ _ _ _ _ _ is.sequence_is count front ∙ sym (ap (λ (o : Option Entry). option_map slot_of o) (entry_open part gate is.opened)))
  where
    made : ℕ → ℕ → Option ℕ → Option Known
    made q m f = Some record { sequence = q; length = m; front = f }

    slots : (q r m k : ℕ) (f g : Option ℕ) → q ≡ r → m ≡ k → f ≡ g → made q m f ≡ made r k g
    slots q r m k f g a b c = cc

-- one test more
pub more_tests : (checked : Checked) (test : Bool) (damage : Part) (rows : List (Bool × Part)) (part : List ℕ) → test ≡ false → Checks checked rows part → Checks checked ((test, damage) ∷ rows) part
more_tests (Faulty found) test damage rows part e is = rw e is
more_tests (Whole outline) test damage rows part e is = (rw e is.0, is.1)

pub first_test : (test : Bool) (damage : Part) (rows : List (Bool × Part)) → test ≡ true → first_found ((test, damage) ∷ rows) ≡ Some damage
first_test test damage rows e = rw e refl

pub next_test : (test : Bool) (damage found : Part) (rows : List (Bool × Part)) → test ≡ false → first_found rows ≡ Some found → first_found ((test, damage) ∷ rows) ≡ Some found
next_test test damage found rows e is = rw e is

-- the slots that were read, behind a head
slots_as : (head : Head) (part : List ℕ) (found : SlotsFound) (n : ℕ) → SaysHead head part → AreSlots found part (lead_length head.version head.text) head.slot_size n → AreSlots found part (lead_of part) (size_of part) n
slots_as head part found n says is =
    subst (λ (t : ℕ). AreSlots found part t (size_of part) n) (ap₂ lead_length says.version_is says.text_is) (subst (λ (z : ℕ). AreSlots found part (lead_length head.version head.text) z n) says.size_is is)

-- slots that were read behind a head, so many records behind each base
pub record ReadBehind (head : Head) (deltas : ℕ) (part : List ℕ) (found : SlotsFound) : Type 0 where
  pub says : SaysHead head part
  pub deltas_is : deltas ≡ deltas_of part
  pub slots_are : AreSlots found part (lead_length head.version head.text) head.slot_size (slot_count deltas)

pub read_behind : (head : Head) (deltas : ℕ) (part : List ℕ) (found is : SlotsFound) → SaysHead head part → deltas ≡ deltas_of part → found ≡ is → AreSlots found part (lead_length head.version head.text) head.slot_size (slot_count deltas)
    → ReadBehind head deltas part is
read_behind head deltas part found is says count same slots = record {
  says = says;
  deltas_is = count;
  slots_are = subst (λ (f : SlotsFound). AreSlots f part (lead_length head.version head.text) head.slot_size (slot_count deltas)) same slots;
}

read_as : (head : Head) (deltas : ℕ) (part : List ℕ) (found : SlotsFound) → ReadBehind head deltas part found → AreSlots found part (lead_of part) (size_of part) (count_of part)
read_as head deltas part found is = subst (λ (d : ℕ). AreSlots found part (lead_of part) (size_of part) (slot_count d)) is.deltas_is (slots_as head part found (slot_count deltas) is.says is.slots_are)

pub slot_broken : (head : Head) (deltas : ℕ) (part : List ℕ) (number : ℕ) → ReadBehind head deltas part (AnyBroken number) → first_found (slot_tests part) ≡ Some (Slot number)
unfolding slot_row
slot_broken head deltas part number is =
    let broken = read_as head deltas part (AnyBroken number) is in
    ap first_found (slot_tests_are part) ∙ front_found (slot_rows part) (tie_row part ∷ stray_rows part) (Slot number) (row_found (λ k. slot_row part k) (count_of part) number broken.within broken.before broken.broken)

-- what was found of the slots that were read is so of those of the part
known_slots : (head : Head) (deltas : ℕ) (part : List ℕ) (slots : Vec (Option Known)) (P : ℕ → List (Option Known) → Type 0) → ReadBehind head deltas part (AllSound slots) → P deltas slots.items → P (deltas_of part) (slots_of part)
known_slots head deltas part slots P is holds =
    subst (λ (l : List (Option Known)). P (deltas_of part) l) (read_as head deltas part (AllSound slots) is).known (subst (λ (d : ℕ). P d slots.items) is.deltas_is holds)

pub slots_tied : (head : Head) (deltas : ℕ) (part : List ℕ) (slots : Vec (Option Known)) → ReadBehind head deltas part (AllSound slots) → is_tied deltas slots.items ≡ true → first_found (slot_tests part) ≡ Some Tie
slots_tied head deltas part slots is tied =
    after_slots part (read_as head deltas part (AllSound slots) is).sound
    ∙ first_test (is_tied (deltas_of part) (slots_of part)) Tie (stray_rows part) (known_slots head deltas part slots (λ d l. is_tied d l ≡ true) is tied)

pub slots_stray : (head : Head) (deltas : ℕ) (part : List ℕ) (slots : Vec (Option Known)) (number : ℕ) → ReadBehind head deltas part (AllSound slots) → is_tied deltas slots.items ≡ false → IsFirstStray deltas slots.items (Some number)
    → first_found (slot_tests part) ≡ Some (Slot number)
unfolding stray_row
slots_stray head deltas part slots number is apart stray =
    let first = known_slots head deltas part slots (λ d l. IsFirstStray d l (Some number)) is stray in
    after_slots part (read_as head deltas part (AllSound slots) is).sound
    ∙ next_test (is_tied (deltas_of part) (slots_of part)) Tie (Slot number) (stray_rows part) (known_slots head deltas part slots (λ d l. is_tied d l ≡ false) is apart)
    (row_found (λ k. stray_row part k) (count_of part) number first.0 first.1 first.2)

pub slots_whole : (head : Head) (deltas : ℕ) (part : List ℕ) (slots : Vec (Option Known)) (outline : Outline) → ReadBehind head deltas part (AllSound slots) → is_tied deltas slots.items ≡ false → IsFirstStray deltas slots.items None
    → outline.head ≡ head → outline.deltas ≡ deltas → outline.slots ≡ slots → Checks (Whole outline) (slot_tests part) part
slots_whole head deltas part slots outline is apart harmless head_is deltas_is slots_is =
    let read = read_as head deltas part (AllSound slots) is in (
      slots_pass part read.sound (known_slots head deltas part slots (λ d l. is_tied d l ≡ false) is apart) (known_slots head deltas part slots (λ d l. IsFirstStray d l None) is harmless),
      record {
        head = subst (λ (h : Head). SaysHead h part) (sym head_is) is.says;
        deltas = deltas_is ∙ is.deltas_is;
        slots = ap (λ (v : Vec (Option Known)). v.items) slots_is ∙ read.known;
      },
    )

-- the number of records behind a base, as it was read
pub no_deltas : (head : Head) (part : List ℕ) → SaysHead head part → (head.version ≡ 3 → ⊥) → AreDeltas (Some 0) part
no_deltas head part says other =
    let third : has_magic_3 part ≡ false = elim (cases_Bool (has_magic_3 part)) [
      | inr none ↦ none
      | inl is ↦ absurd (other (says.version_is ∙ ap version_by (eqb-true (long_at part 1) magic_3 is)))
    ] in
    (other_sound part third, sym (other_deltas part third))

third_of : (head : Head) (part : List ℕ) → SaysHead head part → head.version ≡ 3 → has_magic_3 part ≡ true
third_of head part says is = elim (cases_Bool (has_magic_3 part)) [
  | inl third ↦ third
  | inr other ↦ let wrong = other_version (long_at part 1) other in let three : version_by (long_at part 1) ≡ 3 = sym says.version_is ∙ is in absurd (no_three _ three wrong)
]
  where
    no_three : (v : ℕ) → v ≡ 3 → (v == 3) ≡ false → ⊥
    no_three v e none = grind (arith, nat_tests)

pub deltas_told : (head : Head) (part byte : List ℕ) (n : ℕ) → SaysHead head part → head.version ≡ 3 → length byte ≡ 1 → IsRead part (21 + head.text) byte n → AreDeltas (deltas_read byte n) part
deltas_told head part byte n says is wide read =
    let third = third_of head part says is in
    let at : 21 + head.text ≡ 21 + text_length part = omega (arith, says.text_is) in
    let bad = bad_deltas part third in
    elim (cases_Bool (nat_lt n 1)) [
      | inl none ↦
          let past : nat_le (length part) (21 + text_length part) ≡ true = le-leb (length part) (21 + text_length part) (omega (arith, read.count, wide, ltb-true n 1 none, says.text_is)) in
          rw none (bad ∙ or_left _ _ (or_left _ _ past))
      | inr some ↦
          let here : 21 + text_length part < length part = omega (arith, read.count, wide, ltb-false n 1 some, says.text_is) in
          let number : slice_index byte 0 ≡ deltas_of part = read.bytes 0 (omega (arith, ltb-false n 1 some)) ∙ ap (λ (k : ℕ). slice_index part k) (plus at) ∙ sym (third_deltas part third) in
          elim (cases_Bool (slice_index byte 0 == 0)) [
            | inl zeroth ↦ rw (some, zeroth) (bad ∙ or_left _ _ (or_right _ _ (ap (λ (k : ℕ). k == 0) (sym number) ∙ zeroth)))
            | inr counted ↦ elim (cases_Bool (nat_lt 7 (slice_index byte 0))) [
              | inl many ↦ rw (some, counted, many) (bad ∙ or_right _ _ (ap (λ (k : ℕ). nat_lt 7 k) (sym number) ∙ many))
              | inr few ↦ rw (some, counted, few) (number_sound part record { here = here; some = ap (λ (k : ℕ). k == 0) (sym number) ∙ counted; few = omega (arith, number, ltb-false 7 (slice_index byte 0) few) }, number)
            ]
          ]
    ]
  where
    plus : 21 + head.text ≡ 21 + text_length part → 21 + head.text + 0 ≡ 21 + text_length part
    plus e = omega arith

    bad_deltas : (part : List ℕ) → has_magic_3 part ≡ true → has_bad_deltas part ≡ (nat_le (length part) (21 + text_length part) || (deltas_of part == 0) || nat_lt 7 (deltas_of part))
    bad_deltas part third = both (has_magic_3 part) _ third
      where
        both : (a b : Bool) → a ≡ true → (a && b) ≡ b
        both true b e = refl
        both false b e = let wrong : false ≡ true = e in cc

-- what is known of a slot, by the lengths of what stands before the slots and of a slot
abbrev known_at : List ℕ → ℕ → ℕ → ℕ → Option Known
known_at part lead size k = option_map slot_of (entry_at part (gate_at k lead size))

-- the slots that were read so far
pub slots_none : (part : List ℕ) (lead size : ℕ) → SlotsRead part lead size 0 []
unfolding table
slots_none part lead size = record { sound = λ k lt. absurd (omega arith); known = refl }

pub slots_more : (part : List ℕ) (lead size k : ℕ) (slots : List (Option Known)) (slot : Option Known) → SlotsRead part lead size k slots → IsSlot (Sound slot) part (gate_at k lead size) size
    → SlotsRead part lead size (k + 1) (slots ++ slot ∷ [])
slots_more part lead size k slots slot read is = record {
  sound = λ j lt. elim (cases_Bool (nat_lt j k)) [
    | inl early ↦ read.sound j (ltb-true j k early)
    | inr last ↦ let here : j ≡ k = omega (arith, ltb-false j k last) in ap (λ (i : ℕ). is_broken part (gate_at i lead size) size) here ∙ is.0
  ];
  known = ap (λ (l : List (Option Known)). l ++ slot ∷ []) read.known ∙ ap (λ (o : Option Known). table (known_at part lead size) k ++ o ∷ []) is.1 ∙ sym (table_more (known_at part lead size) k);
}

-- the first that is broken
pub slots_cut : (part : List ℕ) (lead size n k : ℕ) (slots : List (Option Known)) → SlotsRead part lead size k slots → k < n → is_broken part (gate_at k lead size) size ≡ true → BrokenFirst part lead size n k
slots_cut part lead size n k slots read within broken = record { within = within; before = read.sound; broken = broken }
