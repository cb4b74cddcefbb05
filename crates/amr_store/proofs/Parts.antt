-- A store, from its first byte on, of which one slot was written.
use Rattle.std.proofs.Common.{◌≡◌, inl, inr, ℕ, ◌+◌, ◌≤◌, ◌<◌, ◌==◌, nat_lt, true, false, List, length, Option, None, refl, sym, ◌∙◌, ap, subst, arith, ap₂}
use Rattle.std.proofs.lemmas.Bool.{cases_Bool, ltb-true, ltb-false}
use Rattle.std.proofs.lemmas.Bool.Decides.{nat_tests}
use Rattle.std.specs.Prelude.{slice_index, slice_range, slice_set, option_map}
use Rattle.amr_store.proofs.Places.{Outside, long_same, word_same, range_same}
use Rattle.amr_store.proofs.Slots.{SlotKept, slot_kept}
use Rattle.amr_store.proofs.Tables.{gates_apart, gate_first, table_same, table_set}
use Rattle.amr_store.proofs.Whole.{Whole}
use Rattle.amr_store.specs.declared.slot.Slot.{Slot}
use Rattle.amr_store.specs.Layout.{magic_3, version_by, lead_length, long_at, size_of, text_length, problem_of, lead_of, gate_at}
use Rattle.amr_store.specs.Stored.{Entry, slot_of, has_magic_3, has_bad_deltas, deltas_of, count_of, gate_of, entry_of, known_of, slots_of, is_broken, entry_at}
use Rattle.amr_store.specs.Table.{table, slot_count, is_tied, is_stray, IsHarmless}
use Rattle.amr_store.proofs.Leads.{number_of, number_sound, lead_third, third_deltas, other_deltas, other_sound}

-- the same magic, size, problem and number of records
pub record SameHead (old new : List ℕ) : Type 0 where
  pub magic : long_at new 1 ≡ long_at old 1
  pub size : size_of new ≡ size_of old
  pub text : text_length new ≡ text_length old
  pub problem : problem_of new ≡ problem_of old
  pub deltas : deltas_of new ≡ deltas_of old
  pub sound : has_bad_deltas new ≡ false

-- the number of records behind a base
record NumberKept (old new : List ℕ) : Type 0 where
  same : deltas_of new ≡ deltas_of old
  sound : has_bad_deltas new ≡ false

number_kept : (old new : List ℕ) (a b : ℕ) → Whole true old → 21 + lead_of old ≤ a → Outside a b old new → long_at new 1 ≡ long_at old 1 → text_length new ≡ text_length old → NumberKept old new
number_kept old new a b whole from out magic text = elim (cases_Bool (has_magic_3 old)) [
  | inl third ↦
      let number = number_of old whole.deltas third in
      let third_new : has_magic_3 new ≡ true = ap (λ (m : ℕ). m == magic_3) magic ∙ third in
      let byte : slice_index new (21 + text_length new) ≡ slice_index old (21 + text_length old) =
      ap (λ (n : ℕ). slice_index new (21 + n)) text ∙ out.below (21 + text_length old) number.here (omega (arith, from, lead_third old third)) in
      let same : deltas_of new ≡ deltas_of old = third_deltas new third_new ∙ byte ∙ sym (third_deltas old third) in
      record {
        same = same;
        sound = number_sound new record { here = omega (arith, number.here, out.no_shorter, text); some = ap (λ (n : ℕ). n == 0) same ∙ number.some; few = omega (arith, number.few, same) };
      }
  | inr other ↦
      let other_new : has_magic_3 new ≡ false = ap (λ (m : ℕ). m == magic_3) magic ∙ other in
      record { same = other_deltas new other_new ∙ sym (other_deltas old other); sound = other_sound new other_new }
]

pub head_kept : (old new : List ℕ) (a b : ℕ) → Whole true old → 21 + lead_of old ≤ a → Outside a b old new → SameHead old new
head_kept old new a b whole_is from out =
    let long = whole_is.long in
    let whole = whole_is.text_whole in
    let text : text_length new ≡ text_length old = word_same old new 17 (λ i lt. out.below (17 + i) (omega arith) (omega arith)) in
    let magic : long_at new 1 ≡ long_at old 1 = long_same old new 1 (λ i lt. out.below (1 + i) (omega arith) (omega arith)) in
    let number = number_kept old new a b whole_is from out magic text in
    record {
      magic = magic;
      size = long_same old new 9 (λ i lt. out.below (9 + i) (omega arith) (omega arith));
      text = text;
      problem =
          ap (λ (n : ℕ). slice_range new 21 (21 + n)) text
          ∙ range_same old new 21 (21 + text_length old) whole (omega (arith, out.no_shorter)) (λ i low high. out.below i (omega arith) (omega arith));
      deltas = number.same;
      sound = number.sound;
    }

pub gate_kept : (old new : List ℕ) (k : ℕ) → SameHead old new → gate_of new k ≡ gate_of old k
gate_kept old new k head = same _ _ _ _ _ _ head.magic head.text head.size
  where
    same : (m n t u s v : ℕ) → m ≡ n → t ≡ u → s ≡ v → gate_at k (lead_length (version_by m) t) s ≡ gate_at k (lead_length (version_by n) u) v
    same m n t u s v e f g = cc

pub count_kept : (old new : List ℕ) → SameHead old new → count_of new ≡ count_of old
count_kept old new head = ap slot_count head.deltas

-- the store of new, slot by slot
pub assembled : (old new : List ℕ) → Whole true old → length old ≤ length new → SameHead old new → ((k : ℕ) → k < count_of old → is_broken new (gate_of old k) (size_of old) ≡ false)
    → is_tied (deltas_of old) (slots_of new) ≡ false → IsHarmless (deltas_of old) (slots_of new) → Whole true new
assembled old new whole longer head sound tie harmless = record {
  long = omega (arith, whole.long);
  magic = refl;
  text_fits = omega (arith, whole.text_fits, head.text);
  text_whole = omega (arith, whole.text_whole, head.text);
  deltas = head.sound;
  size_fits = omega (arith, whole.size_fits, head.size);
  slots = λ k within. ap₂ (is_broken new) (gate_kept old new k head) head.size ∙ sound k (omega (arith, within, count_kept old new head));
  tie = ap (λ (d : ℕ). is_tied d (slots_of new)) head.deltas ∙ tie;
  harmless = λ k within. ap (λ (d : ℕ). is_stray d (slots_of new) k) head.deltas ∙ harmless.none k (omega (arith, within, head.deltas));
}

-- new is a store with the head of old, of which one slot was written and holds this entry
pub record HasPutEntry (old new : List ℕ) (k : ℕ) (entry : Option Entry) : Type 0 where
  pub head : SameHead old new
  pub whole : Whole true new
  pub here : entry_of new k ≡ entry
  pub others : (j : ℕ) → j < count_of old → (j ≡ k → ⊥) → entry_of new j ≡ entry_of old j

pub slots_set : (old new : List ℕ) (k : ℕ) (entry : Option Entry) → count_of new ≡ count_of old → k < count_of old → entry_of new k ≡ entry → ((j : ℕ) → j < count_of old → (j ≡ k → ⊥) → entry_of new j ≡ entry_of old j)
    → slots_of new ≡ slice_set (slots_of old) k (option_map slot_of entry)
slots_set old new k entry same within here others =
    ap (λ (n : ℕ). table (λ j. known_of new j) n) same
    ∙ table_set (λ j. known_of old j) (λ j. known_of new j) (count_of old) k None within (λ j lt other. ap (λ (o : Option Entry). option_map slot_of o) (others j lt other))
    ∙ ap (λ (o : Option Entry). slice_set (slots_of old) k (option_map slot_of o)) here

other_slot : (old new : List ℕ) (k j : ℕ) → Whole true old → Outside (gate_of old k) (gate_of old k + (17 + size_of old)) old new → j < count_of old → (j ≡ k → ⊥) → SlotKept old new (gate_of old j) (size_of old)
other_slot old new k j whole out within other = elim (cases_Bool (nat_lt j k)) [
  | inl before ↦
      let ends = gates_apart j k (lead_of old) (size_of old) (ltb-true j k before) in
      slot_kept old new (gate_of old j) (size_of old) out.no_shorter (λ i here from to. out.below i here (omega (arith, to, ends))) (whole.slots j within)
  | inr after ↦
      let ends = gates_apart k j (lead_of old) (size_of old) (strict k j (ltb-false j k after) (λ e. other (sym e))) in
      slot_kept old new (gate_of old j) (size_of old) out.no_shorter (λ i here from to. out.above i here (omega (arith, from, ends))) (whole.slots j within)
]
  where
    strict : (m n : ℕ) → m ≤ n → (m ≡ n → ⊥) → m < n
    strict m n le other = elim (cases_Bool (nat_lt m n)) [
      | inl lt ↦ ltb-true m n lt
      | inr ge ↦ absurd (other (omega (arith, le, ltb-false m n ge)))
    ]

-- a slot was written, or its gate
pub slot_changed : (old new : List ℕ) (k : ℕ) → k < count_of old → Whole true old → Outside (gate_of old k) (gate_of old k + (17 + size_of old)) old new → is_broken new (gate_of old k) (size_of old) ≡ false
    → is_tied (deltas_of old) (slice_set (slots_of old) k (option_map slot_of (entry_at new (gate_of old k)))) ≡ false
    → IsHarmless (deltas_of old) (slice_set (slots_of old) k (option_map slot_of (entry_at new (gate_of old k)))) → HasPutEntry old new k (entry_at new (gate_of old k))
slot_changed old new k within whole out sound tie harmless =
    let head = head_kept old new (gate_of old k) (gate_of old k + (17 + size_of old)) whole (gate_first k (lead_of old) (size_of old)) out in
    let here : entry_of new k ≡ entry_at new (gate_of old k) = ap (λ (g : ℕ). entry_at new g) (gate_kept old new k head) in
    let others : (j : ℕ) → j < count_of old → (j ≡ k → ⊥) → entry_of new j ≡ entry_of old j = λ j lt other.
    ap (λ (g : ℕ). entry_at new g) (gate_kept old new j head) ∙ (other_slot old new k j whole out lt other).entry in
    let slots = slots_set old new k _ (count_kept old new head) within here others in
    record {
      head = head;
      whole = assembled old new whole out.no_shorter head (λ j lt. each head others j lt) (ap (λ (l : List (Option Slot)). is_tied (deltas_of old) l) slots ∙ tie)
          (subst (λ (l : List (Option Slot)). IsHarmless (deltas_of old) l) (sym slots) harmless);
      here = here;
      others = others;
    }
  where
    equal : (i j : ℕ) → (i == j) ≡ true → i ≡ j
    equal i j is = grind (arith, nat_tests)

    apart : (i j : ℕ) → (i == j) ≡ false → i ≡ j → ⊥
    apart i j is e = grind (arith, nat_tests)

    each : SameHead old new → ((j : ℕ) → j < count_of old → (j ≡ k → ⊥) → entry_of new j ≡ entry_of old j) → (j : ℕ) → j < count_of old → is_broken new (gate_of old j) (size_of old) ≡ false
    each head others j lt = elim (cases_Bool (j == k)) [
      | inl same ↦ ap (λ (i : ℕ). is_broken new (gate_of old i) (size_of old)) (equal j k same) ∙ sound
      | inr other ↦ (other_slot old new k j whole out lt (apart j k other)).sound
    ]

-- what was written lies past the store
pub record Untouched (old new : List ℕ) : Type 0 where
  pub head : SameHead old new
  pub whole : Whole true new
  pub entries : (k : ℕ) → k < count_of old → entry_of new k ≡ entry_of old k
  pub slots : slots_of new ≡ slots_of old

pub beyond_changed : (old new : List ℕ) (a b : ℕ) → Whole true old → gate_at (count_of old) (lead_of old) (size_of old) ≤ a → Outside a b old new → Untouched old new
beyond_changed old new a b whole past out =
    let head = head_kept old new a b whole (omega (arith, past, gate_first (count_of old) (lead_of old) (size_of old))) out in
    let entries : (k : ℕ) → k < count_of old → entry_of new k ≡ entry_of old k = λ k lt. ap (λ (g : ℕ). entry_at new g) (gate_kept old new k head) ∙ (each k lt).entry in
    let slots : slots_of new ≡ slots_of old = ap (λ (n : ℕ). table (λ k. known_of new k) n) (count_kept old new head) ∙ table_same (λ k. known_of old k) (λ k. known_of new k) (count_of old) (λ k lt. ap (λ (o : Option Entry). option_map slot_of o) (entries k lt)) in
    record {
      head = head;
      whole = assembled old new whole out.no_shorter head (λ k lt. (each k lt).sound) (ap (λ (l : List (Option Slot)). is_tied (deltas_of old) l) slots ∙ whole.tie)
          (subst (λ (l : List (Option Slot)). IsHarmless (deltas_of old) l) (sym slots) record { none = whole.harmless });
      entries = entries;
      slots = slots;
    }
  where
    each : (k : ℕ) → k < count_of old → SlotKept old new (gate_of old k) (size_of old)
    each k lt =
        let ends = gates_apart k (count_of old) (lead_of old) (size_of old) lt in
        slot_kept old new (gate_of old k) (size_of old) out.no_shorter (λ i here from to. out.below i here (omega (arith, to, ends, past))) (whole.slots k lt)
