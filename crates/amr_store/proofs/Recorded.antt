-- The records of a store, by their slots.
use Rattle.std.proofs.Common.{◌≡◌, inl, inr, ℕ, zero, suc, ◌+◌, ◌≤◌, ◌<◌, nat_lt, true, false, List, [], ◌∷◌, ◌++◌, length, take, Option, Some, None, refl, sym, ◌∙◌, ap, arith, length-append}
use Rattle.std.proofs.lemmas.Bool.{cases_Bool, ltb-true, ltb-false}
use Rattle.std.proofs.lemmas.List.{take-append-le, take_all}
use Rattle.std.specs.Prelude.{option_map}
use Rattle.amr_store.proofs.Chains.{chain_is}
use Rattle.amr_store.proofs.Moves.{records_at, no_records, one_more, chain_below}
use Rattle.amr_store.proofs.Tables.{table_index}
use Rattle.amr_store.specs.declared.slot.Slot.{Slot}
use Rattle.amr_store.specs.Shown.{last_entry, payload_of, record_of}
use Rattle.amr_store.specs.Stored.{Entry, slot_of, deltas_of, count_of, entry_of, known_of, slots_of, latest_base_of, latest_entry}
use Rattle.amr_store.specs.Table.{table, slot_at, stands_on, sequence_in, chain_of}

-- a slot that stands on another is open
linked_some : (a b : Option Slot) → stands_on a b ≡ true → (x : Slot) × (b ≡ Some x)
linked_some None b on = let wrong : false ≡ true = on in absurd (cc)
linked_some (Some x) None on = let wrong : false ≡ true = on in absurd (cc)
linked_some (Some x) (Some y) on = (y, refl)

entry_some : (o : Option Entry) (x : Slot) → option_map slot_of o ≡ Some x → (e : Entry) × (o ≡ Some e)
entry_some None x is = let wrong : None ≡ Some x = is in absurd (cc)
entry_some (Some e) x is = (e, refl)

last_pushed : (latest : Option Entry) (xs : List Entry) (x : Entry) → last_entry latest (xs ++ x ∷ []) ≡ Some x
last_pushed latest [] x = refl
last_pushed latest (y ∷ ys) x = last_pushed (Some y) ys x

sequences : (o : Option Entry) → sequence_in (option_map slot_of o) ≡ option_map (λ (e : Entry). e.sequence) o
sequences None = refl
sequences (Some e) = refl

-- of the records that count each is open
pub record OfRecords (part : List ℕ) (n : ℕ) : Type 0 where
  pub count : length (records_at part (latest_base_of part) n) ≡ n
  pub last : sequence_in (slot_at (slots_of part) (latest_base_of part + n)) ≡ option_map (λ (e : Entry). e.sequence) (last_entry (latest_entry part) (records_at part (latest_base_of part) n))

slot_known : (part : List ℕ) (k : ℕ) → k < count_of part → slot_at (slots_of part) k ≡ known_of part k
slot_known part k within = table_index (λ j. known_of part j) (count_of part) k None within

-- one record more
record NextRecord (part : List ℕ) (n : ℕ) : Type 0 where
  entry : Entry
  is : entry_of part (latest_base_of part + n + 1) ≡ Some entry
  more : records_at part (latest_base_of part) (suc n) ≡ records_at part (latest_base_of part) n ++ entry ∷ []

next_record : (part : List ℕ) (n : ℕ) → n < chain_of (deltas_of part) (slots_of part) → NextRecord part n
next_record part n lt =
    let k = latest_base_of part in
    let few = chain_below part in
    let on = (chain_is (slots_of part) (deltas_of part) k).links n lt in
    let slot = linked_some (slot_at (slots_of part) (k + n)) (slot_at (slots_of part) (k + n + 1)) on in
    let found = entry_some (entry_of part (k + n + 1)) slot.0 (sym (slot_known part (k + n + 1) (omega (arith, few, lt))) ∙ slot.1) in
    record {
      entry = found.0;
      is = found.1;
      more = ap (λ (m : ℕ). records_at part k m) (succ n) ∙ one_more (λ j. entry_of part (k + 1 + j)) n found.0 (ap (λ (j : ℕ). entry_of part j) (shift k n) ∙ found.1);
    }
  where
    succ : (n : ℕ) → suc n ≡ n + 1
    succ n = omega arith

    shift : (k n : ℕ) → k + 1 + n ≡ k + n + 1
    shift k n = omega arith

pub of_records : (part : List ℕ) (n : ℕ) → n ≤ chain_of (deltas_of part) (slots_of part) → OfRecords part n
of_records part zero le =
    let k = latest_base_of part in
    let few = chain_below part in record {
      count = ap (λ (l : List Entry). length l) (no_records part k);
      last = ap (λ (j : ℕ). sequence_in (slot_at (slots_of part) j)) (zeroth k) ∙ ap sequence_in (slot_known part k (omega (arith, few))) ∙ sequences (entry_of part k)
          ∙ sym (ap (λ (l : List Entry). option_map (λ (e : Entry). e.sequence) (last_entry (latest_entry part) l)) (no_records part k));
    }
  where
    zeroth : (k : ℕ) → k + 0 ≡ k
    zeroth k = omega arith
of_records part (suc n) le =
    let k = latest_base_of part in
    let few = chain_below part in
    let before = of_records part n (omega arith) in
    let next = next_record part n (omega arith) in record {
      count = ap (λ (l : List Entry). length l) next.more ∙ omega (arith, length-append (records_at part k n) (next.entry ∷ []), before.count);
      last = ap (λ (j : ℕ). sequence_in (slot_at (slots_of part) j)) (place k n) ∙ ap sequence_in (slot_known part (k + n + 1) (omega (arith, few))) ∙ sequences (entry_of part (k + n + 1)) ∙ ap (λ (o : Option Entry). option_map (λ (e : Entry). e.sequence) o) next.is
          ∙ sym (ap (λ (l : List Entry). option_map (λ (e : Entry). e.sequence) (last_entry (latest_entry part) l)) next.more ∙ ap (λ (o : Option Entry). option_map (λ (e : Entry). e.sequence) o) (last_pushed (latest_entry part) (records_at part k n) next.entry));
    }
  where
    place : (k n : ℕ) → k + suc n ≡ k + n + 1
    place k n = omega arith

-- the first records that count
pub first_records : (part : List ℕ) (n m : ℕ) → n ≤ m → m ≤ chain_of (deltas_of part) (slots_of part) → take n (records_at part (latest_base_of part) m) ≡ records_at part (latest_base_of part) n
unfolding table
first_records part n zero le few =
    let k = latest_base_of part in
    let none : n ≡ 0 = omega (arith, le) in
    ap (λ (l : List Entry). take n l) (no_records part k) ∙ ap (λ (i : ℕ). take i (records_at part k 0)) none ∙ ap (λ (i : ℕ). records_at part k i) (sym none)
first_records part n (suc m) le few =
    let k = latest_base_of part in
    let count = (of_records part m (omega arith)).count in
    elim (cases_Bool (nat_lt m n)) [
      | inr early ↦
          let le_m : n ≤ m = ltb-false m n early in
          let next = next_record part m (omega arith) in
          ap (λ (l : List Entry). take n l) next.more ∙ take-append-le n (records_at part k m) (next.entry ∷ []) (omega (arith, count, le_m)) ∙ first_records part n m le_m (omega arith)
      | inl late ↦
          let is : n ≡ suc m = omega (arith, ltb-true m n late, le) in
          take_all n (records_at part k (suc m)) (omega (arith, (of_records part (suc m) few).count, is)) ∙ ap (λ (i : ℕ). records_at part k i) (sym is)
    ]

early_record : (xs : List Entry) (x : Entry) (number : ℕ) → number ≤ length xs → record_of (xs ++ x ∷ []) number ≡ record_of xs number
early_record [] x zero le = refl
early_record [] x (suc number) le = absurd (omega arith)
early_record (y ∷ ys) x zero le = refl
early_record (y ∷ ys) x (suc zero) le = refl
early_record (y ∷ ys) x (suc (suc number)) le = early_record ys x (suc number) (omega arith)

late_record : (xs : List Entry) (x : Entry) (number : ℕ) → number ≡ length xs → record_of (xs ++ x ∷ []) (suc number) ≡ Some x.payload
late_record [] x zero is = refl
late_record [] x (suc number) is = absurd (omega (arith, is))
late_record (y ∷ ys) x zero is = absurd (omega (arith, is))
late_record (y ∷ ys) x (suc number) is = late_record ys x number (omega (arith, is))

-- the record of each number is in its slot
pub record_at : (part : List ℕ) (n number : ℕ) → n ≤ chain_of (deltas_of part) (slots_of part) → 1 ≤ number → number ≤ n → record_of (records_at part (latest_base_of part) n) number ≡ payload_of (entry_of part (latest_base_of part + number))
record_at part zero number le from to = absurd (omega arith)
record_at part (suc n) number le from to =
    let k = latest_base_of part in
    let next = next_record part n (omega arith) in
    let count = (of_records part n (omega arith)).count in
    ap (λ (l : List Entry). record_of l number) next.more ∙ (elim (cases_Bool (nat_lt n number)) [
      | inr early ↦
          let le_n : number ≤ n = ltb-false n number early in
          early_record (records_at part k n) next.entry number (omega (arith, count, le_n)) ∙ record_at part n number (omega arith) from le_n
      | inl late ↦
          let is : number ≡ suc n = omega (arith, ltb-true n number late, to) in
          ap (λ (m : ℕ). record_of (records_at part k n ++ next.entry ∷ []) m) is ∙ late_record (records_at part k n) next.entry n (sym count)
          ∙ sym (ap (λ (j : ℕ). payload_of (entry_of part j)) (place k n number is) ∙ ap payload_of next.is)
    ])
  where
    place : (k n number : ℕ) → number ≡ suc n → k + number ≡ k + n + 1
    place k n number is = omega (arith, is)
