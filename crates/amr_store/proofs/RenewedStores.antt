-- A renewed store, from the closed gate past the old one to the open one.
use Rattle.std.proofs.Common.{◌≡◌, ◌⊎◌, inl, inr, ℕ, zero, suc, ◌+◌, ◌-◌, ◌≤◌, ◌<◌, ◌^◌, ◌==◌, nat_lt, true, false, List, [], ◌∷◌, length, drop, Option, Some, None, refl, sym, ◌∙◌, ap, subst, arith, length-drop, ap₂}
use Rattle.std.proofs.lemmas.Bool.{cases_Bool, lt-ltb}
use Rattle.std.proofs.lemmas.Cmp.{nat_list_eq_equiv}
use Rattle.std.proofs.lemmas.List.{get_or-drop}
use Rattle.std.specs.Cmp.Lexicographic.{pointwise}
use Rattle.std.specs.Prelude.{slice_index, slice_range, nat_eq, option_map}
use Rattle.amr_disk.specs.Image.{Torn, written_at}
use Rattle.amr_disk.specs.Replay.{torn_written}
use Rattle.amr_store.proofs.Calls.{stands_at, text_is}
use Rattle.amr_store.proofs.Gates.{entry_is, not_zero}
use Rattle.amr_store.proofs.Images.{outer_whole, base_renewed, renewed_moved, renewed_sound, stored_is, all_true, magic_1_kept, some_magic_kept, held_kept}
use Rattle.amr_store.proofs.NewTables.{one_open}
use Rattle.amr_store.proofs.Leads.{lead_other, other_deltas, other_sound}
use Rattle.amr_store.proofs.Moves.{records_at, no_records}
use Rattle.amr_store.specs.Table.{table, slot_count, is_tied, is_stray, latest_base, chain_of}
use Rattle.amr_store.specs.declared.slot.Slot.{Slot}
use Rattle.amr_store.proofs.Places.{torn_outside, long_same}
use Rattle.amr_store.proofs.Slots.{sound_full, sound_closed, entry_closed, entry_open}
use Rattle.amr_store.proofs.Whole.{Whole}
use Rattle.amr_store.proofs.Writes.{written_byte}
use Rattle.amr_store.specs.declared.store.Store.{Store}
use Rattle.amr_store.specs.Layout.{open_gate, magic_2, magic_3, version_by, size_of, problem_of, lead_of, gate_at}
use Rattle.amr_store.specs.Renewed.{IsOldShut, IsRenewal, IsRenewed, renewed_state}
use Rattle.amr_store.specs.Stands.{Stands, base_in, version_in, problem_in, slot_size_in, deltas_in, slots_in}
use Rattle.amr_store.specs.Stored.{Entry, State, Held, Reads, stored, state_of, is_open, is_broken, is_renewed, end_in, slot_of, deltas_of, count_of, gate_of, entry_of, known_of, slots_of, latest_base_of, latest_entry, records_of, entry_at, has_magic_1, has_magic_2, has_magic_3}
use Rattle.amr_store.proofs.Renewals.{behind, old_kept, plain_by_gate, renewal_kept}

-- what the new store reads as once its gate is open
record InnerStore (problem : List ℕ) (size sequence : ℕ) (payload part : List ℕ) : Type 0 where
  whole : Whole true part
  magic_is : has_magic_2 part ≡ true
  number : (state_of part).version ≡ 2
  deltas : deltas_of part ≡ 0
  text : problem_of part ≡ problem
  slots : slots_of part ≡ Some (slot_of record { sequence = sequence; payload = payload }) ∷ None ∷ []
  latest : latest_entry part ≡ Some record { sequence = sequence; payload = payload }
  records : records_of part ≡ []

-- an open slot and a closed one
first_open : (known : ℕ → Option Slot) (slot : Slot) → known 0 ≡ Some slot → known 1 ≡ None → table known 2 ≡ Some slot ∷ None ∷ []
unfolding table
first_open known slot one two = rw (one, two) refl

one_latest : (slot : Slot) → latest_base 0 (Some slot ∷ None ∷ []) ≡ 0
unfolding latest_base
one_latest slot = refl

two_of : (P : ℕ → Type 0) → P 0 → P 1 → (k : ℕ) → k < 2 → P k
two_of P one two zero few = one
two_of P one two (suc zero) few = two
two_of P one two (suc (suc k)) few = absurd (omega arith)

inner_store : (problem : List ℕ) (size sequence : ℕ) (payload part : List ℕ) → length problem ≤ 65536 → size ≤ 2 ^ 40 → IsRenewal problem size sequence payload part → InnerStore problem size sequence payload part
inner_store problem size sequence payload part text_fits size_fits is =
    let filled = is.filled in
    let magic : has_magic_2 part ≡ true = ap (λ (n : ℕ). n == magic_2) is.magic in
    let third : has_magic_3 part ≡ false = ap (λ (n : ℕ). n == magic_3) is.magic in
    let lead : lead_of part ≡ length problem = lead_other part third ∙ is.text_is in
    let none : deltas_of part ≡ 0 = other_deltas part third in
    let count : count_of part ≡ 2 = ap slot_count none in
    let opened : is_open part (gate_at 0 (length problem) size) ≡ true = ap (λ (n : ℕ). n == open_gate) is.opened_0 in
    let shut : is_open part (gate_of part 1) ≡ false = ap (λ (n : ℕ). is_open part n) (ap₂ (gate_at 1) lead is.size_is) ∙ ap (λ (n : ℕ). n == open_gate) is.shut_1 in
    let full : is_broken part (gate_at 0 (length problem) size) size ≡ false = sound_full part (gate_at 0 (length problem) size) size record {
      head = omega (arith, filled.whole);
      fits = omega (arith, filled.fits, filled.length_is);
      whole = omega (arith, filled.whole, filled.length_is);
      some = ap (λ (n : ℕ). n == 0) filled.sequence_is ∙ not_zero sequence filled.some;
    } in
    let one : entry_of part 0 ≡ Some record { sequence = sequence; payload = payload } = ap (λ (n : ℕ). entry_at part n) (ap₂ (gate_at 0) lead is.size_is)
    ∙ entry_is _ _ _ _ _ (entry_open part (gate_at 0 (length problem) size) opened) filled.sequence_is (ap (λ (n : ℕ). slice_range part (gate_at 0 (length problem) size + 17) (gate_at 0 (length problem) size + 17 + n)) filled.length_is ∙ filled.payload_is) in
    let two : entry_of part 1 ≡ None = entry_closed part (gate_of part 1) shut in
    let slots : slots_of part ≡ Some (slot_of record { sequence = sequence; payload = payload }) ∷ None ∷ [] = ap (λ (n : ℕ). table (λ k. known_of part k) n) count
    ∙ first_open (λ k. known_of part k) (slot_of record { sequence = sequence; payload = payload }) (ap (λ (o : Option Entry). option_map slot_of o) one) (ap (λ (o : Option Entry). option_map slot_of o) two) in
    let sound_0 : is_broken part (gate_of part 0) (size_of part) ≡ false = ap₂ (is_broken part) (ap₂ (gate_at 0) lead is.size_is) is.size_is ∙ full in
    let sound_1 : is_broken part (gate_of part 1) (size_of part) ≡ false = sound_closed part (gate_of part 1) (size_of part) (omega (arith, is.long, ap₂ (gate_at 1) lead is.size_is)) shut in
    let alone = one_open (slot_of record { sequence = sequence; payload = payload }) in
    let at : latest_base_of part ≡ 0 = ap₂ latest_base none slots ∙ one_latest _ in
    let chain : chain_of (deltas_of part) (slots_of part) ≡ 0 = ap₂ chain_of none slots ∙ alone.chain in
    record {
      whole = record {
        long = omega (arith, is.long);
        magic = refl;
        text_fits = omega (arith, is.text_is, text_fits);
        text_whole = omega (arith, is.text_is, is.long);
        deltas = other_sound part third;
        size_fits = omega (arith, is.size_is, size_fits);
        slots = λ k few. two_of (λ j. is_broken part (gate_of part j) (size_of part) ≡ false) sound_0 sound_1 k (omega (arith, few, count));
        tie = ap₂ is_tied none slots ∙ alone.sound.apart;
        harmless = λ k few. ap₂ (λ (d : ℕ) (l : List (Option Slot)). is_stray d l k) none slots ∙ alone.sound.harmless.none k (omega (arith, few, count));
      };
      magic_is = magic;
      number = ap version_by is.magic;
      deltas = none;
      text = ap (λ (n : ℕ). slice_range part 21 (21 + n)) is.text_is ∙ is.problem_is;
      slots = slots;
      latest = ap (λ (k : ℕ). entry_of part k) at ∙ one;
      records = ap (λ (n : ℕ). records_at part (latest_base_of part) n) chain ∙ no_records part (latest_base_of part);
    }

renewed_at : (end : ℕ) (problem : List ℕ) (size sequence : ℕ) (payload s c : List ℕ) → IsOldShut end problem s → length problem ≤ 65536 → size ≤ 2 ^ 40 → IsRenewal problem size sequence payload (drop end s)
    → Torn end 1 s c → is_open c end ≡ true → IsRenewed end problem size sequence payload c
renewed_at end problem size sequence payload s c is text_fits size_fits renewal torn opened =
    let out = torn_outside end 1 end (end + 1) s c (omega arith) (omega arith) torn in
    let after = behind end (end + 1) problem s c is.old out in
    let part = drop end c in
    let was : length (drop end s) ≡ length s - end = length-drop end s in
    let now : length part ≡ length c - end = length-drop end c in
    let same : (i : ℕ) → 1 ≤ i → i < length (drop end s) → slice_index part i ≡ slice_index (drop end s) i = λ i from within.
    get_or-drop end c i 0 ∙ torn.above (end + i) (omega (arith, was)) (omega arith) ∙ sym (get_or-drop end s i 0) in
    let inner = inner_store problem size sequence payload part text_fits size_fits (renewal_kept problem size sequence payload (drop end s) part renewal (omega (arith, was, now, torn.no_shorter)) same) in
    let long : end + 1 < length c = omega (arith, renewal.long, was, torn.no_shorter) in
    let renewed : is_renewed c ≡ true = all_true (has_magic_1 c) (nat_lt (end_in c + 1) (length c)) (is_open c (end_in c)) (magic_1_kept s c after.kept.head ∙ is.old.one)
    (lt-ltb (end_in c + 1) (length c) (omega (arith, after.end_is, long))) (ap (λ (n : ℕ). is_open c n) after.end_is ∙ opened) in
    let old_problem : problem_of c ≡ problem = after.kept.head.problem ∙ is.old.problem_is in
    let problems : pointwise nat_eq (problem_of part) (problem_of c) ≡ true = equal_lists _ _ _ inner.text old_problem in
    let reads : Reads c end = record {
      held = held_kept s c end (end + 1) after.past out is.old.reads.held;
      sound = renewed_sound c (some_magic_kept s c after.kept.head ∙ (outer_whole s is.old.reads.sound).magic) after.kept.whole renewed (renewed_moved c end after.end_is inner.magic_is inner.whole problems);
      base_is = base_renewed c renewed ∙ after.end_is;
    } in
    let size_is : size_of part ≡ size = long_same (drop end s) part 9 (λ i lt. same (9 + i) (omega arith) (omega (arith, renewal.long))) ∙ renewal.size_is in
    record {
      reads = reads;
      version_is = inner.number;
      deltas_is = inner.deltas;
      problem_is = inner.text;
      size_is = size_is;
      slots_is = inner.slots;
      stored_as = stored_is c end reads ∙ ap Held (states _ _ _ _ _ _ _ _ _ _ _ _ inner.number inner.text size_is inner.deltas inner.latest inner.records);
    }
  where
    equal_lists : (p q r : List ℕ) → p ≡ r → q ≡ r → pointwise nat_eq p q ≡ true
    equal_lists p q r e f = subst (λ (x : List ℕ). pointwise nat_eq x q ≡ true) (sym e) (subst (λ (x : List ℕ). pointwise nat_eq r x ≡ true) (sym f) (nat_list_eq_equiv.refl r))

    shown : ℕ → List ℕ → ℕ → ℕ → Option Entry → List Entry → State
    shown v p t d a r = record { version = v; problem = p; slot_size = t; deltas = d; latest = a; records = r }

    states : (v w : ℕ) (p q : List ℕ) (t u : ℕ) (d n : ℕ) (a e : Option Entry) (r m : List Entry) → v ≡ w → p ≡ q → t ≡ u → d ≡ n → a ≡ e → r ≡ m → shown v p t d a r ≡ shown w q u n e m
    states v w p q t u d n a e r m f g h i j k = cc

-- a stop while the new store's gate is opened
pub renewed_stop : (end : ℕ) (problem : List ℕ) (size sequence : ℕ) (payload s c : List ℕ) → IsOldShut end problem s → length problem ≤ 65536 → size ≤ 2 ^ 40 → IsRenewal problem size sequence payload (drop end s) → Torn end 1 s c
    → (stored c ≡ stored s) ⊎ (stored c ≡ Held (renewed_state problem size sequence payload))
renewed_stop end problem size sequence payload s c is text_fits size_fits renewal torn = elim (cases_Bool (is_open c end)) [
  | inr shut ↦
      let out = torn_outside end 1 end (end + 1) s c (omega arith) (omega arith) torn in
      inl (old_kept end (end + 1) problem s c is.old out (plain_by_gate c end (behind end (end + 1) problem s c is.old out).end_is shut)).same
  | inl opened ↦ inr (renewed_at end problem size sequence payload s c is text_fits size_fits renewal torn opened).stored_as
]

pub renewed_after : (end : ℕ) (problem : List ℕ) (size sequence : ℕ) (payload s : List ℕ) → IsOldShut end problem s → length problem ≤ 65536 → size ≤ 2 ^ 40 → IsRenewal problem size sequence payload (drop end s)
    → IsRenewed end problem size sequence payload (written_at end (165 ∷ []) s)
renewed_after end problem size sequence payload s is text_fits size_fits renewal =
    renewed_at end problem size sequence payload s (written_at end (165 ∷ []) s) is text_fits size_fits renewal (torn_written end (165 ∷ []) s) (ap (λ (n : ℕ). n == open_gate) (written_byte end 165 s))

-- a store in memory that was made so stands for the image
pub renewed_stands : (store : Store) (end : ℕ) (problem : List ℕ) (size sequence : ℕ) (payload t : List ℕ) → IsRenewed end problem size sequence payload t → base_in store ≡ end → version_in store ≡ 2 → problem_in store ≡ problem
    → slot_size_in store ≡ size → deltas_in store ≡ 0 → slots_in store ≡ Some (slot_of record { sequence = sequence; payload = payload }) ∷ None ∷ [] → Stands store t
renewed_stands store end problem size sequence payload t is base version text slot deltas slots =
    stands_at store t end (sym base) is.reads (version ∙ sym is.version_is) (text ∙ sym is.problem_is) (slot ∙ sym is.size_is) (deltas ∙ sym is.deltas_is) (slots ∙ sym is.slots_is)
