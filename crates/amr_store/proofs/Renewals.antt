-- A store of version 1 while it is renewed.
use Rattle.std.proofs.Common.{◌≡◌, inl, inr, ℕ, ◌+◌, ◌-◌, ◌≤◌, ◌<◌, ◌^◌, ◌==◌, nat_lt, true, false, List, [], ◌∷◌, ◌++◌, length, drop, Option, refl, sym, ◌∙◌, ap, subst, arith, length-append, length-drop, lit<, ap₂}
use Rattle.std.proofs.lemmas.Bool.{cases_Bool, ltb-true, ltb-false, le-ltb}
use Rattle.std.proofs.lemmas.List.{get_or-drop, get_or_append_left, get_or-append-add}
use Rattle.std.specs.Int.{to_le_bytes, w64}
use Rattle.std.specs.Prelude.{slice_index}
use Rattle.amr_disk.specs.Image.{Torn, written_at}
use Rattle.amr_disk.specs.Replay.{torn_written}
use Rattle.amr_store.proofs.Calls.{text_is}
use Rattle.amr_store.proofs.Heads.{IsHead, is_head, word_from}
use Rattle.amr_store.proofs.Gates.{state_kept}
use Rattle.amr_store.proofs.Images.{true_whole, outer_whole, base_plain, base_renewed, plain_sound, end_first, renewed_of, stored_is, and_second, and_third, third_false, end_kept, magic_1_kept, some_magic_kept, held_kept}
use Rattle.amr_store.proofs.Parts.{Untouched, beyond_changed}
use Rattle.amr_store.proofs.Tables.{table_same}
use Rattle.amr_store.proofs.Moves.{records_at, chain_below}
use Rattle.amr_store.specs.Table.{chain_of, latest_base}
use Rattle.amr_store.proofs.PartsRead.{not_both}
use Rattle.amr_store.proofs.Places.{Outside, torn_outside, outside_twice, long_same, word_same, range_same}
use Rattle.amr_store.proofs.Writes.{written_index, written_length, written_byte, long_from, range_is}
use Rattle.amr_store.specs.declared.store.Store.{Store}
use Rattle.amr_store.specs.Layout.{open_gate, magic_1, magic_2, magic_3, version_by, long_at, size_of, text_length, problem_of, gate_at, end_of}
use Rattle.amr_store.specs.Created.{head_bytes}
use Rattle.amr_store.specs.Phases.{TornTwice}
use Rattle.amr_store.specs.Renewed.{IsOld, IsOldShut, IsRenewal, renewal_bytes}
use Rattle.amr_store.specs.Stands.{Stands, base_in, version_in, problem_in, slot_size_in}
use Rattle.amr_store.specs.Stored.{Entry, State, Held, Reads, stored, state_of, is_open, is_renewed, end_in, deltas_of, entry_of, slots_of, latest_base_of, latest_entry, records_of, somes, is_known, has_magic_1}

one_of : (m v : ℕ) → v ≡ 1 → v ≡ version_by m → (m == magic_1) ≡ true
one_of m v one is = elim (cases_Bool (m == magic_1)) [
  | inl first ↦ first
  | inr other ↦ elim (cases_Bool (m == magic_3)) [
    | inl third ↦ let number : version_by m ≡ 3 = rw (other, third) refl in absurd (omega (arith, one, is, number))
    | inr none ↦ let number : version_by m ≡ 2 = rw (other, none) refl in absurd (omega (arith, one, is, number))
  ]
]

-- where the store ends, by what the code works out
pub end_as : (store : Store) (text end : ℕ) → text ≡ length (problem_in store) → end ≡ end_of text (slot_size_in store) → end ≡ end_of (length (problem_in store)) (slot_size_in store)
end_as store text end is at = at ∙ ap (λ (n : ℕ). end_of n (slot_size_in store)) is

-- what a store of version 1 stands for was not renewed
pub old_of : (store : Store) (s : List ℕ) → Stands store s → version_in store ≡ 1 → IsOld (end_of (length (problem_in store)) (slot_size_in store)) (problem_in store) s
old_of store s stands one =
    let version : has_magic_1 (drop (base_in store) s) ≡ true = one_of (long_at (drop (base_in store) s) 1) (version_in store) one stands.version in
    elim (cases_Bool (is_renewed s)) [
      | inl renewed ↦
          let at : base_in store ≡ end_in s = sym stands.reads.base_is ∙ base_renewed s renewed in
          let inner = renewed_of s renewed stands.reads.sound in
          let other : has_magic_1 (drop (end_in s) s) ≡ false = not_both (long_at (drop (end_in s) s) 1) inner.magic in
          let wrong : true ≡ false = sym version ∙ ap (λ (n : ℕ). has_magic_1 (drop n s)) at ∙ other in
          cc
      | inr plain ↦
          let at : base_in store ≡ 0 = sym stands.reads.base_is ∙ base_plain s plain in
          let text : text_length s ≡ length (problem_in store) = sym (ap (λ (n : ℕ). text_length (drop n s)) at) ∙ text_is store s stands in
          let size : size_of s ≡ slot_size_in store = sym (stands.slot_size ∙ ap (λ (n : ℕ). size_of (drop n s)) at) in
          record {
            reads = subst (λ (n : ℕ). Reads s n) at stands.reads;
            one = sym (ap (λ (n : ℕ). has_magic_1 (drop n s)) at) ∙ version;
            plain = plain;
            end_is = ap₂ end_of text size;
            problem_is = sym (stands.problem ∙ ap (λ (n : ℕ). problem_of (drop n s)) at);
          }
    ]

-- what follows the old store changed
pub record Behind (end : ℕ) (problem s c : List ℕ) : Type 0 where
  pub kept : Untouched s c
  pub end_is : end_in c ≡ end
  pub past : 0 < end

pub behind : (end b : ℕ) (problem s c : List ℕ) → IsOld end problem s → Outside end b s c → Behind end problem s c
behind end b problem s c is out =
    let whole = true_whole (is_known s) s (outer_whole s is.reads.sound) in
    let kept = beyond_changed s c end b whole (omega (arith, is.end_is, end_first s is.one)) out in
    record { kept = kept; end_is = end_kept s c kept.head ∙ is.end_is; past = omega (arith, is.end_is) }

-- what a store shows, with another latest state and other records
abbrev showing : List ℕ → Option Entry → List Entry → State
showing s e r = record (state_of s) { latest = e; records = r }

pub record OldKept (end : ℕ) (problem s c : List ℕ) : Type 0 where
  pub old : IsOld end problem c
  pub same : stored c ≡ stored s

shown_same : (s c : List ℕ) → Untouched s c → showing s (latest_entry c) (records_of c) ≡ showing s (latest_entry s) (records_of s)
shown_same s c kept =
    let at : latest_base_of c ≡ latest_base_of s = ap₂ latest_base kept.head.deltas kept.slots in
    let count : chain_of (deltas_of c) (slots_of c) ≡ chain_of (deltas_of s) (slots_of s) = ap₂ chain_of kept.head.deltas kept.slots in
    let few = chain_below s in
    let latest : latest_entry c ≡ latest_entry s = ap (λ (j : ℕ). entry_of c j) at ∙ kept.entries (latest_base_of s) (omega (arith, few)) in
    let records : records_of c ≡ records_of s =
    ap (λ (j : ℕ). records_at c j (chain_of (deltas_of c) (slots_of c))) at ∙ ap (λ (n : ℕ). records_at c (latest_base_of s) n) count
    ∙ ap (λ (l : List (Option Entry)). somes l) (table_same (λ j. entry_of s (latest_base_of s + 1 + j)) (λ j. entry_of c (latest_base_of s + 1 + j)) (chain_of (deltas_of s) (slots_of s))
    (λ j lt. kept.entries (latest_base_of s + 1 + j) (omega (arith, few, lt)))) in
    ap (λ (e : Option Entry). showing s e (records_of c)) latest ∙ ap (λ (r : List Entry). showing s (latest_entry s) r) records

pub old_kept : (end b : ℕ) (problem s c : List ℕ) → IsOld end problem s → Outside end b s c → is_renewed c ≡ false → OldKept end problem s c
old_kept end b problem s c is out plain =
    let after = behind end b problem s c is out in
    let reads : Reads c 0 = record {
      held = held_kept s c end b after.past out is.reads.held;
      sound = plain_sound c (some_magic_kept s c after.kept.head ∙ (outer_whole s is.reads.sound).magic) after.kept.whole plain;
      base_is = base_plain c plain;
    } in
    record {
      old = record {
        reads = reads;
        one = magic_1_kept s c after.kept.head ∙ is.one;
        plain = plain;
        end_is = after.end_is;
        problem_is = after.kept.head.problem ∙ is.problem_is;
      };
      same = stored_is c 0 reads ∙ ap Held (state_kept s c after.kept.head ∙ shown_same s c after.kept) ∙ sym (stored_is s 0 is.reads);
    }

plain_by_length : (c : List ℕ) (end : ℕ) → end_in c ≡ end → length c ≤ end + 1 → is_renewed c ≡ false
plain_by_length c end is short = and_second (has_magic_1 c) (nat_lt (end_in c + 1) (length c)) (is_open c (end_in c)) (le-ltb (end_in c + 1) (length c) (omega (arith, is)))

pub plain_by_gate : (c : List ℕ) (end : ℕ) → end_in c ≡ end → is_open c end ≡ false → is_renewed c ≡ false
plain_by_gate c end is shut = and_third (has_magic_1 c) (nat_lt (end_in c + 1) (length c)) (is_open c (end_in c)) (ap (λ (n : ℕ). is_open c n) is ∙ shut)

-- the byte past the old store is written, where nothing follows it
shut_kept : (end : ℕ) (problem s c : List ℕ) → IsOld end problem s → length s ≤ end + 1 → Torn end 1 s c → OldKept end problem s c
shut_kept end problem s c is short torn =
    let out = torn_outside end 1 end (end + 1) s c (omega arith) (omega arith) torn in
    old_kept end (end + 1) problem s c is out (plain_by_length c end (behind end (end + 1) problem s c is out).end_is (omega (arith, out.no_longer)))

pub shut_same : (end : ℕ) (problem s c : List ℕ) → IsOld end problem s → nat_lt (end + 1) (length s) ≡ false → Torn end 1 s c → stored c ≡ stored s
shut_same end problem s c is short torn = (shut_kept end problem s c is (ltb-false (end + 1) (length s) short) torn).same

pub shut_after : (end : ℕ) (problem s : List ℕ) → IsOld end problem s → nat_lt (end + 1) (length s) ≡ false → IsOldShut end problem (written_at end (0 ∷ []) s)
shut_after end problem s is short =
    let after = written_at end (0 ∷ []) s in
    let long : end + 1 ≤ length after = written_length end (0 ∷ []) s (omega arith) in
    record {
      old = (shut_kept end problem s after is (ltb-false (end + 1) (length s) short) (torn_written end (0 ∷ []) s)).old;
      here = omega arith;
      shut = ap (λ (n : ℕ). n == open_gate) (written_byte end 0 s);
    }

pub shut_already : (end : ℕ) (problem s : List ℕ) → IsOld end problem s → nat_lt (end + 1) (length s) ≡ true → IsOldShut end problem s
shut_already end problem s is long =
    let past : nat_lt (end_in s + 1) (length s) ≡ true = ap (λ (n : ℕ). nat_lt (n + 1) (length s)) is.end_is ∙ long in
    record {
      old = is;
      here = omega (arith, ltb-true (end + 1) (length s) long);
      shut = sym (ap (λ (n : ℕ). is_open s n) is.end_is) ∙ third_false (has_magic_1 s) (nat_lt (end_in s + 1) (length s)) (is_open s (end_in s)) is.one past is.plain;
    }

-- the new store is laid behind the closed byte
record LaidKept (end : ℕ) (problem s c : List ℕ) : Type 0 where
  shut : IsOldShut end problem c
  same : stored c ≡ stored s

laid_kept : (end n beyond : ℕ) (problem s c : List ℕ) → IsOldShut end problem s → end < beyond → TornTwice (end + 1) n beyond 1 s c → LaidKept end problem s c
laid_kept end n beyond problem s c is past torn =
    let b = end + 1 + n + (beyond + 1) in
    let d = torn.0 in
    let one = torn_outside (end + 1) n end b s d (omega arith) (omega arith) torn.1 in
    let two = torn_outside beyond 1 end b d c (omega (arith, past)) (omega arith) torn.2 in
    let out = outside_twice end b s d c one two in
    let byte : slice_index c end ≡ slice_index s end = torn.2.below end (omega (arith, is.here, one.no_shorter)) past ∙ torn.1.below end is.here (omega arith) in
    let shut : is_open c end ≡ false = ap (λ (k : ℕ). k == open_gate) byte ∙ is.shut in
    let kept = old_kept end b problem s c is.old out (plain_by_gate c end (behind end b problem s c is.old out).end_is shut) in
    record {
      shut = record { old = kept.old; here = omega (arith, is.here, out.no_shorter); shut = shut };
      same = kept.same;
    }

pub laid_same : (end n beyond : ℕ) (problem s c : List ℕ) → IsOldShut end problem s → end < beyond → TornTwice (end + 1) n beyond 1 s c → stored c ≡ stored s
laid_same end n beyond problem s c is past torn = (laid_kept end n beyond problem s c is past torn).same

pub laid_shut : (end beyond : ℕ) (problem all s : List ℕ) → IsOldShut end problem s → end < beyond → IsOldShut end problem (written_at beyond (0 ∷ []) (written_at (end + 1) all s))
laid_shut end beyond problem all s is past =
    let mid = written_at (end + 1) all s in
    (laid_kept end (length all) beyond problem s (written_at beyond (0 ∷ []) mid) is past (mid, torn_written (end + 1) all s, torn_written beyond (0 ∷ []) mid)).shut

-- the bytes of a renewal, by their places
abbrev lead_bytes : List ℕ → ℕ → List ℕ
lead_bytes problem size = head_bytes 165 2 problem size

record IsAll (all problem : List ℕ) (size sequence : ℕ) (payload : List ℕ) : Type 0 where
  count : length all ≡ 37 + length problem + length payload
  front : (i : ℕ) → i < 21 + length problem → slice_index all i ≡ slice_index (lead_bytes problem size) i
  low : (i : ℕ) → i < 8 → slice_index all (21 + length problem + i) ≡ slice_index (to_le_bytes w64 sequence) i
  high : (i : ℕ) → i < 8 → slice_index all (21 + length problem + (8 + i)) ≡ slice_index (to_le_bytes w64 (length payload)) i
  payload_is : (i : ℕ) → i < length payload → slice_index all (21 + length problem + (16 + i)) ≡ slice_index payload i

front_head : (problem : List ℕ) (size : ℕ) → IsHead 165 2 (lead_bytes problem size) problem size
front_head problem size = is_head 165 2 (lead_bytes problem size) problem size refl

all_bytes : (problem : List ℕ) (size sequence : ℕ) (payload : List ℕ) → IsAll (renewal_bytes problem size sequence payload) problem size sequence payload
all_bytes problem size sequence payload =
    let front = lead_bytes problem size in
    let q = to_le_bytes w64 sequence in
    let n = to_le_bytes w64 (length payload) in
    let wide : length front ≡ 21 + length problem = (front_head problem size).count in
    let both : length (front ++ (q ++ n)) ≡ 37 + length problem = omega (arith, length-append front (q ++ n), wide) in
    record {
      count = omega (arith, length-append (front ++ (q ++ n)) payload, both);
      front = λ i lt. get_or_append_left (front ++ (q ++ n)) payload 0 i (omega (arith, both)) ∙ get_or_append_left front (q ++ n) 0 i (omega (arith, wide));
      low = λ i lt. get_or_append_left (front ++ (q ++ n)) payload 0 (21 + length problem + i) (omega (arith, both))
          ∙ ap (λ (k : ℕ). slice_index (front ++ (q ++ n)) (k + i)) (sym wide) ∙ get_or-append-add front (q ++ n) i 0 ∙ get_or_append_left q n 0 i lt;
      high = λ i lt. get_or_append_left (front ++ (q ++ n)) payload 0 (21 + length problem + (8 + i)) (omega (arith, both))
          ∙ ap (λ (k : ℕ). slice_index (front ++ (q ++ n)) (k + (8 + i))) (sym wide) ∙ get_or-append-add front (q ++ n) (8 + i) 0 ∙ get_or-append-add q n i 0;
      payload_is = λ i lt. ap (λ (k : ℕ). slice_index (front ++ (q ++ n) ++ payload) k) (sums _ i both) ∙ get_or-append-add (front ++ (q ++ n)) payload i 0;
    }
  where
    sums : (k i : ℕ) → k ≡ 37 + length problem → 21 + length problem + (16 + i) ≡ k + i
    sums k i is = omega (arith, is)

is_all : (all problem : List ℕ) (size sequence : ℕ) (payload : List ℕ) → all ≡ renewal_bytes problem size sequence payload → IsAll all problem size sequence payload
is_all all problem size sequence payload is = subst (λ (a : List ℕ). IsAll a problem size sequence payload) (sym is) (all_bytes problem size sequence payload)

renewal_at : (s all problem : List ℕ) (end size sequence : ℕ) (payload : List ℕ) → IsAll all problem size sequence payload → length problem ≤ 65536 → size ≤ 2 ^ 40 → length payload ≤ size → 0 < sequence → sequence < 2 ^ 64
    → IsRenewal problem size sequence payload (drop end (written_at (end + gate_at 1 (length problem) size) (0 ∷ []) (written_at (end + 1) all s)))
renewal_at s all problem end size sequence payload is text_fits size_fits fits some small =
    let l = length problem in
    let gate = gate_at 1 l size in
    let mid = written_at (end + 1) all s in
    let after = written_at (end + gate) (0 ∷ []) mid in
    let part = drop end after in
    let head = front_head problem size in
    let second : Torn (end + gate) 1 mid after = torn_written (end + gate) (0 ∷ []) mid in
    let long : end + 1 + length all ≤ length mid = written_length (end + 1) all s (omega (arith, is.count)) in
    let ends : end + gate + 1 ≤ length after = written_length (end + gate) (0 ∷ []) mid (omega arith) in
    let whole : gate < length part = omega (arith, length-drop end after, ends) in
    let at : (i : ℕ) → i < length all → slice_index part (1 + i) ≡ slice_index all i = λ i lt.
    get_or-drop end after (1 + i) 0 ∙ ap (λ (k : ℕ). slice_index after k) (one_more i) ∙ second.below (end + 1 + i) (omega (arith, long)) (omega (arith, is.count, fits)) ∙ written_index (end + 1) i all s lt in
    let front : (i : ℕ) → i < 21 + l → slice_index part (1 + i) ≡ slice_index (lead_bytes problem size) i = λ i lt. at i (omega (arith, is.count)) ∙ is.front i lt in
    record {
      long = whole;
      magic = long_from part 1 magic_2 (lit< tt) (λ i lt. front i (omega arith) ∙ head.magic i lt);
      size_is = long_from part 9 size (omega arith) (λ i lt. ap (λ (k : ℕ). slice_index part k) (nine i) ∙ front (8 + i) (omega arith) ∙ head.size_is i lt);
      text_is = word_from part 17 l (omega arith) (λ i lt. ap (λ (k : ℕ). slice_index part k) (seventeen i) ∙ front (16 + i) (omega arith) ∙ head.text_is i lt);
      problem_is = range_is part 21 problem (omega (arith, whole)) (λ i lt. ap (λ (k : ℕ). slice_index part k) (twenty_one i) ∙ front (20 + i) (omega arith) ∙ head.problem_is i lt);
      opened_0 = ap (λ (k : ℕ). slice_index part k) zero_gate ∙ front (20 + l) (omega arith) ∙ head.gate;
      filled = record {
        whole = omega (arith, whole, fits);
        fits = fits;
        some = some;
        sequence_is = long_from part (gate_at 0 l size + 1) sequence small (λ i lt. ap (λ (k : ℕ). slice_index part k) (low_sum i) ∙ at (21 + l + i) (omega (arith, is.count)) ∙ is.low i lt);
        length_is = long_from part (gate_at 0 l size + 9) (length payload) (omega arith) (λ i lt. ap (λ (k : ℕ). slice_index part k) (high_sum i) ∙ at (21 + l + (8 + i)) (omega (arith, is.count)) ∙ is.high i lt);
        payload_is = range_is part (gate_at 0 l size + 17) payload (omega (arith, whole, fits)) (λ i lt. ap (λ (k : ℕ). slice_index part k) (payload_sum i) ∙ at (21 + l + (16 + i)) (omega (arith, is.count)) ∙ is.payload_is i lt);
      };
      shut_1 = get_or-drop end after gate 0 ∙ written_byte (end + gate) 0 mid;
    }
  where
    one_more : (i : ℕ) → end + (1 + i) ≡ end + 1 + i
    one_more i = omega arith

    nine : (i : ℕ) → 9 + i ≡ 1 + (8 + i)
    nine i = omega arith

    seventeen : (i : ℕ) → 17 + i ≡ 1 + (16 + i)
    seventeen i = omega arith

    twenty_one : (i : ℕ) → 21 + i ≡ 1 + (20 + i)
    twenty_one i = omega arith

    zero_gate : gate_at 0 (length problem) size ≡ 1 + (20 + length problem)
    zero_gate = omega arith

    low_sum : (i : ℕ) → gate_at 0 (length problem) size + 1 + i ≡ 1 + (21 + length problem + i)
    low_sum i = omega arith

    high_sum : (i : ℕ) → gate_at 0 (length problem) size + 9 + i ≡ 1 + (21 + length problem + (8 + i))
    high_sum i = omega arith

    payload_sum : (i : ℕ) → gate_at 0 (length problem) size + 17 + i ≡ 1 + (21 + length problem + (16 + i))
    payload_sum i = omega arith

pub renewal_written : (s all problem : List ℕ) (end size sequence gate : ℕ) (payload : List ℕ) → gate ≡ gate_at 1 (length problem) size → all ≡ renewal_bytes problem size sequence payload → length problem ≤ 65536 → size ≤ 2 ^ 40
    → length payload ≤ size → 0 < sequence → sequence < 2 ^ 64 → IsRenewal problem size sequence payload (drop end (written_at (end + gate) (0 ∷ []) (written_at (end + 1) all s)))
renewal_written s all problem end size sequence gate payload at is text_fits size_fits fits some small =
    subst (λ (g : ℕ). IsRenewal problem size sequence payload (drop end (written_at (end + g) (0 ∷ []) (written_at (end + 1) all s)))) (sym at)
    (renewal_at s all problem end size sequence payload (is_all all problem size sequence payload is) text_fits size_fits fits some small)

-- the part behind its first byte stays
pub renewal_kept : (problem : List ℕ) (size sequence : ℕ) (payload old new : List ℕ) → IsRenewal problem size sequence payload old → length old ≤ length new
    → ((i : ℕ) → 1 ≤ i → i < length old → slice_index new i ≡ slice_index old i) → IsRenewal problem size sequence payload new
renewal_kept problem size sequence payload old new is longer same =
    let l = length problem in
    let filled = is.filled in
    record {
      long = omega (arith, is.long, longer);
      magic = long_same old new 1 (λ i lt. same (1 + i) (omega arith) (omega (arith, is.long))) ∙ is.magic;
      size_is = long_same old new 9 (λ i lt. same (9 + i) (omega arith) (omega (arith, is.long))) ∙ is.size_is;
      text_is = word_same old new 17 (λ i lt. same (17 + i) (omega arith) (omega (arith, is.long))) ∙ is.text_is;
      problem_is = range_same old new 21 (21 + l) (omega (arith, is.long)) (omega (arith, is.long, longer)) (λ i from to. same i (omega arith) (omega (arith, is.long))) ∙ is.problem_is;
      opened_0 = same (gate_at 0 l size) (omega arith) (omega (arith, is.long)) ∙ is.opened_0;
      filled = record {
        whole = omega (arith, filled.whole, longer);
        fits = filled.fits;
        some = filled.some;
        sequence_is = long_same old new (gate_at 0 l size + 1) (λ i lt. same (gate_at 0 l size + 1 + i) (omega arith) (omega (arith, filled.whole))) ∙ filled.sequence_is;
        length_is = long_same old new (gate_at 0 l size + 9) (λ i lt. same (gate_at 0 l size + 9 + i) (omega arith) (omega (arith, filled.whole))) ∙ filled.length_is;
        payload_is = range_same old new (gate_at 0 l size + 17) (gate_at 0 l size + 17 + length payload) filled.whole (omega (arith, filled.whole, longer)) (λ i from to. same i (omega arith) (omega (arith, filled.whole))) ∙ filled.payload_is;
      };
      shut_1 = same (gate_at 1 l size) (omega arith) is.long ∙ is.shut_1;
    }
