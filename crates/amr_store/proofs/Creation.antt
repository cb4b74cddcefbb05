-- A new store, from the closed first byte to the open one.
use Rattle.std.proofs.Common.{◌≡◌, ◌⊎◌, inl, inr, ℕ, ◌+◌, ◌*◌, ◌≤◌, ◌<◌, ◌^◌, ◌==◌, nat_le, nat_lt, Bool, true, false, ◌&&◌, ◌||◌, List, [], ◌∷◌, length, Option, Some, None, refl, sym, ◌∙◌, ap, subst, arith, ap₂}
use Rattle.std.proofs.lemmas.Bool.{cases_Bool, le-leb, ltb-true, ltb-false, le-ltb, or_left, or_right, not_from_false, eqb-true}
use Rattle.std.proofs.lemmas.Nat.{mul-le}
use Rattle.std.proofs.lemmas.Bool.Decides.{nat_tests}
use Rattle.std.specs.Prelude.{slice_index, slice_range}
use Rattle.amr_disk.specs.Image.{Torn, written_at}
use Rattle.amr_disk.specs.Replay.{torn_written}
use Rattle.amr_store.proofs.Images.{plain_sound, base_plain, held_of, stored_is, and_first, and_second, and_third}
use Rattle.amr_store.proofs.Places.{torn_outside, long_same, word_same, range_same}
use Rattle.amr_store.proofs.Slots.{sound_closed, entry_closed, second_false}
use Rattle.amr_store.proofs.Whole.{Whole}
use Rattle.amr_store.proofs.Writes.{written_index, written_length, written_byte, long_from, range_is}
use Rattle.std.specs.Prelude.{option_map, replicate}
use Rattle.amr_store.proofs.Calls.{stands_at}
use Rattle.amr_store.proofs.Seen.{where_true, where_false}
use Rattle.amr_store.specs.declared.store.Store.{Store}
use Rattle.amr_store.specs.Stands.{Stands, base_in, version_in, problem_in, slot_size_in, deltas_in, slots_in}
use Rattle.amr_store.specs.Created.{IsVersion, HasNumber, IsShutFirst, IsNew, IsPlain, IsLaid, IsMade, magic_of, head_bytes, state_with, laid_image}
use Rattle.amr_store.specs.Layout.{open_gate, magic_1, magic_2, magic_3, version_by, long_at, size_of, problem_of, lead_length, lead_of, gate_at, end_of}
use Rattle.amr_store.specs.Phases.{TornTwice, TornThrice}
use Rattle.amr_store.specs.Table.{table, slot_count, is_tied, is_stray, chain_of, IsNumbered}
use Rattle.amr_store.specs.declared.slot.Slot.{Slot}
use Rattle.amr_store.proofs.Tables.{gate_first, next_or_latest, table_constant}
use Rattle.amr_store.proofs.Gates.{not_zero}
use Rattle.amr_store.proofs.NewTables.{none_open}
use Rattle.amr_store.proofs.Leads.{third_deltas, other_deltas, other_sound, number_sound}
use Rattle.amr_store.proofs.Moves.{records_at, no_records}
use Rattle.amr_store.specs.Stored.{Entry, State, Empty, Damaged, Held, Reads, stored, judged, is_empty, is_open, slot_of, deltas_of, count_of, gate_of, entry_of, known_of, slots_of, latest_base_of, is_renewed, is_known, has_bad_deltas, has_magic_1, has_magic_3, state_of, end_in}
use Rattle.amr_store.proofs.Heads.{magic_small, word_from, IsHead, is_head}

pub empty_stored : (c : List ℕ) → is_empty c ≡ true → stored c ≡ Empty
empty_stored c is = rw is refl

judged_empty : (b : Bool) (d : Option _) (s : State) → judged b d s ≡ Empty → b ≡ true
judged_empty true d s is = refl
judged_empty false None s is = let wrong : Held s ≡ Empty = is in cc
judged_empty false (Some p) s is = let wrong : Damaged p ≡ Empty = is in cc

pub empty_of : (s : List ℕ) → stored s ≡ Empty → is_empty s ≡ true
empty_of s is = judged_empty (is_empty s) _ _ is

pub shut_empty : (c : List ℕ) → is_open c 0 ≡ false → stored c ≡ Empty
shut_empty c shut = empty_stored c (or_right (nat_le (length c) 1) _ (not_from_false (is_open c 0) shut))

-- the first byte of an image of at most one byte is written
pub short_stop : (s c : List ℕ) → length s ≤ 1 → Torn 0 1 s c → stored c ≡ Empty
short_stop s c short torn = empty_stored c (or_left (nat_le (length c) 1) _ (le-leb (length c) 1 (omega (arith, torn.no_longer))))

-- what is written past the first byte leaves it as it was
pub first_kept : (s c : List ℕ) (at n : ℕ) → 0 < at → IsShutFirst s → Torn at n s c → IsShutFirst c
first_kept s c at n past is torn = record {
  some = omega (arith, is.some, torn.no_shorter);
  shut = ap (λ (m : ℕ). m == open_gate) (torn.below 0 is.some past) ∙ is.shut;
}

pub first_kept_twice : (s c : List ℕ) (at n beyond m : ℕ) → 0 < at → 0 < beyond → IsShutFirst s → TornTwice at n beyond m s c → IsShutFirst c
first_kept_twice s c at n beyond m p q is torn = first_kept torn.0 c beyond m q (first_kept s torn.0 at n p is torn.1) torn.2

pub first_kept_thrice : (s c : List ℕ) (at n beyond m last k : ℕ) → 0 < at → 0 < beyond → 0 < last → IsShutFirst s → TornThrice at n beyond m last k s c → IsShutFirst c
first_kept_thrice s c at n beyond m last k p q r is torn = first_kept torn.0 c last k r (first_kept_twice s torn.0 at n beyond m p q is torn.1) torn.2

few_gates : (k deltas lead size : ℕ) → k < slot_count deltas → gate_at k lead size ≤ gate_at (1 + 2 * deltas) lead size
few_gates k deltas lead size few = omega (arith, mul-le k (17 + size) (1 + 2 * deltas) (17 + size) (omega arith) (omega arith))

pub new_same : (version deltas : ℕ) (problem : List ℕ) (size : ℕ) (old new : List ℕ) → IsNew version deltas problem size old → length old ≤ length new
    → ((i : ℕ) → 1 ≤ i → i ≤ gate_at (1 + 2 * deltas) (lead_length version (length problem)) size → slice_index new i ≡ slice_index old i) → IsNew version deltas problem size new
new_same version deltas problem size old new is longer same =
    let lead = lead_length version (length problem) in
    let last = gate_first (1 + 2 * deltas) lead size in record {
      long = omega (arith, is.long, longer);
      magic = long_same old new 1 (λ i lt. same (1 + i) (omega arith) (omega arith)) ∙ is.magic;
      size_is = long_same old new 9 (λ i lt. same (9 + i) (omega arith) (omega arith)) ∙ is.size_is;
      text_is = word_same old new 17 (λ i lt. same (17 + i) (omega arith) (omega arith)) ∙ is.text_is;
      problem_is = range_same old new 21 (21 + length problem) (omega (arith, is.long, last)) (omega (arith, is.long, longer, last)) (λ i from to. same i (omega arith) (omega (arith, last))) ∙ is.problem_is;
      number = λ third. same (21 + length problem) (omega arith) (omega (arith, last)) ∙ is.number third;
      shut = λ k few. same (gate_at k lead size) (omega (arith, gate_first k lead size)) (few_gates k deltas lead size few) ∙ is.shut k few;
    }

-- the first byte is written over a new store
pub new_kept : (version deltas : ℕ) (problem : List ℕ) (size : ℕ) (old new : List ℕ) → IsNew version deltas problem size old → Torn 0 1 old new → IsNew version deltas problem size new
new_kept version deltas problem size old new is torn =
    new_same version deltas problem size old new is torn.no_shorter (λ i past within. torn.above i (omega (arith, is.long)) (omega arith))

-- a byte past the store is written
past_kept : (version deltas : ℕ) (problem : List ℕ) (size at : ℕ) (old new : List ℕ) → gate_at (1 + 2 * deltas) (lead_length version (length problem)) size < at → IsNew version deltas problem size old → Torn at 1 old new
    → IsNew version deltas problem size new
past_kept version deltas problem size at old new beyond is torn =
    new_same version deltas problem size old new is torn.no_shorter (λ i past within. torn.below i (omega (arith, is.long)) (omega arith))

plain_kept : (version text size : ℕ) (old new : List ℕ) → 0 < length old → IsPlain version text size old → Torn 0 1 old new → IsPlain version text size new
plain_kept version text size old new some is torn = record {
  past = λ one long.
      let same_length : length new ≤ length old = omega (arith, torn.no_longer, some) in
      torn.above (end_of text size) (omega arith) (omega arith) ∙ is.past one (omega arith);
}

pub laid_kept : (version deltas : ℕ) (problem : List ℕ) (size : ℕ) (old new : List ℕ) → IsLaid version deltas problem size old → Torn 0 1 old new → IsLaid version deltas problem size new
laid_kept version deltas problem size old new is torn = record {
  inner = new_kept version deltas problem size old new is.inner torn;
  plain = plain_kept version (length problem) size old new (omega (arith, is.inner.long)) is.plain torn;
}

-- no records follow a base in the older versions
pub numbered_old : (version : ℕ) → IsVersion version → IsNumbered version 0
numbered_old version known = record {
  few = omega arith;
  some = λ three. absurd (elim known [ inl one ↦ omega (arith, one, three) | inr two ↦ omega (arith, two, three) ]);
  none = λ other. refl;
}

zero_shut : (image : List ℕ) (gate : ℕ) → slice_index image gate ≡ 0 → is_open image gate ≡ false
zero_shut image gate is = ap (λ (n : ℕ). n == open_gate) is

-- what the magic says, and that nothing renews the store
record HasVersion (version deltas : ℕ) (image : List ℕ) : Type 0 where
  number : version_by (long_at image 1) ≡ version
  magic : is_known image ≡ true
  deltas_is : deltas_of image ≡ deltas
  sound : has_bad_deltas image ≡ false
  plain : is_renewed image ≡ false

has_version : (version deltas : ℕ) (problem : List ℕ) (size : ℕ) (image : List ℕ) → HasNumber version deltas → IsLaid version deltas problem size image → HasVersion version deltas image
has_version version deltas problem size image known is = elim known [
  | inl old ↦ elim old.0 [
    | inl one ↦
        let as_1 : long_at image 1 ≡ magic_1 = is.inner.magic ∙ ap magic_of one in
        let ends : end_in image ≡ end_of (length problem) size = ap₂ end_of is.inner.text_is is.inner.size_is in
        let third : has_magic_3 image ≡ false = ap (λ (n : ℕ). n == magic_3) as_1 in
        record {
          number = ap version_by as_1 ∙ sym one;
          magic = ap (λ (n : ℕ). ((n == magic_1) || (n == magic_3)) || (n == magic_2)) as_1;
          deltas_is = other_deltas image third ∙ sym old.1;
          sound = other_sound image third;
          plain = elim (cases_Bool (nat_lt (end_in image) (length image))) [
            | inl long ↦
                let byte : slice_index image (end_in image) ≡ 0 = ap (λ (n : ℕ). slice_index image n) ends ∙ is.plain.past one (omega (arith, ends, ltb-true (end_in image) (length image) long)) in
                and_third (has_magic_1 image) (nat_lt (end_in image + 1) (length image)) (is_open image (end_in image)) (ap (λ (n : ℕ). n == open_gate) byte)
            | inr short ↦
                and_second (has_magic_1 image) (nat_lt (end_in image + 1) (length image)) (is_open image (end_in image)) (le-ltb (end_in image + 1) (length image) (omega (arith, ltb-false (end_in image) (length image) short)))
          ];
        }
    | inr two ↦
        let as_2 : long_at image 1 ≡ magic_2 = is.inner.magic ∙ ap magic_of two in
        let third : has_magic_3 image ≡ false = ap (λ (n : ℕ). n == magic_3) as_2 in
        record {
          number = ap version_by as_2 ∙ sym two;
          magic = ap (λ (n : ℕ). ((n == magic_1) || (n == magic_3)) || (n == magic_2)) as_2;
          deltas_is = other_deltas image third ∙ sym old.1;
          sound = other_sound image third;
          plain = and_first (has_magic_1 image) (nat_lt (end_in image + 1) (length image)) (is_open image (end_in image)) (ap (λ (n : ℕ). n == magic_1) as_2);
        }
  ]
  | inr three ↦
      let as_3 : long_at image 1 ≡ magic_3 = is.inner.magic ∙ ap magic_of three.0 in
      let third : has_magic_3 image ≡ true = ap (λ (n : ℕ). n == magic_3) as_3 in
      let count : deltas_of image ≡ deltas = third_deltas image third ∙ ap (λ (n : ℕ). slice_index image (21 + n)) is.inner.text_is ∙ is.inner.number three.0 in
      record {
        number = ap version_by as_3 ∙ sym three.0;
        magic = ap (λ (n : ℕ). ((n == magic_1) || (n == magic_3)) || (n == magic_2)) as_3;
        deltas_is = count;
        sound = number_sound image record {
          here = omega (arith, is.inner.text_is, is.inner.long, gate_first (1 + 2 * deltas) (lead_length version (length problem)) size, third_lead version (length problem) three.0);
          some = ap (λ (n : ℕ). n == 0) count ∙ not_zero deltas three.1;
          few = omega (arith, count, three.2);
        };
        plain = and_first (has_magic_1 image) (nat_lt (end_in image + 1) (length image)) (is_open image (end_in image)) (ap (λ (n : ℕ). n == magic_1) as_3);
      }
]
  where
    third_lead : (version text : ℕ) → version ≡ 3 → lead_length version text ≡ text + 1
    third_lead version text is = ap (λ (v : ℕ). lead_length v text) is

-- a new store behind an open first byte
pub record NewStore (version deltas : ℕ) (problem : List ℕ) (size : ℕ) (image : List ℕ) : Type 0 where
  pub reads : Reads image 0
  pub size_is : size_of image ≡ size
  pub problem_is : problem_of image ≡ problem
  pub version_is : (state_of image).version ≡ version
  pub deltas_is : deltas_of image ≡ deltas
  pub slots_is : slots_of image ≡ replicate (slot_count deltas) None
  pub stored_as : stored image ≡ Held (state_with version deltas problem size)

pub new_store : (version deltas : ℕ) (problem : List ℕ) (size : ℕ) (image : List ℕ) → HasNumber version deltas → length problem ≤ 65536 → size ≤ 2 ^ 40 → IsMade version deltas problem size image → NewStore version deltas problem size image
new_store version deltas problem size image known text_fits size_fits made =
    let is = made.laid.inner in
    let opened = made.opened in
    let lead = lead_length version (length problem) in
    let versions = has_version version deltas problem size image known made.laid in
    let leads : lead_of image ≡ lead = ap₂ lead_length versions.number is.text_is in
    let last = gate_first (1 + 2 * deltas) lead size in
    let count : count_of image ≡ slot_count deltas = ap slot_count versions.deltas_is in
    let shut : (k : ℕ) → k < slot_count deltas → is_open image (gate_of image k) ≡ false = λ k few.
    ap (λ (n : ℕ). is_open image n) (ap₂ (gate_at k) leads is.size_is) ∙ zero_shut image (gate_at k lead size) (is.shut k few) in
    let none : (k : ℕ) → k < slot_count deltas → entry_of image k ≡ None = λ k few. entry_closed image (gate_of image k) (shut k few) in
    let slots : slots_of image ≡ replicate (slot_count deltas) None =
    ap (λ (n : ℕ). table (λ k. known_of image k) n) count ∙ table_constant (λ k. known_of image k) None (slot_count deltas) (λ k few. ap (λ (o : Option Entry). option_map slot_of o) (none k few)) in
    let text : problem_of image ≡ problem = ap (λ (n : ℕ). slice_range image 21 (21 + n)) is.text_is ∙ is.problem_is in
    let empty = none_open deltas in
    let whole : Whole true image = record {
      long = omega (arith, is.long, last);
      magic = refl;
      text_fits = omega (arith, is.text_is, text_fits);
      text_whole = omega (arith, is.text_is, is.long, last, lead_longer version (length problem));
      deltas = versions.sound;
      size_fits = omega (arith, is.size_is, size_fits);
      slots = λ k few. sound_closed image (gate_of image k) (size_of image) (omega (arith, is.long, ap₂ (gate_at k) leads is.size_is, few_gates k deltas lead size (omega (arith, few, count)))) (shut k (omega (arith, few, count)));
      tie = ap₂ is_tied versions.deltas_is slots ∙ empty.sound.apart;
      harmless = λ k few. ap₂ (λ (d : ℕ) (l : List (Option Slot)). is_stray d l k) versions.deltas_is slots ∙ empty.sound.harmless.none k (omega (arith, few, count));
    } in
    let reads : Reads image 0 = record {
      held = held_of image (omega (arith, is.long, last)) opened;
      sound = plain_sound image versions.magic whole versions.plain;
      base_is = base_plain image versions.plain;
    } in
    let base : latest_base_of image < slot_count deltas = omega (arith, count, (next_or_latest (deltas_of image) (slots_of image)).latest_within) in
    let chain : chain_of (deltas_of image) (slots_of image) ≡ 0 = ap₂ chain_of versions.deltas_is slots ∙ empty.chain in
    record {
      reads = reads;
      size_is = is.size_is;
      problem_is = text;
      version_is = versions.number;
      deltas_is = versions.deltas_is;
      slots_is = slots;
      stored_as = stored_is image 0 reads ∙ ap Held (states _ _ _ _ _ _ _ _ _ _ _ _ versions.number text is.size_is versions.deltas_is (none (latest_base_of image) base) (ap (λ (n : ℕ). records_at image (latest_base_of image) n) chain ∙ no_records image (latest_base_of image)));
    }
  where
    lead_longer : (version text : ℕ) → text ≤ lead_length version text
    lead_longer version text = omega arith

    shown : ℕ → List ℕ → ℕ → ℕ → Option Entry → List Entry → State
    shown v p t d a r = record { version = v; problem = p; slot_size = t; deltas = d; latest = a; records = r }

    states : (v w : ℕ) (p q : List ℕ) (s t : ℕ) (d n : ℕ) (a c : Option Entry) (r u : List Entry) → v ≡ w → p ≡ q → s ≡ t → d ≡ n → a ≡ c → r ≡ u → shown v p s d a r ≡ shown w q t n c u
    states v w p q s t d n a c r u e f g h i j = cc

not_third : (version : ℕ) → IsVersion version → version ≡ 3 → ⊥
not_third version known third = elim known [ inl one ↦ omega (arith, one, third) | inr two ↦ omega (arith, two, third) ]

old_lead : (version text : ℕ) → IsVersion version → lead_length version text ≡ text
old_lead version text known = elim known [
  | inl one ↦ ap (λ (v : ℕ). lead_length v text) one ∙ omega arith
  | inr two ↦ ap (λ (v : ℕ). lead_length v text) two ∙ omega arith
]

new_at : (version : ℕ) (s head problem : List ℕ) (size : ℕ) → IsVersion version → IsHead 0 version head problem size → length problem ≤ 65536 → size ≤ 2 ^ 40
    → IsNew version 0 problem size (written_at (gate_at 1 (length problem) size) (0 ∷ []) (written_at 1 head s))
new_at version s head problem size known is text_fits size_fits =
    let lead = old_lead version (length problem) known in
    let gate = gate_at 1 (length problem) size in
    let mid = written_at 1 head s in
    let after = written_at gate (0 ∷ []) mid in
    let second : Torn gate 1 mid after = torn_written gate (0 ∷ []) mid in
    let long : 1 + length head ≤ length mid = written_length 1 head s (omega (arith, is.count)) in
    let at : (i : ℕ) → i < length head → slice_index after (1 + i) ≡ slice_index head i = λ i lt. second.below (1 + i) (omega (arith, long)) (omega (arith, is.count)) ∙ written_index 1 i head s lt in
    let whole : gate < length after = let long : gate + 1 ≤ length after = written_length gate (0 ∷ []) mid (omega arith) in omega arith in
    record {
      long = omega (arith, whole, lead);
      magic = long_from after 1 (magic_of version) (magic_small version) (λ i lt. at i (omega (arith, is.count)) ∙ is.magic i lt);
      size_is = long_from after 9 size (omega arith) (λ i lt. ap (λ (n : ℕ). slice_index after n) (nine i) ∙ at (8 + i) (omega (arith, is.count)) ∙ is.size_is i lt);
      text_is = word_from after 17 (length problem) (omega arith) (λ i lt. ap (λ (n : ℕ). slice_index after n) (seventeen i) ∙ at (16 + i) (omega (arith, is.count)) ∙ is.text_is i lt);
      problem_is = range_is after 21 problem (omega (arith, whole)) (λ i lt. ap (λ (n : ℕ). slice_index after n) (twenty_one i) ∙ at (20 + i) (omega (arith, is.count)) ∙ is.problem_is i lt);
      number = λ third. absurd (not_third version known third);
      shut = λ k few. ap (λ (l : ℕ). slice_index after (gate_at k l size)) lead ∙ (elim (cases_Bool (k == 0)) [
        | inl zeroth ↦ ap (λ (n : ℕ). slice_index after n) (first_gate k zeroth) ∙ at (20 + length problem) (omega (arith, is.count)) ∙ is.gate
        | inr other ↦ ap (λ (n : ℕ). slice_index after (gate_at n (length problem) size)) (other_gate k few other) ∙ written_byte gate 0 mid
      ]);
    }
  where
    nine : (i : ℕ) → 9 + i ≡ 1 + (8 + i)
    nine i = omega arith

    seventeen : (i : ℕ) → 17 + i ≡ 1 + (16 + i)
    seventeen i = omega arith

    twenty_one : (i : ℕ) → 21 + i ≡ 1 + (20 + i)
    twenty_one i = omega arith

    first_gate : (k : ℕ) → (k == 0) ≡ true → gate_at k (length problem) size ≡ 1 + (20 + length problem)
    first_gate k is_zero = let zeroth : k ≡ 0 = eqb-true k 0 is_zero in ap (λ (n : ℕ). gate_at n (length problem) size) zeroth ∙ omega arith

    other_gate : (k : ℕ) → k < 2 → (k == 0) ≡ false → k ≡ 1
    other_gate k few other = grind (arith, nat_tests)

-- what is written where the gate past the store is not closed, since the image does not reach it or the store is of version 2
twice_laid : (version : ℕ) (s head problem : List ℕ) (size : ℕ) → IsVersion version → head ≡ head_bytes 0 version problem size → length problem ≤ 65536 → size ≤ 2 ^ 40
    → (version == 1 && nat_lt (end_of (length problem) size) (length s)) ≡ false
    → IsLaid version 0 problem size (written_at (gate_at 1 (length problem) size) (0 ∷ []) (written_at 1 head s))
twice_laid version s head problem size known is text_fits size_fits short =
    let head_is = is_head 0 version head problem size is in
    let mid = written_at 1 head s in
    let after = written_at (gate_at 1 (length problem) size) (0 ∷ []) mid in
    let first : Torn 1 (length head) s mid = torn_written 1 head s in
    let second : Torn (gate_at 1 (length problem) size) 1 mid after = torn_written (gate_at 1 (length problem) size) (0 ∷ []) mid in
    record {
      inner = new_at version s head problem size known head_is text_fits size_fits;
      plain = record {
        past = λ one long.
            let none : nat_lt (end_of (length problem) size) (length s) ≡ false = second_false (version == 1) _ (ap (λ (n : ℕ). n == 1) one) short in
            let out_1 = torn_outside 1 (length head) 1 (22 + length problem) s mid (omega arith) (omega (arith, head_is.count)) first in
            let out_2 = torn_outside (gate_at 1 (length problem) size) 1 1 (gate_at 1 (length problem) size + 1) mid after (omega arith) (omega arith) second in
            let wrong : length after ≤ end_of (length problem) size = omega (arith, out_1.no_longer, out_2.no_longer, ltb-false (end_of (length problem) size) (length s) none) in
            absurd (omega arith);
      };
    }

-- what is written where the gate past the store is closed too
thrice_laid : (version : ℕ) (s head problem : List ℕ) (size : ℕ) → IsVersion version → head ≡ head_bytes 0 version problem size → length problem ≤ 65536 → size ≤ 2 ^ 40
    → IsLaid version 0 problem size (written_at (end_of (length problem) size) (0 ∷ []) (written_at (gate_at 1 (length problem) size) (0 ∷ []) (written_at 1 head s)))
thrice_laid version s head problem size known is text_fits size_fits =
    let end = end_of (length problem) size in
    let mid = written_at (gate_at 1 (length problem) size) (0 ∷ []) (written_at 1 head s) in
    record {
      inner = past_kept version 0 problem size end mid (written_at end (0 ∷ []) mid) (omega (arith, old_lead version (length problem) known)) (new_at version s head problem size known (is_head 0 version head problem size is) text_fits size_fits) (torn_written end (0 ∷ []) mid);
      plain = record { past = λ one long. written_byte end 0 mid };
    }

-- the same, by the places that the code works out
pub record LaysAt (version : ℕ) (head problem : List ℕ) (size gate end : ℕ) : Type 0 where
  pub known : IsVersion version
  pub gate_is : gate ≡ gate_at 1 (length problem) size
  pub end_is : end ≡ end_of (length problem) size
  pub head_is : head ≡ head_bytes 0 version problem size
  pub text_fits : length problem ≤ 65536
  pub size_fits : size ≤ 2 ^ 40

pub laid_twice : (version : ℕ) (s head problem : List ℕ) (size gate end : ℕ) → LaysAt version head problem size gate end → (version == 1 && nat_lt end (length s)) ≡ false
    → IsLaid version 0 problem size (written_at gate (0 ∷ []) (written_at 1 head s))
laid_twice version s head problem size gate end lays short =
    subst (λ (g : ℕ). IsLaid version 0 problem size (written_at g (0 ∷ []) (written_at 1 head s))) (sym lays.gate_is)
    (twice_laid version s head problem size lays.known lays.head_is lays.text_fits lays.size_fits (subst (λ (e : ℕ). (version == 1 && nat_lt e (length s)) ≡ false) lays.end_is short))

pub laid_thrice : (version : ℕ) (s head problem : List ℕ) (size gate end : ℕ) → LaysAt version head problem size gate end
    → IsLaid version 0 problem size (written_at end (0 ∷ []) (written_at gate (0 ∷ []) (written_at 1 head s)))
laid_thrice version s head problem size gate end lays =
    subst (λ (e : ℕ). IsLaid version 0 problem size (written_at e (0 ∷ []) (written_at gate (0 ∷ []) (written_at 1 head s)))) (sym lays.end_is)
    (subst (λ (g : ℕ). IsLaid version 0 problem size (written_at (end_of (length problem) size) (0 ∷ []) (written_at g (0 ∷ []) (written_at 1 head s)))) (sym lays.gate_is)
    (thrice_laid version s head problem size lays.known lays.head_is lays.text_fits lays.size_fits))

pub laid_past : (version : ℕ) (s head problem : List ℕ) (size gate end : ℕ) → LaysAt version head problem size gate end → (version == 1 && nat_lt end (length s)) ≡ true
    → written_at end (0 ∷ []) (written_at gate (0 ∷ []) (written_at 1 head s)) ≡ laid_image version problem size s
laid_past version s head problem size gate end lays long =
    same _ _ _ _ _ _ lays.end_is lays.gate_is lays.head_is ∙ where_true _ _ _ (subst (λ (e : ℕ). (version == 1 && nat_lt e (length s)) ≡ true) lays.end_is long)
  where
    same : (e f g k : ℕ) (h i : List ℕ) → e ≡ f → g ≡ k → h ≡ i → written_at e (0 ∷ []) (written_at g (0 ∷ []) (written_at 1 h s)) ≡ written_at f (0 ∷ []) (written_at k (0 ∷ []) (written_at 1 i s))
    same e f g k h i a b c = cc

pub laid_short : (version : ℕ) (s head problem : List ℕ) (size gate end : ℕ) → LaysAt version head problem size gate end → (version == 1 && nat_lt end (length s)) ≡ false
    → written_at gate (0 ∷ []) (written_at 1 head s) ≡ laid_image version problem size s
laid_short version s head problem size gate end lays short =
    same _ _ _ _ lays.gate_is lays.head_is ∙ where_false _ _ _ (subst (λ (e : ℕ). (version == 1 && nat_lt e (length s)) ≡ false) lays.end_is short)
  where
    same : (g k : ℕ) (h i : List ℕ) → g ≡ k → h ≡ i → written_at g (0 ∷ []) (written_at 1 h s) ≡ written_at k (0 ∷ []) (written_at 1 i s)
    same g k h i b c = cc

-- a stop while the first byte is opened
pub made_stop : (version deltas : ℕ) (problem : List ℕ) (size : ℕ) (s c : List ℕ) → HasNumber version deltas → length problem ≤ 65536 → size ≤ 2 ^ 40 → IsLaid version deltas problem size s → Torn 0 1 s c
    → (stored c ≡ Empty) ⊎ (stored c ≡ Held (state_with version deltas problem size))
made_stop version deltas problem size s c known text_fits size_fits is torn = elim (cases_Bool (is_open c 0)) [
  | inr shut ↦ inl (shut_empty c shut)
  | inl opened ↦ inr (new_store version deltas problem size c known text_fits size_fits record { laid = laid_kept version deltas problem size s c is torn; opened = opened }).stored_as
]

pub made_after : (version deltas : ℕ) (problem : List ℕ) (size : ℕ) (s : List ℕ) → IsLaid version deltas problem size s → IsMade version deltas problem size (written_at 0 (165 ∷ []) s)
made_after version deltas problem size s is = record {
  laid = laid_kept version deltas problem size s (written_at 0 (165 ∷ []) s) is (torn_written 0 (165 ∷ []) s);
  opened = ap (λ (n : ℕ). n == open_gate) (written_byte 0 165 s);
}

-- what the store in memory is told of the image that was made
pub made_stored : (version deltas : ℕ) (problem : List ℕ) (size : ℕ) (t : List ℕ) → HasNumber version deltas → length problem ≤ 65536 → size ≤ 2 ^ 40 → IsMade version deltas problem size t → stored t ≡ Held (state_with version deltas problem size)
made_stored version deltas problem size t known text_fits size_fits made = (new_store version deltas problem size t known text_fits size_fits made).stored_as

-- a store in memory that was made so stands for the image
pub made_stands : (store : Store) (version deltas : ℕ) (problem : List ℕ) (size : ℕ) (t : List ℕ) → HasNumber version deltas → length problem ≤ 65536 → size ≤ 2 ^ 40 → IsMade version deltas problem size t
    → base_in store ≡ 0 → version_in store ≡ version → problem_in store ≡ problem → slot_size_in store ≡ size → deltas_in store ≡ deltas → slots_in store ≡ replicate (slot_count deltas) None → Stands store t
made_stands store version deltas problem size t known text_fits size_fits made base version_is text slot deltas_is slots =
    let new = new_store version deltas problem size t known text_fits size_fits made in
    stands_at store t 0 (sym base) new.reads (version_is ∙ sym new.version_is) (text ∙ sym new.problem_is) (slot ∙ sym new.size_is) (deltas_is ∙ sym new.deltas_is) (slots ∙ sym new.slots_is)
