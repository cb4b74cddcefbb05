-- The slot that is next, closed, filled and opened in an image of the whole store.
use Rattle.std.proofs.Common.{◌≡◌, ◌⊎◌, inl, inr, ℕ, ◌+◌, ◌≤◌, ◌<◌, ◌==◌, Bool, true, false, List, [], ◌∷◌, ◌++◌, length, drop, Option, Some, None, refl, sym, ◌∙◌, ap, subst, arith, length-drop, ap₂}
use Rattle.std.proofs.lemmas.List.{get_or-drop}
use Rattle.std.specs.Prelude.{slice_index, slice_set, option_map, IfSome}
use Rattle.amr_disk.specs.Image.{Torn}
use Rattle.amr_store.proofs.Gates.{gate_torn, opening, state_kept}
use Rattle.amr_store.proofs.Images.{inner_whole, reads_changed, stored_is, end_first}
use Rattle.amr_store.proofs.Parts.{HasPutEntry, slot_changed, slots_set, count_kept}
use Rattle.amr_store.proofs.Places.{Outside, torn_outside, outside_drop}
use Rattle.amr_store.proofs.Slots.{sound_closed, entry_closed, gate_within}
use Rattle.amr_store.proofs.Tables.{TwoBases, next_or_latest, table_length, table_index, table_more, table_same, gates_apart, gate_first, set_same}
use Rattle.amr_store.proofs.Groups.{StillLatest, NowLatest, NowLonger, next_closed, next_opened, record_slot, record_closed, record_opened, chain_within}
use Rattle.amr_store.proofs.Whole.{Whole}
use Rattle.amr_store.specs.declared.slot.Slot.{Slot}
use Rattle.amr_store.specs.Layout.{open_gate, size_of, lead_of}
use Rattle.amr_store.specs.Stored.{IsFilled, Entry, State, Held, Reads, stored, state_of, slot_of, deltas_of, count_of, gate_of, entry_of, known_of, slots_of, latest_entry, latest_base_of, somes, records_of, front_in, put_in, is_open, is_broken, entry_at}
use Rattle.amr_store.specs.Table.{table, slot_count, slot_at, is_tied, next_base, latest_base, is_base, chain_of, last_of, HasRoomFor, IsHarmless}

-- the base of a part that is written next
abbrev pub next_of : List ℕ → ℕ
next_of part = next_base (deltas_of part) (slots_of part)

-- the sequence is above the last one that counts
abbrev pub IsAbove : List ℕ → ℕ → Type 0
IsAbove part sequence = IfSome (last_of (deltas_of part) (slots_of part)) (λ l. l < sequence)

slots_length : (part : List ℕ) → length (slots_of part) ≡ slot_count (deltas_of part)
slots_length part = table_length (λ k. known_of part k) (count_of part)

base_within : (image : List ℕ) (base : ℕ) → Reads image base → base + 21 ≤ length image
base_within image base reads =
    let whole = inner_whole image base reads in
    omega (arith, whole.long, length-drop base image)

outside_wider : (a b c d : ℕ) (old new : List ℕ) → c ≤ a → b ≤ d → Outside a b old new → Outside c d old new
outside_wider a b c d old new from to out = record {
  no_shorter = out.no_shorter;
  no_longer = omega (arith, out.no_longer);
  below = λ i within before. out.below i within (omega arith);
  above = λ i within after. out.above i within (omega arith);
}

harmless_of : (part : List ℕ) → Whole true part → IsHarmless (deltas_of part) (slots_of part)
harmless_of part whole = record { none = whole.harmless }

-- a slot that holds no state that counts: where it is closed all that the slots show is as it was
pub record IsFree (part : List ℕ) (k : ℕ) : Type 0 where
  pub within : k < count_of part
  pub closed : StillLatest (deltas_of part) (slots_of part) (slice_set (slots_of part) k None)
  pub counted : (j : ℕ) → j ≤ chain_of (deltas_of part) (slots_of part) → latest_base_of part + j ≡ k → ⊥

pub free_base : (part : List ℕ) (k : ℕ) → Whole true part → k ≡ next_of part → IsFree part k
free_base part k whole is = subst (λ (j : ℕ). IsFree part j) (sym is) record {
  within = bases.within;
  closed = next_closed (deltas_of part) (slots_of part) (slots_length part) (harmless_of part whole);
  counted = λ j le. bases.apart j (omega (arith, le, chain_within (deltas_of part) (slots_of part)));
}
  where
    bases : TwoBases (deltas_of part) (slots_of part)
    bases = next_or_latest (deltas_of part) (slots_of part)

pub free_record : (part : List ℕ) (k : ℕ) → Whole true part → HasRoomFor (deltas_of part) (slots_of part) k → IsFree part k
free_record part k whole has =
    let at = record_slot (deltas_of part) (slots_of part) k has in
    record {
      within = at.within;
      closed = record_closed (deltas_of part) (slots_of part) k (slots_length part) (harmless_of part whole) whole.tie has;
      counted = at.counted;
    }

-- the records behind a base, as many as count
abbrev pub records_at : List ℕ → ℕ → ℕ → List Entry
records_at part k n = somes (table (λ j. entry_of part (k + 1 + j)) n)

pub no_records : (part : List ℕ) (k : ℕ) → records_at part k 0 ≡ []
unfolding table
no_records part k = refl

somes_more : {T : Type 0} (l : List (Option T)) (x : T) → somes (l ++ Some x ∷ []) ≡ somes l ++ x ∷ []
somes_more [] x = refl
somes_more (None ∷ rest) x = somes_more rest x
somes_more (Some y ∷ rest) x = ap (λ (l : List _). y ∷ l) (somes_more rest x)

pub one_more : {T : Type 0} (f : ℕ → Option T) (m : ℕ) (x : T) → f m ≡ Some x → somes (table f (m + 1)) ≡ somes (table f m) ++ x ∷ []
one_more f m x is = ap somes (table_more f m ∙ ap (λ (o : Option _). table f m ++ o ∷ []) is) ∙ somes_more (table f m) x

pub chain_below : (part : List ℕ) → latest_base_of part + chain_of (deltas_of part) (slots_of part) < count_of part
chain_below part = omega (arith, chain_within (deltas_of part) (slots_of part), (next_or_latest (deltas_of part) (slots_of part)).latest_within)

zeroth : (k : ℕ) → k + 0 ≡ k
zeroth k = omega arith

plus : (k j : ℕ) → k + (j + 1) ≡ k + 1 + j
plus k j = omega arith

shows : (part : List ℕ) (a b : Option Entry) (r s : List Entry) → a ≡ b → r ≡ s → record (state_of part) { latest = a; records = r } ≡ record (state_of part) { latest = b; records = s }
shows part a b r s e f = ap (λ (o : Option Entry). record (state_of part) { latest = o; records = r }) e ∙ ap (λ (l : List Entry). record (state_of part) { latest = b; records = l }) f

-- the image still reads as a store, with this entry in the slot and all else as it was
pub record Moved (k : ℕ) (old new : List ℕ) (base : ℕ) (entry : Option Entry) : Type 0 where
  pub reads : Reads new base
  pub kept : HasPutEntry (drop base old) (drop base new) k entry
  pub slots : slots_of (drop base new) ≡ slice_set (slots_of (drop base old)) k (option_map slot_of entry)

abbrev slots_with : List ℕ → ℕ → Option Entry → List (Option Slot)
slots_with part k entry = slice_set (slots_of part) k (option_map slot_of entry)

-- a change within the slot, after which it is sound, the bases no tie, and no record stray
moved : (k : ℕ) (old new : List ℕ) (base a b : ℕ) → k < count_of (drop base old) → Reads old base → gate_of (drop base old) k ≤ a → b ≤ gate_of (drop base old) k + (17 + size_of (drop base old))
    → Outside (base + a) (base + b) old new → is_broken (drop base new) (gate_of (drop base old) k) (size_of (drop base old)) ≡ false
    → is_tied (deltas_of (drop base old)) (slots_with (drop base old) k (entry_at (drop base new) (gate_of (drop base old) k))) ≡ false
    → IsHarmless (deltas_of (drop base old)) (slots_with (drop base old) k (entry_at (drop base new) (gate_of (drop base old) k)))
    → Moved k old new base (entry_at (drop base new) (gate_of (drop base old) k))
moved k old new base a b within reads from to out sound tie harmless =
    let part = drop base old in
    let gate = gate_of part k in
    let wide = outside_wider (base + a) (base + b) (base + gate) (base + (gate + (17 + size_of part))) old new (omega (arith, from)) (omega (arith, to)) out in
    let inner = outside_drop base gate (gate + (17 + size_of part)) old new (omega (arith, base_within old base reads)) wide in
    let kept = slot_changed part (drop base new) k within (inner_whole old base reads) inner sound tie harmless in
    record {
      reads = reads_changed old new base gate (gate + (17 + size_of part)) reads (omega (arith, gate_first k (lead_of part) (size_of part)))
          (λ one. omega (arith, gates_apart k (count_of part) (lead_of part) (size_of part) within, end_first part one)) wide kept.head kept.whole;
      kept = kept;
      slots = slots_set part (drop base new) k _ (count_kept part (drop base new) kept.head) within kept.here kept.others;
    }

-- the slot holds what it held, or nothing
Calm : List ℕ → ℕ → Option Entry → Type 0
Calm part k entry = (entry ≡ entry_of part k) ⊎ (entry ≡ None)

known_at : (part : List ℕ) (k : ℕ) → k < count_of part → known_of part k ≡ slot_at (slots_of part) k
known_at part k within = sym (table_index (λ j. known_of part j) (count_of part) k None within)

held_slots : (part : List ℕ) (k : ℕ) (entry : Option Entry) → k < count_of part → entry ≡ entry_of part k → slots_with part k entry ≡ slots_of part
held_slots part k entry within held = set_same (slots_of part) k (option_map slot_of entry) (ap (λ (o : Option Entry). option_map slot_of o) held ∙ known_at part k within)

unchanged : (part : List ℕ) → Whole true part → StillLatest (deltas_of part) (slots_of part) (slots_of part)
unchanged part whole = record { next = refl; latest = refl; chain = refl; last = refl; tie = whole.tie; harmless = harmless_of part whole }

still : (part : List ℕ) (k : ℕ) (entry : Option Entry) → Whole true part → IsFree part k → Calm part k entry → StillLatest (deltas_of part) (slots_of part) (slots_with part k entry)
unfolding Calm
still part k entry whole free either = elim either [
  | inl held ↦ subst (λ (l : List (Option Slot)). StillLatest (deltas_of part) (slots_of part) l) (sym (held_slots part k entry free.within held)) (unchanged part whole)
  | inr none ↦ subst (λ (o : Option Entry). StillLatest (deltas_of part) (slots_of part) (slots_with part k o)) (sym none) free.closed
]

-- where the base and the chain stay, so does what the store shows
shown_stays : (k : ℕ) (old new : List ℕ) (base : ℕ) (entry : Option Entry) → Reads old base → Moved k old new base entry → IsFree (drop base old) k
    → StillLatest (deltas_of (drop base old)) (slots_of (drop base old)) (slots_of (drop base new)) → stored new ≡ stored old
shown_stays k old new base entry reads move free stays =
    let part = drop base old in
    let after = drop base new in
    let m = chain_of (deltas_of part) (slots_of part) in
    let at : latest_base_of after ≡ latest_base_of part = ap (λ (d : ℕ). latest_base d (slots_of after)) move.kept.head.deltas ∙ stays.latest in
    let count : chain_of (deltas_of after) (slots_of after) ≡ m = ap (λ (d : ℕ). chain_of d (slots_of after)) move.kept.head.deltas ∙ stays.chain in
    let few = chain_below part in
    let latest : latest_entry after ≡ latest_entry part =
    ap (λ (j : ℕ). entry_of after j) at ∙ move.kept.others (latest_base_of part) (omega (arith, few)) (λ e. free.counted 0 (omega arith) (zeroth (latest_base_of part) ∙ e)) in
    let records : records_of after ≡ records_of part =
    ap (λ (j : ℕ). records_at after j (chain_of (deltas_of after) (slots_of after))) at ∙ ap (λ (n : ℕ). records_at after (latest_base_of part) n) count
    ∙ ap (λ (l : List (Option Entry)). somes l) (table_same (λ j. entry_of part (latest_base_of part + 1 + j)) (λ j. entry_of after (latest_base_of part + 1 + j)) m
    (λ j lt. move.kept.others (latest_base_of part + 1 + j) (omega (arith, few, lt)) (λ e. free.counted (j + 1) (omega arith) (plus (latest_base_of part) j ∙ e)))) in
    stored_is new base move.reads ∙ ap Held (state_kept part after move.kept.head ∙ shows part _ _ _ _ latest records) ∙ sym (stored_is old base reads)

-- all that the slots show is as it was: the same is stored
calm_stored : (k : ℕ) (old new : List ℕ) (base : ℕ) (entry : Option Entry) → Reads old base → Moved k old new base entry → IsFree (drop base old) k → Calm (drop base old) k entry → stored new ≡ stored old
calm_stored k old new base entry reads move free calm =
    shown_stays k old new base entry reads move free
    (subst (λ (l : List (Option Slot)). StillLatest (deltas_of (drop base old)) (slots_of (drop base old)) l) (sym move.slots) (still (drop base old) k entry (inner_whole old base reads) free calm))

-- the gate of a free slot is torn: the same is stored
pub record Closing (k : ℕ) (old new : List ℕ) (base : ℕ) : Type 0 where
  pub moves : Moved k old new base (entry_at (drop base new) (gate_of (drop base old) k))
  pub same : stored new ≡ stored old

pub closing : (k : ℕ) (old new : List ℕ) (base n : ℕ) → Reads old base → IsFree (drop base old) k → n ≤ 1 → (is_open (drop base old) (gate_of (drop base old) k) ≡ false → n ≡ 0)
    → Torn (base + gate_of (drop base old) k) n old new → Closing k old new base
unfolding Calm
closing k old new base n reads free short shut torn =
    let part = drop base old in
    let gate = gate_of part k in
    let whole = inner_whole old base reads in
    let sound = whole.slots k free.within in
    let out = torn_outside (base + gate) n (base + gate) (base + (gate + 1)) old new (omega arith) (omega arith) torn in
    let inner = outside_drop base gate (gate + 1) old new (omega (arith, base_within old base reads)) out in
    let here : gate < length part = gate_within part gate (size_of part) sound in
    let stays : is_open part gate ≡ false → slice_index (drop base new) gate ≡ slice_index part gate = λ closed.
    get_or-drop base new gate 0 ∙ torn.above (base + gate) (omega (arith, here, length-drop base old)) (omega (arith, shut closed)) ∙ sym (get_or-drop base old gate 0) in
    let gates = gate_torn part (drop base new) gate (size_of part) inner sound stays in
    let shows = still part k (entry_at (drop base new) gate) whole free gates.either in
    let move = moved k old new base gate (gate + 1) free.within reads (omega arith) (omega arith) out gates.sound shows.tie shows.harmless in
    record { moves = move; same = calm_stored k old new base _ reads move free gates.either }

-- behind a closed gate anything may be written: the slot holds nothing, and the same is stored
pub record Filling (k : ℕ) (old new : List ℕ) (base : ℕ) : Type 0 where
  pub moves : Moved k old new base None
  pub same : stored new ≡ stored old

pub filling : (k : ℕ) (old new : List ℕ) (base a b : ℕ) → Reads old base → IsFree (drop base old) k → is_open (drop base old) (gate_of (drop base old) k) ≡ false → gate_of (drop base old) k + 1 ≤ a
    → b ≤ gate_of (drop base old) k + (17 + size_of (drop base old)) → Outside (base + a) (base + b) old new → Filling k old new base
unfolding Calm
filling k old new base a b reads free shut from to out =
    let part = drop base old in
    let gate = gate_of part k in
    let whole = inner_whole old base reads in
    let here : gate < length part = gate_within part gate (size_of part) (whole.slots k free.within) in
    let still_byte : slice_index (drop base new) gate ≡ slice_index part gate =
    get_or-drop base new gate 0 ∙ out.below (base + gate) (omega (arith, here, length-drop base old)) (omega (arith, from)) ∙ sym (get_or-drop base old gate 0) in
    let closed : is_open (drop base new) gate ≡ false = ap (λ (n : ℕ). n == open_gate) still_byte ∙ shut in
    let longer : length part ≤ length (drop base new) = omega (arith, length-drop base old, length-drop base new, out.no_shorter) in
    let none = entry_closed (drop base new) gate closed in
    let shows = still part k (entry_at (drop base new) gate) whole free (inr none) in
    let move = moved k old new base a b free.within reads (omega (arith, from)) to out (sound_closed (drop base new) gate (size_of part) (omega (arith, here, longer)) closed) shows.tie shows.harmless in
    record {
      moves = subst (λ (e : Option Entry). Moved k old new base e) none move;
      same = calm_stored k old new base _ reads move free (inr none);
    }

-- the gate of a filled slot is torn: the same is stored, or this state
pub record Opening (k : ℕ) (old new : List ℕ) (base : ℕ) (filled : Entry) (after : State) : Type 0 where
  pub moves : Moved k old new base (entry_at (drop base new) (gate_of (drop base old) k))
  pub either : (stored new ≡ stored old) ⊎ (stored new ≡ Held after)
  pub opened : is_open (drop base new) (gate_of (drop base old) k) ≡ true → (entry_at (drop base new) (gate_of (drop base old) k) ≡ Some filled) × (stored new ≡ Held after)

-- what the opened slot makes of a store
record Turns (k : ℕ) (old : List ℕ) (base : ℕ) (filled : Entry) (after : State) : Type 0 where
  tie : is_tied (deltas_of (drop base old)) (slots_with (drop base old) k (Some filled)) ≡ false
  harmless : IsHarmless (deltas_of (drop base old)) (slots_with (drop base old) k (Some filled))
  shows : (new : List ℕ) (entry : Option Entry) → entry ≡ Some filled → Moved k old new base entry → state_of (drop base new) ≡ after

opening_slot : (k : ℕ) (old new : List ℕ) (base : ℕ) (filled : Entry) (after : State) → Reads old base → IsFree (drop base old) k → Turns k old base filled after
    → IsFilled (drop base old) (gate_of (drop base old) k) (size_of (drop base old)) filled.sequence filled.payload → Torn (base + gate_of (drop base old) k) 1 old new → Opening k old new base filled after
unfolding Calm
opening_slot k old new base filled after reads free turns is torn =
    let part = drop base old in
    let gate = gate_of part k in
    let whole = inner_whole old base reads in
    let out = torn_outside (base + gate) 1 (base + gate) (base + (gate + 1)) old new (omega arith) (omega arith) torn in
    let inner = outside_drop base gate (gate + 1) old new (omega (arith, base_within old base reads)) out in
    let slot = opening part (drop base new) gate (size_of part) filled.sequence filled.payload inner is in
    let entry = entry_at (drop base new) gate in
    let tie : is_tied (deltas_of part) (slots_with part k entry) ≡ false = elim slot.either [
      | inl none ↦ (still part k entry whole free (inr none)).tie
      | inr holds ↦ ap (λ (o : Option Entry). is_tied (deltas_of part) (slots_with part k o)) holds ∙ turns.tie
    ] in
    let harmless : IsHarmless (deltas_of part) (slots_with part k entry) = elim slot.either [
      | inl none ↦ (still part k entry whole free (inr none)).harmless
      | inr holds ↦ subst (λ (o : Option Entry). IsHarmless (deltas_of part) (slots_with part k o)) (sym holds) turns.harmless
    ] in
    let move = moved k old new base gate (gate + 1) free.within reads (omega arith) (omega arith) out slot.sound tie harmless in
    let new_is = λ (holds : entry_at (drop base new) gate ≡ Some filled). stored_is new base move.reads ∙ ap Held (turns.shows new entry holds move) in
    record {
      moves = move;
      either = elim slot.either [
        | inl none ↦ inl (calm_stored k old new base _ reads move free (inr none))
        | inr holds ↦ inr (new_is holds)
      ];
      opened = λ is. (slot.opened is, new_is (slot.opened is));
    }

-- the next base was opened
base_turns : (k : ℕ) (old : List ℕ) (base : ℕ) (filled : Entry) → Reads old base → k ≡ next_of (drop base old) → 0 < filled.sequence → IsAbove (drop base old) filled.sequence
    → Turns k old base filled (put_in true (state_of (drop base old)) filled)
base_turns k old base filled reads is some above = subst (λ (j : ℕ). Turns j old base filled (put_in true (state_of part) filled)) (sym is) record {
  tie = now.tie;
  harmless = now.harmless;
  shows = λ new entry holds move.
      let after = drop base new in
      let slots : slots_of after ≡ slots_with part (next_of part) (Some filled) = move.slots ∙ ap (λ (o : Option Entry). slots_with part (next_of part) o) holds in
      let at : latest_base_of after ≡ next_of part = ap₂ latest_base move.kept.head.deltas slots ∙ now.latest in
      let count : chain_of (deltas_of after) (slots_of after) ≡ 0 = ap₂ chain_of move.kept.head.deltas slots ∙ now.chain in
      let latest : latest_entry after ≡ Some filled = ap (λ (j : ℕ). entry_of after j) at ∙ move.kept.here ∙ holds in
      let records : records_of after ≡ [] = ap (λ (n : ℕ). records_at after (latest_base_of after) n) count ∙ no_records after (latest_base_of after) in
      state_kept part after move.kept.head ∙ shows part _ _ _ _ latest records;
}
  where
    part : List ℕ
    part = drop base old

    now : NowLatest (deltas_of part) (slots_of part) (slots_with part (next_of part) (Some filled)) (slot_of filled)
    now = next_opened (deltas_of part) (slots_of part) (slot_of filled) (slots_length part) (harmless_of part (inner_whole old base reads)) some above

pub opening_base : (k : ℕ) (old new : List ℕ) (base : ℕ) (filled : Entry) → Reads old base → k ≡ next_of (drop base old) → IsAbove (drop base old) filled.sequence
    → IsFilled (drop base old) (gate_of (drop base old) k) (size_of (drop base old)) filled.sequence filled.payload → Torn (base + gate_of (drop base old) k) 1 old new
    → Opening k old new base filled (put_in true (state_of (drop base old)) filled)
opening_base k old new base filled reads is above holds torn =
    opening_slot k old new base filled (put_in true (state_of (drop base old)) filled) reads (free_base (drop base old) k (inner_whole old base reads) is) (base_turns k old base filled reads is holds.some above) holds torn

-- the next record was opened
record_turns : (k last : ℕ) (old : List ℕ) (base : ℕ) (filled : Entry) → Reads old base → HasRoomFor (deltas_of (drop base old)) (slots_of (drop base old)) k
    → last_of (deltas_of (drop base old)) (slots_of (drop base old)) ≡ Some last → last < filled.sequence → front_in filled.payload ≡ Some last → Turns k old base filled (put_in false (state_of (drop base old)) filled)
record_turns k last old base filled reads has last_is above front = record {
  tie = now.tie;
  harmless = now.harmless;
  shows = λ new entry holds move.
      let after = drop base new in
      let m = chain_of (deltas_of part) (slots_of part) in
      let slots : slots_of after ≡ slots_with part k (Some filled) = move.slots ∙ ap (λ (o : Option Entry). slots_with part k o) holds in
      let at : latest_base_of after ≡ latest_base_of part = ap₂ latest_base move.kept.head.deltas slots ∙ now.latest in
      let count : chain_of (deltas_of after) (slots_of after) ≡ m + 1 = ap₂ chain_of move.kept.head.deltas slots ∙ now.chain in
      let few = chain_below part in
      let latest : latest_entry after ≡ latest_entry part =
      ap (λ (j : ℕ). entry_of after j) at ∙ move.kept.others (latest_base_of part) (omega (arith, few)) (λ e. free.counted 0 (omega arith) (zeroth (latest_base_of part) ∙ e)) in
      let before : table (λ j. entry_of after (latest_base_of part + 1 + j)) m ≡ table (λ j. entry_of part (latest_base_of part + 1 + j)) m =
      table_same (λ j. entry_of part (latest_base_of part + 1 + j)) (λ j. entry_of after (latest_base_of part + 1 + j)) m
      (λ j lt. move.kept.others (latest_base_of part + 1 + j) (omega (arith, few, lt)) (λ e. free.counted (j + 1) (omega arith) (plus (latest_base_of part) j ∙ e))) in
      let here : entry_of after (latest_base_of part + 1 + m) ≡ Some filled = ap (λ (j : ℕ). entry_of after j) (place (latest_base_of part) m has.place) ∙ move.kept.here ∙ holds in
      let records : records_of after ≡ records_of part ++ filled ∷ [] =
      ap (λ (j : ℕ). records_at after j (chain_of (deltas_of after) (slots_of after))) at ∙ ap (λ (n : ℕ). records_at after (latest_base_of part) n) count
      ∙ one_more (λ j. entry_of after (latest_base_of part + 1 + j)) m filled here ∙ ap (λ (l : List (Option Entry)). somes l ++ filled ∷ []) before in
      state_kept part after move.kept.head ∙ shows part _ _ _ _ latest records;
}
  where
    part : List ℕ
    part = drop base old

    free : IsFree part k
    free = free_record part k (inner_whole old base reads) has

    now : NowLonger (deltas_of part) (slots_of part) (slots_with part k (Some filled)) (slot_of filled)
    now = record_opened (deltas_of part) (slots_of part) k last (slot_of filled) (slots_length part) (harmless_of part (inner_whole old base reads)) (inner_whole old base reads).tie has last_is above front

    place : (l m : ℕ) → k ≡ l + m + 1 → l + 1 + m ≡ k
    place l m e = omega arith

pub opening_record : (k last : ℕ) (old new : List ℕ) (base : ℕ) (filled : Entry) → Reads old base → HasRoomFor (deltas_of (drop base old)) (slots_of (drop base old)) k
    → last_of (deltas_of (drop base old)) (slots_of (drop base old)) ≡ Some last → last < filled.sequence → front_in filled.payload ≡ Some last
    → IsFilled (drop base old) (gate_of (drop base old) k) (size_of (drop base old)) filled.sequence filled.payload → Torn (base + gate_of (drop base old) k) 1 old new
    → Opening k old new base filled (put_in false (state_of (drop base old)) filled)
opening_record k last old new base filled reads has last_is above front holds torn =
    opening_slot k old new base filled (put_in false (state_of (drop base old)) filled) reads (free_record (drop base old) k (inner_whole old base reads) has)
    (record_turns k last old base filled reads has last_is above front) holds torn

-- what the slot that is next is: a base, or the slot of a record
pub next_is_base : (part : List ℕ) (k : ℕ) → k ≡ next_of part → is_base (deltas_of part) k ≡ true
next_is_base part k is = ap (λ (j : ℕ). is_base (deltas_of part) j) is ∙ so (is_base (deltas_of part) (next_of part)) (next_or_latest (deltas_of part) (slots_of part)).base
  where
    so : (b : Bool) → (b ≡ false → ⊥) → b ≡ true
    so true never = refl
    so false never = absurd (never refl)
