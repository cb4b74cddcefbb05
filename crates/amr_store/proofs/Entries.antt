-- The latest state of a store, by the base that holds it.
use Rattle.amr_store.proofs.Writes.{range_length}
use Rattle.std.proofs.Common.{◌≡◌, inl, inr, ℕ, zero, suc, ◌+◌, ◌-◌, ◌≤◌, ◌<◌, min, List, length, drop, Option, Some, None, true, false, refl, sym, ◌∙◌, ap, arith, ap₂}
use Rattle.std.proofs.lemmas.Bool.{cases_Bool}
use Rattle.std.specs.Prelude.{slice_range, option_map, is_some}
use Rattle.amr_store.proofs.Calls.{gate_is, slot_is, none_of}
use Rattle.amr_store.proofs.Images.{inner_whole, stored_is}
use Rattle.amr_store.proofs.Slots.{full_of, entry_closed, entry_open}
use Rattle.amr_store.proofs.Chains.{chain_is}
use Rattle.amr_store.proofs.Groups.{chain_within}
use Rattle.amr_store.proofs.Recorded.{record_at}
use Rattle.amr_store.proofs.Tables.{next_or_latest}
use Rattle.amr_store.proofs.Whole.{Whole}
use Rattle.amr_store.specs.declared.slot.Slot.{Slot}
use Rattle.amr_store.specs.declared.store.Store.{Store}
use Rattle.amr_store.specs.Layout.{long_at, gate_at, size_of}
use Rattle.amr_store.specs.Shown.{payload_of, latest_in, record_in}
use Rattle.amr_store.specs.Stands.{Stands, base_in, slot_size_in, lead_in, deltas_in, slots_in, slot_in, latest_slot_in, chain_in, last_in}
use Rattle.amr_store.specs.Stored.{Entry, Stored, stored, slot_of, deltas_of, count_of, gate_of, entry_of, slots_of, latest_base_of, is_open, entry_at}
use Rattle.amr_store.specs.Table.{slot_count, slot_at, latest_base, sequence_in, stands_on, chain_of}

-- the base that holds the latest state by the image
latest_base_is : (store : Store) (s : List ℕ) → Stands store s → latest_base (deltas_of (drop (base_in store) s)) (slots_of (drop (base_in store) s)) ≡ latest_slot_in store
latest_base_is store s stands = sym (ap₂ latest_base stands.deltas stands.slots)

-- the entry of the latest slot
latest_entry_is : (store : Store) (s : List ℕ) (k : ℕ) → Stands store s → k ≡ latest_slot_in store → latest_in (stored s) ≡ payload_of (entry_of (drop (base_in store) s) k)
latest_entry_is store s k stands is =
    ap latest_in (stored_is s (base_in store) stands.reads) ∙ ap (λ (j : ℕ). payload_of (entry_of (drop (base_in store) s) j)) (latest_base_is store s stands ∙ sym is)

latest_known : (store : Store) (s : List ℕ) (k : ℕ) → Stands store s → k ≡ latest_slot_in store → k < count_of (drop (base_in store) s)
latest_known store s k stands is =
    let part = drop (base_in store) s in
    omega (arith, is, latest_base_is store s stands, (next_or_latest (deltas_of part) (slots_of part)).latest_within)

pub latest_none : (store : Store) (s : List ℕ) (k : ℕ) → Stands store s → k ≡ latest_slot_in store → slot_in store k ≡ None → None ≡ latest_in (stored s)
latest_none store s k stands is none =
    sym (latest_entry_is store s k stands is ∙ ap payload_of (none_of _ (sym (slot_is store s k (latest_known store s k stands is) stands) ∙ none)))

record SlotHolds (part : List ℕ) (gate size : ℕ) (slot : Slot) : Type 0 where
  whole : gate + 17 + slot.length ≤ length part
  fits : slot.length ≤ size
  payload : payload_of (entry_at part gate) ≡ Some (slice_range part (gate + 17) (gate + 17 + slot.length))

slot_some : (slot : Slot) (e : Entry) → Some slot ≡ option_map slot_of (Some e) → slot.length ≡ length e.payload
slot_some slot e is = ap (λ (o : Option Slot). count o) is
  where
    count : Option Slot → ℕ
    count None = 0
    count (Some k) = k.length

slot_holds : (k : ℕ) (part : List ℕ) (slot : Slot) → k < count_of part → Whole true part → Some slot ≡ option_map slot_of (entry_of part k) → SlotHolds part (gate_of part k) (size_of part) slot
slot_holds k part slot within whole is =
    let gate = gate_of part k in
    elim (cases_Bool (is_open part gate)) [
      | inr shut ↦ let wrong = is ∙ ap (λ (o : Option Entry). option_map slot_of o) (entry_closed part gate shut) in cc
      | inl opened ↦
          let full = full_of part gate (size_of part) (whole.slots k within) opened in
          let entry = entry_open part gate opened in
          let count : slot.length ≡ long_at part (gate + 9) = slot_some slot _ (is ∙ ap (λ (o : Option Entry). option_map slot_of o) entry) ∙ range_length part (gate + 17) (long_at part (gate + 9)) full.whole in
          record {
            whole = omega (arith, count, full.whole);
            fits = omega (arith, count, full.fits);
            payload = ap payload_of entry ∙ ap (λ (n : ℕ). Some (slice_range part (gate + 17) (gate + 17 + n))) (sym count);
          }
    ]

-- the bytes that were read of an open slot
pub payload_read : (store : Store) (s : List ℕ) (k : ℕ) (slot : Slot) (at count : ℕ) (bytes : List ℕ) → Stands store s → k < slot_count (deltas_in store) → slot_in store k ≡ Some slot
    → at ≡ gate_at k (lead_in store) (slot_size_in store) + 17 → count ≡ min slot.length (slot_size_in store)
    → (at + count ≤ length (drop (base_in store) s) → bytes ≡ slice_range (drop (base_in store) s) at (at + count)) → Some bytes ≡ payload_of (entry_of (drop (base_in store) s) k)
payload_read store s k slot at count bytes stands inside held at_is count_is told =
    let part = drop (base_in store) s in
    let gate = gate_of part k in
    let within : k < count_of part = omega (arith, inside, stands.deltas) in
    let holds = slot_holds k part slot within (inner_whole s (base_in store) stands.reads) (sym held ∙ slot_is store s k within stands) in
    let place : at ≡ gate + 17 = at_is ∙ ap (λ (g : ℕ). g + 17) (gate_is store s k stands) in
    let all : count ≡ slot.length = omega (arith, count_is, holds.fits, stands.slot_size) in
    let read : bytes ≡ slice_range part at (at + count) = told (omega (arith, place, all, holds.whole)) in
    sym (holds.payload ∙ sym (ap (λ (b : List ℕ). Some b) (read ∙ ap₂ (λ (a m : ℕ). slice_range part a (a + m)) place all)))

-- the payload of the slot that holds the latest whole state
pub latest_some : (store : Store) (s : List ℕ) (k : ℕ) (bytes : List ℕ) → Stands store s → k ≡ latest_slot_in store → Some bytes ≡ payload_of (entry_of (drop (base_in store) s) k) → Some bytes ≡ latest_in (stored s)
latest_some store s k bytes stands is read = read ∙ sym (latest_entry_is store s k stands is)

-- the payload of a record's slot is that of the record
pub record_some : (store : Store) (s : List ℕ) (k number : ℕ) (bytes : List ℕ) → Stands store s → 1 ≤ number → number ≤ chain_in store → k ≡ latest_slot_in store + number
    → Some bytes ≡ payload_of (entry_of (drop (base_in store) s) k) → Some bytes ≡ record_in (stored s) number
record_some store s k number bytes stands from to is read =
    let part = drop (base_in store) s in
    let all = chain_of (deltas_of part) (slots_of part) in
    let same : chain_in store ≡ all = ap₂ chain_of stands.deltas stands.slots in
    let at : k ≡ latest_base_of part + number = is ∙ sym (ap (λ (j : ℕ). j + number) (latest_base_is store s stands)) in
    read ∙ ap (λ (j : ℕ). payload_of (entry_of part j)) at ∙ sym (record_at part all number (omega arith) from (omega (arith, to, same)))
    ∙ sym (ap (λ (x : Stored). record_in x number) (stored_is s (base_in store) stands.reads))

-- the slot of a record that counts is open
pub record_open : (store : Store) (k number : ℕ) → 1 ≤ number → number ≤ chain_in store → k ≡ latest_slot_in store + number → slot_in store k ≡ None → ⊥
record_open store k number from to is none =
    let chain = chain_is (slots_in store) (deltas_in store) (latest_slot_in store) in
    let on = chain.links (number - 1) (omega (arith, from, to)) in
    off (slot_at (slots_in store) (latest_slot_in store + (number - 1))) (slot_at (slots_in store) (latest_slot_in store + (number - 1) + 1)) on
    (ap (λ (j : ℕ). slot_at (slots_in store) j) (place (latest_slot_in store) is) ∙ none)
  where
    place : (l : ℕ) → k ≡ l + number → l + (number - 1) + 1 ≡ k
    place l e = omega (arith, e, from)

    off : (a b : Option Slot) → stands_on a b ≡ true → b ≡ None → ⊥
    off None b on closed = let wrong : false ≡ true = on in absurd (cc)
    off (Some x) None on closed = let wrong : false ≡ true = on in absurd (cc)
    off (Some x) (Some y) on closed = let wrong : Some y ≡ None = closed in absurd (cc)

pub record_within : (store : Store) (k number : ℕ) → number ≤ chain_in store → k ≡ latest_slot_in store + number → k < slot_count (deltas_in store)
record_within store k number to is =
    omega (arith, is, to, chain_within (deltas_in store) (slots_in store), (next_or_latest (deltas_in store) (slots_in store)).latest_within)

-- a sequence is known exactly where a base is open
pub latest_is_some : (store : Store) (k : ℕ) → k ≡ latest_slot_in store → is_some (slot_in store k) ≡ is_some (last_in store)
latest_is_some store k is = ap (λ (j : ℕ). is_some (slot_in store j)) is ∙ known (chain_in store) refl
  where
    on_some : (a b : Option Slot) → stands_on a b ≡ true → (is_some a ≡ true) × (is_some b ≡ true)
    on_some None b on = let wrong : false ≡ true = on in absurd (cc)
    on_some (Some x) None on = let wrong : false ≡ true = on in absurd (cc)
    on_some (Some x) (Some y) on = (refl, refl)

    sequences : (o : Option Slot) → is_some o ≡ is_some (sequence_in o)
    sequences None = refl
    sequences (Some slot) = refl

    zeroth : (l : ℕ) → l ≡ l + 0
    zeroth l = omega arith

    place : (l n : ℕ) → l + n + 1 ≡ l + suc n
    place l n = omega arith

    known : (m : ℕ) → chain_in store ≡ m → is_some (slot_in store (latest_slot_in store)) ≡ is_some (last_in store)
    known zero none = sequences (slot_in store (latest_slot_in store)) ∙ ap (λ (j : ℕ). is_some (sequence_in (slot_in store j))) (zeroth (latest_slot_in store) ∙ ap (λ (n : ℕ). latest_slot_in store + n) (sym none))
    known (suc n) more =
        let chain = chain_is (slots_in store) (deltas_in store) (latest_slot_in store) in
        let first = on_some _ _ (chain.links 0 (omega (arith, more))) in
        let last = on_some _ _ (chain.links n (omega (arith, more))) in
        ap (λ (j : ℕ). is_some (slot_in store j)) (zeroth (latest_slot_in store)) ∙ first.0
        ∙ sym (sym (sequences (slot_in store (latest_slot_in store + chain_in store))) ∙ ap (λ (n : ℕ). is_some (slot_in store (latest_slot_in store + n))) more ∙ ap (λ (j : ℕ). is_some (slot_in store j)) (sym (place (latest_slot_in store) n)) ∙ last.1)
