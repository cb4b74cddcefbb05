-- The steps of a put, by what the code works out.
use Rattle.std.proofs.Common.{◌≡◌, ⊎_elim, inl, inr, ℕ, ◌+◌, ◌≤◌, ◌<◌, ◌^◌, List, [], ◌∷◌, ◌++◌, length, drop, Option, Some, None, refl, sym, ◌∙◌, ap, subst, ap₂, subst₂}
use Rattle.std.specs.Int.{to_le_bytes, w64}
use Rattle.std.specs.Prelude.{slice_set, option_map}
use Rattle.amr_disk.specs.Image.{Torn, written_at}
use Rattle.amr_disk.specs.Replay.{torn_written}
use Rattle.amr_store.proofs.Moves.{closing, Filling, filling}
use Rattle.amr_store.proofs.Tables.{set_same}
use Rattle.amr_store.proofs.Writes.{slot_head_is, filled_written}
use Rattle.amr_store.specs.Phases.{TornTwice}
use Rattle.amr_store.specs.declared.slot.Slot.{Slot}
use Rattle.amr_store.specs.declared.put.Filled.{Filled}
use Rattle.amr_store.specs.declared.store.Store.{Store}
use Rattle.amr_store.specs.Layout.{gate_at}
use Rattle.amr_store.specs.Stands.{Stands, slot_size_in, base_in, deltas_in, slots_in, gate_in, slot_in, lead_in, closing_chunk, closed_image, filled_image, opened_image, slot_filled, sequence_filled, front_filled, IsNext, IsClosed, MayStand, IsFilledIn, SameStore}
use Rattle.amr_store.specs.Stored.{IsFilled, SameOr, front_in, with_put, stored, slot_of}
use Rattle.amr_store.specs.Table.{is_base}
use Rattle.amr_store.proofs.Calls.{stands_moved, close_stop, close_after, fill_stop, entry, open_stop, put_is, open_after}

-- closing the gate of the next slot, by what the code works out
pub record ClosesNext (store : Store) (which : ℕ) (at : ℕ) (chunk : List ℕ) : Type 0 where
  pub next : IsNext which store
  pub at_is : at ≡ gate_in store which
  pub chunk_is : chunk ≡ closing_chunk (slot_in store which)

pub close_same : (store : Store) (s c : List ℕ) (which : ℕ) (at : ℕ) (chunk : List ℕ) → ClosesNext store which at chunk → Stands store s → Torn at (length chunk) s c → stored c ≡ stored s
close_same store s c which at chunk closes stands torn =
    (close_stop store s c which stands closes.next (subst₂ (λ (a n : ℕ). Torn a n s c) closes.at_is (ap (λ (l : List ℕ). length l) closes.chunk_is) torn)).same

pub close_stands : (store later : Store) (s : List ℕ) (which : ℕ) (at : ℕ) (chunk : List ℕ) → ClosesNext store which at chunk → Stands store s → SameStore store later
    → slots_in later ≡ slice_set (slots_in store) which None → Stands later (written_at at chunk s)
close_stands store later s which at chunk closes stands same slots =
    let image : closed_image store which s ≡ written_at at chunk s = sym (ap₂ (λ (a : ℕ) (p : List ℕ). written_at a p s) closes.at_is closes.chunk_is) in
    subst (λ (c : List ℕ). Stands later c) image
    (stands_moved store later s (closed_image store which s) which None stands same (close_after store s which stands closes.next) slots)

-- filling the closed slot, by what the code works out
pub record FillsSlot (store : Store) (which : ℕ) (at q : ℕ) (head payload : List ℕ) : Type 0 where
  pub at_is : at ≡ gate_in store which
  pub head_is : head ≡ to_le_bytes w64 q ++ to_le_bytes w64 (length payload)
  pub fits : length payload ≤ slot_size_in store
  pub some : 0 < q
  pub small : q < 2 ^ 64
  pub short : length payload < 2 ^ 64

pub fill_image : (store : Store) (which : ℕ) (at q : ℕ) (head payload s : List ℕ) → FillsSlot store which at q head payload → written_at (at + 17) payload (written_at (at + 1) head s) ≡ filled_image store which q payload s
fill_image store which at q head payload s fills = ap₂ (λ (a : ℕ) (h : List ℕ). written_at (a + 17) payload (written_at (a + 1) h s)) fills.at_is fills.head_is

pub fill_seen : (store : Store) (which : ℕ) (at q : ℕ) (head payload : List ℕ) (o : Option (List ℕ)) → FillsSlot store which at q head payload
    → option_map (λ s. written_at (at + 17) payload (written_at (at + 1) head s)) o ≡ option_map (filled_image store which q payload) o
fill_seen store which at q head payload None fills = refl
fill_seen store which at q head payload (Some s) fills = ap (λ (x : List ℕ). Some x) (fill_image store which at q head payload s fills)

pub fill_holds : (store : Store) (s t head : List ℕ) (which : ℕ) (at q : ℕ) (payload : List ℕ) → FillsSlot store which at q head payload
    → written_at (at + 17) payload (written_at (at + 1) head s) ≡ t → IsFilledIn which store t q payload
fill_holds store s t head which at q payload fills is =
    let gate = gate_at which (lead_in store) (slot_size_in store) in
    let filled = filled_written s head (base_in store) gate (slot_size_in store) q payload (slot_head_is head q (length payload) fills.head_is) fills.fits fills.some fills.small fills.short in
    subst (λ (x : List ℕ). IsFilledIn which store x q payload) is
    (subst (λ (a : ℕ). IsFilled (drop (base_in store) (written_at (a + 17) payload (written_at (a + 1) head s))) gate (slot_size_in store) q payload) (sym fills.at_is) filled)

fill_moves : (store : Store) (s c head : List ℕ) (which : ℕ) (at q : ℕ) (payload : List ℕ) → FillsSlot store which at q head payload → Stands store s → IsClosed which store
    → TornTwice (at + 1) (length head) (at + 17) (length payload) s c → Filling which s c (base_in store)
fill_moves store s c head which at q payload fills stands closed torn =
    let size : length head ≡ 16 = ap (λ (l : List ℕ). length l) fills.head_is in
    fill_stop store s c which (length payload) stands closed fills.fits
    (subst (λ (n : ℕ). TornTwice (gate_in store which + 1) n (gate_in store which + 17) (length payload) s c) size
    (subst (λ (a : ℕ). TornTwice (a + 1) (length head) (a + 17) (length payload) s c) fills.at_is torn))

pub fill_same : (store : Store) (s c head : List ℕ) (which : ℕ) (at q : ℕ) (payload : List ℕ) → FillsSlot store which at q head payload → Stands store s → IsClosed which store
    → TornTwice (at + 1) (length head) (at + 17) (length payload) s c → stored c ≡ stored s
fill_same store s c head which at q payload fills stands closed torn = (fill_moves store s c head which at q payload fills stands closed torn).same

pub fill_stands : (store : Store) (s t head : List ℕ) (which : ℕ) (at q : ℕ) (payload : List ℕ) → FillsSlot store which at q head payload → Stands store s → IsClosed which store
    → written_at (at + 17) payload (written_at (at + 1) head s) ≡ t → Stands store t
fill_stands store s t head which at q payload fills stands closed is =
    let c = written_at (at + 17) payload (written_at (at + 1) head s) in
    let torn : TornTwice (at + 1) (length head) (at + 17) (length payload) s c = (written_at (at + 1) head s, torn_written (at + 1) head s, torn_written (at + 17) payload (written_at (at + 1) head s)) in
    subst (λ (x : List ℕ). Stands store x) is
    (stands_moved store store s c which None stands record { version = refl; problem = refl; slot_size = refl; base = refl; deltas = refl }
    (fill_moves store s c head which at q payload fills stands closed torn).moves (sym (set_same (slots_in store) which None (sym closed.none))))

-- opening the gate of the filled slot
pub open_either : (store : Store) (s c : List ℕ) (which at q : ℕ) (payload : List ℕ) → at ≡ gate_in store which → Stands store s → IsNext which store → MayStand which store q (front_in payload)
    → IsFilledIn which store s q payload → Torn at 1 s c → SameOr (is_base (deltas_in store) which) q payload s c
open_either store s c which at q payload at_is stands next may filled torn =
    let stop = open_stop store s c which q payload stands next may filled (subst (λ (a : ℕ). Torn a 1 s c) at_is torn) in
    ⊎_elim (λ same. inl same) (λ new. inr (new ∙ sym (put_is store s which q payload stands))) stop.either

pub open_stored : (store : Store) (s t : List ℕ) (which at q : ℕ) (payload : List ℕ) → at ≡ gate_in store which → Stands store s → IsNext which store → MayStand which store q (front_in payload)
    → IsFilledIn which store s q payload → written_at at (165 ∷ []) s ≡ t → stored t ≡ with_put (is_base (deltas_in store) which) (stored s) q payload
open_stored store s t which at q payload at_is stands next may filled is =
    subst (λ (x : List ℕ). stored x ≡ with_put (is_base (deltas_in store) which) (stored s) q payload) is
    (subst (λ (a : ℕ). stored (written_at a (165 ∷ []) s) ≡ with_put (is_base (deltas_in store) which) (stored s) q payload) (sym at_is) (open_after store s which q payload stands next may filled).1)

pub open_stands : (store later : Store) (s t : List ℕ) (which at q : ℕ) (payload : List ℕ) (slot : Slot) → at ≡ gate_in store which → Stands store s → IsNext which store → MayStand which store q (front_in payload)
    → IsFilledIn which store s q payload → slot ≡ slot_of (entry q payload) → SameStore store later
    → slots_in later ≡ slice_set (slots_in store) which (Some slot) → written_at at (165 ∷ []) s ≡ t → Stands later t
open_stands store later s t which at q payload slot at_is stands next may filled slot_eq same slots is =
    subst (λ (x : List ℕ). Stands later x) is
    (subst (λ (a : ℕ). Stands later (written_at a (165 ∷ []) s)) (sym at_is)
    (stands_moved store later s (opened_image store which s) which (Some (entry q payload)) stands same (open_after store s which q payload stands next may filled).0
    (slots ∙ ap (λ (x : Slot). slice_set (slots_in store) which (Some x)) slot_eq)))

pub mapped_at : (f : List ℕ → List ℕ) (o : Option (List ℕ)) (s t : List ℕ) → o ≡ Some s → option_map f o ≡ Some t → f s ≡ t
mapped_at f o s t was is = inner (rw was at is)
  where
    inner : Some (f s) ≡ Some t → f s ≡ t
    inner e = cc

pub slot_made : (slot : Slot) (payload : List ℕ) → length payload ≡ slot.length → front_in payload ≡ slot.front → slot ≡ slot_of (entry slot.sequence payload)
slot_made slot payload size front = made _ _ _ _ (sym size) (sym front)
  where
    of : ℕ → Option ℕ → Slot
    of n f = record { sequence = slot.sequence; length = n; front = f }

    made : (m n : ℕ) (e f : Option ℕ) → m ≡ n → e ≡ f → of m e ≡ of n f
    made m n e f p q = cc

-- what may stand in the slot, by the payload that it was filled with
pub filled_may : (store : Store) (filled : Filled) (payload : List ℕ) → MayStand (slot_filled filled) store (sequence_filled filled) (front_filled filled) → front_in payload ≡ front_filled filled
    → MayStand (slot_filled filled) store (sequence_filled filled) (front_in payload)
filled_may store filled payload may front = subst (λ (f : Option ℕ). MayStand (slot_filled filled) store (sequence_filled filled) f) (sym front) may
