-- The steps of a put, by the store in memory.
use Rattle.std.proofs.Common.{◌≡◌, inl, inr, ℕ, ◌+◌, ◌≤◌, ◌<◌, ◌==◌, true, false, List, [], ◌∷◌, length, drop, Option, Some, None, refl, sym, ◌∙◌, ap, subst, arith, Bool, ap₂, subst₂}
use Rattle.std.proofs.lemmas.Bool.{cases_Bool}
use Rattle.std.proofs.lemmas.List.{get_or-drop, get_or-set_same}
use Rattle.std.specs.Prelude.{slice_index, slice_range, slice_set, option_map, IfSome}
use Rattle.amr_disk.specs.Image.{Torn, written_at}
use Rattle.amr_disk.specs.Replay.{torn_written}
use Rattle.amr_store.proofs.Images.{inner_whole, stored_is}
use Rattle.amr_store.proofs.Groups.{StillLatest, next_closed, next_opened, record_slot, record_is_none, record_closed, record_opened}
use Rattle.amr_store.proofs.Moves.{IsAbove, IsFree, free_base, free_record, Moved, Closing, closing, Filling, filling, Opening, opening_base, opening_record, next_of, next_is_base}
use Rattle.amr_store.proofs.Places.{torn_outside, outside_twice}
use Rattle.amr_store.proofs.Slots.{entry_closed, entry_open}
use Rattle.amr_store.proofs.Tables.{next_or_latest, table_index}
use Rattle.amr_store.proofs.Writes.{written_byte, range_length}
use Rattle.amr_store.specs.Phases.{TornTwice}
use Rattle.amr_store.specs.declared.slot.Slot.{Slot}
use Rattle.amr_store.specs.declared.store.Store.{Store}
use Rattle.amr_store.specs.Layout.{open_gate, version_by, lead_length, gate_at, size_of, text_length, problem_of}
use Rattle.amr_store.specs.Stands.{Stands, problem_in, slot_size_in, base_in, version_in, deltas_in, slots_in, next_in, gate_in, slot_in, last_in, lead_in, closing_chunk, closed_image, opened_image, IsNext, IsClosed, MayStand, IsFilledIn, SameStore}
use Rattle.amr_store.specs.Stored.{Entry, Stored, Held, Reads, IsFilled, front_in, put_in, with_put, stored, state_of, slot_of, deltas_of, count_of, gate_of, known_of, slots_of, is_open, entry_at}
use Rattle.amr_store.specs.Table.{slot_count, slot_at, is_base, next_base, last_of, HasRoomFor, AreSound}

-- the problem's length is the one that the head tells
pub text_is : (store : Store) (s : List ℕ) → Stands store s → text_length (drop (base_in store) s) ≡ length (problem_in store)
text_is store s stands =
    let part = drop (base_in store) s in
    let whole = inner_whole s (base_in store) stands.reads in
    let size : length (slice_range part 21 (21 + text_length part)) ≡ text_length part = range_length part 21 (text_length part) whole.text_whole in
    sym size ∙ sym (ap (λ (l : List ℕ). length l) stands.problem)

-- where a gate stands
pub gate_is : (store : Store) (s : List ℕ) (k : ℕ) → Stands store s → gate_at k (lead_in store) (slot_size_in store) ≡ gate_of (drop (base_in store) s) k
gate_is store s k stands = same _ _ _ _ _ _ stands.version (sym (text_is store s stands)) stands.slot_size
  where
    same : (v w m n t u : ℕ) → v ≡ w → m ≡ n → t ≡ u → gate_at k (lead_length v m) t ≡ gate_at k (lead_length w n) u
    same v w m n t u e f g = cc

-- the slot that is next is free in the image
pub free_is : (store : Store) (s : List ℕ) (k : ℕ) → Stands store s → IsNext k store → IsFree (drop (base_in store) s) k
free_is store s k stands next =
    let part = drop (base_in store) s in
    let whole = inner_whole s (base_in store) stands.reads in
    elim next [
      | inl base ↦ free_base part k whole (base ∙ ap₂ next_base stands.deltas stands.slots)
      | inr record_next ↦ free_record part k whole (subst₂ (λ (d : ℕ) (l : List (Option Slot)). HasRoomFor d l k) stands.deltas stands.slots record_next)
    ]

pub slot_is : (store : Store) (s : List ℕ) (k : ℕ) → k < count_of (drop (base_in store) s) → Stands store s → slot_in store k ≡ known_of (drop (base_in store) s) k
slot_is store s k within stands =
    let part = drop (base_in store) s in
    ap (λ (l : List (Option Slot)). slot_at l k) stands.slots ∙ table_index (λ j. known_of part j) (count_of part) k None within

pub stands_at : (later : Store) (c : List ℕ) (b : ℕ) → b ≡ base_in later → Reads c b → version_in later ≡ (state_of (drop b c)).version → problem_in later ≡ problem_of (drop b c) → slot_size_in later ≡ size_of (drop b c)
    → deltas_in later ≡ deltas_of (drop b c) → slots_in later ≡ slots_of (drop b c) → Stands later c
stands_at later c b is reads version problem size deltas slots = record {
  reads = subst (λ (n : ℕ). Reads c n) is reads;
  version = subst (λ (n : ℕ). version_in later ≡ (state_of (drop n c)).version) is version;
  problem = subst (λ (n : ℕ). problem_in later ≡ problem_of (drop n c)) is problem;
  slot_size = subst (λ (n : ℕ). slot_size_in later ≡ size_of (drop n c)) is size;
  deltas = subst (λ (n : ℕ). deltas_in later ≡ deltas_of (drop n c)) is deltas;
  slots = subst (λ (n : ℕ). slots_in later ≡ slots_of (drop n c)) is slots;
}

-- a store that notes the entry of a moved image stands for it
pub stands_moved : (store later : Store) (s c : List ℕ) (k : ℕ) (entry : Option Entry) → Stands store s → SameStore store later → Moved k s c (base_in store) entry
    → slots_in later ≡ slice_set (slots_in store) k (option_map slot_of entry) → Stands later c
stands_moved store later s c k entry stands same move slots =
    stands_at later c (base_in store) (sym same.base) move.reads
    (same.version ∙ stands.version ∙ sym (ap version_by move.kept.head.magic))
    (same.problem ∙ stands.problem ∙ sym move.kept.head.problem)
    (same.slot_size ∙ stands.slot_size ∙ sym move.kept.head.size)
    (same.deltas ∙ stands.deltas ∙ sym move.kept.head.deltas)
    (slots ∙ ap (λ (l : List (Option Slot)). slice_set l k (option_map slot_of entry)) stands.slots ∙ sym move.slots)

pub none_of : (o : Option Entry) → option_map slot_of o ≡ None → o ≡ None
none_of None is = refl
none_of (Some e) is = let wrong : Some (slot_of e) ≡ None = is in cc

shut_of : (image : List ℕ) (gate : ℕ) → entry_at image gate ≡ None → is_open image gate ≡ false
shut_of image gate none = elim (cases_Bool (is_open image gate)) [
  | inr shut ↦ shut
  | inl opened ↦ let wrong = sym (entry_open image gate opened) ∙ none in cc
]

chunk_short : (o : Option Slot) → length (closing_chunk o) ≤ 1
chunk_short None = omega arith
chunk_short (Some slot) = omega arith

chunk_none : (o : Option Slot) → o ≡ None → length (closing_chunk o) ≡ 0
chunk_none None is = refl
chunk_none (Some slot) is = let wrong : Some slot ≡ None = is in cc

-- a stop while the gate of the next slot is closed
pub close_stop : (store : Store) (s c : List ℕ) (k : ℕ) → Stands store s → IsNext k store → Torn (gate_in store k) (length (closing_chunk (slot_in store k))) s c → Closing k s c (base_in store)
close_stop store s c k stands next torn =
    let part = drop (base_in store) s in
    let free = free_is store s k stands next in
    closing k s c (base_in store) (length (closing_chunk (slot_in store k))) stands.reads free (chunk_short (slot_in store k))
    (λ shut. chunk_none (slot_in store k) (slot_is store s k free.within stands ∙ ap (λ (o : Option Entry). option_map slot_of o) (entry_closed part (gate_of part k) shut)))
    (subst (λ (g : ℕ). Torn (base_in store + g) (length (closing_chunk (slot_in store k))) s c) (gate_is store s k stands) torn)

closed_byte : (base gate : ℕ) (s : List ℕ) (o : Option Slot) → o ≡ option_map slot_of (entry_at (drop base s) gate) → entry_at (drop base (written_at (base + gate) (closing_chunk o) s)) gate ≡ None
closed_byte base gate s None is = none_of _ (sym is)
closed_byte base gate s (Some slot) is =
    entry_closed (drop base (written_at (base + gate) (0 ∷ []) s)) gate
    (ap (λ (n : ℕ). n == open_gate) (get_or-drop base (written_at (base + gate) (0 ∷ []) s) gate 0 ∙ written_byte (base + gate) 0 s))

-- once the gate is closed the slot holds nothing
pub close_after : (store : Store) (s : List ℕ) (k : ℕ) → Stands store s → IsNext k store → Moved k s (closed_image store k s) (base_in store) None
close_after store s k stands next =
    let c = closed_image store k s in
    let gate = gate_of (drop (base_in store) s) k in
    let torn : Torn (gate_in store k) (length (closing_chunk (slot_in store k))) s c = torn_written (gate_in store k) (closing_chunk (slot_in store k)) s in
    let none : entry_at (drop (base_in store) c) gate ≡ None =
    subst (λ (g : ℕ). entry_at (drop (base_in store) (written_at (base_in store + g) (closing_chunk (slot_in store k)) s)) gate ≡ None) (sym (gate_is store s k stands))
    (closed_byte (base_in store) gate s (slot_in store k) (slot_is store s k (free_is store s k stands next).within stands)) in
    subst (λ (e : Option Entry). Moved k s c (base_in store) e) none (close_stop store s c k stands next torn).moves

-- a stop while the closed slot is filled
pub fill_stop : (store : Store) (s c : List ℕ) (k : ℕ) (n : ℕ) → Stands store s → IsClosed k store → n ≤ slot_size_in store
    → TornTwice (gate_in store k + 1) 16 (gate_in store k + 17) n s c → Filling k s c (base_in store)
fill_stop store s c k n stands closed fits torn =
    let base = base_in store in
    let part = drop base s in
    let gate = gate_of part k in
    let at : gate_in store k ≡ base + gate = ap (λ (g : ℕ). base + g) (gate_is store s k stands) in
    let shut : is_open part gate ≡ false = shut_of part gate (none_of _ (sym (slot_is store s k (free_is store s k stands closed.next).within stands) ∙ closed.none)) in
    let first = torn_outside (gate_in store k + 1) 16 (base + (gate + 1)) (base + (gate + 17 + size_of part)) s torn.0 (omega (arith, at)) (omega (arith, at)) torn.1 in
    let second = torn_outside (gate_in store k + 17) n (base + (gate + 1)) (base + (gate + 17 + size_of part)) torn.0 c (omega (arith, at)) (omega (arith, at, fits, stands.slot_size)) torn.2 in
    filling k s c base (gate + 1) (gate + 17 + size_of part) stands.reads (free_is store s k stands closed.next) shut (omega arith) (omega arith) (outside_twice _ _ s torn.0 c first second)

-- the sequence is above the latest entry's in the image
pub above_is : (store : Store) (s : List ℕ) (q : ℕ) → Stands store s → IfSome (last_in store) (λ l. l < q) → IsAbove (drop (base_in store) s) q
above_is store s q stands above = subst (λ (o : Option ℕ). IfSome o (λ l. l < q)) (ap₂ last_of stands.deltas stands.slots) above

abbrev pub entry : ℕ → List ℕ → Entry
entry q payload = record { sequence = q; payload = payload }

-- a slot that is filled in the store is filled in its part
filled_is : (store : Store) (s : List ℕ) (k q : ℕ) (payload : List ℕ) → Stands store s → IsFilledIn k store s q payload → IsFilled (drop (base_in store) s) (gate_of (drop (base_in store) s) k) (size_of (drop (base_in store) s)) q payload
filled_is store s k q payload stands filled =
    let part = drop (base_in store) s in
    subst (λ (z : ℕ). IsFilled part (gate_of part k) z q payload) stands.slot_size
    (subst (λ (g : ℕ). IsFilled part g (slot_size_in store) q payload) (gate_is store s k stands) filled)

base_of_next : (store : Store) (s : List ℕ) (k : ℕ) → Stands store s → k ≡ next_in store → k ≡ next_of (drop (base_in store) s)
base_of_next store s k stands next = next ∙ ap₂ next_base stands.deltas stands.slots

-- a stop while the gate of the filled slot is opened
pub open_stop : (store : Store) (s c : List ℕ) (k q : ℕ) (payload : List ℕ) → Stands store s → IsNext k store → MayStand k store q (front_in payload) → IsFilledIn k store s q payload
    → Torn (gate_in store k) 1 s c → Opening k s c (base_in store) (entry q payload) (put_in (is_base (deltas_in store) k) (state_of (drop (base_in store) s)) (entry q payload))
open_stop store s c k q payload stands next may filled torn =
    let part = drop (base_in store) s in
    let holds = filled_is store s k q payload stands filled in
    let torn_there = subst (λ (g : ℕ). Torn (base_in store + g) 1 s c) (gate_is store s k stands) torn in
    elim next [
      | inl base ↦
          let is = base_of_next store s k stands base in
          subst (λ (b : Bool). Opening k s c (base_in store) (entry q payload) (put_in b (state_of part) (entry q payload))) (sym (ap (λ (d : ℕ). is_base d k) stands.deltas ∙ next_is_base part k is))
          (opening_base k s c (base_in store) (entry q payload) stands.reads is (above_is store s q stands may.above) holds torn_there)
      | inr room ↦
          let not_base : is_base (deltas_in store) k ≡ false = record_is_none (deltas_in store) (slots_in store) k room in
          let last = may.on_last not_base in
          subst (λ (b : Bool). Opening k s c (base_in store) (entry q payload) (put_in b (state_of part) (entry q payload))) (sym not_base)
          (opening_record k last.0 s c (base_in store) (entry q payload) stands.reads (subst₂ (λ (d : ℕ) (l : List (Option Slot)). HasRoomFor d l k) stands.deltas stands.slots room) (ap₂ last_of (sym stands.deltas) (sym stands.slots) ∙ last.1)
          (below (last_in store) last.0 last.1 may.above) last.2 holds torn_there)
    ]
  where
    below : (o : Option ℕ) (l : ℕ) → o ≡ Some l → IfSome o (λ x. x < q) → l < q
    below o l is above = subst (λ (x : Option ℕ). IfSome x (λ y. y < q)) is above

-- what a put makes of what is stored
pub put_is : (store : Store) (s : List ℕ) (k q : ℕ) (payload : List ℕ) → Stands store s
    → with_put (is_base (deltas_in store) k) (stored s) q payload ≡ Held (put_in (is_base (deltas_in store) k) (state_of (drop (base_in store) s)) (entry q payload))
put_is store s k q payload stands = ap (λ (x : Stored). with_put (is_base (deltas_in store) k) x q payload) (stored_is s (base_in store) stands.reads)

-- once the gate is open the state or the record is stored
pub open_after : (store : Store) (s : List ℕ) (k q : ℕ) (payload : List ℕ) → Stands store s → IsNext k store → MayStand k store q (front_in payload) → IsFilledIn k store s q payload
    → Moved k s (opened_image store k s) (base_in store) (Some (entry q payload)) × (stored (opened_image store k s) ≡ with_put (is_base (deltas_in store) k) (stored s) q payload)
open_after store s k q payload stands next may filled =
    let base = base_in store in
    let c = opened_image store k s in
    let gate = gate_of (drop base s) k in
    let torn : Torn (gate_in store k) 1 s c = torn_written (gate_in store k) (165 ∷ []) s in
    let stop = open_stop store s c k q payload stands next may filled torn in
    let at : base + gate ≡ gate_in store k = ap (λ (g : ℕ). base + g) (sym (gate_is store s k stands)) in
    let opened : is_open (drop base c) gate ≡ true =
    ap (λ (n : ℕ). n == open_gate) (get_or-drop base c gate 0 ∙ ap (λ (n : ℕ). slice_index c n) at ∙ written_byte (gate_in store k) 165 s) in
    let both = stop.opened opened in
    (subst (λ (e : Option Entry). Moved k s c base e) both.0 stop.moves, both.1 ∙ sym (put_is store s k q payload stands))

-- where the told bytes of a disk were mapped, they were told before
pub mapped_some : (f : List ℕ → List ℕ) (o : Option (List ℕ)) (t : List ℕ) → option_map f o ≡ Some t → (s : List ℕ) × (o ≡ Some s) × (f s ≡ t)
mapped_some f None t is = let wrong : None ≡ Some t = is in cc
mapped_some f (Some s) t is = (s, refl, inner)
  where
    inner : f s ≡ t
    inner = cc

-- no slot is missing
pub slots_count : (store : Store) → length (slots_in store) ≡ slot_count (deltas_in store)
slots_count store = sym store.slots.ok.0 ∙ store.all_slots

-- the slots of a store in memory, of which the next one was closed, and then opened
slots_still : (store : Store) (k : ℕ) → IsNext k store → StillLatest (deltas_in store) (slots_in store) (slice_set (slots_in store) k None)
slots_still store k next = elim next [
  | inl base ↦ subst (λ (j : ℕ). StillLatest (deltas_in store) (slots_in store) (slice_set (slots_in store) j None)) (sym base) (next_closed (deltas_in store) (slots_in store) (slots_count store) store.sound.harmless)
  | inr room ↦ record_closed (deltas_in store) (slots_in store) k (slots_count store) store.sound.harmless store.sound.apart room
]

pub next_within : (store : Store) (k : ℕ) → IsNext k store → k < slot_count (deltas_in store)
next_within store k next = elim next [
  | inl base ↦ omega (arith, base, (next_or_latest (deltas_in store) (slots_in store)).within)
  | inr room ↦ (record_slot (deltas_in store) (slots_in store) k room).within
]

pub sound_closed_slots : (store : Store) (k : ℕ) → IsNext k store → AreSound (deltas_in store) (slice_set (slots_in store) k None)
sound_closed_slots store k next = let stays = slots_still store k next in record { apart = stays.tie; harmless = stays.harmless }

pub closed_is : (store later : Store) (k : ℕ) → SameStore store later → IsNext k store → slots_in later ≡ slice_set (slots_in store) k None → IsClosed k later
closed_is store later k same next slots =
    let stays = slots_still store k next in
    let within = next_within store k next in
    record {
      next = elim next [
        | inl base ↦ inl (base ∙ sym (ap₂ next_base same.deltas slots ∙ stays.next))
        | inr room ↦ inr (subst (λ (l : List (Option Slot)). HasRoomFor (deltas_in later) l k) (sym slots) (subst (λ (d : ℕ). HasRoomFor d (slice_set (slots_in store) k None) k) (sym same.deltas) record {
          place = omega (arith, room.place, stays.latest, stays.chain);
          room = omega (arith, room.room, stays.chain);
        }))
      ];
      within = omega (arith, same.deltas, within);
      none = ap (λ (l : List (Option Slot)). slot_at l k) slots ∙ get_or-set_same (slots_in store) k None None (omega (arith, slots_count store, within));
    }

-- where the slots stay, so does the last sequence
pub last_same : (old new : Store) → SameStore old new → slots_in new ≡ slots_in old → last_in new ≡ last_in old
last_same old new same slots = ap₂ last_of same.deltas slots

pub last_closed : (store later : Store) (k : ℕ) → SameStore store later → IsNext k store → slots_in later ≡ slice_set (slots_in store) k None → last_in later ≡ last_in store
last_closed store later k same next slots = ap₂ last_of same.deltas slots ∙ (slots_still store k next).last

-- what the slots show once the next one is open
pub record Opened (deltas : ℕ) (slots : List (Option Slot)) (slot : Slot) : Type 0 where
  pub last : last_of deltas slots ≡ Some slot.sequence
  pub sound : AreSound deltas slots

pub slots_opened : (store : Store) (k : ℕ) (slot : Slot) → IsNext k store → 0 < slot.sequence → MayStand k store slot.sequence slot.front → Opened (deltas_in store) (slice_set (slots_in store) k (Some slot)) slot
slots_opened store k slot next some may = elim next [
  | inl base ↦
      let now = next_opened (deltas_in store) (slots_in store) slot (slots_count store) store.sound.harmless some may.above in
      subst (λ (j : ℕ). Opened (deltas_in store) (slice_set (slots_in store) j (Some slot)) slot) (sym base) record { last = now.last; sound = record { apart = now.tie; harmless = now.harmless } }
  | inr room ↦
      let last = may.on_last (record_is_none (deltas_in store) (slots_in store) k room) in
      let now = record_opened (deltas_in store) (slots_in store) k last.0 slot (slots_count store) store.sound.harmless store.sound.apart room last.1 (below (last_in store) last.0 last.1 may.above) last.2 in
      record { last = now.last; sound = record { apart = now.tie; harmless = now.harmless } }
]
  where
    below : (o : Option ℕ) (l : ℕ) → o ≡ Some l → IfSome o (λ x. x < slot.sequence) → l < slot.sequence
    below o l is above = subst (λ (x : Option ℕ). IfSome x (λ y. y < slot.sequence)) is above

pub last_opened : (store later : Store) (k : ℕ) (slot : Slot) → SameStore store later → IsNext k store → 0 < slot.sequence → MayStand k store slot.sequence slot.front
    → slots_in later ≡ slice_set (slots_in store) k (Some slot) → last_in later ≡ Some slot.sequence
last_opened store later k slot same next some may slots = ap₂ last_of same.deltas slots ∙ (slots_opened store k slot next some may).last
