-- What a put writes, and the slot that it leaves alone.
use Rattle.std.proofs.Common.{◌≡◌, ◌∙◌, ◌+◌, ◌<◌, ◌∷◌, ◌++◌, [], refl, sym, ap, subst, ℕ, Bool, true, false, List, Option, Some, None, length, ap₂}
use Rattle.std.specs.Int.{to_le_bytes, w64}
use Rattle.std.specs.Prelude.{option_map, slice_set, IfSome, IsSome}
use Rattle.amr_disk.specs.Image.{written_at}
use Rattle.amr_store.proofs.Seen.{written_as, written_thrice}
use Rattle.amr_store.proofs.Calls.{slots_count}
use Rattle.amr_store.proofs.Groups.{next_opened, record_opened}
use Rattle.amr_store.proofs.Tables.{set_twice, next_or_latest}
use Rattle.amr_store.specs.declared.slot.Slot.{Slot}
use Rattle.amr_store.specs.declared.store.Store.{Store}
use Rattle.amr_store.specs.Layout.{lead_length, gate_at}
use Rattle.amr_store.specs.Stands.{SameStore, MayStand, IsFilledIn, HoldsFilled, IsOnLast, put_slot, slots_in, deltas_in, last_in, chain_in, next_in, next_record_in, gate_in, closed_image, filled_image, opened_image, slot_image, slot_filled, sequence_filled, length_filled, front_filled}
use Rattle.amr_store.specs.Stored.{front_in, slot_of}
use Rattle.amr_store.specs.Table.{is_base, HasRoomFor, chain_of}
use Rattle.amr_store.specs.declared.put.Filled.{Filled}

-- a gate stands where it stood
pub gate_stays : (old new : Store) (which : ℕ) → SameStore old new → gate_in new which ≡ gate_in old which
gate_stays old new which same = at _ _ _ _ _ _ _ _ same.base same.version same.problem same.slot_size
  where
    at : (b d v w : ℕ) (p q : List ℕ) (m n : ℕ) → b ≡ d → v ≡ w → p ≡ q → m ≡ n → b + gate_at which (lead_length v (length p)) m ≡ d + gate_at which (lead_length w (length q)) n
    at b d v w p q m n e f g h = cc

pub put_seen : (store closed filled : Store) (k which opened : ℕ) (q : ℕ) (bytes : List ℕ) (o p r t : Option (List ℕ)) → SameStore store closed → filled ≡ closed → which ≡ k → opened ≡ which
    → p ≡ option_map (closed_image store k) o → r ≡ option_map (filled_image closed which q bytes) p → t ≡ option_map (opened_image filled opened) r → t ≡ option_map (slot_image store k q bytes) o
put_seen store closed filled k which opened q bytes o p r t same kept next same_slot close fill opens =
    written_as (λ s. opened_image filled opened (filled_image closed which q bytes (closed_image store k s))) (slot_image store k q bytes) o o t refl
    (written_thrice (closed_image store k) (filled_image closed which q bytes) (opened_image filled opened) o p r t close fill opens) (λ s is. each (closed_image store k s))
  where
    gate : gate_in closed which ≡ gate_in store k
    gate = gate_stays store closed which same ∙ ap (λ (w : ℕ). gate_in store w) next

    last : gate_in filled opened ≡ gate_in store k
    last = ap (λ (w : ℕ). gate_in filled w) same_slot ∙ ap (λ (x : Store). gate_in x which) kept ∙ gate

    each : (i : List ℕ) → opened_image filled opened (filled_image closed which q bytes i) ≡ opened_image store k (filled_image store k q bytes i)
    each i =
        ap (λ (g : ℕ). written_at g (165 ∷ []) (filled_image closed which q bytes i)) last
        ∙ ap (λ (g : ℕ). written_at (gate_in store k) (165 ∷ []) (written_at (g + 17) bytes (written_at (g + 1) (to_le_bytes w64 q ++ to_le_bytes w64 (length bytes)) i))) gate

-- the same slot was noted twice
pub slots_put : (old closed new : Store) (k : ℕ) (slot : Option Slot) → slots_in closed ≡ slice_set (slots_in old) k None → slots_in new ≡ slice_set (slots_in closed) k slot → slots_in new ≡ slice_set (slots_in old) k slot
slots_put old closed new k slot first second = second ∙ ap (λ (l : List (Option Slot)). slice_set l k slot) first ∙ set_twice (slots_in old) k None slot

pub slot_put : (slot : Slot) (sequence : ℕ) (payload : List ℕ) → slot.sequence ≡ sequence → slot.length ≡ length payload → slot.front ≡ front_in payload → Some slot ≡ put_slot sequence payload
slot_put slot sequence payload e f h = same _ _ _ _ _ _ e f h
  where
    made : ℕ → ℕ → Option ℕ → Option Slot
    made q n o = Some record { sequence = q; length = n; front = o }

    same : (q r m n : ℕ) (o p : Option ℕ) → q ≡ r → m ≡ n → o ≡ p → made q m o ≡ made r n p
    same q r m n o p a b c = cc

-- what was filled, as its clauses tell it
abbrev pub WasFilled : Filled → ℕ → ℕ → List ℕ → Type 0
WasFilled filled which sequence payload = (slot_filled filled ≡ which) × (sequence_filled filled ≡ sequence) × (length_filled filled ≡ length payload) × (front_filled filled ≡ front_in payload)

pub holds_filled : (filled : Filled) (store : Store) (image : List ℕ) (which sequence : ℕ) (payload : List ℕ) → WasFilled filled which sequence payload → IsFilledIn which store image sequence payload → HoldsFilled filled store image payload
holds_filled filled store image which sequence payload was holds = record {
  length_is = sym was.2;
  front_is = sym was.3;
  holds = subst (λ (q : ℕ). IsFilledIn (slot_filled filled) store image q payload) (sym was.1) (subst (λ (w : ℕ). IsFilledIn w store image sequence payload) (sym was.0) holds);
}

-- the kind of a slot stays
pub base_later : (store closed filled : Store) (opened which k : ℕ) → SameStore store closed → filled ≡ closed → opened ≡ which → which ≡ k → is_base (deltas_in filled) opened ≡ is_base (deltas_in store) k
base_later store closed filled opened which k same kept slot next =
    ap (λ (x : Store). is_base (deltas_in x) opened) kept ∙ ap₂ is_base same.deltas (slot ∙ next)

-- what may stand in the slot may still once it was closed and filled
pub may_later : (store closed filled_store : Store) (filled : Filled) (which k sequence : ℕ) (payload : List ℕ) → WasFilled filled which sequence payload → which ≡ k → SameStore store closed → last_in closed ≡ last_in store → filled_store ≡ closed
    → MayStand k store sequence (front_in payload) → MayStand (slot_filled filled) filled_store (sequence_filled filled) (front_filled filled)
may_later store closed filled_store filled which k sequence payload was next same last kept may =
    let last_is : last_in filled_store ≡ last_in store = ap last_in kept ∙ last in
    let base = base_later store closed filled_store (slot_filled filled) which k same kept was.0 next in record {
      above = subst (λ (o : Option ℕ). IfSome o (λ l. l < sequence_filled filled)) (sym last_is) (subst (λ (q : ℕ). IfSome (last_in store) (λ l. l < q)) (sym was.1) may.above);
      on_last = λ none.
          let there = may.on_last (sym base ∙ none) in
          (there.0, last_is ∙ there.1, was.3 ∙ there.2);
    }

-- the next base is one
pub next_base_is : (store : Store) (k : ℕ) → k ≡ next_in store → is_base (deltas_in store) k ≡ true
next_base_is store k is = ap (λ (j : ℕ). is_base (deltas_in store) j) is ∙ so (is_base (deltas_in store) (next_in store)) (next_or_latest (deltas_in store) (slots_in store)).base
  where
    so : (b : Bool) → (b ≡ false → ⊥) → b ≡ true
    so true never = refl
    so false never = absurd (never refl)

pub may_base : (store : Store) (k sequence : ℕ) (front : Option ℕ) → k ≡ next_in store → IfSome (last_in store) (λ l. l < sequence) → MayStand k store sequence front
may_base store k sequence front is above = record {
  above = above;
  on_last = λ none. let wrong : true ≡ false = sym (next_base_is store k is) ∙ none in absurd (cc);
}

-- the slot of the next record is none
pub record_room : (store : Store) (k : ℕ) → k ≡ next_record_in store → chain_in store < deltas_in store → HasRoomFor (deltas_in store) (slots_in store) k
record_room store k is room = record { place = is; room = room }

pub may_record : (store : Store) (k sequence : ℕ) (payload : List ℕ) → IsOnLast (last_in store) sequence payload → MayStand k store sequence (front_in payload)
may_record store k sequence payload stands = record { above = stands.above; on_last = λ none. told (last_in store) stands.some stands.begins }
  where
    told : (o : Option ℕ) → IsSome o → front_in payload ≡ o → (last : ℕ) × (o ≡ Some last) × (front_in payload ≡ Some last)
    told None some begins = let wrong : false ≡ true = some in absurd (cc)
    told (Some l) some begins = (l, refl, begins)

-- no record counts behind a new base, and one more behind a new record
pub chain_put : (store later : Store) (k sequence : ℕ) (payload : List ℕ) → k ≡ next_in store → 0 < sequence → IfSome (last_in store) (λ l. l < sequence) → SameStore store later
    → slots_in later ≡ slice_set (slots_in store) k (put_slot sequence payload) → chain_in later ≡ 0
chain_put store later k sequence payload next some above same slots =
    ap₂ chain_of same.deltas (slots ∙ ap (λ (j : ℕ). slice_set (slots_in store) j (put_slot sequence payload)) next)
    ∙ (next_opened (deltas_in store) (slots_in store) (slot_of record { sequence = sequence; payload = payload }) (slots_count store) store.sound.harmless some above).chain

pub chain_recorded : (store later : Store) (k sequence : ℕ) (payload : List ℕ) → HasRoomFor (deltas_in store) (slots_in store) k → IsOnLast (last_in store) sequence payload → SameStore store later
    → slots_in later ≡ slice_set (slots_in store) k (put_slot sequence payload) → chain_in later ≡ chain_in store + 1
chain_recorded store later k sequence payload room stands same slots =
    let last = on_last (last_in store) stands.some stands.begins stands.above in
    ap₂ chain_of same.deltas slots
    ∙ (record_opened (deltas_in store) (slots_in store) k last.0 (slot_of record { sequence = sequence; payload = payload }) (slots_count store) store.sound.harmless store.sound.apart room last.1 last.2 last.3).chain
  where
    on_last : (o : Option ℕ) → IsSome o → front_in payload ≡ o → IfSome o (λ l. l < sequence) → (last : ℕ) × (o ≡ Some last) × (last < sequence) × (front_in payload ≡ Some last)
    on_last None some begins above = let wrong : false ≡ true = some in absurd (cc)
    on_last (Some l) some begins above = (l, refl, above, begins)
