-- A gate that is written, and what the slot behind it holds.
use Rattle.std.proofs.Common.{◌≡◌, ◌⊎◌, inl, inr, ℕ, ◌+◌, ◌≤◌, ◌<◌, ◌==◌, nat_lt, true, false, List, length, Option, Some, None, sym, ◌∙◌, ap, arith}
use Rattle.std.proofs.lemmas.Bool.{cases_Bool, ltb-true, ltb-false}
use Rattle.std.specs.Prelude.{slice_index, slice_range}
use Rattle.std.proofs.lemmas.Bool.Decides.{nat_tests}
use Rattle.amr_store.proofs.Parts.{SameHead}
use Rattle.amr_store.proofs.Places.{Outside, long_same, range_same}
use Rattle.amr_store.proofs.Slots.{slot_kept, gate_within, sound_closed, sound_full, entry_closed, entry_open}
use Rattle.amr_store.specs.Layout.{open_gate, version_by, long_at}
use Rattle.amr_store.specs.Stored.{IsFilled, Entry, State, is_open, is_broken, entry_at, latest_entry, records_of, state_of}

-- the slot is sound, and holds what it held, or nothing
pub record HeldOrNone (old new : List ℕ) (gate size : ℕ) : Type 0 where
  pub sound : is_broken new gate size ≡ false
  pub either : (entry_at new gate ≡ entry_at old gate) ⊎ (entry_at new gate ≡ None)

-- the gate alone was written, and only where it was open
pub gate_torn : (old new : List ℕ) (gate size : ℕ) → Outside gate (gate + 1) old new → is_broken old gate size ≡ false
    → (is_open old gate ≡ false → slice_index new gate ≡ slice_index old gate) → HeldOrNone old new gate size
gate_torn old new gate size out sound shut_stays = elim (cases_Bool (is_open new gate)) [
  | inr closed ↦ record { sound = sound_closed new gate size (omega (arith, out.no_shorter, gate_within old gate size sound)) closed; either = inr (entry_closed new gate closed) }
  | inl opened ↦
      let still : slice_index new gate ≡ slice_index old gate = elim (cases_Bool (is_open old gate)) [
        | inl was ↦ byte (slice_index new gate) (slice_index old gate) opened was
        | inr shut ↦ shut_stays shut
      ] in
      let kept = slot_kept old new gate size out.no_shorter (λ i within from to. go i within from still) sound in
      record { sound = kept.sound; either = inl kept.entry }
]
  where
    byte : (m n : ℕ) → (m == open_gate) ≡ true → (n == open_gate) ≡ true → m ≡ n
    byte m n p q = grind (arith, nat_tests)

    go : (i : ℕ) → i < length old → gate ≤ i → slice_index new gate ≡ slice_index old gate → slice_index new i ≡ slice_index old i
    go i within from still = elim (cases_Bool (nat_lt gate i)) [
      | inl past ↦ out.above i within (omega (arith, ltb-true gate i past))
      | inr here ↦
          let is : i ≡ gate = omega (arith, ltb-false gate i here) in
          ap (λ (n : ℕ). slice_index new n) is ∙ still ∙ ap (λ (n : ℕ). slice_index old n) (sym is)
    ]

pub not_zero : (n : ℕ) → 0 < n → (n == 0) ≡ false
not_zero n some = grind (arith, nat_tests)

-- the slot is sound, and holds nothing, or the filled entry where its gate is open
pub record NoneOrFilled (new : List ℕ) (gate size sequence : ℕ) (payload : List ℕ) : Type 0 where
  pub sound : is_broken new gate size ≡ false
  pub either : (entry_at new gate ≡ None) ⊎ (entry_at new gate ≡ Some record { sequence = sequence; payload = payload })
  pub opened : is_open new gate ≡ true → entry_at new gate ≡ Some record { sequence = sequence; payload = payload }

pub entry_is : (q q' : ℕ) (p p' : List ℕ) (o : Option Entry) → o ≡ Some record { sequence = q; payload = p } → q ≡ q' → p ≡ p' → o ≡ Some record { sequence = q'; payload = p' }
entry_is q q' p p' o is e f = is ∙ go
  where
    made : ℕ → List ℕ → Option Entry
    made m x = Some record { sequence = m; payload = x }

    go : made q p ≡ made q' p'
    go = cc

pub opening : (old new : List ℕ) (gate size sequence : ℕ) (payload : List ℕ) → Outside gate (gate + 1) old new → IsFilled old gate size sequence payload → NoneOrFilled new gate size sequence payload
opening old new gate size sequence payload out filled =
    let seq : long_at new (gate + 1) ≡ sequence = long_same old new (gate + 1) (λ i lt. out.above (gate + 1 + i) (omega (arith, filled.whole)) (omega arith)) ∙ filled.sequence_is in
    let count : long_at new (gate + 9) ≡ length payload = long_same old new (gate + 9) (λ i lt. out.above (gate + 9 + i) (omega (arith, filled.whole)) (omega arith)) ∙ filled.length_is in
    let bytes : slice_range new (gate + 17) (gate + 17 + length payload) ≡ payload =
    range_same old new (gate + 17) (gate + 17 + length payload) filled.whole (omega (arith, filled.whole, out.no_shorter)) (λ i from to. out.above i (omega (arith, filled.whole)) (omega arith)) ∙ filled.payload_is in
    let full : is_broken new gate size ≡ false = sound_full new gate size record {
      head = omega (arith, filled.whole, out.no_shorter);
      fits = omega (arith, filled.fits, count);
      whole = omega (arith, filled.whole, out.no_shorter, count);
      some = ap (λ (n : ℕ). n == 0) seq ∙ not_zero sequence filled.some;
    } in
    let holds : is_open new gate ≡ true → entry_at new gate ≡ Some record { sequence = sequence; payload = payload } =
    λ opened. entry_is _ _ _ _ _ (entry_open new gate opened) seq (ap (λ (n : ℕ). slice_range new (gate + 17) (gate + 17 + n)) count ∙ bytes) in
    elim (cases_Bool (is_open new gate)) [
      | inl opened ↦ record { sound = full; either = inr (holds opened); opened = holds }
      | inr closed ↦ record { sound = full; either = inl (entry_closed new gate closed); opened = holds }
    ]

-- what a store shows with the head of another
pub state_kept : (old new : List ℕ) → SameHead old new → state_of new ≡ record (state_of old) { latest = latest_entry new; records = records_of new }
state_kept old new head = same _ _ _ _ _ _ _ _ head.magic head.problem head.size head.deltas
  where
    shown : ℕ → List ℕ → ℕ → ℕ → State
    shown magic problem size deltas = record {
      version = version_by magic;
      problem = problem;
      slot_size = size;
      deltas = deltas;
      latest = latest_entry new;
      records = records_of new;
    }

    same : (m n : ℕ) (p q : List ℕ) (t u : ℕ) (d e : ℕ) → m ≡ n → p ≡ q → t ≡ u → d ≡ e → shown m p t d ≡ shown n q u e
    same m n p q t u d e f g h i = cc
