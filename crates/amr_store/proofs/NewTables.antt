-- Tables of slots of which none is open, or the first alone.
use Rattle.std.proofs.Common.{◌≡◌, ℕ, zero, suc, ◌+◌, ◌<◌, false, not, List, [], ◌∷◌, Option, Some, None, refl, ◌∙◌, ap, arith}
use Rattle.std.specs.Prelude.{replicate}
use Rattle.amr_store.specs.declared.slot.Slot.{Slot}
use Rattle.amr_store.specs.Table.{slot_count, slot_at, is_tied, latest_base, sequence_in, stands_on, chain_of, last_of, or_none, is_base, begins_above, AreSound}
use Rattle.amr_store.proofs.Chains.{chain_none}
use Rattle.amr_store.proofs.Groups.{slot_harmless, apart, base_is, chain_within}

-- where no slot is open, or where no record follows a base
pub record NoChain (deltas : ℕ) (slots : List (Option Slot)) : Type 0 where
  pub chain : chain_of deltas slots ≡ 0
  pub last : last_of deltas slots ≡ sequence_in (slot_at slots (latest_base deltas slots))
  pub sound : AreSound deltas slots

no_chain : (deltas : ℕ) (slots : List (Option Slot)) → chain_of deltas slots ≡ 0 → is_tied deltas slots ≡ false → ((k : ℕ) → k < slot_count deltas → is_base deltas k ≡ false → slot_at slots k ≡ None) → NoChain deltas slots
no_chain deltas slots none apart closed = record {
  chain = none;
  last = ap (λ (m : ℕ). sequence_in (slot_at slots m)) (sum (latest_base deltas slots) (chain_of deltas slots) none);
  sound = record {
    apart = apart;
    harmless = record { none = λ k within. slot_harmless deltas slots k (λ record_is. ap (λ (s : Option Slot). begins_above (or_none (last_of deltas slots)) s) (closed k within record_is)) };
  };
}
  where
    sum : (a b : ℕ) → b ≡ 0 → a + b ≡ a
    sum a b is = omega (arith, is)

slot_none : (n k : ℕ) → slot_at (replicate n None) k ≡ None
slot_none zero k = refl
slot_none (suc n) zero = refl
slot_none (suc n) (suc k) = slot_none n k

tied_none : (deltas : ℕ) (slots : List (Option Slot)) → slot_at slots 0 ≡ None → is_tied deltas slots ≡ false
unfolding is_tied
tied_none deltas slots is = rw is refl

pub none_open : (deltas : ℕ) → NoChain deltas (replicate (slot_count deltas) None)
none_open deltas =
    let slots = replicate (slot_count deltas) None in
    no_chain deltas slots (chain_none slots deltas (latest_base deltas slots) (ap (λ (s : Option Slot). stands_on s (slot_at slots (latest_base deltas slots + 0 + 1))) (slot_none (slot_count deltas) (latest_base deltas slots + 0))))
    (tied_none deltas slots (slot_none (slot_count deltas) 0)) (λ k within record_is. slot_none (slot_count deltas) k)

apart_one : (slot : Slot) → is_tied 0 (Some slot ∷ None ∷ []) ≡ false
unfolding is_tied
apart_one slot = refl

pub none_last : (deltas : ℕ) → last_of deltas (replicate (slot_count deltas) None) ≡ None
none_last deltas =
    let slots = replicate (slot_count deltas) None in
    (none_open deltas).last ∙ ap sequence_in (slot_none (slot_count deltas) (latest_base deltas slots))

-- two slots, of which the second is closed
pub one_open : (slot : Slot) → NoChain 0 (Some slot ∷ None ∷ [])
one_open slot =
    let slots = Some slot ∷ None ∷ [] in
    no_chain 0 slots (omega (arith, chain_within 0 slots)) (apart_one slot) (λ k within record_is. let not = base_is 0 k record_is in absurd (two k within not.0 not.1))
  where
    two : (k : ℕ) → k < 2 → (k ≡ 0 → ⊥) → (k ≡ 1 → ⊥) → ⊥
    two k lt first second = omega (arith, first, second)

one_latest : (slot : Slot) → latest_base 0 (Some slot ∷ None ∷ []) ≡ 0
unfolding latest_base
one_latest slot = refl

pub last_alone : (slot : Slot) → last_of 0 (Some slot ∷ None ∷ []) ≡ Some slot.sequence
last_alone slot = (one_open slot).last ∙ ap (λ (k : ℕ). sequence_in (slot_at (Some slot ∷ None ∷ []) k)) (one_latest slot)
