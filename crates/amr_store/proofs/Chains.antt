-- The records that count behind a base.
use Rattle.std.proofs.Common.{◌≡◌, inl, inr, ℕ, zero, suc, ◌+◌, ◌≤◌, ◌<◌, nat_lt, Bool, true, false, List, Option, Some, None, refl, sym, ◌∙◌, ap, arith, ap₂}
use Rattle.std.proofs.lemmas.Bool.{cases_Bool, ltb-true, ltb-false}
use Rattle.amr_store.specs.declared.slot.Slot.{Slot}
use Rattle.amr_store.specs.Table.{slot_at, stands_on, counting}

-- whether slot k + j + 1 stands on slot k + j
abbrev pub linked : List (Option Slot) → ℕ → ℕ → Bool
linked slots k j = stands_on (slot_at slots (k + j)) (slot_at slots (k + j + 1))

-- of the n slots behind slot k the first m count, and no further one
pub record IsChain (slots : List (Option Slot)) (n k m : ℕ) : Type 0 where
  pub within : m ≤ n
  pub links : (j : ℕ) → j < m → linked slots k j ≡ true
  pub stops : m < n → linked slots k m ≡ false

first_link : (slots : List (Option Slot)) (k : ℕ) → linked slots k 0 ≡ stands_on (slot_at slots k) (slot_at slots (k + 1))
first_link slots k = ap (λ (i : ℕ). stands_on (slot_at slots i) (slot_at slots (i + 1))) none
  where
    none : k + 0 ≡ k
    none = omega arith

next_link : (slots : List (Option Slot)) (k j : ℕ) → linked slots k (suc j) ≡ linked slots (k + 1) j
next_link slots k j = ap (λ (i : ℕ). stands_on (slot_at slots i) (slot_at slots (i + 1))) one
  where
    one : k + suc j ≡ k + 1 + j
    one = omega arith

counting_on : (slots : List (Option Slot)) (n k : ℕ) → linked slots k 0 ≡ true → counting slots (suc n) k ≡ counting slots n (k + 1) + 1
unfolding counting
counting_on slots n k is = rw (sym (first_link slots k) ∙ is) refl

counting_off : (slots : List (Option Slot)) (n k : ℕ) → linked slots k 0 ≡ false → counting slots (suc n) k ≡ 0
unfolding counting
counting_off slots n k is = rw (sym (first_link slots k) ∙ is) refl

counting_none : (slots : List (Option Slot)) (k : ℕ) → counting slots zero k ≡ 0
unfolding counting
counting_none slots k = refl

same_count : (slots : List (Option Slot)) (n k m m' : ℕ) → m ≡ m' → IsChain slots n k m' → IsChain slots n k m
same_count slots n k m m' e is = rw e is

more_links : (slots : List (Option Slot)) (k m : ℕ) → linked slots k 0 ≡ true → ((j : ℕ) → j < m → linked slots (k + 1) j ≡ true) → (j : ℕ) → j < m + 1 → linked slots k j ≡ true
more_links slots k m first rest zero lt = first
more_links slots k m first rest (suc j) lt = next_link slots k j ∙ rest j (omega arith)

pub chain_is : (slots : List (Option Slot)) (n k : ℕ) → IsChain slots n k (counting slots n k)
chain_is slots zero k = same_count slots zero k _ 0 (counting_none slots k) record { within = omega arith; links = λ j lt. absurd (omega arith); stops = λ lt. absurd (omega arith) }
chain_is slots (suc n) k = elim (cases_Bool (linked slots k 0)) [
  | inr off ↦ same_count slots (suc n) k _ 0 (counting_off slots n k off) record { within = omega arith; links = λ j lt. absurd (omega arith); stops = λ lt. off }
  | inl on ↦
      let rest = chain_is slots n (k + 1) in
      let m = counting slots n (k + 1) in
      same_count slots (suc n) k _ (m + 1) (counting_on slots n k on) record {
        within = omega (arith, rest.within);
        links = more_links slots k m on rest.links;
        stops = λ lt. ap (λ (j : ℕ). linked slots k j) (plus m) ∙ next_link slots k m ∙ rest.stops (omega arith);
      }
]
  where
    plus : (m : ℕ) → m + 1 ≡ suc m
    plus m = omega arith

pub chain_counts : (slots : List (Option Slot)) (n k m : ℕ) → IsChain slots n k m → counting slots n k ≡ m
chain_counts slots zero k m is = counting_none slots k ∙ omega (arith, is.within)
chain_counts slots (suc n) k zero is = counting_off slots n k (is.stops (omega arith))
chain_counts slots (suc n) k (suc m) is =
    let rest : IsChain slots n (k + 1) m = record {
      within = omega (arith, is.within);
      links = λ j lt. sym (next_link slots k j) ∙ is.links (suc j) (omega arith);
      stops = λ lt. sym (next_link slots k m) ∙ is.stops (omega arith);
    } in
    counting_on slots n k (is.links 0 (omega arith)) ∙ omega (arith, chain_counts slots n (k + 1) m rest)

-- links between slots that stay
same_links : (old new : List (Option Slot)) (k m : ℕ) → ((i : ℕ) → i ≤ m → slot_at new (k + i) ≡ slot_at old (k + i)) → ((j : ℕ) → j < m → linked old k j ≡ true) → (j : ℕ) → j < m → linked new k j ≡ true
same_links old new k m same links j lt =
    ap₂ stands_on (same j (omega arith)) (ap (λ (i : ℕ). slot_at new i) (plus k j) ∙ same (j + 1) (omega arith) ∙ sym (ap (λ (i : ℕ). slot_at old i) (plus k j))) ∙ links j lt
  where
    plus : (a b : ℕ) → a + b + 1 ≡ a + (b + 1)
    plus a b = omega arith

-- the slots behind k stay
pub chain_stays : (old new : List (Option Slot)) (n k : ℕ) → ((i : ℕ) → i ≤ n → slot_at new (k + i) ≡ slot_at old (k + i)) → counting new n k ≡ counting old n k
chain_stays old new n k same =
    let was = chain_is old n k in
    let m = counting old n k in
    chain_counts new n k m record {
      within = was.within;
      links = same_links old new k m (λ i le. same i (omega (arith, le, was.within))) was.links;
      stops = λ lt. ap₂ stands_on (same m (omega (arith, lt))) (ap (λ (i : ℕ). slot_at new i) (plus k m) ∙ same (m + 1) (omega (arith, lt)) ∙ sym (ap (λ (i : ℕ). slot_at old i) (plus k m))) ∙ was.stops lt;
    }
  where
    plus : (a b : ℕ) → a + b + 1 ≡ a + (b + 1)
    plus a b = omega arith

-- the slot behind the last one that counts is none: as many count
pub chain_cut : (old new : List (Option Slot)) (n k : ℕ) → ((i : ℕ) → i ≤ counting old n k → slot_at new (k + i) ≡ slot_at old (k + i)) → slot_at new (k + counting old n k + 1) ≡ None → counting new n k ≡ counting old n k
chain_cut old new n k same none =
    let was = chain_is old n k in
    let m = counting old n k in
    chain_counts new n k m record {
      within = was.within;
      links = same_links old new k m same was.links;
      stops = λ lt. ap (λ (s : Option Slot). stands_on (slot_at new (k + m)) s) none ∙ on_none (slot_at new (k + m));
    }
  where
    on_none : (s : Option Slot) → stands_on s None ≡ false
    on_none None = refl
    on_none (Some a) = refl

-- the slot behind the last one that counts stands on it, and nothing stands on that one: one more counts
pub chain_more : (old new : List (Option Slot)) (n k : ℕ) → counting old n k < n → ((i : ℕ) → i ≤ counting old n k → slot_at new (k + i) ≡ slot_at old (k + i))
    → linked new k (counting old n k) ≡ true → (counting old n k + 1 < n → linked new k (counting old n k + 1) ≡ false) → counting new n k ≡ counting old n k + 1
chain_more old new n k room same on off =
    let was = chain_is old n k in
    let m = counting old n k in
    chain_counts new n k (m + 1) record {
      within = omega (arith, room);
      links = last_link new k m (same_links old new k m same was.links) on;
      stops = off;
    }
  where
    last_link : (slots : List (Option Slot)) (k m : ℕ) → ((j : ℕ) → j < m → linked slots k j ≡ true) → linked slots k m ≡ true → (j : ℕ) → j < m + 1 → linked slots k j ≡ true
    last_link slots k m before here j lt = elim (cases_Bool (nat_lt j m)) [
      | inl early ↦ before j (ltb-true j m early)
      | inr late ↦ let at : j ≡ m = omega (arith, ltb-false j m late) in ap (λ (i : ℕ). linked slots k i) at ∙ here
    ]

-- nothing stands on a slot
pub chain_none : (slots : List (Option Slot)) (n k : ℕ) → linked slots k 0 ≡ false → counting slots n k ≡ 0
chain_none slots zero k off = counting_none slots k
chain_none slots (suc n) k off = counting_off slots n k off
