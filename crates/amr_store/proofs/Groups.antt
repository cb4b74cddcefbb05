-- Tables of slots of which the next base, or the next record, is closed or opened.
use Rattle.std.proofs.Common.{◌≡◌, inl, inr, ℕ, zero, suc, ◌+◌, ◌≤◌, ◌<◌, ◌==◌, nat_lt, Bool, true, false, not, ◌&&◌, ◌||◌, List, length, Option, Some, None, refl, sym, ◌∙◌, ap, subst, arith, ap₂}
use Rattle.std.proofs.lemmas.Bool.{cases_Bool, ltb-true, ltb-false, le-ltb}
use Rattle.std.proofs.lemmas.Bool.Decides.{nat_tests}
use Rattle.std.proofs.lemmas.List.{get_or-set_same, get_or-set_other}
use Rattle.std.specs.Prelude.{slice_set, IfSome}
use Rattle.amr_store.specs.declared.slot.Slot.{Slot}
use Rattle.amr_store.specs.Table.{slot_count, slot_at, is_tied, next_base, latest_base, sequence_in, is_front, stands_on, counting, chain_of, last_of, or_none, is_base, is_above, begins_above, is_stray, HasRoomFor, IsHarmless}
use Rattle.amr_store.proofs.Chains.{linked, chain_is, chain_stays, chain_cut, chain_more, chain_none}
use Rattle.amr_store.proofs.Tables.{bases_closed, bases_opened, next_or_latest, bases_same}

-- all that the slots show is as it was
pub record StillLatest (deltas : ℕ) (old new : List (Option Slot)) : Type 0 where
  pub next : next_base deltas new ≡ next_base deltas old
  pub latest : latest_base deltas new ≡ latest_base deltas old
  pub chain : chain_of deltas new ≡ chain_of deltas old
  pub last : last_of deltas new ≡ last_of deltas old
  pub tie : is_tied deltas new ≡ false
  pub harmless : IsHarmless deltas new

-- the base that was next holds the latest state, and no record follows it
pub record NowLatest (deltas : ℕ) (old new : List (Option Slot)) (slot : Slot) : Type 0 where
  pub latest : latest_base deltas new ≡ next_base deltas old
  pub chain : chain_of deltas new ≡ 0
  pub last : last_of deltas new ≡ Some slot.sequence
  pub tie : is_tied deltas new ≡ false
  pub harmless : IsHarmless deltas new

-- one record more counts
pub record NowLonger (deltas : ℕ) (old new : List (Option Slot)) (slot : Slot) : Type 0 where
  pub next : next_base deltas new ≡ next_base deltas old
  pub latest : latest_base deltas new ≡ latest_base deltas old
  pub chain : chain_of deltas new ≡ chain_of deltas old + 1
  pub last : last_of deltas new ≡ Some slot.sequence
  pub tie : is_tied deltas new ≡ false
  pub harmless : IsHarmless deltas new

stray_or : (base above : Bool) → (not base && above) ≡ false → base ≡ false → above ≡ false
stray_or true above none is = let wrong : true ≡ false = is in cc
stray_or false above none is = none

not_stray : (base above : Bool) → (base ≡ false → above ≡ false) → (not base && above) ≡ false
not_stray true above is = refl
not_stray false above is = is refl

record_harmless : (deltas : ℕ) (slots : List (Option Slot)) (k : ℕ) → is_stray deltas slots k ≡ false → is_base deltas k ≡ false → begins_above (or_none (last_of deltas slots)) (slot_at slots k) ≡ false
unfolding is_stray
record_harmless deltas slots k none record_is = stray_or (is_base deltas k) (begins_above (or_none (last_of deltas slots)) (slot_at slots k)) none record_is

pub slot_harmless : (deltas : ℕ) (slots : List (Option Slot)) (k : ℕ) → (is_base deltas k ≡ false → begins_above (or_none (last_of deltas slots)) (slot_at slots k) ≡ false) → is_stray deltas slots k ≡ false
unfolding is_stray
slot_harmless deltas slots k is = not_stray (is_base deltas k) (begins_above (or_none (last_of deltas slots)) (slot_at slots k)) is

lower_stays : (a b f : ℕ) → a ≤ b → nat_lt a f ≡ false → nat_lt b f ≡ false
lower_stays a b f le is = le-ltb b f (omega (arith, le, ltb-false a f is))

above_less : (a b : ℕ) (s : Option Slot) → a ≤ b → begins_above a s ≡ false → begins_above b s ≡ false
above_less a b None le is = refl
above_less a b (Some slot) le is = front slot.front is
  where
    front : (f : Option ℕ) → is_above a f ≡ false → is_above b f ≡ false
    front None none = refl
    front (Some f) none = lower_stays a b f le none

differ : (top q f : ℕ) → top < q → nat_lt top f ≡ false → (f == q) ≡ false
differ top q f less low = grind (arith, nat_tests)

and_first : (a b : Bool) → a ≡ false → (a && b) ≡ false
and_first true b is = let wrong : true ≡ false = is in cc
and_first false b is = refl

none_stands : (top : ℕ) (slot : Slot) (s : Option Slot) → top < slot.sequence → begins_above top s ≡ false → stands_on (Some slot) s ≡ false
none_stands top slot None less low = refl
none_stands top slot (Some other) less low = and_first (is_front slot.sequence other.front) (nat_lt slot.sequence other.sequence) (front other.front low)
  where
    front : (f : Option ℕ) → is_above top f ≡ false → is_front slot.sequence f ≡ false
    front None none = refl
    front (Some f) none = differ top slot.sequence f less none

-- a sequence above the last one is above those before it
stands_down : (a b : Option Slot) (q : ℕ) → stands_on a b ≡ true → IfSome (sequence_in b) (λ l. l < q) → IfSome (sequence_in a) (λ l. l < q)
stands_down None b q on below = tt
stands_down (Some a) None q on below = let wrong : false ≡ true = on in absurd (cc)
stands_down (Some a) (Some b) q on below = omega (arith, below, ltb-true a.sequence b.sequence (second (is_front a.sequence b.front) (nat_lt a.sequence b.sequence) on))
  where
    second : (s t : Bool) → (s && t) ≡ true → t ≡ true
    second true t is = is
    second false t is = let wrong : false ≡ true = is in cc

chain_down : (slots : List (Option Slot)) (k m q j : ℕ) → ((i : ℕ) → i < m → linked slots k i ≡ true) → j ≤ m → IfSome (sequence_in (slot_at slots (k + j))) (λ l. l < q) → IfSome (sequence_in (slot_at slots (k + 0))) (λ l. l < q)
chain_down slots k m q zero links le is = is
chain_down slots k m q (suc j) links le is =
    chain_down slots k m q j links (omega arith) (stands_down (slot_at slots (k + j)) (slot_at slots (k + j + 1)) q (links j (omega arith)) (subst (λ (i : ℕ). IfSome (sequence_in (slot_at slots i)) (λ l. l < q)) next is))
  where
    next : k + suc j ≡ k + j + 1
    next = omega arith

base_below : (deltas : ℕ) (slots : List (Option Slot)) (q : ℕ) → IfSome (last_of deltas slots) (λ l. l < q) → IfSome (sequence_in (slot_at slots (latest_base deltas slots))) (λ l. l < q)
base_below deltas slots q above =
    let k = latest_base deltas slots in
    let is = chain_is slots deltas k in
    subst (λ (i : ℕ). IfSome (sequence_in (slot_at slots i)) (λ l. l < q)) (zeroth k) (chain_down slots k (counting slots deltas k) q (counting slots deltas k) is.links (omega arith) above)
  where
    zeroth : (k : ℕ) → k + 0 ≡ k
    zeroth k = omega arith

or_none_less : (o : Option ℕ) (q : ℕ) → 0 < q → IfSome o (λ l. l < q) → or_none o < q
or_none_less None q some above = some
or_none_less (Some l) q some above = above

-- the last sequence, by where the chain begins and how many count
last_at : (deltas : ℕ) (slots : List (Option Slot)) (k m : ℕ) (s : Option Slot) → latest_base deltas slots ≡ k → counting slots deltas k ≡ m → slot_at slots (k + m) ≡ s → last_of deltas slots ≡ sequence_in s
last_at deltas slots k m s base count is =
    let chain : chain_of deltas slots ≡ m = ap (λ (i : ℕ). counting slots deltas i) base ∙ count in
    ap (λ (i : ℕ). sequence_in (slot_at slots i)) (ap₂ (λ (a b : ℕ). a + b) base chain) ∙ ap sequence_in is

chain_at : (deltas : ℕ) (slots : List (Option Slot)) (k m : ℕ) → latest_base deltas slots ≡ k → counting slots deltas k ≡ m → chain_of deltas slots ≡ m
chain_at deltas slots k m base count = ap (λ (i : ℕ). counting slots deltas i) base ∙ count

other_slots : (slots : List (Option Slot)) (k : ℕ) (s : Option Slot) (j : ℕ) → (j ≡ k → ⊥) → slot_at (slice_set slots k s) j ≡ slot_at slots j
other_slots slots k s j other = get_or-set_other slots k j s None other

equal : (i j : ℕ) → (i == j) ≡ true → i ≡ j
equal i j is = grind (arith, nat_tests)

pub apart : (i j : ℕ) → (i == j) ≡ false → i ≡ j → ⊥
apart i j is e = grind (arith, nat_tests)

not_base : (deltas k : ℕ) → (k ≡ 0 → ⊥) → (k ≡ 1 + deltas → ⊥) → is_base deltas k ≡ false
not_base deltas k first second = elim (cases_Bool (k == 0)) [
  | inl is ↦ absurd (first (equal k 0 is))
  | inr other ↦ elim (cases_Bool (k == 1 + deltas)) [
    | inl is ↦ absurd (second (equal k (1 + deltas) is))
    | inr none ↦ rw (other, none) refl
  ]
]

pub base_is : (deltas k : ℕ) → is_base deltas k ≡ false → (k ≡ 0 → ⊥) × (k ≡ 1 + deltas → ⊥)
base_is deltas k is = (
  λ e. let wrong = subst (λ (i : ℕ). is_base deltas i ≡ false) e is in let no : true ≡ false = wrong in absurd (cc),
  λ e. let wrong = subst (λ (i : ℕ). is_base deltas i ≡ false) e is in absurd (self (1 + deltas) wrong),
)
  where
    self : (n : ℕ) → ((n == 0) || (n == n)) ≡ false → ⊥
    self n none = grind (arith, nat_tests)

-- a slot was set, and the last sequence didn't fall: no record stands above it, where the new slot doesn't
set_harmless : (deltas : ℕ) (slots : List (Option Slot)) (k : ℕ) (s : Option Slot) → IsHarmless deltas slots → or_none (last_of deltas slots) ≤ or_none (last_of deltas (slice_set slots k s))
    → (is_base deltas k ≡ false → begins_above (or_none (last_of deltas (slice_set slots k s))) (slot_at (slice_set slots k s) k) ≡ false) → IsHarmless deltas (slice_set slots k s)
set_harmless deltas slots k s harmless rises here = record {
  none = λ j within. slot_harmless deltas (slice_set slots k s) j (λ record_is. elim (cases_Bool (j == k)) [
    | inl same ↦
        let at : j ≡ k = equal j k same in
        subst (λ (i : ℕ). is_base deltas i ≡ false → begins_above (or_none (last_of deltas (slice_set slots k s))) (slot_at (slice_set slots k s) i) ≡ false) (sym at) here record_is
    | inr other ↦
        ap (λ (x : Option Slot). begins_above (or_none (last_of deltas (slice_set slots k s))) x) (other_slots slots k s j (apart j k other))
        ∙ above_less (or_none (last_of deltas slots)) (or_none (last_of deltas (slice_set slots k s))) (slot_at slots j) rises (record_harmless deltas slots j (harmless.none j within) record_is)
  ]);
}

none_above : (deltas : ℕ) (slots : List (Option Slot)) (k l : ℕ) → k < length slots → begins_above l (slot_at (slice_set slots k None) k) ≡ false
none_above deltas slots k l within = ap (λ (x : Option Slot). begins_above l x) (get_or-set_same slots k None None within)

same_top : (a b : Option ℕ) → b ≡ a → or_none a ≤ or_none b
same_top a b is = rw is (omega arith)

-- no more count than there are
pub chain_within : (deltas : ℕ) (slots : List (Option Slot)) → chain_of deltas slots ≤ deltas
chain_within deltas slots = (chain_is slots deltas (latest_base deltas slots)).within

-- the next base was closed
pub next_closed : (deltas : ℕ) (slots : List (Option Slot)) → length slots ≡ slot_count deltas → IsHarmless deltas slots → StillLatest deltas slots (slice_set slots (next_base deltas slots) None)
next_closed deltas slots count harmless =
    let k = next_base deltas slots in
    let l = latest_base deltas slots in
    let new = slice_set slots k None in
    let stays = bases_closed deltas slots count in
    let where_is = next_or_latest deltas slots in
    let was = chain_is slots deltas l in
    let m = counting slots deltas l in
    let same : (i : ℕ) → i ≤ deltas → slot_at new (l + i) ≡ slot_at slots (l + i) = λ i le. other_slots slots k None (l + i) (where_is.apart i le) in
    let chain : counting new deltas l ≡ m = chain_stays slots new deltas l same in
    let last : last_of deltas new ≡ last_of deltas slots = last_at deltas new l m (slot_at slots (l + m)) stays.latest chain (same m was.within) in
    record {
      next = stays.next;
      latest = stays.latest;
      chain = chain_at deltas new l m stays.latest chain;
      last = last;
      tie = stays.tie;
      harmless = set_harmless deltas slots k None harmless (same_top _ _ last) (λ record_is. none_above deltas slots k _ (omega (arith, count, where_is.within)));
    }

-- the next base was opened
pub next_opened : (deltas : ℕ) (slots : List (Option Slot)) (slot : Slot) → length slots ≡ slot_count deltas → IsHarmless deltas slots → 0 < slot.sequence → IfSome (last_of deltas slots) (λ l. l < slot.sequence)
    → NowLatest deltas slots (slice_set slots (next_base deltas slots) (Some slot)) slot
next_opened deltas slots slot count harmless some above =
    let k = next_base deltas slots in
    let new = slice_set slots k (Some slot) in
    let turns = bases_opened deltas slots slot count (base_below deltas slots slot.sequence above) in
    let where_is = next_or_latest deltas slots in
    let within : k < length slots = omega (arith, count, where_is.within) in
    let here : slot_at new k ≡ Some slot = get_or-set_same slots k (Some slot) None within in
    let top : or_none (last_of deltas slots) < slot.sequence = or_none_less (last_of deltas slots) slot.sequence some above in
    let chain : counting new deltas k ≡ 0 = elim (cases_Bool (deltas == 0)) [
      | inl none ↦ no_records new k (equal deltas 0 none)
      | inr few ↦
          let next = where_is.behind (apart deltas 0 few) in
          chain_none new deltas k (
          let behind : slot_at new (k + 0 + 1) ≡ slot_at slots (k + 1) = ap (λ (i : ℕ). slot_at new i) (plus k) ∙ other_slots slots k (Some slot) (k + 1) (λ e. omega (arith, e)) in
          let front : slot_at new (k + 0) ≡ Some slot = ap (λ (i : ℕ). slot_at new i) (zeroth k) ∙ here in
          ap₂ stands_on front behind ∙ none_stands (or_none (last_of deltas slots)) slot (slot_at slots (k + 1)) top (record_harmless deltas slots (k + 1) (harmless.none (k + 1) next.1) next.0))
    ] in
    let last : last_of deltas new ≡ Some slot.sequence = last_at deltas new k 0 (Some slot) turns.latest chain (ap (λ (i : ℕ). slot_at new i) (zeroth k) ∙ here) in
    record {
      latest = turns.latest;
      chain = chain_at deltas new k 0 turns.latest chain;
      last = last;
      tie = turns.tie;
      harmless = set_harmless deltas slots k (Some slot) harmless (rises (last_of deltas slots) (last_of deltas new) slot.sequence last top) (λ record_is. absurd (where_is.base record_is));
    }
  where
    zeroth : (k : ℕ) → k + 0 ≡ k
    zeroth k = omega arith

    plus : (k : ℕ) → k + 0 + 1 ≡ k + 1
    plus k = omega arith

    empty : (slots : List (Option Slot)) (k : ℕ) → counting slots 0 k ≡ 0
    empty slots k = let is = chain_is slots 0 k in omega (arith, is.within)

    no_records : (slots : List (Option Slot)) (k : ℕ) → deltas ≡ 0 → counting slots deltas k ≡ 0
    no_records slots k none = ap (λ (n : ℕ). counting slots n k) none ∙ empty slots k

    rises : (a b : Option ℕ) (q : ℕ) → b ≡ Some q → or_none a < q → or_none a ≤ or_none b
    rises a b q is less = rw is (omega arith)

-- where that slot stands
pub record IsRecordSlot (deltas : ℕ) (slots : List (Option Slot)) (k : ℕ) : Type 0 where
  pub within : k < slot_count deltas
  pub first : k ≡ 0 → ⊥
  pub second : k ≡ 1 + deltas → ⊥
  pub counted : (i : ℕ) → i ≤ chain_of deltas slots → latest_base deltas slots + i ≡ k → ⊥

pub record_slot : (deltas : ℕ) (slots : List (Option Slot)) (k : ℕ) → HasRoomFor deltas slots k → IsRecordSlot deltas slots k
record_slot deltas slots k has =
    let where_is = next_or_latest deltas slots in
    let m = chain_of deltas slots in
    record {
      within = omega (arith, has.place, has.room, where_is.latest_within);
      first = λ e. omega (arith, has.place, e);
      second = λ e. where_is.inside (m + 1) (omega arith) (omega (arith, has.room)) (omega (arith, has.place, e));
      counted = λ i le e. omega (arith, has.place, e, le);
    }

pub record_is_none : (deltas : ℕ) (slots : List (Option Slot)) (k : ℕ) → HasRoomFor deltas slots k → is_base deltas k ≡ false
record_is_none deltas slots k has = let at = record_slot deltas slots k has in not_base deltas k at.first at.second

-- the slot of the next record was closed
pub record_closed : (deltas : ℕ) (slots : List (Option Slot)) (k : ℕ) → length slots ≡ slot_count deltas → IsHarmless deltas slots → is_tied deltas slots ≡ false → HasRoomFor deltas slots k
    → StillLatest deltas slots (slice_set slots k None)
record_closed deltas slots k count harmless tie has =
    let is = record_slot deltas slots k has in
    let l = latest_base deltas slots in
    let m = counting slots deltas l in
    let new = slice_set slots k None in
    let bases = bases_same deltas slots new (other_slots slots k None 0 (λ e. is.first (sym e))) (other_slots slots k None (1 + deltas) (λ e. is.second (sym e))) in
    let same : (i : ℕ) → i ≤ m → slot_at new (l + i) ≡ slot_at slots (l + i) = λ i le. other_slots slots k None (l + i) (is.counted i le) in
    let here : slot_at new k ≡ None = get_or-set_same slots k None None (omega (arith, count, is.within)) in
    let chain : counting new deltas l ≡ m = chain_cut slots new deltas l same (ap (λ (i : ℕ). slot_at new i) (sym has.place) ∙ here) in
    let last : last_of deltas new ≡ last_of deltas slots = last_at deltas new l m (slot_at slots (l + m)) bases.latest chain (same m (omega arith)) in
    record {
      next = bases.next;
      latest = bases.latest;
      chain = chain_at deltas new l m bases.latest chain;
      last = last;
      tie = bases.tie ∙ tie;
      harmless = set_harmless deltas slots k None harmless (same_top _ _ last) (λ record_is. none_above deltas slots k _ (omega (arith, count, is.within)));
    }

-- the slot of the next record was opened, and stands on the last that counts
pub record_opened : (deltas : ℕ) (slots : List (Option Slot)) (k last : ℕ) (slot : Slot) → length slots ≡ slot_count deltas → IsHarmless deltas slots → is_tied deltas slots ≡ false → HasRoomFor deltas slots k
    → last_of deltas slots ≡ Some last → last < slot.sequence → slot.front ≡ Some last → NowLonger deltas slots (slice_set slots k (Some slot)) slot
record_opened deltas slots k last slot count harmless tie has last_is above front =
    let is = record_slot deltas slots k has in
    let l = latest_base deltas slots in
    let m = counting slots deltas l in
    let new = slice_set slots k (Some slot) in
    let bases = bases_same deltas slots new (other_slots slots k (Some slot) 0 (λ e. is.first (sym e))) (other_slots slots k (Some slot) (1 + deltas) (λ e. is.second (sym e))) in
    let same : (i : ℕ) → i ≤ m → slot_at new (l + i) ≡ slot_at slots (l + i) = λ i le. other_slots slots k (Some slot) (l + i) (is.counted i le) in
    let here : slot_at new k ≡ Some slot = get_or-set_same slots k (Some slot) None (omega (arith, count, is.within)) in
    let at : slot_at new (l + m + 1) ≡ Some slot = ap (λ (i : ℕ). slot_at new i) (sym has.place) ∙ here in
    let on : linked new l m ≡ true = ap₂ stands_on (same m (omega arith)) at ∙ stands (slot_at slots (l + m)) last_is in
    let off : m + 1 < deltas → linked new l (m + 1) ≡ false = λ room.
    let behind : slot_at new (l + (m + 1) + 1) ≡ slot_at slots (k + 1) = ap (λ (i : ℕ). slot_at new i) (omega_at l m k has.place) ∙ other_slots slots k (Some slot) (k + 1) (λ e. omega (arith, e)) in
    let where_is = next_or_latest deltas slots in
    let free : is_base deltas (k + 1) ≡ false = not_base deltas (k + 1) (λ e. omega (arith, e)) (λ e. where_is.inside (m + 2) (omega arith) (omega (arith, room)) (omega (arith, has.place, e))) in
    ap₂ stands_on (ap (λ (i : ℕ). slot_at new i) (shift l m) ∙ at) behind
    ∙ none_stands (or_none (last_of deltas slots)) slot (slot_at slots (k + 1)) (subst (λ (o : Option ℕ). or_none o < slot.sequence) (sym last_is) above)
    (record_harmless deltas slots (k + 1) (harmless.none (k + 1) (omega (arith, has.place, room, where_is.latest_within))) free) in
    let chain : counting new deltas l ≡ m + 1 = chain_more slots new deltas l has.room same on off in
    let now : last_of deltas new ≡ Some slot.sequence = last_at deltas new l (m + 1) (Some slot) bases.latest chain (ap (λ (i : ℕ). slot_at new i) (shift l m) ∙ at) in
    record {
      next = bases.next;
      latest = bases.latest;
      chain = chain_at deltas new l (m + 1) bases.latest chain;
      last = now;
      tie = bases.tie ∙ tie;
      harmless = set_harmless deltas slots k (Some slot) harmless (rises _ _ last slot.sequence last_is now above)
          (λ record_is. ap (λ (x : Option Slot). begins_above (or_none (last_of deltas new)) x) here ∙ low _ now);
    }
  where
    shift : (l m : ℕ) → l + (m + 1) ≡ l + m + 1
    shift l m = omega arith

    omega_at : (l m k : ℕ) → k ≡ l + m + 1 → l + (m + 1) + 1 ≡ k + 1
    omega_at l m k e = omega arith

    self : (q : ℕ) → (q == q) ≡ true
    self q = grind (arith, nat_tests)

    fronts : (f : Option ℕ) (q : ℕ) → f ≡ Some q → is_front q f ≡ true
    fronts f q is = rw is (self q)

    two : (a b : Bool) → a ≡ true → b ≡ true → (a && b) ≡ true
    two a b p q = rw (p, q) refl

    number : (a : ℕ) → Some a ≡ Some last → a ≡ last
    number a e = cc

    less : (a b : ℕ) → a < b → nat_lt a b ≡ true
    less a b lt = grind (arith, nat_tests)

    stands : (s : Option Slot) → sequence_in s ≡ Some last → stands_on s (Some slot) ≡ true
    stands None is = let wrong : None ≡ Some last = is in absurd (cc)
    stands (Some below) is =
        let q : below.sequence ≡ last = number below.sequence is in
        two (is_front below.sequence slot.front) (nat_lt below.sequence slot.sequence) (fronts slot.front below.sequence (front ∙ ap (λ (n : ℕ). Some n) (sym q))) (less below.sequence slot.sequence (omega (arith, q, above)))

    rises : (a b : Option ℕ) (p q : ℕ) → a ≡ Some p → b ≡ Some q → p < q → or_none a ≤ or_none b
    rises a b p q is now lt = rw (is, now) (omega arith)

    low : (b : Option ℕ) → b ≡ Some slot.sequence → is_above (or_none b) slot.front ≡ false
    low b now = rw (now, front) (le-ltb slot.sequence last (omega (arith, above)))
