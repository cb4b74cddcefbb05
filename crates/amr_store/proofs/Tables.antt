-- Tables of slots, and the bases of one whose next base is closed or opened.
use Rattle.std.proofs.Common.{◌≡◌, inl, inr, ℕ, zero, suc, ◌+◌, ◌*◌, ◌≤◌, ◌<◌, ◌==◌, nat_lt, Bool, true, false, List, [], ◌∷◌, ◌++◌, length, Option, Some, None, refl, sym, ◌∙◌, ap, subst, arith, length-append}
use Rattle.std.proofs.lemmas.Bool.{cases_Bool, ltb-true, ltb-false, lt-ltb, le-ltb}
use Rattle.std.proofs.lemmas.Bool.Decides.{nat_tests}
use Rattle.std.proofs.lemmas.List.{get_or_append_left, get_or-append-add, get_or-set_same, get_or-set_other, set-get_or, length-set}
use Rattle.std.proofs.Math.Nat.{add-mul}
use Rattle.std.proofs.lemmas.Nat.{mul-le}
use Rattle.std.specs.Prelude.{slice_index_or, slice_set, IfSome, replicate}
use Rattle.amr_store.specs.declared.slot.Slot.{Slot}
use Rattle.amr_store.specs.Layout.{gate_at}
use Rattle.amr_store.specs.Table.{table, slot_count, slot_at, is_tie, is_latest, is_tied, next_base, latest_base, sequence_in, is_base}

pub table_length : {T : Type 0} (f : ℕ → T) (n : ℕ) → length (table f n) ≡ n
unfolding table
table_length f zero = refl
table_length f (suc n) = omega (arith, length-append (table f n) (f n ∷ []), table_length f n)

pub table_index : {T : Type 0} (f : ℕ → T) (n k : ℕ) (d : T) → k < n → slice_index_or (table f n) k d ≡ f k
unfolding table
table_index f zero k d lt = absurd (omega arith)
table_index f (suc n) k d lt = elim (cases_Bool (nat_lt k n)) [
  | inl early ↦
      let before : k < n = ltb-true k n early in
      get_or_append_left (table f n) (f n ∷ []) d k (omega (arith, table_length f n)) ∙ table_index f n k d before
  | inr last ↦
      let here : k ≡ n = omega (arith, ltb-false k n last) in
      let place : k ≡ length (table f n) + 0 = omega (arith, here, table_length f n) in
      ap (λ (i : ℕ). slice_index_or (table f n ++ f n ∷ []) i d) place ∙ get_or-append-add (table f n) (f n ∷ []) 0 d ∙ ap f (sym here)
]

pub lists_same : {T : Type 0} (xs ys : List T) (d : T) → length xs ≡ length ys → ((i : ℕ) → i < length ys → slice_index_or xs i d ≡ slice_index_or ys i d) → xs ≡ ys
lists_same [] [] d size same = refl
lists_same [] (y ∷ ys) d size same = absurd (omega (arith, size))
lists_same (x ∷ xs) [] d size same = absurd (omega (arith, size))
lists_same (x ∷ xs) (y ∷ ys) d size same =
    let first : x ≡ y = same 0 (omega arith) in
    let rest : xs ≡ ys = lists_same xs ys d (omega (arith, size)) (λ i lt. same (suc i) (omega arith)) in
    cc

pub table_same : {T : Type 0} (f g : ℕ → T) (n : ℕ) → ((k : ℕ) → k < n → g k ≡ f k) → table g n ≡ table f n
unfolding table
table_same f g zero same = refl
table_same f g (suc n) same = rw (table_same f g n (λ k lt. same k (omega arith)), same n (omega arith)) refl

pushed : {T : Type 0} (x : T) (n : ℕ) → replicate n x ++ x ∷ [] ≡ replicate (suc n) x
pushed x zero = refl
pushed {T = T} x (suc n) = ap (λ (l : List T). x ∷ l) (pushed x n)

-- one value throughout
pub table_constant : {T : Type 0} (f : ℕ → T) (x : T) (n : ℕ) → ((k : ℕ) → k < n → f k ≡ x) → table f n ≡ replicate n x
unfolding table
table_constant f x zero none = refl
table_constant {T = T} f x (suc n) none = ap (λ (l : List T). l ++ f n ∷ []) (table_constant f x n (λ k lt. none k (omega arith))) ∙ ap (λ (y : T). replicate n x ++ y ∷ []) (none n (omega arith)) ∙ pushed x n

-- one value more
pub table_more : {T : Type 0} (f : ℕ → T) (n : ℕ) → table f (n + 1) ≡ table f n ++ f n ∷ []
unfolding table
table_more f n = ap (λ (k : ℕ). table f k) next
  where
    next : n + 1 ≡ suc n
    next = omega arith

-- one value is another
pub table_set : {T : Type 0} (f g : ℕ → T) (n k : ℕ) (d : T) → k < n → ((j : ℕ) → j < n → (j ≡ k → ⊥) → g j ≡ f j) → table g n ≡ slice_set (table f n) k (g k)
table_set f g n k d within others =
    lists_same (table g n) (slice_set (table f n) k (g k)) d (table_length g n ∙ sym (length-set (table f n) k (g k) ∙ table_length f n))
    (λ i lt. at i (omega (arith, lt, length-set (table f n) k (g k), table_length f n)))
  where
    equal : (i j : ℕ) → (i == j) ≡ true → i ≡ j
    equal i j is = grind (arith, nat_tests)

    apart : (i j : ℕ) → (i == j) ≡ false → i ≡ j → ⊥
    apart i j is e = grind (arith, nat_tests)

    at : (i : ℕ) → i < n → slice_index_or (table g n) i d ≡ slice_index_or (slice_set (table f n) k (g k)) i d
    at i lt = elim (cases_Bool (i == k)) [
      | inl here ↦
          let is : i ≡ k = equal i k here in
          subst (λ (j : ℕ). slice_index_or (table g n) j d ≡ slice_index_or (slice_set (table f n) k (g k)) j d) (sym is)
          (table_index g n k d within ∙ sym (get_or-set_same (table f n) k (g k) d (omega (arith, within, table_length f n))))
      | inr there ↦
          let other : i ≡ k → ⊥ = apart i k there in
          table_index g n i d lt ∙ others i lt other ∙ sym (get_or-set_other (table f n) k i (g k) d other ∙ table_index f n i d lt)
    ]

-- slots stand one after the other
pub gates_apart : (j k lead size : ℕ) → j < k → gate_at j lead size + (17 + size) ≤ gate_at k lead size
gates_apart j k lead size lt =
    let product : (j + 1) * (17 + size) ≤ k * (17 + size) = mul-le (j + 1) (17 + size) k (17 + size) (omega arith) (omega arith) in
    omega (arith, product, add-mul j 1 (17 + size))

pub gate_first : (k lead size : ℕ) → 21 + lead ≤ gate_at k lead size
gate_first k lead size = omega arith

-- which base is next, and which one holds the latest state
record FirstNext (deltas : ℕ) (slots : List (Option Slot)) : Type 0 where
  next : next_base deltas slots ≡ 0
  latest : latest_base deltas slots ≡ 1 + deltas

record SecondNext (deltas : ℕ) (slots : List (Option Slot)) : Type 0 where
  next : next_base deltas slots ≡ 1 + deltas
  latest : latest_base deltas slots ≡ 0

first_next : (deltas : ℕ) (slots : List (Option Slot)) → is_latest (slot_at slots 0) (slot_at slots (1 + deltas)) ≡ false → FirstNext deltas slots
unfolding next_base latest_base
first_next deltas slots is = record { next = rw is refl; latest = rw is refl }

second_next : (deltas : ℕ) (slots : List (Option Slot)) → is_latest (slot_at slots 0) (slot_at slots (1 + deltas)) ≡ true → SecondNext deltas slots
unfolding next_base latest_base
second_next deltas slots is = record { next = rw is refl; latest = rw is refl }

pub latest_within : (deltas : ℕ) (slots : List (Option Slot)) → latest_base deltas slots < slot_count deltas
latest_within deltas slots = elim (cases_Bool (is_latest (slot_at slots 0) (slot_at slots (1 + deltas)))) [
  | inl second ↦ omega (arith, (second_next deltas slots second).latest)
  | inr first ↦ omega (arith, (first_next deltas slots first).latest)
]

tied_is : (deltas : ℕ) (slots : List (Option Slot)) (a b : Option Slot) → slot_at slots 0 ≡ a → slot_at slots (1 + deltas) ≡ b → is_tie a b ≡ false → is_tied deltas slots ≡ false
unfolding is_tied
tied_is deltas slots a b e f is = rw (e, f) is

latest_is : (deltas : ℕ) (slots : List (Option Slot)) (a b : Option Slot) (t : Bool) → slot_at slots 0 ≡ a → slot_at slots (1 + deltas) ≡ b → is_latest a b ≡ t → is_latest (slot_at slots 0) (slot_at slots (1 + deltas)) ≡ t
latest_is deltas slots a b t e f is = rw (e, f) is

no_tie_none : (a : Option Slot) → is_tie a None ≡ false
no_tie_none None = refl
no_tie_none (Some a) = refl

still_first : (a b : Option Slot) → is_latest a b ≡ true → is_latest a None ≡ true
still_first None b is = is
still_first (Some a) b is = refl

differ : (m n : ℕ) → m < n → (n == m) ≡ false
differ m n lt = grind (arith, nat_tests)

differ_back : (m n : ℕ) → m < n → (m == n) ≡ false
differ_back m n lt = grind (arith, nat_tests)

above_first : (slot : Slot) (b : Option Slot) → IfSome (sequence_in b) (λ l. l < slot.sequence) → (is_latest (Some slot) b ≡ true) × (is_tie (Some slot) b ≡ false)
above_first slot None above = (refl, refl)
above_first slot (Some b) above = (lt-ltb b.sequence slot.sequence above, differ b.sequence slot.sequence above)

above_second : (slot : Slot) (a : Option Slot) → IfSome (sequence_in a) (λ l. l < slot.sequence) → (is_latest a (Some slot) ≡ false) × (is_tie a (Some slot) ≡ false)
above_second slot None above = (refl, refl)
above_second slot (Some a) above = (le-ltb slot.sequence a.sequence (omega (arith, above)), differ_back a.sequence slot.sequence above)

-- the bases with the next one closed: which is next and which holds the latest state is as it was
pub record BasesStay (deltas : ℕ) (old new : List (Option Slot)) : Type 0 where
  pub next : next_base deltas new ≡ next_base deltas old
  pub latest : latest_base deltas new ≡ latest_base deltas old
  pub tie : is_tied deltas new ≡ false

-- the bases with the next one opened, with a greater sequence: it holds the latest state
pub record BasesTurn (deltas : ℕ) (old new : List (Option Slot)) : Type 0 where
  pub latest : latest_base deltas new ≡ next_base deltas old
  pub tie : is_tied deltas new ≡ false

pub bases_closed : (deltas : ℕ) (slots : List (Option Slot)) → length slots ≡ slot_count deltas → BasesStay deltas slots (slice_set slots (next_base deltas slots) None)
bases_closed deltas slots count = elim (cases_Bool (is_latest (slot_at slots 0) (slot_at slots (1 + deltas)))) [
  | inr first ↦
      let was = first_next deltas slots first in
      let new = slice_set slots 0 None in
      let one : slot_at new 0 ≡ None = get_or-set_same slots 0 None None (omega (arith, count)) in
      let two : slot_at new (1 + deltas) ≡ slot_at slots (1 + deltas) = get_or-set_other slots 0 (1 + deltas) None None (λ e. omega (arith, e)) in
      let is = first_next deltas new (latest_is deltas new None (slot_at slots (1 + deltas)) false one two refl) in
      subst (λ (k : ℕ). BasesStay deltas slots (slice_set slots k None)) (sym was.next) record {
        next = is.next ∙ sym was.next;
        latest = is.latest ∙ sym was.latest;
        tie = tied_is deltas new None (slot_at slots (1 + deltas)) one two refl;
      }
  | inl second ↦
      let was = second_next deltas slots second in
      let new = slice_set slots (1 + deltas) None in
      let one : slot_at new 0 ≡ slot_at slots 0 = get_or-set_other slots (1 + deltas) 0 None None (λ e. omega (arith, e)) in
      let two : slot_at new (1 + deltas) ≡ None = get_or-set_same slots (1 + deltas) None None (omega (arith, count)) in
      let is = second_next deltas new (latest_is deltas new (slot_at slots 0) None true one two (still_first (slot_at slots 0) (slot_at slots (1 + deltas)) second)) in
      subst (λ (k : ℕ). BasesStay deltas slots (slice_set slots k None)) (sym was.next) record {
        next = is.next ∙ sym was.next;
        latest = is.latest ∙ sym was.latest;
        tie = tied_is deltas new (slot_at slots 0) None one two (no_tie_none (slot_at slots 0));
      }
]

pub bases_opened : (deltas : ℕ) (slots : List (Option Slot)) (slot : Slot) → length slots ≡ slot_count deltas → IfSome (sequence_in (slot_at slots (latest_base deltas slots))) (λ l. l < slot.sequence)
    → BasesTurn deltas slots (slice_set slots (next_base deltas slots) (Some slot))
bases_opened deltas slots slot count above = elim (cases_Bool (is_latest (slot_at slots 0) (slot_at slots (1 + deltas)))) [
  | inr first ↦
      let was = first_next deltas slots first in
      let new = slice_set slots 0 (Some slot) in
      let one : slot_at new 0 ≡ Some slot = get_or-set_same slots 0 (Some slot) None (omega (arith, count)) in
      let two : slot_at new (1 + deltas) ≡ slot_at slots (1 + deltas) = get_or-set_other slots 0 (1 + deltas) (Some slot) None (λ e. omega (arith, e)) in
      let tops = above_first slot (slot_at slots (1 + deltas)) (subst Above was.latest above) in
      let is = second_next deltas new (latest_is deltas new (Some slot) (slot_at slots (1 + deltas)) true one two tops.0) in
      subst (λ (k : ℕ). BasesTurn deltas slots (slice_set slots k (Some slot))) (sym was.next) record {
        latest = is.latest ∙ sym was.next;
        tie = tied_is deltas new (Some slot) (slot_at slots (1 + deltas)) one two tops.1;
      }
  | inl second ↦
      let was = second_next deltas slots second in
      let new = slice_set slots (1 + deltas) (Some slot) in
      let one : slot_at new 0 ≡ slot_at slots 0 = get_or-set_other slots (1 + deltas) 0 (Some slot) None (λ e. omega (arith, e)) in
      let two : slot_at new (1 + deltas) ≡ Some slot = get_or-set_same slots (1 + deltas) (Some slot) None (omega (arith, count)) in
      let tops = above_second slot (slot_at slots 0) (subst Above was.latest above) in
      let is = first_next deltas new (latest_is deltas new (slot_at slots 0) (Some slot) false one two tops.0) in
      subst (λ (k : ℕ). BasesTurn deltas slots (slice_set slots k (Some slot))) (sym was.next) record {
        latest = is.latest ∙ sym was.next;
        tie = tied_is deltas new (slot_at slots 0) (Some slot) one two tops.1;
      }
]
  where
    Above : ℕ → Type 0
    Above k = IfSome (sequence_in (slot_at slots k)) (λ l. l < slot.sequence)

-- the two bases: where the slots of the one that is next stand, and those of the other
pub record TwoBases (deltas : ℕ) (slots : List (Option Slot)) : Type 0 where
  pub within : next_base deltas slots < slot_count deltas
  pub latest_within : latest_base deltas slots + deltas < slot_count deltas
  pub apart : (i : ℕ) → i ≤ deltas → latest_base deltas slots + i ≡ next_base deltas slots → ⊥
  pub inside : (i : ℕ) → 0 < i → i ≤ deltas → latest_base deltas slots + i ≡ 1 + deltas → ⊥
  pub behind : (deltas ≡ 0 → ⊥) → (is_base deltas (next_base deltas slots + 1) ≡ false) × (next_base deltas slots + 1 < slot_count deltas)
  pub base : is_base deltas (next_base deltas slots) ≡ false → ⊥

pub next_or_latest : (deltas : ℕ) (slots : List (Option Slot)) → TwoBases deltas slots
next_or_latest deltas slots = elim (cases_Bool (is_latest (slot_at slots 0) (slot_at slots (1 + deltas)))) [
  | inr first ↦ let is = first_next deltas slots first in record {
    within = omega (arith, is.next);
    latest_within = omega (arith, is.latest);
    apart = λ i le e. omega (arith, is.next, is.latest, e);
    inside = λ i some le e. omega (arith, is.latest, e, some);
    behind = λ few. (ap (λ (k : ℕ). is_base deltas (k + 1)) is.next ∙ one few, omega (arith, is.next, few));
    base = λ none. zero_base (sym (ap (λ (k : ℕ). is_base deltas k) is.next) ∙ none);
  }
  | inl second ↦ let is = second_next deltas slots second in record {
    within = omega (arith, is.next);
    latest_within = omega (arith, is.latest);
    apart = λ i le e. omega (arith, is.next, is.latest, e, le);
    inside = λ i some le e. omega (arith, is.latest, e, le);
    behind = λ few. (ap (λ (k : ℕ). is_base deltas (k + 1)) is.next ∙ two, more is.next few);
    base = λ none. one_base (sym (ap (λ (k : ℕ). is_base deltas k) is.next) ∙ none);
  }
]
  where
    one : (deltas ≡ 0 → ⊥) → is_base deltas 1 ≡ false
    one few = grind (arith, nat_tests)

    two : is_base deltas (1 + deltas + 1) ≡ false
    two = grind (arith, nat_tests)

    more : next_base deltas slots ≡ 1 + deltas → (deltas ≡ 0 → ⊥) → next_base deltas slots + 1 < slot_count deltas
    more is few = omega (arith, is, few)

    zero_base : is_base deltas 0 ≡ false → ⊥
    zero_base none = let wrong : true ≡ false = none in absurd (cc)

    one_base : is_base deltas (1 + deltas) ≡ false → ⊥
    one_base none = grind (arith, nat_tests)

-- the bases stay
pub record SameBases (deltas : ℕ) (old new : List (Option Slot)) : Type 0 where
  pub next : next_base deltas new ≡ next_base deltas old
  pub latest : latest_base deltas new ≡ latest_base deltas old
  pub tie : is_tied deltas new ≡ is_tied deltas old

pub bases_same : (deltas : ℕ) (old new : List (Option Slot)) → slot_at new 0 ≡ slot_at old 0 → slot_at new (1 + deltas) ≡ slot_at old (1 + deltas) → SameBases deltas old new
unfolding next_base latest_base is_tied
bases_same deltas old new e f = record { next = rw (e, f) refl; latest = rw (e, f) refl; tie = rw (e, f) refl }

-- a slot is set to what it was
pub set_same : (slots : List (Option Slot)) (k : ℕ) (slot : Option Slot) → slot ≡ slot_at slots k → slice_set slots k slot ≡ slots
set_same slots k slot is = ap (λ (x : Option Slot). slice_set slots k x) is ∙ set-get_or slots k None

-- a slot is set twice
pub set_twice : (slots : List (Option Slot)) (k : ℕ) (a b : Option Slot) → slice_set (slice_set slots k a) k b ≡ slice_set slots k b
set_twice [] k a b = refl
set_twice (x ∷ xs) zero a b = refl
set_twice (x ∷ xs) (suc k) a b = ap (λ (l : List (Option Slot)). x ∷ l) (set_twice xs k a b)
