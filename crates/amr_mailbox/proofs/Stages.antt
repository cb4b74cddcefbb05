-- In which stages an end may find the mailbox.
use Rattle.std.proofs.Common.{◌≡◌, ℕ, zero, suc, ◌≤◌, [], ◌∷◌, refl, sym, ap, arith}
use mathlib.Core.Option as lookup
use lib.ListN.{get_elem?}
use Rattle.amr_mailbox.specs.declared.view.Role.{Role}
use Rattle.amr_mailbox.specs.declared.view.Role.TheVariants.{Unopened, Parting, Asks, Works}
use Rattle.amr_mailbox.specs.declared.view.Turn.{Turn}
use Rattle.amr_mailbox.specs.declared.view.Turn.TheVariants.{Free, Busy, Over}
use Rattle.amr_mailbox.specs.declared.view.View.{View}
use Rattle.amr_mailbox.specs.Views.{view_of, first_view, parting_view}
use Rattle.amr_mailbox.specs.Rule.{MailboxStage, unopened, opened, idle, posted, taken, answered, dismissed, left, state_of}

abbrev pub role_number : Role → ℕ
role_number Unopened = 0
role_number Parting = 1
role_number Asks = 2
role_number Works = 3

abbrev pub turn_number : {O : Type 0} → Turn O → ℕ
turn_number Free = 0
turn_number (Busy order) = 1
turn_number Over = 2

-- the order of a turn, or this one
abbrev pub order_or : {O : Type 0} → O → Turn O → O
order_or d Free = d
order_or d (Busy order) = order
order_or d Over = d

-- how far the asker is in each stage
abbrev pub AsksIn : {O A : Type 0} → MailboxStage O A → Turn O → Type 0
AsksIn unopened t = ⊥
AsksIn opened t = ⊥
AsksIn idle t = Free ≡ t
AsksIn (posted order) t = Busy order ≡ t
AsksIn (taken order) t = Busy order ≡ t
AsksIn (answered order answer) t = Busy order ≡ t
AsksIn dismissed t = Over ≡ t
AsksIn left t = Over ≡ t

-- how far the worker is
abbrev pub WorksIn : {O A : Type 0} → MailboxStage O A → Turn O → Type 0
WorksIn unopened t = ⊥
WorksIn opened t = ⊥
WorksIn idle t = Free ≡ t
WorksIn (posted order) t = Free ≡ t
WorksIn (taken order) t = Busy order ≡ t
WorksIn (answered order answer) t = Free ≡ t
WorksIn dismissed t = Free ≡ t
WorksIn left t = Over ≡ t

module _ {O K : Type 0} (A : Type 0) (key : K) where
  asker_of_two : (a w : Turn O) (id : ℕ) (t : Turn O) → get_elem? (view_of key Asks a ∷ view_of key Works w ∷ []) id ≡ lookup.some (view_of key Asks t) → (id ≡ 0) × (a ≡ t)
  asker_of_two a w zero t e = (refl, ap (λ (x : View O K). x.turn) (lookup.some-injective _ _ e))
  asker_of_two a w (suc zero) t e = absurd (let p = ap (λ (x : View O K). role_number x.role) (lookup.some-injective _ _ e) in omega arith)
  asker_of_two a w (suc (suc n)) t e = absurd (lookup.some-ne-none _ (sym e))

  worker_of_two : (a w : Turn O) (id : ℕ) (t : Turn O) → get_elem? (view_of key Asks a ∷ view_of key Works w ∷ []) id ≡ lookup.some (view_of key Works t) → (id ≡ 1) × (w ≡ t)
  worker_of_two a w zero t e = absurd (let p = ap (λ (x : View O K). role_number x.role) (lookup.some-injective _ _ e) in omega arith)
  worker_of_two a w (suc zero) t e = (refl, ap (λ (x : View O K). x.turn) (lookup.some-injective _ _ e))
  worker_of_two a w (suc (suc n)) t e = absurd (lookup.some-ne-none _ (sym e))

  late_of_two : (a w : Turn O) (id : ℕ) (v : View O K) → get_elem? (view_of key Asks a ∷ view_of key Works w ∷ []) id ≡ lookup.some v → 2 ≤ role_number v.role
  late_of_two a w zero v e = let p = ap (λ (x : View O K). role_number x.role) (lookup.some-injective _ _ e) in omega arith
  late_of_two a w (suc zero) v e = let p = ap (λ (x : View O K). role_number x.role) (lookup.some-injective _ _ e) in omega arith
  late_of_two a w (suc (suc n)) v e = absurd (lookup.some-ne-none _ (sym e))

  first_of_one : (u v : View O K) (id : ℕ) → get_elem? (u ∷ []) id ≡ lookup.some v → (id ≡ 0) × (role_number u.role ≡ role_number v.role)
  first_of_one u v zero e = (refl, ap (λ (x : View O K). role_number x.role) (lookup.some-injective _ _ e))
  first_of_one u v (suc n) e = absurd (lookup.some-ne-none _ (sym e))

  pub asker_in : (g : MailboxStage O A) (id : ℕ) (t : Turn O) → get_elem? (state_of key g).views id ≡ lookup.some (view_of key Asks t) → (id ≡ 0) × AsksIn g t
  asker_in unopened id t e = absurd (let p = (first_of_one _ _ id e).1 in omega arith)
  asker_in opened id t e = absurd (let p = (first_of_one _ _ id e).1 in omega arith)
  asker_in idle id t e = asker_of_two Free Free id t e
  asker_in (posted order) id t e = asker_of_two (Busy order) Free id t e
  asker_in (taken order) id t e = asker_of_two (Busy order) (Busy order) id t e
  asker_in (answered order answer) id t e = asker_of_two (Busy order) Free id t e
  asker_in dismissed id t e = asker_of_two Over Free id t e
  asker_in left id t e = asker_of_two Over Over id t e

  pub worker_in : (g : MailboxStage O A) (id : ℕ) (t : Turn O) → get_elem? (state_of key g).views id ≡ lookup.some (view_of key Works t) → (id ≡ 1) × WorksIn g t
  worker_in unopened id t e = absurd (let p = (first_of_one _ _ id e).1 in omega arith)
  worker_in opened id t e = absurd (let p = (first_of_one _ _ id e).1 in omega arith)
  worker_in idle id t e = worker_of_two Free Free id t e
  worker_in (posted order) id t e = worker_of_two (Busy order) Free id t e
  worker_in (taken order) id t e = worker_of_two (Busy order) (Busy order) id t e
  worker_in (answered order answer) id t e = worker_of_two (Busy order) Free id t e
  worker_in dismissed id t e = worker_of_two Over Free id t e
  worker_in left id t e = worker_of_two Over Over id t e

  -- a view before there are two is of the one stage that has it
  pub first_in : (g : MailboxStage O A) (id : ℕ) → get_elem? (state_of key g).views id ≡ lookup.some (first_view key) → (id ≡ 0) × (g ≡ unopened)
  first_in unopened id e = ((first_of_one _ _ id e).0, refl)
  first_in opened id e = absurd (let p = (first_of_one _ _ id e).1 in omega arith)
  first_in idle id e = absurd (let p = late_of_two _ _ id _ e in omega arith)
  first_in (posted order) id e = absurd (let p = late_of_two _ _ id _ e in omega arith)
  first_in (taken order) id e = absurd (let p = late_of_two _ _ id _ e in omega arith)
  first_in (answered order answer) id e = absurd (let p = late_of_two _ _ id _ e in omega arith)
  first_in dismissed id e = absurd (let p = late_of_two _ _ id _ e in omega arith)
  first_in left id e = absurd (let p = late_of_two _ _ id _ e in omega arith)

  pub parting_in : (g : MailboxStage O A) (id : ℕ) → get_elem? (state_of key g).views id ≡ lookup.some (parting_view key) → (id ≡ 0) × (g ≡ opened)
  parting_in unopened id e = absurd (let p = (first_of_one _ _ id e).1 in omega arith)
  parting_in opened id e = ((first_of_one _ _ id e).0, refl)
  parting_in idle id e = absurd (let p = late_of_two _ _ id _ e in omega arith)
  parting_in (posted order) id e = absurd (let p = late_of_two _ _ id _ e in omega arith)
  parting_in (taken order) id e = absurd (let p = late_of_two _ _ id _ e in omega arith)
  parting_in (answered order answer) id e = absurd (let p = late_of_two _ _ id _ e in omega arith)
  parting_in dismissed id e = absurd (let p = late_of_two _ _ id _ e in omega arith)
  parting_in left id e = absurd (let p = late_of_two _ _ id _ e in omega arith)
