-- Each call's step keeps the rule, and tells what it promises.
use Rattle.std.proofs.Common.{◌≡◌, ℕ, List, [], ◌∷◌, ◌++◌, get_or, set, eqb, refl, sym, ap, subst, arith}
use mathlib.Core.Option as lookup
use lib.ListN.{get_elem?}
use prog.Atomic.{either}
use Rattle.atomic_table.specs.Table.{State, Act, keeps, takes, gives, Valid, carried_after, stepped, Me, step, Allows, Splits}
use Rattle.amr_mailbox.specs.declared.mail.Mail.{Mail}
use Rattle.amr_mailbox.specs.declared.mail.Mail.TheVariants.{Empty, Order, Answer}
use Rattle.amr_mailbox.specs.declared.view.Role.TheVariants.{Asks, Works}
use Rattle.amr_mailbox.specs.declared.view.Turn.{Turn}
use Rattle.amr_mailbox.specs.declared.view.Turn.TheVariants.{Free, Busy, Over}
use Rattle.amr_mailbox.specs.declared.view.View.{View}
use Rattle.amr_mailbox.specs.Views.{view_of, first_view, parting_view, asker_view, worker_view, holding}
use Rattle.amr_mailbox.specs.Plays.{Collects, TakesBack, Looks}
use Rattle.amr_mailbox.specs.Rule.{MailboxStage, unopened, opened, idle, posted, taken, answered, dismissed, left, both, state_of, Sound, Rule}
use Rattle.amr_mailbox.proofs.Stages.{turn_number, order_or, AsksIn, WorksIn, asker_in, worker_in, first_in, parting_in}

-- the mail that an end holds
abbrev letter_in : {O A : Type 0} → List (ℕ × Mail O A) → Mail O A
letter_in [] = Empty
letter_in (x ∷ xs) = x.1

abbrev order_in : {O A : Type 0} → O → Mail O A → O
order_in d Empty = d
order_in d (Order order) = order
order_in d (Answer answer) = d

differ : {O : Type 0} {X : Type 0} (s t : Turn O) → ¬ (turn_number s ≡ turn_number t) → s ≡ t → X
differ s t apart e = absurd (apart (ap turn_number e))

-- what an exchange makes of a number
abbrev pub exchanges : ℕ → ℕ → ℕ → ℕ
exchanges old new n = either (eqb n old) new n

module _ {O A K : Type 0} (may : K → O → Type 0) (serves : O → A → Type 0) (key : K) where
  -- what a step of the end of a number has to give, in one state
  abbrev Goes : (ℕ → ℕ) → (ℕ → Me (Mail O A) (View O K) → Type 0) → List (ℕ × Mail O A) → ℕ → State (Mail O A) (View O K) → Type 0
  Goes f then held id s =
      (w : View O K) × (a : Act (Mail O A)) × Valid s.homes held a × Rule may serves key (stepped s 0 (f (get_or s.words 0 0)) id held w a)
      × then (get_or s.words 0 0) (w, carried_after held a)

  in_stages : (slots id : ℕ) (v : View O K) (held : List (ℕ × Mail O A)) (f : ℕ → ℕ) (then : ℕ → Me (Mail O A) (View O K) → Type 0)
      → ((g : MailboxStage O A) → Sound may serves key g → get_elem? (state_of key g).views id ≡ lookup.some v → Goes f then held id (state_of key g))
      → Allows (Rule may serves key) slots id (v, held) 0 f then
  in_stages slots id v held f then go s rule size at small =
      subst (λ (x : State (Mail O A) (View O K)). get_elem? x.views id ≡ lookup.some v → Goes f then held id x) (sym rule.state) (go rule.stage rule.sound) at

  by_asker : (slots id : ℕ) (t : Turn O) (held : List (ℕ × Mail O A)) (f : ℕ → ℕ) (then : ℕ → Me (Mail O A) (View O K) → Type 0)
      → ((g : MailboxStage O A) → Sound may serves key g → AsksIn g t → Goes f then held 0 (state_of key g))
      → Allows (Rule may serves key) slots id (view_of key Asks t, held) 0 f then
  by_asker slots id t held f then go =
      in_stages slots id (view_of key Asks t) held f then (λ g sound at. let i = asker_in A key g id t at in subst (λ k. Goes f then held k (state_of key g)) (sym i.0) (go g sound i.1))

  by_worker : (slots id : ℕ) (t : Turn O) (held : List (ℕ × Mail O A)) (f : ℕ → ℕ) (then : ℕ → Me (Mail O A) (View O K) → Type 0)
      → ((g : MailboxStage O A) → Sound may serves key g → WorksIn g t → Goes f then held 1 (state_of key g))
      → Allows (Rule may serves key) slots id (view_of key Works t, held) 0 f then
  by_worker slots id t held f then go =
      in_stages slots id (view_of key Works t) held f then (λ g sound at. let i = worker_in A key g id t at in subst (λ k. Goes f then held k (state_of key g)) (sym i.0) (go g sound i.1))

  -- the first step: the slot is taken
  pub opens : (slots id : ℕ) → Allows (Rule may serves key) slots id (first_view key, []) 0 (λ n. n) (λ n w. w ≡ (parting_view key, holding Empty))
  opens slots id =
      in_stages slots id (first_view key) [] (λ n. n) (λ n w. w ≡ (parting_view key, holding Empty))
      (λ g sound at. let i = first_in A key g id at in
      subst (λ (x : MailboxStage O A). Goes (λ n. n) (λ n w. w ≡ (parting_view key, holding Empty)) [] id (state_of key x)) (sym i.1)
      (subst (λ k. Goes (λ n. n) (λ n w. w ≡ (parting_view key, holding Empty)) [] k (state_of key unopened)) (sym i.0)
      (parting_view key, takes 0 Empty, refl, record { stage = opened; state = refl; sound = tt }, refl)))

  -- the end parts into both
  pub parts : (id : ℕ) → Splits (Rule may serves key) id (parting_view key) (asker_view key) (worker_view key)
  parts id s rule at =
      let F : State (Mail O A) (View O K) → Type 0
      = λ x. get_elem? x.views id ≡ lookup.some (parting_view key) → Rule may serves key (record { words = x.words; homes = x.homes; views = set x.views id (asker_view key) ++ worker_view key ∷ [] }) in
      subst F (sym rule.state)
      (λ at'. let i = parting_in A key rule.stage id at' in
      subst (λ (x : MailboxStage O A). Rule may serves key (record { words = (state_of key x).words; homes = (state_of key x).homes; views = set (state_of key x).views id (asker_view key) ++ worker_view key ∷ [] })) (sym i.1)
      (subst (λ k. Rule may serves key (record { words = 0 ∷ []; homes = lookup.none ∷ []; views = set (parting_view key ∷ []) k (asker_view key) ++ worker_view key ∷ [] })) (sym i.0)
      (record { stage = idle; state = refl; sound = tt })))
      at

  module _ (order : O) (fine : may key order) where
    abbrev Told : ℕ → Me (Mail O A) (View O K) → Type 0
    Told n w = (x : O) → holding {O = O} {A = A} (Order order) ≡ holding (Order x) → w ≡ (view_of key Asks (Busy x), [])

    post_in : (g : MailboxStage O A) → Sound may serves key g → AsksIn g Free → Goes (λ _. 1) Told (holding (Order order)) 0 (state_of key g)
    post_in unopened sound e = absurd e
    post_in opened sound e = absurd e
    post_in idle sound e =
        (view_of key Asks (Busy order), gives, tt, record { stage = posted order; state = refl; sound = fine }, (λ x p. ap (λ (y : O). (view_of key Asks (Busy y), [])) (ap (λ (l : List (ℕ × Mail O A)). order_in order (letter_in l)) p)))
    post_in (posted o) sound e = differ (Busy o) Free (λ x. absurd (omega arith)) e
    post_in (taken o) sound e = differ (Busy o) Free (λ x. absurd (omega arith)) e
    post_in (answered o a) sound e = differ (Busy o) Free (λ x. absurd (omega arith)) e
    post_in dismissed sound e = differ Over Free (λ x. absurd (omega arith)) e
    post_in left sound e = differ Over Free (λ x. absurd (omega arith)) e

    pub posts : (slots id : ℕ) → Allows (Rule may serves key) slots id (view_of key Asks Free, holding (Order order)) 0 (λ _. 1) Told
    posts slots id = by_asker slots id Free (holding (Order order)) (λ _. 1) Told post_in

  dismiss_in : (g : MailboxStage O A) → Sound may serves key g → AsksIn g Free → Goes (λ _. 2) (λ _ w. w ≡ (view_of key Asks Over, holding Empty)) (holding Empty) 0 (state_of key g)
  dismiss_in unopened sound e = absurd e
  dismiss_in opened sound e = absurd e
  dismiss_in idle sound e = (view_of key Asks Over, keeps, tt, record { stage = dismissed; state = refl; sound = tt }, refl)
  dismiss_in (posted o) sound e = differ (Busy o) Free (λ x. absurd (omega arith)) e
  dismiss_in (taken o) sound e = differ (Busy o) Free (λ x. absurd (omega arith)) e
  dismiss_in (answered o a) sound e = differ (Busy o) Free (λ x. absurd (omega arith)) e
  dismiss_in dismissed sound e = differ Over Free (λ x. absurd (omega arith)) e
  dismiss_in left sound e = differ Over Free (λ x. absurd (omega arith)) e

  pub dismisses : (slots id : ℕ) → Allows (Rule may serves key) slots id (view_of key Asks Free, holding Empty) 0 (λ _. 2) (λ _ w. w ≡ (view_of key Asks Over, holding Empty))
  dismisses slots id = by_asker slots id Free (holding Empty) (λ _. 2) (λ _ w. w ≡ (view_of key Asks Over, holding Empty)) dismiss_in

  module _ (order : O) where
    abbrev Collected : ℕ → Me (Mail O A) (View O K) → Type 0
    Collected n w = Collects serves (step {S = Mail O A} 1 0 0 0 lookup.none) (view_of key Asks (Busy order), []) n w

    collect_in : (g : MailboxStage O A) → Sound may serves key g → AsksIn g (Busy order) → Goes (λ n. n) Collected [] 0 (state_of key g)
    collect_in unopened sound e = absurd e
    collect_in opened sound e = absurd e
    collect_in idle sound e = differ Free (Busy order) (λ x. absurd (omega arith)) e
    collect_in (posted o) sound e =
        (view_of key Asks (Busy order), keeps, tt, record { stage = posted o; state = ap (λ (t : Turn O). both key 1 (lookup.some (Order o)) t Free) (sym e); sound = sound }, ((λ z. absurd (omega arith)), (λ _. refl)))
    collect_in (taken o) sound e =
        (view_of key Asks (Busy order), keeps, tt, record { stage = taken o; state = ap (λ (t : Turn O). both key 3 lookup.none t (Busy o)) (sym e); sound = sound }, ((λ z. absurd (omega arith)), (λ _. refl)))
    collect_in (answered o a) sound e =
        (view_of key Asks Free, takes 0 (Answer a), refl, record { stage = idle; state = refl; sound = tt }, ((λ _. (o, a, sym e, sound, refl)), (λ z. absurd (z refl))))
    collect_in dismissed sound e = differ Over (Busy order) (λ x. absurd (omega arith)) e
    collect_in left sound e = differ Over (Busy order) (λ x. absurd (omega arith)) e

    pub collects : (slots id : ℕ) → Allows (Rule may serves key) slots id (view_of key Asks (Busy order), []) 0 (λ n. n) Collected
    collects slots id = by_asker slots id (Busy order) [] (λ n. n) Collected collect_in

    abbrev TakenBack : ℕ → Me (Mail O A) (View O K) → Type 0
    TakenBack n w = TakesBack (step {S = Mail O A} 1 0 0 0 lookup.none) (view_of key Asks (Busy order), []) n w

    take_back_in : (g : MailboxStage O A) → Sound may serves key g → AsksIn g (Busy order) → Goes (exchanges 1 0) TakenBack [] 0 (state_of key g)
    take_back_in unopened sound e = absurd e
    take_back_in opened sound e = absurd e
    take_back_in idle sound e = differ Free (Busy order) (λ x. absurd (omega arith)) e
    take_back_in (posted o) sound e =
        (view_of key Asks Free, takes 0 (Order o), refl, record { stage = idle; state = refl; sound = tt }, ((λ _. (o, sym e, refl)), (λ z. absurd (z refl))))
    take_back_in (taken o) sound e =
        (view_of key Asks (Busy order), keeps, tt, record { stage = taken o; state = ap (λ (t : Turn O). both key 3 lookup.none t (Busy o)) (sym e); sound = sound }, ((λ z. absurd (omega arith)), (λ _. refl)))
    take_back_in (answered o a) sound e =
        (view_of key Asks (Busy order), keeps, tt, record { stage = answered o a; state = ap (λ (t : Turn O). both key 0 (lookup.some (Answer a)) t Free) (sym e); sound = sound }, ((λ z. absurd (omega arith)), (λ _. refl)))
    take_back_in dismissed sound e = differ Over (Busy order) (λ x. absurd (omega arith)) e
    take_back_in left sound e = differ Over (Busy order) (λ x. absurd (omega arith)) e

    pub takes_back : (slots id : ℕ) → Allows (Rule may serves key) slots id (view_of key Asks (Busy order), []) 0 (exchanges 1 0) TakenBack
    takes_back slots id = by_asker slots id (Busy order) [] (exchanges 1 0) TakenBack take_back_in

  abbrev Looked : ℕ → Me (Mail O A) (View O K) → Type 0
  Looked n w = Looks may (step {S = Mail O A} 1 0 0 0 lookup.none) (view_of key Works Free, []) n w

  look_in : (g : MailboxStage O A) → Sound may serves key g → WorksIn g Free → Goes (exchanges 1 3) Looked [] 1 (state_of key g)
  look_in unopened sound e = absurd e
  look_in opened sound e = absurd e
  look_in idle sound e =
      (view_of key Works Free, keeps, tt, record { stage = idle; state = refl; sound = tt }, ((λ z. absurd (omega arith)), (λ z. absurd (omega arith)), (λ _ _. refl)))
  look_in (posted o) sound e =
      (view_of key Works (Busy o), takes 0 (Order o), refl, record { stage = taken o; state = refl; sound = sound }, ((λ _. (o, sound, refl)), (λ z. absurd (omega arith)), (λ z _. absurd (z refl))))
  look_in (taken o) sound e = differ (Busy o) Free (λ x. absurd (omega arith)) e
  look_in (answered o a) sound e =
      (view_of key Works Free, keeps, tt, record { stage = answered o a; state = refl; sound = sound }, ((λ z. absurd (omega arith)), (λ z. absurd (omega arith)), (λ _ _. refl)))
  look_in dismissed sound e =
      (view_of key Works Over, keeps, tt, record { stage = left; state = refl; sound = tt }, ((λ z. absurd (omega arith)), (λ _. refl), (λ _ z. absurd (z refl))))
  look_in left sound e = differ Over Free (λ x. absurd (omega arith)) e

  pub looks : (slots id : ℕ) → Allows (Rule may serves key) slots id (view_of key Works Free, []) 0 (exchanges 1 3) Looked
  looks slots id = by_worker slots id Free [] (exchanges 1 3) Looked look_in

  module _ (order : O) (answer : A) (served : serves order answer) where
    answer_in : (g : MailboxStage O A) → Sound may serves key g → WorksIn g (Busy order) → Goes (λ _. 0) (λ _ w. w ≡ (view_of key Works Free, [])) (holding (Answer answer)) 1 (state_of key g)
    answer_in unopened sound e = absurd e
    answer_in opened sound e = absurd e
    answer_in idle sound e = differ Free (Busy order) (λ x. absurd (omega arith)) e
    answer_in (posted o) sound e = differ Free (Busy order) (λ x. absurd (omega arith)) e
    answer_in (taken o) sound e =
        (view_of key Works Free, gives, tt, record { stage = answered o answer; state = refl; sound = subst (λ (x : O). serves x answer) (sym (ap (order_or order) e)) served }, refl)
    answer_in (answered o a) sound e = differ Free (Busy order) (λ x. absurd (omega arith)) e
    answer_in dismissed sound e = differ Free (Busy order) (λ x. absurd (omega arith)) e
    answer_in left sound e = differ Over (Busy order) (λ x. absurd (omega arith)) e

    pub answers : (slots id : ℕ) → Allows (Rule may serves key) slots id (view_of key Works (Busy order), holding (Answer answer)) 0 (λ _. 0) (λ _ w. w ≡ (view_of key Works Free, []))
    answers slots id = by_worker slots id (Busy order) (holding (Answer answer)) (λ _. 0) (λ _ w. w ≡ (view_of key Works Free, [])) answer_in
