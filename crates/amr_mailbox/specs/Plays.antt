-- What each kind of step tells its end: of the step, the end before, the number found and the end after.
use Rattle.std.specs.Prelude.{ℕ, ◌≡◌, ◌≢◌, []}
use Rattle.atomic_table.specs.Table.{Step, Me}
use Rattle.amr_mailbox.specs.declared.mail.Mail.{Mail}
use Rattle.amr_mailbox.specs.declared.mail.Mail.TheVariants.{Empty, Order, Answer}
use Rattle.amr_mailbox.specs.declared.view.Role.TheVariants.{Asks, Works}
use Rattle.amr_mailbox.specs.declared.view.Turn.TheVariants.{Free, Busy, Over}
use Rattle.amr_mailbox.specs.declared.view.View.{View}
use Rattle.amr_mailbox.specs.Views.{view_of, parting_view, holding}

-- an end: what it knows, and the slots that it holds
abbrev pub End : Type 0 → Type 0 → Type 0 → Type 0
End O A K = Me (Mail O A) (View O K)

module _ {O A K : Type 0} where
  -- the slot is taken, empty
  abbrev pub Opens : Step (Mail O A) → End O A K → ℕ → End O A K → Type 0
  Opens s m n w = w ≡ (parting_view m.0.key, holding Empty)

  -- the order in the slot is posted
  abbrev pub Posts : Step (Mail O A) → End O A K → ℕ → End O A K → Type 0
  Posts s m n w = (order : O) → m.1 ≡ holding (Order order) → w ≡ (view_of m.0.key Asks (Busy order), [])

  abbrev pub Dismisses : Step (Mail O A) → End O A K → ℕ → End O A K → Type 0
  Dismisses s m n w = w ≡ (view_of m.0.key Asks Over, m.1)

  -- at the asker's turn the slot is taken, with an answer that serves what was asked; else nothing changes
  abbrev pub Collects : (O → A → Type 0) → Step (Mail O A) → End O A K → ℕ → End O A K → Type 0
  Collects serves s m n w =
      (n ≡ 0 → (order : O) × (answer : A) × (m.0.turn ≡ Busy order) × serves order answer × (w ≡ (view_of m.0.key Asks Free, holding (Answer answer))))
      × (n ≢ 0 → w ≡ m)

  -- where an order lies the slot is taken back, with the order that is out; else nothing changes
  abbrev pub TakesBack : Step (Mail O A) → End O A K → ℕ → End O A K → Type 0
  TakesBack s m n w =
      (n ≡ 1 → (order : O) × (m.0.turn ≡ Busy order) × (w ≡ (view_of m.0.key Asks Free, holding (Order order))))
      × (n ≢ 1 → w ≡ m)

  -- where an order lies the slot is taken, with that order, which may be posted; after the dismissal the end is over; else nothing changes
  abbrev pub Looks : (K → O → Type 0) → Step (Mail O A) → End O A K → ℕ → End O A K → Type 0
  Looks may s m n w =
      (n ≡ 1 → (order : O) × may m.0.key order × (w ≡ (view_of m.0.key Works (Busy order), holding (Order order))))
      × (n ≡ 2 → w ≡ (view_of m.0.key Works Over, []))
      × (n ≢ 1 → n ≢ 2 → w ≡ m)

  abbrev pub Answers : Step (Mail O A) → End O A K → ℕ → End O A K → Type 0
  Answers s m n w = w ≡ (view_of m.0.key Works Free, [])
