-- The rule of a mailbox, which holds at each moment: it is in one of these stages.
use Rattle.std.specs.Prelude.{ℕ, ◌≡◌, [], ◌∷◌}
use mathlib.Core.Option as lookup
use Rattle.atomic_table.specs.Table.{State}
use Rattle.amr_mailbox.specs.declared.mail.Mail.{Mail}
use Rattle.amr_mailbox.specs.declared.mail.Mail.TheVariants.{Empty, Order, Answer}
use Rattle.amr_mailbox.specs.declared.view.Role.TheVariants.{Asks, Works}
use Rattle.amr_mailbox.specs.declared.view.Turn.{Turn}
use Rattle.amr_mailbox.specs.declared.view.Turn.TheVariants.{Free, Busy, Over}
use Rattle.amr_mailbox.specs.declared.view.View.{View}
use Rattle.amr_mailbox.specs.Views.{view_of, first_view, parting_view}

pub data MailboxStage (O A : Type 0) : Type 0 where
  -- before its end opened it, and before that end parted
  unopened : MailboxStage O A
  opened : MailboxStage O A
  -- the asker has the slot
  idle : MailboxStage O A
  -- an order lies in the slot; the worker has taken it; its answer lies in the slot
  posted : O → MailboxStage O A
  taken : O → MailboxStage O A
  answered : O → A → MailboxStage O A
  -- the asker has dismissed the worker, and then the worker knows
  dismissed : MailboxStage O A
  left : MailboxStage O A

module _ {O A K : Type 0} (key : K) where
  -- the word, the slot and both ends
  abbrev pub both : ℕ → lookup.Option (Mail O A) → Turn O → Turn O → State (Mail O A) (View O K)
  both word home asker worker = record { words = word ∷ []; homes = home ∷ []; views = view_of key Asks asker ∷ view_of key Works worker ∷ [] }

  abbrev pub state_of : MailboxStage O A → State (Mail O A) (View O K)
  state_of unopened = record { words = 0 ∷ []; homes = lookup.some Empty ∷ []; views = first_view key ∷ [] }
  state_of opened = record { words = 0 ∷ []; homes = lookup.none ∷ []; views = parting_view key ∷ [] }
  state_of idle = both 0 lookup.none Free Free
  state_of (posted order) = both 1 (lookup.some (Order order)) (Busy order) Free
  state_of (taken order) = both 3 lookup.none (Busy order) (Busy order)
  state_of (answered order answer) = both 0 (lookup.some (Answer answer)) (Busy order) Free
  state_of dismissed = both 2 lookup.none Over Free
  state_of left = both 2 lookup.none Over Over

module _ {O A K : Type 0} (may : K → O → Type 0) (serves : O → A → Type 0) (key : K) where
  -- an order may be posted, and an answer serves its order
  abbrev pub Sound : MailboxStage O A → Type 0
  Sound unopened = Unit {0}
  Sound opened = Unit {0}
  Sound idle = Unit {0}
  Sound (posted order) = may key order
  Sound (taken order) = may key order
  Sound (answered order answer) = serves order answer
  Sound dismissed = Unit {0}
  Sound left = Unit {0}

  pub record Rule (s : State (Mail O A) (View O K)) : Type 0 where
    pub stage : MailboxStage O A
    pub state : s ≡ state_of key stage
    pub sound : Sound stage
