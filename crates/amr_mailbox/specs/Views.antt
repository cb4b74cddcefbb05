-- What the two ends know, and the slot that they hold.
use Rattle.std.specs.Prelude.{ℕ, List, [], ◌∷◌}
use Rattle.amr_mailbox.specs.declared.mail.Mail.{Mail}
use Rattle.amr_mailbox.specs.declared.mail.Mail.TheVariants.{Empty}
use Rattle.amr_mailbox.specs.declared.view.Role.{Role}
use Rattle.amr_mailbox.specs.declared.view.Role.TheVariants.{Unopened, Parting, Asks, Works}
use Rattle.amr_mailbox.specs.declared.view.Turn.{Turn}
use Rattle.amr_mailbox.specs.declared.view.Turn.TheVariants.{Free, Busy, Over}
use Rattle.amr_mailbox.specs.declared.view.View.{View}

module _ {O K : Type 0} where
  abbrev pub view_of : K → Role → Turn O → View O K
  view_of key role turn = record { key = key; role = role; turn = turn }

  -- the one end of a new mailbox
  abbrev pub first_view : K → View O K
  first_view key = view_of key Unopened Free

  abbrev pub parting_view : K → View O K
  parting_view key = view_of key Parting Free

  abbrev pub asker_view : K → View O K
  asker_view key = view_of key Asks Free

  abbrev pub worker_view : K → View O K
  worker_view key = view_of key Works Free

module _ {O A : Type 0} where
  -- the slot, with this mail
  abbrev pub holding : Mail O A → List (ℕ × Mail O A)
  holding mail = (0, mail) ∷ []

  -- the asker holds the slot, empty, but while an order is out
  abbrev pub asker_slots : Turn O → List (ℕ × Mail O A)
  asker_slots Free = holding Empty
  asker_slots (Busy order) = []
  asker_slots Over = holding Empty

  -- the worker holds it while it works on an order
  abbrev pub worker_slots : Turn O → List (ℕ × Mail O A)
  worker_slots Free = []
  worker_slots (Busy order) = holding Empty
  worker_slots Over = []
