-- A mailbox and its ends as contracts see them.
use Rattle.std.specs.Prelude.{◌≡◌}
use Rattle.atomic_table.specs.Seated.{TableId}
use Rattle.amr_mailbox.specs.declared.view.Turn.{Turn}
use Rattle.amr_mailbox.specs.declared.view.Turn.TheVariants.{Busy}

-- which mailbox it is, and what it was told
pub record MailboxOf (K : Type 0) : Type 0 where
  pub id : TableId
  pub key : K

-- an end of a mailbox, and how far it is
pub record EndOf (O K : Type 0) : Type 0 where
  pub mailbox : MailboxOf K
  pub turn : Turn O

module _ {O K : Type 0} where
  abbrev pub end_of : MailboxOf K → Turn O → EndOf O K
  end_of mailbox turn = record { mailbox = mailbox; turn = turn }

  -- an end of this mailbox, with some order
  abbrev pub IsBusy : MailboxOf K → EndOf O K → Type 0
  IsBusy mailbox end = (order : O) × (end ≡ end_of mailbox (Busy order))
