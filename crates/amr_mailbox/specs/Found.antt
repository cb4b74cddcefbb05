-- What a worker that had no order found in one look.
use Rattle.std.specs.Prelude.{◌≡◌}
use Rattle.amr_mailbox.specs.declared.mailbox.Found.{Found}
use Rattle.amr_mailbox.specs.declared.mailbox.Found.TheVariants.{Nothing, Order, Dismissal}
use Rattle.amr_mailbox.specs.declared.view.Turn.TheVariants.{Free, Busy, Over}
use Rattle.amr_mailbox.specs.MailboxOf.{MailboxOf, EndOf, end_of}

abbrev pub IsFound : {O K : Type 0} → (K → O → Type 0) → MailboxOf K → EndOf O K → Found O → Type 0
IsFound may mailbox worker Nothing = worker ≡ end_of mailbox Free
IsFound may mailbox worker (Order order) = may mailbox.key order × (worker ≡ end_of mailbox (Busy order))
IsFound may mailbox worker Dismissal = worker ≡ end_of mailbox Over
