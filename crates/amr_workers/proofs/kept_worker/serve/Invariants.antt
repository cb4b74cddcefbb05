use Rattle.std.proofs.Common.{◌≡◌}
use Rattle.amr_mailbox.specs.declared.view.Turn.TheVariants.{Free}
use Rattle.amr_mailbox.specs.MailboxOf.{end_of}
use Rattle.amr_workers.proofs.kept_worker.serve.Given as goal

abbrev pub invariant-orders : goal.invariant-orders
invariant-orders g l = (goal.iterator-orders g).can_next l.iterator' × (goal.iterator-orders g).is_finite l.iterator' × (l.worker ≡ end_of l.mailbox Free)
