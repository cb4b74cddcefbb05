use Rattle.std.proofs.Common.{◌≡◌}
use Rattle.amr_mailbox.specs.declared.view.Turn.TheVariants.{Free}
use Rattle.amr_mailbox.specs.MailboxOf.{end_of}
use Rattle.amr_tests_threads.proofs.mailbox.double_all.Given as goal

abbrev pub invariant-loop : goal.invariant-loop
invariant-loop g l = (goal.iterator-loop g).can_next l.iterator' × (goal.iterator-loop g).is_finite l.iterator' × (l.worker ≡ end_of l.mailbox Free)
