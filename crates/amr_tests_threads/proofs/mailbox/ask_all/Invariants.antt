use Rattle.std.proofs.Common.{◌≡◌}
use Rattle.amr_mailbox.specs.declared.view.Turn.TheVariants.{Free}
use Rattle.amr_mailbox.specs.MailboxOf.{end_of}
use Rattle.amr_tests_threads.proofs.mailbox.ask_all.Given as goal

abbrev pub invariant-loop-order : goal.invariant-loop-order
invariant-loop-order g l = l.asker ≡ end_of l.mailbox Free
