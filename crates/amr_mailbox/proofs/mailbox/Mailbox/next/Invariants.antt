use Rattle.std.proofs.Common.{◌≡◌}
use Rattle.amr_mailbox.proofs.mailbox.Mailbox.next.Given as goal

abbrev pub invariant-looks : goal.invariant-looks
invariant-looks g l = (goal.iterator-looks g).can_next l.iterator' × (goal.iterator-looks g).is_finite l.iterator' × (l.worker ≡ l.initial.worker)
