use Rattle.std.proofs.Common.{sym, ap, ◌∙◌, subst, arith}
use mathlib.Core.Option as lookup
use Rattle.atomic_table.specs.Table.{Allows, Me, step}
use Rattle.amr_mailbox.specs.declared.mail.Mail.{Mail}
use Rattle.amr_mailbox.specs.declared.mail.Mail.TheVariants.{Order}
use Rattle.amr_mailbox.specs.declared.view.Turn.TheVariants.{Free}
use Rattle.amr_mailbox.specs.declared.view.View.{View}
use Rattle.amr_mailbox.specs.MailboxOf.{MailboxOf, end_of}
use Rattle.amr_mailbox.specs.Plays.{Looks}
use Rattle.amr_mailbox.specs.Rule.{Rule}
use Rattle.amr_mailbox.proofs.Steps.{exchanges, looks}
use Rattle.amr_mailbox.proofs.Called.{worker_knows, held_now}
use Rattle.amr_mailbox.proofs.mailbox.Mailbox.look.Goals as goal

pub compare_exchange-requires : goal.compare_exchange-requires
compare_exchange-requires g c =
    let shared = c.self.inside.table.shared in
    let seat = c.worker.inside.seat in
    let k = worker_knows shared.table_id shared.key Free seat (c.worker.view_is ∙ (c.requires.free ∙ ap (λ (m : MailboxOf g.row.K.Denot). end_of m Free) (sym c.self.view_is))) c.worker.invariant in (
      k.table,
      (let n = c.self.invariant.0 in omega arith),
      subst
          (λ (m : Me (Mail g.row.O.Denot g.row.A.Denot) (View g.row.O.Denot g.row.K.Denot)). Allows (Rule g.E.Errand.may g.E.Errand.serves shared.key) shared.table_id.slots seat.id m 0 (exchanges 1 3) (λ n w. Looks g.E.Errand.may (step {S = Mail g.row.O.Denot g.row.A.Denot} 1 0 0 0 lookup.none) m n w))
          (sym k.me) (looks g.E.Errand.may g.E.Errand.serves shared.key shared.table_id.slots seat.id),
    )

pub exchange-requires : goal.exchange-requires
exchange-requires g c =
    let shared = c.self.inside.table.shared in
    let k = worker_knows shared.table_id shared.key Free c.worker.inside.seat (c.worker.view_is ∙ (c.requires.free ∙ ap (λ (m : MailboxOf g.row.K.Denot). end_of m Free) (sym c.self.view_is))) c.worker.invariant in
    let found = c.compare_exchange.ensures.2.0 c.in-1.is in
    (c.compare_exchange.ensures.0 ∙ k.table, (Order found.0, held_now c.compare_exchange.new.seat.me _ (Order found.0) found.2))
