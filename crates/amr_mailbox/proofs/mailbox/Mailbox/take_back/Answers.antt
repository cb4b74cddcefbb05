use Rattle.std.proofs.Common.{sym, ap, ◌∙◌, subst, arith}
use mathlib.Core.Option as lookup
use Rattle.atomic_table.specs.Table.{Allows, Me, step}
use Rattle.amr_mailbox.specs.declared.mail.Mail.{Mail}
use Rattle.amr_mailbox.specs.declared.mail.Mail.TheVariants.{Order}
use Rattle.amr_mailbox.specs.declared.view.Turn.TheVariants.{Busy}
use Rattle.amr_mailbox.specs.declared.view.View.{View}
use Rattle.amr_mailbox.specs.MailboxOf.{MailboxOf, end_of}
use Rattle.amr_mailbox.specs.Plays.{TakesBack}
use Rattle.amr_mailbox.specs.Rule.{Rule}
use Rattle.amr_mailbox.proofs.Steps.{exchanges, takes_back}
use Rattle.amr_mailbox.proofs.Called.{asker_knows, held_now}
use Rattle.amr_mailbox.proofs.mailbox.Mailbox.take_back.Goals as goal

pub compare_exchange-requires : goal.compare_exchange-requires
compare_exchange-requires g c =
    let shared = c.self.inside.table.shared in
    let seat = c.asker.inside.seat in
    let order = c.requires.asked.0 in
    let k = asker_knows shared.table_id shared.key (Busy order) seat (c.asker.view_is ∙ (c.requires.asked.1 ∙ ap (λ (m : MailboxOf g.row.K.Denot). end_of m (Busy order)) (sym c.self.view_is))) c.asker.invariant in (
      k.table,
      (let n = c.self.invariant.0 in omega arith),
      subst
          (λ (m : Me (Mail g.row.O.Denot g.row.A.Denot) (View g.row.O.Denot g.row.K.Denot)). Allows (Rule g.E.Errand.may g.E.Errand.serves shared.key) shared.table_id.slots seat.id m 0 (exchanges 1 0) (λ n w. TakesBack (step {S = Mail g.row.O.Denot g.row.A.Denot} 1 0 0 0 lookup.none) m n w))
          (sym k.me) (takes_back g.E.Errand.may g.E.Errand.serves shared.key order shared.table_id.slots seat.id),
    )

pub exchange-requires : goal.exchange-requires
exchange-requires g c =
    let shared = c.self.inside.table.shared in
    let order = c.requires.asked.0 in
    let k = asker_knows shared.table_id shared.key (Busy order) c.asker.inside.seat (c.asker.view_is ∙ (c.requires.asked.1 ∙ ap (λ (m : MailboxOf g.row.K.Denot). end_of m (Busy order)) (sym c.self.view_is))) c.asker.invariant in
    let found = c.compare_exchange.ensures.2.0 c.if-compare_exchange-ne-POSTED.false in
    (c.compare_exchange.ensures.0 ∙ k.table, (Order found.0, held_now c.compare_exchange.new.seat.me _ (Order found.0) found.2))
