use Rattle.std.proofs.Common.{◌≡◌, [], sym, ap, ◌∙◌, subst, arith}
use Rattle.atomic_table.specs.Table.{Allows, Me}
use Rattle.amr_mailbox.specs.declared.mail.Mail.{Mail}
use Rattle.amr_mailbox.specs.declared.mail.Mail.TheVariants.{Empty, Answer}
use Rattle.amr_mailbox.specs.declared.view.Role.TheVariants.{Works}
use Rattle.amr_mailbox.specs.declared.view.Turn.TheVariants.{Free, Busy}
use Rattle.amr_mailbox.specs.declared.view.View.{View}
use Rattle.amr_mailbox.specs.Views.{view_of}
use Rattle.amr_mailbox.specs.MailboxOf.{MailboxOf, EndOf, end_of}
use Rattle.amr_mailbox.specs.Rule.{Rule}
use Rattle.amr_mailbox.proofs.Steps.{answers}
use Rattle.amr_mailbox.proofs.Called.{worker_knows, exchanged}
use Rattle.amr_mailbox.proofs.mailbox.Mailbox.answer.Goals as goal

pub store-requires : goal.store-requires
store-requires g c =
    let shared = c.self.inside.table.shared in
    let seat = c.worker.inside.seat in
    let order = c.requires.busy.0 in
    let k = worker_knows shared.table_id shared.key (Busy order) seat (c.worker.view_is ∙ (c.requires.busy.1 ∙ ap (λ (m : MailboxOf g.row.K.Denot). end_of m (Busy order)) (sym c.self.view_is))) c.worker.invariant in
    let e = c.exchange.ensures in
    let now = exchanged seat.me c.exchange.new.seat.me (view_of shared.key Works (Busy order)) Empty (Answer c.args.answer) k.me e.3 in
    let served = c.requires.serves order (ap (λ (x : EndOf g.row.O.Denot g.row.K.Denot). x.turn) c.requires.busy.1) in (
      e.0 ∙ k.table,
      (let n = c.self.invariant.0 in omega arith),
      subst
          (λ (m : Me (Mail g.row.O.Denot g.row.A.Denot) (View g.row.O.Denot g.row.K.Denot)). Allows (Rule g.E.Errand.may g.E.Errand.serves shared.key) shared.table_id.slots c.exchange.new.seat.id m 0 (λ _. 0) (λ _ w. w ≡ (view_of m.0.key Works Free, [])))
          (sym now) (answers g.E.Errand.may g.E.Errand.serves shared.key order c.args.answer served shared.table_id.slots c.exchange.new.seat.id),
    )
