use Rattle.std.proofs.Common.{◌≡◌, [], sym, ap, ◌∙◌, subst, arith}
use Rattle.atomic_table.specs.Table.{Allows, Me}
use Rattle.amr_mailbox.specs.declared.mail.Mail.{Mail}
use Rattle.amr_mailbox.specs.declared.mail.Mail.TheVariants.{Empty, Order}
use Rattle.amr_mailbox.specs.declared.view.Role.TheVariants.{Asks}
use Rattle.amr_mailbox.specs.declared.view.Turn.TheVariants.{Free, Busy}
use Rattle.amr_mailbox.specs.declared.view.View.{View}
use Rattle.amr_mailbox.specs.Views.{view_of, holding}
use Rattle.amr_mailbox.specs.MailboxOf.{MailboxOf, end_of}
use Rattle.amr_mailbox.specs.Rule.{Rule}
use Rattle.amr_mailbox.proofs.Steps.{posts}
use Rattle.amr_mailbox.proofs.Called.{asker_knows, exchanged}
use Rattle.amr_mailbox.proofs.mailbox.Mailbox.post.Goals as goal

pub store-requires : goal.store-requires
store-requires g c =
    let shared = c.self.inside.table.shared in
    let seat = c.asker.inside.seat in
    let k = asker_knows shared.table_id shared.key Free seat (c.asker.view_is ∙ (c.requires.free ∙ ap (λ (m : MailboxOf g.row.K.Denot). end_of m Free) (sym c.self.view_is))) c.asker.invariant in
    let e = c.exchange.ensures in
    let now = exchanged seat.me c.exchange.new.seat.me (view_of shared.key Asks Free) Empty (Order c.args.order) k.me e.3 in
    let may = subst (λ (m : MailboxOf g.row.K.Denot). g.E.Errand.may m.key c.args.order) (sym c.self.view_is) c.requires.may in (
      e.0 ∙ k.table,
      (let n = c.self.invariant.0 in omega arith),
      subst
          (λ (m : Me (Mail g.row.O.Denot g.row.A.Denot) (View g.row.O.Denot g.row.K.Denot)). Allows (Rule g.E.Errand.may g.E.Errand.serves shared.key) shared.table_id.slots c.exchange.new.seat.id m 0 (λ _. 1) (λ _ w. (x : g.row.O.Denot) → m.1 ≡ holding (Order x) → w ≡ (view_of m.0.key Asks (Busy x), [])))
          (sym now) (posts g.E.Errand.may g.E.Errand.serves shared.key c.args.order may shared.table_id.slots c.exchange.new.seat.id),
    )
