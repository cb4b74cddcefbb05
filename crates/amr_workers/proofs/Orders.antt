-- A kept worker from the order that it is asked to its seat, drawn on.
use Rattle.std.proofs.Common.{◌≡◌, refl, sym, ap, ◌∙◌, subst}
use Rattle.std.specs.Prelude.{Option}
use Rattle.std.specs.Arc.{arc_value}
use Rattle.atomic_table.specs.declared.shared.Seat.{Seat}
use Rattle.amr_mailbox.specs.declared.view.Turn.TheVariants.{Free}
use Rattle.amr_mailbox.specs.MailboxOf.{end_of}
use Rattle.amr_board.specs.declared.view.View.{View}
use Rattle.amr_workers.specs.declared.asked.Asked.{Asked}
use Rattle.amr_workers.specs.declared.helper.Helper.{Helper}
use Rattle.amr_workers.specs.declared.order.DrawOrder.{DrawOrder}
use Rattle.amr_workers.specs.Asked.{asked, IsOut, IsDue, Keeps}

module _ {P J G : Type 0} (helper : Helper P J G) (order : DrawOrder P) (one : Asked P J G) (is : one ≡ asked helper order) where
  pub out_once_asked : (may : DrawOrder P → Type 0) → may order → IsOut may one
  out_once_asked may fine = subst (λ (a : Asked P J G). IsOut may a) (sym is) (record { order = order; may_is = fine; waits = refl; undrawn = refl })

  module _ (serves : DrawOrder P → Seat (Option P) (View P) → Type 0) (last : Asked P J G) (keeps : Keeps serves one last) where
    pub due_once_asked : IsDue serves order last
    due_once_asked = keeps.due order (subst (λ (a : Asked P J G). IsDue serves order a) (sym is) refl)

    -- the worker is as it was before it was asked
    pub comes_back : (back : Helper P J G) → helper.asker ≡ end_of (arc_value helper.mailbox) Free → back ≡ record { mailbox = last.helper.mailbox; asker = end_of (arc_value last.helper.mailbox) Free } → back ≡ helper
    comes_back back waits free =
        let same : last.helper.mailbox ≡ helper.mailbox = keeps.mailbox ∙ ap (λ (a : Asked P J G). a.helper.mailbox) is in
        free ∙ ((λ i. record { mailbox = same i; asker = end_of (arc_value (same i)) Free }) ∙ (λ i. record { mailbox = helper.mailbox; asker = sym waits i }))
