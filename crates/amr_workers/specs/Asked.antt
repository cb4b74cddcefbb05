-- What stands with a kept worker that was asked to draw.
use Rattle.std.specs.Prelude.{◌≡◌, None, MatchOption, Option}
use Rattle.std.specs.Arc.{arc_value}
use Rattle.atomic_table.specs.declared.shared.Seat.{Seat}
use Rattle.amr_mailbox.specs.declared.view.Turn.TheVariants.{Free, Busy}
use Rattle.amr_mailbox.specs.MailboxOf.{end_of}
use Rattle.amr_board.specs.declared.view.View.{View}
use Rattle.amr_workers.specs.declared.asked.Asked.{Asked}
use Rattle.amr_workers.specs.declared.helper.Helper.{Helper}
use Rattle.amr_workers.specs.declared.order.DrawOrder.{DrawOrder}

module _ {P J G : Type 0} where
  -- a worker that was just asked
  abbrev pub asked : Helper P J G → DrawOrder P → Asked P J G
  asked helper order = record { helper = record { mailbox = helper.mailbox; asker = end_of (arc_value helper.mailbox) (Busy order) }; drawn = None }

  -- the worker was asked, to do what may be asked, and its seat has not come back
  pub record IsOut (may : DrawOrder P → Type 0) (a : Asked P J G) : Type 0 where
    pub order : DrawOrder P
    pub may_is : may order
    pub waits : a.helper.asker ≡ end_of (arc_value a.helper.mailbox) (Busy order)
    pub undrawn : a.drawn ≡ None

  -- this order is out, or its seat is back and found no task left
  abbrev pub IsDue : (DrawOrder P → Seat (Option P) (View P) → Type 0) → DrawOrder P → Asked P J G → Type 0
  IsDue serves order a =
      MatchOption a.drawn (a.helper.asker ≡ end_of (arc_value a.helper.mailbox) (Busy order))
      (λ seat. (a.helper.asker ≡ end_of (arc_value a.helper.mailbox) Free) × serves order seat)

  -- the same worker later: the seat that was due still is
  pub record Keeps (serves : DrawOrder P → Seat (Option P) (View P) → Type 0) (old new : Asked P J G) : Type 0 where
    pub mailbox : new.helper.mailbox ≡ old.helper.mailbox
    pub due : (order : DrawOrder P) → IsDue serves order old → IsDue serves order new
