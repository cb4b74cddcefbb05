-- The messages of one lot brought to each lot that they are for, and those that each had from it taken back.
use Rattle.std.specs.Prelude.{◌≡◌, ◌≢◌, ◌<◌, ℕ, List, length, slice_index_or, slice_set}
use Rattle.std.specs.Global.{Box}
use Rattle.amr_ghost.specs.declared.messages.Message.{Message}
use Rattle.amr_lots.specs.declared.lot.Lot.{Lot}
use Rattle.amr_lots.specs.Runs.{IsDelivered}

-- lot a became b: it was brought message x from a lot, in exchange for y
pub record HasTraded (from : ℕ) (x y : Message) (a b : Lot) : Type 0 where
  pub taken : (m : Message) → y ≡ slice_index_or a.workspace.inbox.items from m
  pub brought : b.workspace.inbox.items ≡ slice_set a.workspace.inbox.items from x
  pub outbox : b.workspace.outbox ≡ a.workspace.outbox
  pub others : IsDelivered a b

-- the messages xs of a lot for each of the lots became ys, where these became others
pub record HaveTraded (from : ℕ) (xs ys : List Message) (lots after : List (Box Lot)) : Type 0 where
  pub messages : length ys ≡ length xs
  pub count : length after ≡ length lots
  pub each : (to : ℕ) (m : Message) (x : Box Lot) → to < length lots
      → HasTraded from (slice_index_or xs to m) (slice_index_or ys to m) (slice_index_or lots to x).value (slice_index_or after to x).value

-- the messages of one lot for each were exchanged for those that each had from it. All else stayed.
pub record ArePosted (from : ℕ) (lots after : List (Box Lot)) : Type 0 where
  pub count : length after ≡ length lots
  pub delivered : (to : ℕ) (x : Box Lot) (m : Message) → to < length lots
      → slice_index_or (slice_index_or after to x).value.workspace.inbox.items from m
      ≡ slice_index_or (slice_index_or lots from x).value.workspace.outbox.items to m
  pub back : (to : ℕ) (x : Box Lot) (m : Message) → to < length lots
      → slice_index_or (slice_index_or after from x).value.workspace.outbox.items to m
      ≡ slice_index_or (slice_index_or lots to x).value.workspace.inbox.items from m
  pub inboxes : (u to : ℕ) (x : Box Lot) (m : Message) → u ≢ from → to < length lots
      → slice_index_or (slice_index_or after to x).value.workspace.inbox.items u m ≡ slice_index_or (slice_index_or lots to x).value.workspace.inbox.items u m
  pub outboxes : (u : ℕ) (x : Box Lot) → u ≢ from → u < length lots
      → (slice_index_or after u x).value.workspace.outbox ≡ (slice_index_or lots u x).value.workspace.outbox
  pub others : (u : ℕ) (x : Box Lot) → u < length lots → IsDelivered (slice_index_or lots u x).value (slice_index_or after u x).value
