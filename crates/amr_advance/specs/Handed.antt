-- The lots of a level, handed what they need for its step.
use Rattle.std.specs.Prelude.{◌≡◌, ℕ, ◌<◌, true, false, List, length, slice_index_or}
use Rattle.std.specs.Global.{Box, Vec}
use Rattle.std.specs.List.{AllZip}
use Rattle.amr_patch.specs.declared.patches.Patch.{Patch}
use Rattle.amr_ghost.specs.declared.messages.Message.{Message}
use Rattle.amr_register.specs.declared.edges.EdgeCell.{EdgeCell}
use Rattle.amr_lots.specs.declared.lot.Lot.{Lot}
use Rattle.amr_lots.specs.Runs.{KeepAllButEdges, KeepAllButMessages, KeepOthers, run}
use Rattle.amr_lots.specs.Duties.{HasSent}
use Rattle.amr_advance.specs.declared.lots.Lots.{Lots}

-- each lot was handed its run of the patches
pub record AreHanded (each : ℕ) (qs : List Patch) (xs ys : List (Box Lot)) : Type 0 where
  pub patches : (k : ℕ) (x : Box Lot) → k < length xs → (slice_index_or ys k x).value.patches.items ≡ run each k qs
  pub others : AllZip KeepOthers xs ys

-- where there are lists, each lot was handed its run of them, and these became what the lots had. Else nothing changed.
pub record AreLent (each : ℕ) (es ds : List (Vec EdgeCell)) (xs ys : List (Box Lot)) : Type 0 where
  pub none : length es ≡ 0 → ys ≡ xs
  pub handed : 0 < length es → (k : ℕ) (x : Box Lot) → k < length xs → (slice_index_or ys k x).value.edges.items ≡ run each k es
  pub back : 0 < length es → (k : ℕ) (x : Box Lot) → k < length xs → run each k ds ≡ (slice_index_or xs k x).value.edges.items
  pub count : length ds ≡ length es
  pub others : AllZip KeepAllButEdges xs ys

-- their messages were exchanged
pub record AreExchanged (xs ys : List (Box Lot)) : Type 0 where
  pub delivered : (u t : ℕ) (x : Box Lot) (m : Message) → u < length xs → t < length xs
      → slice_index_or (slice_index_or ys t x).value.workspace.inbox.items u m ≡ slice_index_or (slice_index_or xs u x).value.workspace.outbox.items t m
  pub back : (u t : ℕ) (x : Box Lot) (m : Message) → u < length xs → t < length xs
      → slice_index_or (slice_index_or ys u x).value.workspace.outbox.items t m ≡ slice_index_or (slice_index_or xs t x).value.workspace.inbox.items u m
  pub others : AllZip KeepAllButMessages xs ys

-- The lots xs of a level have its patches ps and its lists of register cells es, in place of which stands what the lots had. They have packed
-- what others need, where they had not before, and have from the others what these packed
pub record HaveBeenHanded (t : Lots) (ps qs : List Patch) (es ds : List (Vec EdgeCell)) (xs : List (Box Lot)) : Type 0 where
  pub handed : List (Box Lot)
  pub patches : AreHanded t.each ps t.lots.items handed
  pub patches_back : (k : ℕ) (x : Box Lot) → k < length t.lots.items → run t.each k qs ≡ (slice_index_or t.lots.items k x).value.patches.items
  pub count : length qs ≡ length ps
  pub lent : List (Box Lot)
  pub lists : AreLent t.each es ds handed lent
  pub sent : List (Box Lot)
  pub packed : t.packed ≡ true → sent ≡ lent
  pub packed_now : t.packed ≡ false → AllZip (λ a b. HasSent a.value b.value) lent sent
  pub delivered : AreExchanged sent xs
