-- The lots of a level, handed their runs: each packs its messages, and with the messages of all others its frames can be filled.
use Rattle.std.proofs.Common.{◌≡◌, ◌∙◌, ℕ, ◌+◌, ◌*◌, ◌<◌, Bool, true, false, List, length, get_or, map, refl, sym, ap, subst, arith}
use Rattle.std.specs.Global.{Box, Vec}
use Rattle.std.specs.List.{All, AllZip}
use Rattle.std.proofs.lemmas.List.Elements.{All-same, AllZip-get_or, length_all_zip}
use Rattle.amr_def.specs.Domain.{domain}
use Rattle.amr_def.specs.State.{Masses}
use Rattle.amr_patch.specs.declared.patches.Patch.{Patch}
use Rattle.amr_patch.specs.Patches.{box, masses_in}
use Rattle.amr_ghost.specs.Messages.{AreMessagesTo, IsFrameCopy, IsMessageFrom, IsMessageTo, IsReceived, IsTaken}
use Rattle.amr_ghost.specs.Outer.{AreOuterBeside, IsOuterSpan, IsSpanBeside}
use Rattle.amr_ghost.specs.declared.messages.Message.{Message}
use Rattle.amr_ghost.specs.declared.parts.FrameCopy.{FrameCopy}
use Rattle.amr_ghost.specs.declared.parts.FrameParts.{FrameParts}
use Rattle.amr_ghost.specs.declared.sources.GhostSpan.{GhostSpan}
use Rattle.amr_ghost.proofs.Carrying.{carries_packed}
use Rattle.amr_ghost.proofs.PartLaws.{copies_received, copies_taken, outer_beside, outer_spans}
use Rattle.amr_layout.specs.Surroundings.{Around}
use Rattle.amr_register.specs.declared.edges.EdgeCell.{EdgeCell}
use Rattle.amr_register.specs.EdgeCells.{AreEdgesIn, lists_of}
use Rattle.amr_lots.specs.declared.lot.Lot.{Lot}
use Rattle.amr_lots.specs.declared.lot.Workspace.{Workspace}
use Rattle.amr_lots.specs.FrameValues.{CanFill}
use Rattle.amr_lots.specs.Runs.{IsDelivered, KeepAllButMessages, run}
use Rattle.amr_lots.specs.Duties.{HasSent, MaySend}
use Rattle.amr_advance.specs.declared.lots.Lots.{Lots}
use Rattle.amr_advance.specs.Lots.{CarryMasses, ServesRun}
use Rattle.amr_advance.specs.Handed.{AreExchanged}
use Rattle.amr_advance.proofs.Boxes.{IsPackedFrom, all_packed, box_copies, box_crossed, box_packed}
use Rattle.amr_advance.proofs.InLots.{IsInStep, lot_spans}
use Rattle.amr_advance.proofs.LotsHanded.{AreDelivered, AreRunLots, AreSentFrom, HaveLists, HaveRuns, same_patches, still_lots}
use Rattle.amr_advance.proofs.RunLists.{run_alone, run_is}
use Rattle.amr_advance.proofs.Served.{plan_exchanged, plan_sent, same_inbox}

module _ {s : Around} {old : Masses} {t : Lots} (level : IsInStep s old t) where
  abbrev runs : ℕ
  runs = length t.lots.items

  abbrev parts : FrameParts
  parts = level.lots.parts

  abbrev copies : ℕ → ℕ → Vec FrameCopy → List FrameCopy
  copies u k v = (get_or level.lots.parts.copies.items (u * length t.lots.items + k) v).items

  pub taken : (u k : ℕ) (v : Vec FrameCopy) → u < runs → k < runs → All (IsTaken (run t.each u s.patches)) (copies u k v)
  taken u k v from_there there = copies_taken (domain s.problem s.level) s.patches s.patches level.lots.plan t.each runs parts (lot_spans s t level.lots) level.lots.parted (same_patches level) u k (run t.each u s.patches) v from_there there (run_is t.each u s.patches)

  received : (u k : ℕ) (v : Vec FrameCopy) → u < runs → k < runs → All (IsReceived (run t.each k s.patches)) (copies u k v)
  received u k v from_there there = copies_received (domain s.problem s.level) s.patches s.patches level.lots.plan t.each runs parts (lot_spans s t level.lots) level.lots.parted (same_patches level) u k (run t.each k s.patches) v from_there there (run_is t.each k s.patches)

  beside : (k : ℕ) (v : Vec GhostSpan) → k < runs → All (IsSpanBeside (run t.each k s.patches)) (get_or level.lots.parts.outer.items k v).items
  beside k v there = outer_beside (domain s.problem s.level) s.patches s.patches level.lots.plan t.each runs parts (lot_spans s t level.lots) level.lots.parted (same_patches level) k (run t.each k s.patches) v there (run_is t.each k s.patches)

  -- ---- the messages packed

  module _ {lent xs : List (Box Lot)} (h : HaveRuns level lent xs) where
    sends : (k : ℕ) (x : Box Lot) → k < runs → All (IsMessageFrom (run t.each k s.patches)) (get_or xs k x).value.workspace.outbox.items
    sends k x lt = box_copies ((h.lots.of k x lt).serves.outbox) (IsTaken (run t.each k s.patches)) (get_or xs k x).value.workspace.copies (λ i there. taken k i (get_or xs k x).value.workspace.copies lt there)

    may_send : (k : ℕ) (x : Box Lot) → k < runs → MaySend (get_or xs k x).value
    may_send k x lt = subst (λ rs. All (IsMessageFrom rs) (get_or xs k x).value.workspace.outbox.items) (sym (h.patches k x lt)) (sends k x lt)

    pub all_may_send : All (λ (x : Box Lot). MaySend x.value) xs
    all_may_send = λ k x lt. may_send k x (omega (arith, lt, h.lots.count))

    -- what carries the masses of the level is packed from the runs
    already_sent : CarryMasses (masses_in s.patches) xs → AreSentFrom level lent xs
    already_sent carried = record {
      all = h;
      packed = λ k x lt i m below.
          let y : Message = get_or (get_or xs k x).value.workspace.outbox.items i m in
          carries_packed t.each k s.patches (run t.each k s.patches) level.may.once (run_is t.each k s.patches) y.copies.items y.masses.items (sends k x lt i m below).0 (carried k x (omega (arith, lt, h.lots.count)) i m below);
    }

    -- and so is what they pack now
    now_sent : (ys : List (Box Lot)) → AllZip (λ (a b : Box Lot). HasSent a.value b.value) xs ys → AreSentFrom level lent ys
    now_sent ys g = record {
      all = record {
        lots = still_lots level xs ys h.lots (length_all_zip (λ (a b : Box Lot). HasSent a.value b.value) xs ys g) (λ k x lt. plan_sent (get_or xs k x).value (get_or ys k x).value (sent k x lt))
            (λ k x lt. ap (λ (z : Lot). z.workspace.outer) (sent k x lt).others) (λ k x lt. ap (λ (z : Lot). z.before) (sent k x lt).others)
            (λ k x lt. box_packed (h.lots.of k x lt).serves.outbox (get_or xs k x).value.patches.items (get_or ys k x).value.workspace.outbox.items lt (sent k x lt).packed)
            (λ k x lt. same_inbox (h.lots.of k x lt).serves (get_or ys k x).value.workspace (plan_sent (get_or xs k x).value (get_or ys k x).value (sent k x lt)) (ap (λ (z : Lot). z.workspace.inbox) (sent k x lt).others));
        patches = λ k x lt. ap (λ (z : Lot). z.patches.items) (sent k x lt).others ∙ h.patches k x lt;
        edges = λ k x lt. ap (λ (z : Lot). z.edges) (sent k x lt).others ∙ h.edges k x lt;
      };
      packed = λ k x lt.
          let out : List Message = (get_or ys k x).value.workspace.outbox.items in
          subst (λ rs. All (IsPackedFrom rs) out) (h.patches k x lt) (all_packed (get_or xs k x).value.patches.items (get_or xs k x).value.workspace.outbox.items out (sent k x lt).packed);
    }
      where
        sent : (k : ℕ) (x : Box Lot) → k < runs → HasSent (get_or xs k x).value (get_or ys k x).value
        sent k x lt = AllZip-get_or (λ (a b : Box Lot). HasSent a.value b.value) xs ys k x x g (omega (arith, lt, h.lots.count))

  -- so they are sent in either case, by what was told of them before
  pub sent_from : {lent : List (Box Lot)} → HaveRuns level lent lent → (CarryMasses (masses_in s.patches) t.lots.items → CarryMasses (masses_in s.patches) lent) → (t.packed ≡ true → CarryMasses (masses_in s.patches) t.lots.items) → (xs : List (Box Lot)) → (t.packed ≡ true → xs ≡ lent)
      → (t.packed ≡ false → AllZip (λ (a b : Box Lot). HasSent a.value b.value) lent xs) → AreSentFrom level lent xs
  sent_from {lent = lent} h carried current xs kept sent = by_case t.packed refl
    where
      by_case : (b : Bool) → t.packed ≡ b → AreSentFrom level lent xs
      by_case true is = subst (AreSentFrom level lent) (sym (kept is)) (already_sent h (carried (current is)))
      by_case false is = now_sent h xs (sent is)

  -- ---- the messages delivered

  module _ {lent xs ys : List (Box Lot)} (g : AreSentFrom level lent xs) (d : AreExchanged xs ys) where
    comes : (u k : ℕ) (x : Box Lot) (m : Message) → u < runs → k < runs → get_or (get_or ys k x).value.workspace.inbox.items u m ≡ get_or (get_or xs u x).value.workspace.outbox.items k m
    comes u k x m from_there there = let n = g.all.lots.count in d.delivered u k x m (omega (arith, from_there, n)) (omega (arith, there, n))

    one_delivered : (k : ℕ) (x : Box Lot) → k < runs → IsDelivered (get_or xs k x).value (get_or ys k x).value
    one_delivered k x lt = let n = g.all.lots.count in AllZip-get_or KeepAllButMessages xs ys k x x d.others (omega (arith, lt, n))

    delivered_lots : AreRunLots level ys
    delivered_lots =
        let n = g.all.lots.count in
        still_lots level xs ys g.all.lots (length_all_zip KeepAllButMessages xs ys d.others) (λ k x lt. plan_exchanged (get_or xs k x).value (get_or ys k x).value (one_delivered k x lt))
        (λ k x lt. ap (λ (z : Lot). z.workspace.outer) (one_delivered k x lt).others) (λ k x lt. ap (λ (z : Lot). z.before) (one_delivered k x lt).others)
        (λ k x lt. box_crossed parts (λ i u. u * runs + i) k runs (get_or ys k x).value.workspace.outbox.items (λ i. (get_or xs i x).value.workspace.inbox.items) lt ((one_delivered k x lt).outbox ∙ (g.all.lots.of k x lt).serves.outbox.count) (λ i there. (g.all.lots.of i x there).serves.inbox) (λ i m there. d.back k i x m (omega (arith, lt, n)) (omega (arith, there, n))))
        (λ k x lt. box_crossed parts (λ u i. u * runs + i) k runs (get_or ys k x).value.workspace.inbox.items (λ u. (get_or xs u x).value.workspace.outbox.items) lt ((one_delivered k x lt).inbox ∙ (g.all.lots.of k x lt).serves.inbox.count) (λ u there. (g.all.lots.of u x there).serves.outbox) (λ u m there. comes u k x m there lt))

    -- each has the messages that it needs
    messages_to : (k : ℕ) (x : Box Lot) → k < runs → AreMessagesTo parts t.each runs k s.patches (get_or ys k x).value.workspace.inbox.items
    messages_to k x lt =
        let b = (delivered_lots.of k x lt).serves.inbox in
        record {
          count = b.count;
          copies = b.copies;
          own = b.own;
          packed = λ u m us from_there is.
              let n = (g.all.lots.of u x from_there).serves.outbox.count in
              subst (IsPackedFrom us) (sym (comes u k x m from_there lt))
              (subst (λ rs. IsPackedFrom rs (get_or (get_or xs u x).value.workspace.outbox.items k m)) (sym (run_alone t.each u s.patches us is)) (g.packed u x from_there k m (omega (arith, lt, n))));
        }

    pub delivered_to : AreDelivered level lent ys
    delivered_to = record {
      all = record {
        lots = delivered_lots;
        patches = λ k x lt. ap (λ (z : Lot). z.patches.items) (one_delivered k x lt).others ∙ g.all.patches k x lt;
        edges = λ k x lt. ap (λ (z : Lot). z.edges) (one_delivered k x lt).others ∙ g.all.edges k x lt;
      };
      messages = messages_to;
    }

  -- ---- what fills frames

  -- by a workspace of run k, of the run's patches or of others that are those
  pub can_fill : (k : ℕ) → k < length t.lots.items → (x : Workspace) → ServesRun s t.each k (length t.lots.items) level.lots.parts x → (rs : List Patch) → rs ≡ run t.each k s.patches → CanFill s.problem s.level rs x
  can_fill k lt x of rs is = record {
    level = level.may.level;
    spans = All-same (IsOuterSpan (domain s.problem s.level)) x.outer.spans.items (get_or level.lots.parts.outer.items k x.outer.spans).items (of.outer x.outer.spans) (outer_spans (domain s.problem s.level) s.patches level.lots.plan t.each runs parts (lot_spans s t level.lots) level.lots.parted k x.outer.spans lt);
    outer = subst (λ rs. AreOuterBeside rs x.outer) (sym is) (All-same (IsSpanBeside (run t.each k s.patches)) x.outer.spans.items (get_or level.lots.parts.outer.items k x.outer.spans).items (of.outer x.outer.spans) (beside k x.outer.spans lt), of.outer_places);
    copies = subst (λ rs. All (IsFrameCopy rs) x.copies.items) (sym is) (All-same (IsFrameCopy (run t.each k s.patches)) x.copies.items (copies k k x.copies) (of.copies x.copies) (λ i c below. (taken k k x.copies lt lt i c below, received k k x.copies lt lt i c below)));
    messages = subst (λ rs. All (IsMessageTo rs) x.inbox.items) (sym is) (box_copies of.inbox (IsReceived (run t.each k s.patches)) x.copies (λ u there. received u k x.copies there lt));
  }

  module _ {lent xs : List (Box Lot)} (d : AreDelivered level lent xs) where
    -- the lists of register cells that it was lent
    pub has_lists : HaveLists level lent → (k : ℕ) (x : Box Lot) → k < runs → AllZip AreEdgesIn (map box (get_or xs k x).value.patches.items) (lists_of (get_or xs k x).value.edges.items)
    has_lists lists k x lt =
        subst (λ rs. AllZip AreEdgesIn (map box rs) (lists_of (get_or xs k x).value.edges.items)) (sym (d.all.patches k x lt))
        (subst (λ (es : Vec (Vec EdgeCell)). AllZip AreEdgesIn (map box (run t.each k s.patches)) (lists_of es.items)) (sym (d.all.edges k x lt)) (lists k x lt))
