-- One lot's messages posted, and those of all lots in turn.
use Rattle.std.proofs.Common.{◌≡◌, ◌≢◌, ◌⊎◌, inl, inr, ℕ, ◌+◌, ◌<◌, ◌≤◌, List, [], ◌∷◌, ◌++◌, length, drop, take, get_or, set, refl, sym, ap, subst, ◌∙◌, arith}
use Rattle.std.specs.Global.{Box, Vec}
use Rattle.std.specs.List.{All, AllZip}
use Rattle.std.proofs.Math.ListN.{length-set}
use Rattle.std.proofs.Math.Seq.{take-append_seam}
use Rattle.std.proofs.lemmas.Bool.{cases_eq}
use Rattle.std.proofs.lemmas.List.{get_or-set_other, get_or-set_same, get_or_default}
use Rattle.amr_ghost.specs.declared.messages.Message.{Message}
use Rattle.amr_lots.specs.declared.lot.Lot.{Lot}
use Rattle.amr_lots.specs.Delivery.{ArePosted, HasTraded, HaveTraded}
use Rattle.amr_register.proofs.EdgeLists.{zip_from}
use Rattle.amr_lots.specs.Runs.{HasBoxes, IsDelivered, KeepAllButMessages, with_messages, with_outbox}

-- the items of a `Vec`, each written anew
pub refilled : {X : Type 0} (n : ℕ) (xs ys : List X) → n ≡ length xs → length ys ≡ length xs → take n (ys ++ drop (length ys) xs) ≡ ys
refilled n xs ys whole same = ap (λ k. take k (ys ++ drop (length ys) xs)) (whole ∙ sym same) ∙ take-append_seam ys (drop (length ys) xs)

-- ---- a lot among lots that gets another outbox

-- so it is with each lot, as the others stay
abbrev HasItsInbox : Lot → Lot → Type 0
HasItsInbox a b = b ≡ with_outbox b.workspace.outbox a

module _ (xs : List (Box Lot)) (i : ℕ) (old new : Box Lot) (lt : i < length xs) where
  set_here : (x : Box Lot) → get_or (set xs i new) i x ≡ new
  set_here x = get_or-set_same xs i new x lt

  set_each : (outbox : Vec Message) → new.value ≡ with_outbox outbox (get_or xs i old).value → (k : ℕ) (x : Box Lot) → HasItsInbox (get_or xs k x).value (get_or (set xs i new) k x).value
  set_each outbox is k x = from (cases_eq k i)
    where
      here : HasItsInbox (get_or xs i x).value (get_or (set xs i new) i x).value
      here = subst (λ (b : Box Lot). HasItsInbox (get_or xs i x).value b.value) (sym (set_here x))
          (subst (λ (a : Box Lot). HasItsInbox a.value new.value) (get_or_default xs i old x lt)
          (subst (λ (b : Lot). HasItsInbox (get_or xs i old).value b) (sym is) refl))

      from : ((k ≡ i) ⊎ (k ≡ i → ⊥)) → HasItsInbox (get_or xs k x).value (get_or (set xs i new) k x).value
      from (inl e) = subst (λ (j : ℕ). HasItsInbox (get_or xs j x).value (get_or (set xs i new) j x).value) (sym e) here
      from (inr other) = subst (λ (b : Box Lot). HasItsInbox (get_or xs k x).value b.value) (sym (get_or-set_other xs i k new x other)) refl

-- ---- one lot's messages posted

-- a lot whose outbox was taken, which traded, and was given the outbox back
is_delivered : (from : ℕ) (y z : Message) (a b c d : Lot) → HasItsInbox a b → HasTraded from y z b c → HasItsInbox c d → length d.workspace.outbox.items ≡ length a.workspace.outbox.items → IsDelivered a d
is_delivered from y z a b c d take traded give count = record {
  others = give
      ∙ ap (with_outbox d.workspace.outbox) traded.others.others
      ∙ ap (with_messages d.workspace.outbox c.workspace.inbox) take
      ∙ ap (λ (xs : Vec Message). with_messages d.workspace.outbox xs a) (sym (ap (λ (e : Lot). e.workspace.inbox) give));
  outbox = count;
  inbox = ap (λ (e : Lot). length e.workspace.inbox.items) give ∙ traded.others.inbox ∙ ap (λ (e : Lot). length e.workspace.inbox.items) take;
}

-- one of the items of a list that has some
some_item : {X : Type 0} (xs : List X) → 0 < length xs → X
some_item [] lt = absurd (omega (arith, lt))
some_item (x ∷ xs) lt = x

-- the outbox of `old`, which is then `taken`, is traded, and `last` gets it back and is then `given`
module _ (from : ℕ) (xs : List (Box Lot)) (there : from < length xs) (boxes : All (HasBoxes (length xs)) xs)
    (old taken : Box Lot) (sent : Vec Message) (sent_is : sent ≡ (get_or xs from old).value.workspace.outbox) (took : taken.value ≡ with_outbox taken.value.workspace.outbox (get_or xs from old).value)
    (before after : List Message) (before_is : before ≡ sent.items) (cs : List (Box Lot)) (traded : HaveTraded from before after (set xs from taken) cs)
    (last given : Box Lot) (back : Vec Message) (back_is : back.items ≡ after) (gave : given.value ≡ with_outbox back (get_or cs from last).value) where
  bs_count : length (set xs from taken) ≡ length xs
  bs_count = length-set xs from taken

  cs_count : length cs ≡ length xs
  cs_count = traded.count ∙ bs_count

  still_there : from < length cs
  still_there = omega (arith, there, cs_count)

  take_each : (k : ℕ) (x : Box Lot) → HasItsInbox (get_or xs k x).value (get_or (set xs from taken) k x).value
  take_each = set_each xs from old taken there taken.value.workspace.outbox took

  give_each : (k : ℕ) (x : Box Lot) → HasItsInbox (get_or cs k x).value (get_or (set cs from given) k x).value
  give_each = set_each cs from last given still_there back gave

  trade_each : (k : ℕ) (m : Message) (x : Box Lot) → k < length xs → HasTraded from (get_or before k m) (get_or after k m) (get_or (set xs from taken) k x).value (get_or cs k x).value
  trade_each k m x lt = traded.each k m x (omega (arith, lt, bs_count))

  sent_items : (x : Box Lot) → before ≡ (get_or xs from x).value.workspace.outbox.items
  sent_items x = before_is ∙ ap (λ (v : Vec Message). v.items) sent_is ∙ ap (λ (b : Box Lot). b.value.workspace.outbox.items) (get_or_default xs from old x there)

  given_here : (x : Box Lot) → (get_or (set cs from given) from x).value ≡ with_outbox back (get_or cs from last).value
  given_here x = ap (λ (b : Box Lot). b.value) (set_here cs from last given still_there x) ∙ gave

  sent_count : (x : Box Lot) → length before ≡ length xs
  sent_count x = ap length (sent_items x) ∙ (boxes from x there).0

  some_message : Box Lot → Message
  some_message x = some_item before (omega (arith, sent_count x, there))

  has_place : (to : ℕ) (x : Box Lot) → to < length xs → from < length (get_or (set xs from taken) to x).value.workspace.inbox.items
  has_place to x lt = omega (arith, there, ap (λ (a : Lot). length a.workspace.inbox.items) (take_each to x), (boxes to x lt).1)

  outbox_stays : (u : ℕ) (x : Box Lot) → u ≢ from → u < length xs → (get_or (set cs from given) u x).value.workspace.outbox ≡ (get_or xs u x).value.workspace.outbox
  outbox_stays u x other lt =
      ap (λ (b : Box Lot). b.value.workspace.outbox) (get_or-set_other cs from u given x other)
      ∙ (trade_each u (some_message x) x lt).outbox
      ∙ ap (λ (b : Box Lot). b.value.workspace.outbox) (get_or-set_other xs from u taken x other)

  outbox_count : (u : ℕ) (x : Box Lot) → u < length xs → ((u ≡ from) ⊎ (u ≡ from → ⊥)) → length (get_or (set cs from given) u x).value.workspace.outbox.items ≡ length (get_or xs u x).value.workspace.outbox.items
  outbox_count u x lt (inl e) = subst (λ (j : ℕ). length (get_or (set cs from given) j x).value.workspace.outbox.items ≡ length (get_or xs j x).value.workspace.outbox.items) (sym e)
      (ap (λ (a : Lot). length a.workspace.outbox.items) (given_here x) ∙ ap length back_is ∙ traded.messages ∙ ap length (sent_items x))
  outbox_count u x lt (inr other) = ap (λ (v : Vec Message). length v.items) (outbox_stays u x other lt)

  pub posted : ArePosted from xs (set cs from given)
  posted = record {
    count = length-set cs from given ∙ cs_count;
    delivered = λ to x m lt.
        ap (λ (a : Lot). get_or a.workspace.inbox.items from m) (give_each to x)
        ∙ ap (λ ms. get_or ms from m) (trade_each to m x lt).brought
        ∙ get_or-set_same (get_or (set xs from taken) to x).value.workspace.inbox.items from (get_or before to m) m (has_place to x lt)
        ∙ ap (λ ms. get_or ms to m) (sent_items x);
    back = λ to x m lt.
        ap (λ (a : Lot). get_or a.workspace.outbox.items to m) (given_here x)
        ∙ ap (λ ms. get_or ms to m) back_is
        ∙ (trade_each to m x lt).taken m
        ∙ ap (λ (a : Lot). get_or a.workspace.inbox.items from m) (take_each to x);
    inboxes = λ u to x m other lt.
        ap (λ (a : Lot). get_or a.workspace.inbox.items u m) (give_each to x)
        ∙ ap (λ ms. get_or ms u m) (trade_each to m x lt).brought
        ∙ get_or-set_other (get_or (set xs from taken) to x).value.workspace.inbox.items from u (get_or before to m) m other
        ∙ ap (λ (a : Lot). get_or a.workspace.inbox.items u m) (take_each to x);
    outboxes = outbox_stays;
    others = λ u x lt. is_delivered from (get_or before u (some_message x)) (get_or after u (some_message x)) (get_or xs u x).value (get_or (set xs from taken) u x).value (get_or cs u x).value (get_or (set cs from given) u x).value
        (take_each u x) (trade_each u (some_message x) x lt) (give_each u x) (outbox_count u x lt (cases_eq u from));
  }

-- ---- the messages of one lot after another

-- those of the first n lots are posted
pub record ArePostedTo (n : ℕ) (lots after : List (Box Lot)) : Type 0 where
  pub count : length after ≡ length lots
  pub delivered : (u t : ℕ) (x : Box Lot) (m : Message) → u < n → t < length lots → get_or (get_or after t x).value.workspace.inbox.items u m ≡ get_or (get_or lots u x).value.workspace.outbox.items t m
  pub back : (u t : ℕ) (x : Box Lot) (m : Message) → u < n → t < length lots → get_or (get_or after u x).value.workspace.outbox.items t m ≡ get_or (get_or lots t x).value.workspace.inbox.items u m
  pub inboxes : (u t : ℕ) (x : Box Lot) (m : Message) → n ≤ u → t < length lots → get_or (get_or after t x).value.workspace.inbox.items u m ≡ get_or (get_or lots t x).value.workspace.inbox.items u m
  pub outboxes : (u : ℕ) (x : Box Lot) → n ≤ u → u < length lots → (get_or after u x).value.workspace.outbox ≡ (get_or lots u x).value.workspace.outbox
  pub others : (u : ℕ) (x : Box Lot) → u < length lots → IsDelivered (get_or lots u x).value (get_or after u x).value

same_lot : (a : Lot) → IsDelivered a a
same_lot a = record { others = refl; outbox = refl; inbox = refl }

delivered_more : (a b c : Lot) → IsDelivered a b → IsDelivered b c → IsDelivered a c
delivered_more a b c h k = record {
  others = k.others ∙ ap (with_messages c.workspace.outbox c.workspace.inbox) h.others;
  outbox = k.outbox ∙ h.outbox;
  inbox = k.inbox ∙ h.inbox;
}

-- what holds of the first n and of the next
with_next : (P : ℕ → Type 0) (n u : ℕ) → u < n + 1 → (u < n → P u) → P n → P u
with_next P n u lt before next = from (cases_eq u n)
  where
    from : ((u ≡ n) ⊎ (u ≡ n → ⊥)) → P u
    from (inl e) = subst P (sym e) next
    from (inr other) = before (omega (arith, lt, other))

pub none_posted : (xs : List (Box Lot)) → ArePostedTo 0 xs xs
none_posted xs = record {
  count = refl;
  delivered = λ u t x m lt lt'. absurd (omega (arith, lt));
  back = λ u t x m lt lt'. absurd (omega (arith, lt));
  inboxes = λ u t x m le lt. refl;
  outboxes = λ u x le lt. refl;
  others = λ u x lt. same_lot (get_or xs u x).value;
}

module _ (n : ℕ) (xs ys : List (Box Lot)) (done : ArePostedTo n xs ys) where
  pub still_boxes : All (HasBoxes (length xs)) xs → All (HasBoxes (length ys)) ys
  still_boxes boxes k x lt =
      let old : k < length xs = omega (arith, lt, done.count) in
      ((done.others k x old).outbox ∙ (boxes k x old).0 ∙ sym done.count, (done.others k x old).inbox ∙ (boxes k x old).1 ∙ sym done.count)

  pub next_posted : (zs : List (Box Lot)) → n < length xs → ArePosted n ys zs → ArePostedTo (n + 1) xs zs
  next_posted zs there next = record {
    count = next.count ∙ done.count;
    delivered = λ u t x m lt lt'. with_next (λ (u : ℕ). get_or (get_or zs t x).value.workspace.inbox.items u m ≡ get_or (get_or xs u x).value.workspace.outbox.items t m) n u lt
        (λ below. next.inboxes u t x m (λ e. omega (arith, e, below)) (still t lt') ∙ done.delivered u t x m below lt')
        (next.delivered t x m (still t lt') ∙ ap (λ (v : Vec Message). get_or v.items t m) (done.outboxes n x (omega arith) there));
    back = λ u t x m lt lt'. with_next (λ (u : ℕ). get_or (get_or zs u x).value.workspace.outbox.items t m ≡ get_or (get_or xs t x).value.workspace.inbox.items u m) n u lt
        (λ below. ap (λ (v : Vec Message). get_or v.items t m) (next.outboxes u x (λ e. omega (arith, e, below)) (omega (arith, below, there, done.count))) ∙ done.back u t x m below lt')
        (next.back t x m (still t lt') ∙ done.inboxes n t x m (omega arith) lt');
    inboxes = λ u t x m le lt. next.inboxes u t x m (λ e. omega (arith, e, le)) (still t lt) ∙ done.inboxes u t x m (omega (arith, le)) lt;
    outboxes = λ u x le lt. next.outboxes u x (λ e. omega (arith, e, le)) (still u lt) ∙ done.outboxes u x (omega (arith, le)) lt;
    others = λ u x lt. delivered_more (get_or xs u x).value (get_or ys u x).value (get_or zs u x).value (done.others u x lt) (next.others u x (still u lt));
  }
    where
      still : (t : ℕ) → t < length xs → t < length ys
      still t lt = omega (arith, lt, done.count)

  pub all_kept : AllZip KeepAllButMessages xs ys
  all_kept = zip_from KeepAllButMessages xs ys done.count (λ k x y lt. subst (KeepAllButMessages (get_or xs k x)) (get_or_default ys k x y (omega (arith, lt, done.count))) (done.others k x lt))
