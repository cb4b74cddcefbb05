-- The messages of one lot exchanged with each lot in turn.
use Rattle.std.proofs.Common.{◌≡◌, ◌≢◌, ◌⊎◌, inl, inr, ℕ, ◌+◌, ◌<◌, ◌≤◌, List, length, get_or, set, refl, sym, subst, ◌∙◌, arith}
use Rattle.std.specs.Global.{Box}
use Rattle.std.specs.List.{All}
use Rattle.std.proofs.Math.ListN.{length-set}
use Rattle.std.proofs.lemmas.Bool.{cases_eq}
use Rattle.std.proofs.lemmas.List.{get_or-set_other, get_or-set_same, get_or_default}
use Rattle.amr_ghost.specs.declared.messages.Message.{Message}
use Rattle.amr_lots.specs.declared.lot.Lot.{Lot}
use Rattle.amr_lots.specs.Delivery.{HasTraded, HaveTraded}

-- the messages for the first n lots are exchanged
pub record AreTradedTo (n from : ℕ) (xs ys : List Message) (lots after : List (Box Lot)) : Type 0 where
  pub messages : length ys ≡ length xs
  pub count : length after ≡ length lots
  pub done : (to : ℕ) (m : Message) (x : Box Lot) → to < n → HasTraded from (get_or xs to m) (get_or ys to m) (get_or lots to x).value (get_or after to x).value
  pub rest : (to : ℕ) (m : Message) → n ≤ to → get_or ys to m ≡ get_or xs to m
  pub rest_lots : (to : ℕ) (x : Box Lot) → n ≤ to → get_or after to x ≡ get_or lots to x

pub none_traded : (from : ℕ) (xs : List Message) (lots : List (Box Lot)) → AreTradedTo 0 from xs xs lots lots
none_traded from xs lots = record { messages = refl; count = refl; done = λ to m x lt. absurd (omega (arith, lt)); rest = λ to m le. refl; rest_lots = λ to x le. refl }

module _ (n from : ℕ) (xs ys : List Message) (lots after : List (Box Lot)) (traded : AreTradedTo n from xs ys lots after) where
  pub still_in_box : (x : Box Lot) → n < length lots → All (λ (x : Box Lot). from < length x.value.workspace.inbox.items) lots → from < length (get_or after n x).value.workspace.inbox.items
  still_in_box x lt boxes = subst (λ (b : Box Lot). from < length b.value.workspace.inbox.items) (sym (traded.rest_lots n x (omega arith))) (boxes n x lt)

  pub one_more_traded : (m y : Message) (x b : Box Lot) → n < length xs → n < length lots → HasTraded from (get_or ys n m) y (get_or after n x).value b.value → AreTradedTo (n + 1) from xs (set ys n y) lots (set after n b)
  one_more_traded m y x b lt lt' h = record {
    messages = length-set ys n y ∙ traded.messages;
    count = length-set after n b ∙ traded.count;
    done = λ to m' x' below. each to m' x' below (cases_eq to n);
    rest = λ to m' le. get_or-set_other ys n to y m' (λ e. omega (arith, e, le)) ∙ traded.rest to m' (omega (arith, le));
    rest_lots = λ to x' le. get_or-set_other after n to b x' (λ e. omega (arith, e, le)) ∙ traded.rest_lots to x' (omega (arith, le));
  }
    where
      here : (m' : Message) (x' : Box Lot) → HasTraded from (get_or xs n m') (get_or (set ys n y) n m') (get_or lots n x').value (get_or (set after n b) n x').value
      here m' x' =
          let message : get_or ys n m ≡ get_or xs n m' = traded.rest n m (omega arith) ∙ get_or_default xs n m m' lt in
          let lot : get_or after n x ≡ get_or lots n x' = traded.rest_lots n x (omega arith) ∙ get_or_default lots n x x' lt' in
          let given : y ≡ get_or (set ys n y) n m' = sym (get_or-set_same ys n y m' (omega (arith, lt, traded.messages))) in
          let becomes : b ≡ get_or (set after n b) n x' = sym (get_or-set_same after n b x' (omega (arith, lt', traded.count))) in
          subst (λ (v : Message). HasTraded from v (get_or (set ys n y) n m') (get_or lots n x').value (get_or (set after n b) n x').value) message
          (subst (λ (v : Message). HasTraded from (get_or ys n m) v (get_or lots n x').value (get_or (set after n b) n x').value) given
          (subst (λ (v : Box Lot). HasTraded from (get_or ys n m) y v.value (get_or (set after n b) n x').value) lot
          (subst (λ (v : Box Lot). HasTraded from (get_or ys n m) y (get_or after n x).value v.value) becomes h)))

      before : (to : ℕ) (m' : Message) (x' : Box Lot) → to < n → to ≢ n → HasTraded from (get_or xs to m') (get_or (set ys n y) to m') (get_or lots to x').value (get_or (set after n b) to x').value
      before to m' x' below other =
          subst (λ (v : Message). HasTraded from (get_or xs to m') v (get_or lots to x').value (get_or (set after n b) to x').value) (sym (get_or-set_other ys n to y m' other))
          (subst (λ (v : Box Lot). HasTraded from (get_or xs to m') (get_or ys to m') (get_or lots to x').value v.value) (sym (get_or-set_other after n to b x' other)) (traded.done to m' x' below))

      each : (to : ℕ) (m' : Message) (x' : Box Lot) → to < n + 1 → ((to ≡ n) ⊎ (to ≡ n → ⊥)) → HasTraded from (get_or xs to m') (get_or (set ys n y) to m') (get_or lots to x').value (get_or (set after n b) to x').value
      each to m' x' below (inl e) = subst (λ (i : ℕ). HasTraded from (get_or xs i m') (get_or (set ys n y) i m') (get_or lots i x').value (get_or (set after n b) i x').value) (sym e) (here m' x')
      each to m' x' below (inr other) = before to m' x' (before_last to below other) other
        where
          before_last : (to : ℕ) → to < n + 1 → (to ≡ n → ⊥) → to < n
          before_last to below other = omega (arith, below, other)

  pub all_traded : length lots ≤ n → HaveTraded from xs ys lots after
  all_traded whole = record { messages = traded.messages; count = traded.count; each = λ to m x lt. traded.done to m x (omega (arith, lt, whole)) }
