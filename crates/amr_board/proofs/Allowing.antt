-- Each call's step keeps the rule, and tells what it promises.
use Rattle.std.proofs.Common.{◌≡◌, ◌⊎◌, ℕ, ◌+◌, ◌-◌, ◌%◌, ◌^◌, ◌<◌, ◌≤◌, false, List, ◌∷◌, length, get_or, set, Some, refl, sym, subst, arith}
use Rattle.std.specs.Prelude.{Contains, Option}
use mathlib.Core.Option as lookup
use lib.ListN.{get_elem?}
use Rattle.std.proofs.Math.Nat.{mod-eq_of_lt}
use Rattle.std.proofs.lemmas.List.{set-get_or}
use Rattle.atomic_table.specs.Table.{State, keeps, takes, gives, step, Allows, Splits, Joins}
use Rattle.atomic_table.proofs.Lists.{set_here}
use Rattle.amr_phase.specs.Plans.{PlanOf, planned_face}
use Rattle.amr_board.specs.declared.view.Deed.TheVariants.{Draw, Take, Put, Add, Face, Give}
use Rattle.amr_board.specs.declared.view.View.{View}
use Rattle.amr_board.specs.Views.{current, IsHolding, HoldsNone, IsNextPut, IsNextAdd, after_draw, taking, put_done, add_done, looked, giving, keeps_half, other_half, joined, spent_view}
use Rattle.amr_board.specs.Plays.{Draws, Puts, Faces, Takes}
use Rattle.amr_board.specs.Rule.{Rule}
use Rattle.amr_board.specs.Steps.{MayGive}
use Rattle.amr_board.proofs.Sums.{in_range_at}
use Rattle.amr_board.proofs.Drawing.{small_counter, few_tasks}
use Rattle.amr_board.proofs.Posting.{face_is}
use Rattle.amr_board.proofs.Sharing.{splits_here, joins_here}
use Rattle.amr_board.proofs.Stepping.{as_board, keeps_rule, home_of, add_below, join_is_no_event}
use Rattle.amr_board.proofs.Running.{core_splits}

module _ {P : Type 0} (becomes : P → P → Type 0) where
  -- a load leaves the words as they are
  loaded : (s : State (Option P) (View P)) (i : ℕ) (homes : List (lookup.Option (Option P))) (views : List (View P)) (plan : PlanOf) (pieces : List P)
      → Rule plan pieces becomes (record { words = s.words; homes = homes; views = views }) → Rule plan pieces becomes (record { words = set s.words i (get_or s.words i 0); homes = homes; views = views })
  loaded s i homes views plan pieces = subst (λ (ws : List ℕ). Rule plan pieces becomes (record { words = ws; homes = homes; views = views })) (sym (set-get_or s.words i 0))

  draws_here : (slots id : ℕ) (v : View P) (c : List (ℕ × Option P)) → v.spent ≡ false → v.past ≡ false → HoldsNone v
      → Allows (Rule v.plan v.pieces becomes) slots id (v, c) 0 (λ n. (n + 1) % 2 ^ 64) (λ n m. (m ≡ (after_draw v n, c)) × (length m.0.tasks ≤ length v.plan.tasks))
  draws_here slots id v c live here none s rule size at small =
      let n : ℕ = get_or s.words 0 0 in
      let fits = small_counter becomes s id v rule.sentences at live here none in
      let whole_sum : (n + 1) % 2 ^ 64 ≡ n + 1 = mod-eq_of_lt (let r : n + 1 < 2 ^ 64 = omega arith in r) in
      let w = after_draw v n in
      let t : State (Option P) (View P) = record { words = set s.words 0 (n + 1); homes = s.homes; views = set s.views id w } in
      let ruled : Rule v.plan v.pieces becomes t = keeps_rule becomes s id v rule (at, live) Draw t (none, here, refl) in (
        w,
        keeps,
        tt,
        subst (λ k. Rule v.plan v.pieces becomes (record { words = set s.words 0 k; homes = s.homes; views = set s.views id w })) (sym whole_sum) ruled,
        (refl, few_tasks v.plan v.pieces becomes t id w ruled.sentences (set_here s.views id w (in_range_at s.views id v at))),
      )

  pub draws : (plan : PlanOf) (pieces : List P) (slots id : ℕ) (v : View P) (c : List (ℕ × Option P)) → v.plan ≡ plan → v.pieces ≡ pieces → v.spent ≡ false → v.past ≡ false → HoldsNone v
      → Allows (Rule plan pieces becomes) slots id (v, c) 0 (λ n. (n + 1) % 2 ^ 64) (λ n m. Draws (step {S = Option P} slots 0 1 0 lookup.none) (v, c) n m)
  draws plan pieces slots id v c same same' live here none =
      as_board (λ q ps. Allows (Rule q ps becomes) slots id (v, c) 0 (λ n. (n + 1) % 2 ^ 64) (λ n m. Draws (step {S = Option P} slots 0 1 0 lookup.none) (v, c) n m)) v plan pieces same same' (draws_here slots id v c live here none)

  adds_here : (slots id : ℕ) (v : View P) (c : List (ℕ × Option P)) (word amount : ℕ) → v.spent ≡ false → IsNextAdd v word amount
      → Allows (Rule v.plan v.pieces becomes) slots id (v, c) (1 + v.plan.places + word) (λ n. (n + amount) % 2 ^ 64) (λ n m. m ≡ (add_done v, c))
  adds_here slots id v c word amount live ready s rule size at small =
      let at_word : ℕ = 1 + v.plan.places + word in
      let n : ℕ = get_or s.words at_word 0 in
      let t : State (Option P) (View P) = record { words = set s.words at_word (n + amount); homes = s.homes; views = set s.views id (add_done v) } in
      let fits = add_below becomes s id v rule.sentences at live word amount ready in (
        add_done v,
        keeps,
        tt,
        subst (λ k. Rule v.plan v.pieces becomes (record { words = set s.words at_word k; homes = s.homes; views = set s.views id (add_done v) })) (sym (mod-eq_of_lt fits))
            (keeps_rule becomes s id v rule (at, live) Add t (word, amount, ready, refl)),
        refl,
      )

  pub adds : (plan : PlanOf) (pieces : List P) (slots id : ℕ) (v : View P) (c : List (ℕ × Option P)) (word amount : ℕ) → v.plan ≡ plan → v.pieces ≡ pieces → v.spent ≡ false → IsNextAdd v word amount
      → Allows (Rule plan pieces becomes) slots id (v, c) (1 + plan.places + word) (λ n. (n + amount) % 2 ^ 64) (λ n m. m ≡ (add_done v, c))
  adds plan pieces slots id v c word amount same same' live ready =
      as_board (λ q ps. Allows (Rule q ps becomes) slots id (v, c) (1 + q.places + word) (λ n. (n + amount) % 2 ^ 64) (λ n m. m ≡ (add_done v, c))) v plan pieces same same' (adds_here slots id v c word amount live ready)

  puts_here : (slots id : ℕ) (v : View P) (c : List (ℕ × Option P)) (place amount : ℕ) → v.spent ≡ false → IsNextPut v place amount
      → Allows (Rule v.plan v.pieces becomes) slots id (v, c) (1 + place) (λ _. amount + 1) (λ n m. m ≡ (put_done v place, c))
  puts_here slots id v c place amount live ready s rule size at small =
      let t : State (Option P) (View P) = record { words = set s.words (1 + place) (amount + 1); homes = s.homes; views = set s.views id (put_done v place) } in
      (put_done v place, keeps, tt, keeps_rule becomes s id v rule (at, live) Put t (place, amount, ready, refl), refl)

  pub puts : (plan : PlanOf) (pieces : List P) (slots id : ℕ) (v : View P) (c : List (ℕ × Option P)) (place amount : ℕ) → v.plan ≡ plan → v.pieces ≡ pieces → v.spent ≡ false → IsNextPut v place amount
      → Allows (Rule plan pieces becomes) slots id (v, c) (1 + place) (λ _. amount + 1) (λ n m. Puts (step {S = Option P} slots (1 + place) (amount + 1) 0 lookup.none) (v, c) (amount + 1) m)
  puts plan pieces slots id v c place amount same same' live ready =
      let back : (1 + place) - 1 ≡ place = omega arith in
      subst (λ x. Allows (Rule plan pieces becomes) slots id (v, c) (1 + place) (λ _. amount + 1) (λ n m. m ≡ (put_done v x, c))) (sym back)
      (as_board (λ q ps. Allows (Rule q ps becomes) slots id (v, c) (1 + place) (λ _. amount + 1) (λ n m. m ≡ (put_done v place, c))) v plan pieces same same' (puts_here slots id v c place amount live ready))

  faces_here : (slots id : ℕ) (v : View P) (c : List (ℕ × Option P)) (place : ℕ) → v.spent ≡ false → place < v.plan.places
      → Allows (Rule v.plan v.pieces becomes) slots id (v, c) (1 + place) (λ n. n) (λ n m. (m ≡ (looked v place n, c)) × ((n ≡ 0) ⊎ (n ≡ planned_face v.plan place)) × (Contains v.known place → 0 < n))
  faces_here slots id v c place live lt s rule size at small =
      let h = rule.sentences in
      let n : ℕ = get_or s.words (1 + place) 0 in
      let t : State (Option P) (View P) = record { words = s.words; homes = s.homes; views = set s.views id (looked v place n) } in (
        looked v place n,
        keeps,
        tt,
        loaded s (1 + place) s.homes t.views v.plan v.pieces (keeps_rule becomes s id v rule (at, live) (Face place) t (lt, refl)),
        (refl, face_is becomes s id v h at live place lt, (λ has. (h.known id v place at has).1)),
      )

  pub faces : (plan : PlanOf) (pieces : List P) (slots id : ℕ) (v : View P) (c : List (ℕ × Option P)) (place : ℕ) → v.plan ≡ plan → v.pieces ≡ pieces → v.spent ≡ false → place < plan.places
      → Allows (Rule plan pieces becomes) slots id (v, c) (1 + place) (λ n. n) (λ n m. Faces (step {S = Option P} slots (1 + place) 0 0 lookup.none) (v, c) n m)
  faces plan pieces slots id v c place same same' live lt =
      let back : (1 + place) - 1 ≡ place = omega arith in
      as_board (λ q ps. place < q.places → Allows (Rule q ps becomes) slots id (v, c) (1 + place) (λ n. n) (λ n m. Faces (step {S = Option P} slots (1 + place) 0 0 lookup.none) (v, c) n m)) v plan pieces same same'
      (λ lt'. subst (λ x. Allows (Rule v.plan v.pieces becomes) slots id (v, c) (1 + place) (λ n. n) (λ n m. (m ≡ (looked v x n, c)) × ((n ≡ 0) ⊎ (n ≡ planned_face v.plan x)) × (Contains v.known x → 0 < n))) (sym back)
      (faces_here slots id v c place live lt'))
      lt

  takes_here : (slots id : ℕ) (v : View P) (c : List (ℕ × Option P)) → v.spent ≡ false → IsHolding v (current v).task false
      → Allows (Rule v.plan v.pieces becomes) slots id (v, c) 0 (λ n. n) (λ n m. (p : P) × (get_elem? v.pieces (current v).task ≡ lookup.some p) × (m ≡ (taking v, ((current v).task, Some p) ∷ c)))
  takes_here slots id v c live holding s rule size at small =
      let t : State (Option P) (View P) = record { words = s.words; homes = set s.homes (current v).task lookup.none; views = set s.views id (taking v) } in
      let home = home_of becomes s id v rule.sentences at holding in (
        taking v,
        takes (current v).task (Some home.0),
        home.2,
        loaded s 0 t.homes t.views v.plan v.pieces (keeps_rule becomes s id v rule (at, live) Take t (holding, refl)),
        (home.0, home.1, refl),
      )

  pub takes_as : (plan : PlanOf) (pieces : List P) (slots id : ℕ) (v : View P) (c : List (ℕ × Option P)) → v.plan ≡ plan → v.pieces ≡ pieces → v.spent ≡ false → IsHolding v (current v).task false
      → Allows (Rule plan pieces becomes) slots id (v, c) 0 (λ n. n) (λ n m. Takes (step {S = Option P} slots 0 0 0 lookup.none) (v, c) n m)
  takes_as plan pieces slots id v c same same' live holding =
      as_board (λ q ps. Allows (Rule q ps becomes) slots id (v, c) 0 (λ n. n) (λ n m. Takes (step {S = Option P} slots 0 0 0 lookup.none) (v, c) n m)) v plan pieces same same' (takes_here slots id v c live holding)

  gives_here : (slots id : ℕ) (v : View P) (cs : List (ℕ × Option P)) (piece : P) → v.spent ≡ false → MayGive becomes v piece
      → Allows (Rule v.plan v.pieces becomes) slots id (v, ((current v).task, Some piece) ∷ cs) 0 (λ n. n) (λ n m. m ≡ (giving v, cs))
  gives_here slots id v cs piece live may s rule size at small =
      let t : State (Option P) (View P) = record { words = s.words; homes = set s.homes (current v).task (lookup.some (Some piece)); views = set s.views id (giving v) } in
      (giving v, gives, tt, loaded s 0 t.homes t.views v.plan v.pieces (keeps_rule becomes s id v rule (at, live) Give t (piece, may, refl)), refl)

  pub gives_as : (plan : PlanOf) (pieces : List P) (slots id : ℕ) (v : View P) (cs : List (ℕ × Option P)) (piece : P) → v.plan ≡ plan → v.pieces ≡ pieces → v.spent ≡ false → MayGive becomes v piece
      → Allows (Rule plan pieces becomes) slots id (v, ((current v).task, Some piece) ∷ cs) 0 (λ n. n) (λ n m. m ≡ (giving v, cs))
  gives_as plan pieces slots id v cs piece same same' live may =
      as_board (λ q ps. Allows (Rule q ps becomes) slots id (v, ((current v).task, Some piece) ∷ cs) 0 (λ n. n) (λ n m. m ≡ (giving v, cs))) v plan pieces same same' (gives_here slots id v cs piece live may)

  pub splits : (plan : PlanOf) (pieces : List P) (id : ℕ) (v : View P) → v.plan ≡ plan → v.pieces ≡ pieces → v.spent ≡ false → 2 ≤ v.share → Splits (Rule plan pieces becomes) id v (keeps_half v) (other_half v)
  splits plan pieces id v same same' live two =
      as_board (λ q ps. Splits (Rule q ps becomes) id v (keeps_half v) (other_half v)) v plan pieces same same'
      (λ s rule at. record {
        sentences = splits_here becomes id v live two s rule.sentences at;
        core = record { events = rule.core.events; is_core = core_splits v.plan rule.sentences.is_plan s rule.core.events rule.core.is_core id v at live };
      })

  joins_both : (id other : ℕ) (v w : View P) → v.spent ≡ false → w.spent ≡ false → HoldsNone w → Joins (Rule v.plan v.pieces becomes) id v other w (joined v w) spent_view
  joins_both id other v w live live' none s rule at apart there =
      record {
        sentences = joins_here becomes id other v w live live' none s rule.sentences at apart there;
        core = record { events = rule.core.events; is_core = join_is_no_event becomes s rule id other v w at apart live live' there none rule.core.events rule.core.is_core };
      }

  pub joins : (plan : PlanOf) (pieces : List P) (id other : ℕ) (v w : View P) → v.plan ≡ plan → v.pieces ≡ pieces → v.spent ≡ false → w.spent ≡ false → HoldsNone w → Joins (Rule plan pieces becomes) id v other w (joined v w) spent_view
  joins plan pieces id other v w same same' live live' none =
      as_board (λ q ps. Joins (Rule q ps becomes) id v other w (joined v w) spent_view) v plan pieces same same' (joins_both id other v w live live' none)
