-- Each deed of a seat keeps the rule, and makes one event.
use Rattle.std.proofs.Common.{◌≡◌, ◌≢◌, ℕ, zero, suc, ◌+◌, ◌^◌, ◌<◌, cond, true, false, true≢false, List, ◌∷◌, ◌++◌, [], length, get_or, set, Some, refl, sym, ap, ◌∙◌, subst, ⊎_elim, arith}
use Rattle.std.specs.Prelude.{Option, nat_lt}
use mathlib.Core.Option as lookup
use lib.ListN.{get_elem?}
use Rattle.atomic_table.specs.Table.{State}
use Rattle.atomic_table.proofs.Lists.{at_set}
use Rattle.amr_phase.specs.Plans.{PlanOf}
use Rattle.amr_board.specs.declared.view.Deed.{Deed}
use Rattle.amr_board.specs.declared.view.Deed.TheVariants.{Draw, Take, Put, Add, Face, Give}
use Rattle.amr_board.specs.declared.view.Progress.{Progress}
use Rattle.amr_board.specs.declared.view.View.{View}
use Rattle.amr_board.specs.Views.{current, no_progress, IsHolding, HoldsNone, IsNextAdd, HasDone, drawn, gone, after_draw, taking, put_done, add_done, looked, giving, joined, spent_view}
use Rattle.amr_board.specs.Core.{event_of}
use Rattle.amr_board.specs.Rule.{Rule, Sentences, IsHome, stage}
use Rattle.amr_board.specs.Steps.{IsSeen, Leaves, GrowsBy, HasNoEvent}
use Rattle.amr_board.proofs.Sums.{found_at, got}
use Rattle.amr_board.proofs.Keeping.{stage_alone, task_known}
use Rattle.amr_board.proofs.Drawing.{either_way}
use Rattle.amr_board.proofs.Taking.{moved}
use Rattle.amr_board.proofs.Posting.{adds_rule, puts_rule, looks_rule, put_in_range, add_in_range}
use Rattle.amr_board.proofs.Showing.{take_event, put_event, add_event, face_event, give_event}
use Rattle.amr_board.proofs.ShowingDraws.{draw_event}
use Rattle.amr_board.proofs.Running.{core_steps, core_joins}

-- what is shown of the plan and the pieces of a view's own holds of the board's, since they are the same
pub as_board : {P : Type 0} (F : PlanOf → List P → Type 0) (v : View P) (plan : PlanOf) (pieces : List P) → v.plan ≡ plan → v.pieces ≡ pieces → F v.plan v.pieces → F plan pieces
as_board F v plan pieces same same' here = subst (λ (q : PlanOf). F q pieces) same (subst (λ (ps : List _). F v.plan ps) same' here)

after_has_drawn : {P : Type 0} (v : View P) (n : ℕ) → HasDone Draw v (after_draw v n)
after_has_drawn v n = elim (nat_lt n (length v.plan.tasks)) as (λ b. HasDone Draw v (cond b (drawn v n) (gone v))) [ true ↦ (refl, refl) | false ↦ (refl, refl) ]

module _ {P : Type 0} (becomes : P → P → Type 0) (s : State (Option P) (View P)) (id : ℕ) (v : View P) where
  -- the slot of a task that was drawn and not taken holds the piece as it was handed in
  pub home_of : (h : Sentences v.plan v.pieces becomes s) → get_elem? s.views id ≡ lookup.some v → IsHolding v (current v).task false
      → (p : P) × (get_elem? v.pieces (current v).task ≡ lookup.some p) × (get_elem? s.homes (current v).task ≡ lookup.some (lookup.some (Some p)))
  home_of h at holding =
      let e = current v in
      let known : e.task < length v.pieces = (let k = task_known v.plan v.pieces becomes s h id v at e.task holding.held refl in let n = h.task_count in omega arith) in
      let found : (p : P) × (get_elem? v.pieces e.task ≡ lookup.some p) = found_at v.pieces e.task known in
      let one : stage e ≡ 1 = ap (λ b. cond {A = ℕ} b 3 (cond {A = ℕ} e.taken 2 1)) holding.ungiven ∙ ap (λ b. cond {A = ℕ} b 2 1) holding.is_taken in
      let slot = h.slots e.task found.0 found.1 in
      let full : slot.0 ≡ lookup.some (Some found.0) = subst (λ n. IsHome becomes found.0 n slot.0) (stage_alone v.plan v.pieces becomes s h id v at e.task holding.held refl ∙ one) slot.2 in
      (found.0, found.1, slot.1 ∙ ap lookup.some full)

  -- an add that is left keeps its word below 2^64
  pub add_below : (h : Sentences v.plan v.pieces becomes s) → get_elem? s.views id ≡ lookup.some v → v.spent ≡ false → (word amount : ℕ) → IsNextAdd v word amount → get_or s.words (1 + v.plan.places + word) 0 + amount < 2 ^ 64
  add_below h at live word amount ready = (adds_rule becomes s id v h at live word amount ready).0

  module _ (rule : Rule v.plan v.pieces becomes s) (seen : IsSeen s id v) where
    abbrev h : Sentences v.plan v.pieces becomes s
    h = rule.sentences

    abbrev Kept : State (Option P) (View P) → Type 0
    Kept = Sentences v.plan v.pieces becomes

    keeps_sentences : (d : Deed) (t : State (Option P) (View P)) → Leaves becomes s id v d t → Kept t
    keeps_sentences Draw t left = subst Kept (sym left.2) (either_way becomes s id v h seen.0 seen.1 left.1 left.0)
    keeps_sentences Take t left =
        let holding = left.0 in
        subst Kept (sym left.1)
        (moved becomes s id v h seen.0 Take (record (current v) { taken = true }) holding.held refl lookup.none
        (λ p is. subst (λ b. IsHome becomes p (cond {A = ℕ} b 3 2) lookup.none) (sym holding.ungiven) refl) seen.1 refl refl
        (record { not_taken = λ x. absurd (true≢false x); given = λ x. absurd (true≢false (sym x ∙ holding.ungiven)); older = λ x. absurd (omega arith) }))
    keeps_sentences Put t left = subst Kept (sym left.3) (puts_rule becomes s id v h seen.0 seen.1 left.0 left.1 left.2)
    keeps_sentences Add t left = subst Kept (sym left.3) (adds_rule becomes s id v h seen.0 seen.1 left.0 left.1 left.2).1
    keeps_sentences (Face place) t left = subst Kept (sym left.1) (looks_rule becomes s id v h seen.0 seen.1 place left.0)
    keeps_sentences Give t left =
        let may = left.1 in
        let holding = may.holding in
        subst Kept (sym left.2)
        (moved becomes s id v h seen.0 Give (record (current v) { given = true }) holding.held refl (lookup.some (Some left.0))
        (λ p is. (left.0, may.becomes_it p is, refl)) seen.1 refl refl
        (record { not_taken = λ x. absurd (true≢false (sym holding.is_taken ∙ x)); given = λ _. (may.puts, may.adds); older = λ x. absurd (omega arith) }))

    abbrev Grows : Deed → State (Option P) (View P) → Type 0
    Grows d t = GrowsBy v.plan s t (event_of id d)

    pub grows : (d : Deed) (t : State (Option P) (View P)) → Leaves becomes s id v d t → Grows d t
    grows Draw t left =
        let n : ℕ = get_or s.words 0 0 in
        subst (Grows Draw) (sym left.2)
        (λ es core. core_steps v.plan h.is_plan s es core id v (after_draw v n) Draw (set s.words 0 (n + 1)) s.homes seen.0 seen.1 (after_has_drawn v n)
        (λ c good shows. draw_event v.plan v.pieces becomes s h c good shows id v seen.0 seen.1 left.0 left.1 refl h.sized))
    grows Take t left =
        let homes = set s.homes (current v).task lookup.none in
        subst (Grows Take) (sym left.1)
        (λ es core. core_steps v.plan h.is_plan s es core id v (taking v) Take s.words homes seen.0 seen.1 (refl, refl)
        (λ c good shows. take_event v.plan v.pieces becomes s h c good shows id v seen.0 seen.1 homes (current v).task left.0))
    grows Put t left =
        let place = left.0 in
        let amount = left.1 in
        subst (Grows Put) (sym left.3)
        (λ es core. core_steps v.plan h.is_plan s es core id v (put_done v place) Put (set s.words (1 + place) (amount + 1)) s.homes seen.0 seen.1 (refl, refl)
        (λ c good shows. put_event v.plan v.pieces becomes s h c good shows id v seen.0 seen.1 place amount left.2 refl (put_in_range v h.is_plan place amount left.2) h.sized))
    grows Add t left =
        let word = left.0 in
        let amount = left.1 in
        let at_word : ℕ = 1 + v.plan.places + word in
        subst (Grows Add) (sym left.3)
        (λ es core. core_steps v.plan h.is_plan s es core id v (add_done v) Add (set s.words at_word (get_or s.words at_word 0 + amount)) s.homes seen.0 seen.1 (refl, refl)
        (λ c good shows. add_event v.plan v.pieces becomes s h c good shows id v seen.0 seen.1 word amount left.2 refl (add_in_range v h.is_plan word amount left.2) h.sized))
    grows (Face place) t left =
        let n : ℕ = get_or s.words (1 + place) 0 in
        subst (Grows (Face place)) (sym left.1)
        (λ es core. core_steps v.plan h.is_plan s es core id v (looked v place n) (Face place) s.words s.homes seen.0 seen.1 (refl, refl)
        (λ c good shows. face_event v.plan v.pieces becomes s h c good shows id v seen.0 seen.1 place n left.0))
    grows Give t left =
        let may = left.1 in
        let homes = set s.homes (current v).task (lookup.some (Some left.0)) in
        subst (Grows Give) (sym left.2)
        (λ es core. core_steps v.plan h.is_plan s es core id v (giving v) Give s.words homes seen.0 seen.1 (refl, refl)
        (λ c good shows. give_event v.plan v.pieces becomes s h c good shows id v seen.0 seen.1 homes may.holding may.puts may.adds))

    pub keeps_rule : (d : Deed) (t : State (Option P) (View P)) → Leaves becomes s id v d t → Rule v.plan v.pieces becomes t
    keeps_rule d t left =
        let core = rule.core in
        record { sentences = keeps_sentences d t left; core = record { events = core.events ++ event_of id d ∷ []; is_core = grows d t left core.events core.is_core } }

module _ {P : Type 0} (becomes : P → P → Type 0) (s : State (Option P) (View P)) where
  pub join_is_no_event : {plan : PlanOf} {pieces : List P} (rule : Rule plan pieces becomes s) (id other : ℕ) (v w : View P) → get_elem? s.views id ≡ lookup.some v → other ≢ id → v.spent ≡ false → w.spent ≡ false
      → get_elem? (set s.views id (joined v w)) other ≡ lookup.some w → HoldsNone w
      → HasNoEvent plan s (record { words = s.words; homes = s.homes; views = set (set s.views id (joined v w)) other spent_view })
  join_is_no_event {plan} rule id other v w at apart live live' there none es core =
      let at_other : get_elem? s.views other ≡ lookup.some w
      = ⊎_elim (λ (t : (other ≡ id) × (joined v w ≡ w)). absurd (apart t.0)) (λ (t : (other ≢ id) × (get_elem? s.views other ≡ lookup.some w)). t.1) (at_set s.views id other (joined v w) w there) in
      core_joins plan rule.sentences.is_plan s es core id other v w at at_other apart live live' there (all_given at_other)
    where
      all_given : get_elem? s.views other ≡ lookup.some w → (i : ℕ) (e : Progress) → get_elem? w.tasks i ≡ lookup.some e → e.given ≡ true
      all_given at_other zero e is = subst (λ (x : Progress). x.given ≡ true) (got w.tasks 0 e no_progress is) none
      all_given at_other (suc i) e is = (rule.sentences.tasks other w at_other (suc i) e is).older (omega arith)

-- the same over the board's plan and pieces, which are those of the view
module _ {P : Type 0} (becomes : P → P → Type 0) (plan : PlanOf) (pieces : List P) (s : State (Option P) (View P)) (id : ℕ) (v : View P) (rule : Rule plan pieces becomes s) (seen : IsSeen s id v) where
  own : (v.plan ≡ plan) × (v.pieces ≡ pieces)
  own = rule.sentences.same_plan id v seen.0 seen.1

  pub board_keeps_rule : (d : Deed) (t : State (Option P) (View P)) → Leaves becomes s id v d t → Rule plan pieces becomes t
  board_keeps_rule d t left =
      as_board (λ q ps. Rule q ps becomes s → Rule q ps becomes t) v plan pieces own.0 own.1 (λ r. keeps_rule becomes s id v r seen d t left) rule

  pub board_grows : (d : Deed) (t : State (Option P) (View P)) → Leaves becomes s id v d t → GrowsBy plan s t (event_of id d)
  board_grows d t left =
      as_board (λ q ps. Rule q ps becomes s → GrowsBy q s t (event_of id d)) v plan pieces own.0 own.1 (λ r. grows becomes s id v r seen d t left) rule
