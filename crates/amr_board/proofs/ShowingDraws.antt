-- A draw is one event of the machine that the board shows.
use Rattle.std.proofs.Common.{◌≡◌, ◌≢◌, ℕ, zero, suc, ◌+◌, ◌<◌, ◌≤◌, cond, min, Bool, true, false, true≢false, List, length, get_or, set, Some, None, refl, sym, ap, ◌∙◌, subst, ⊎_elim, arith, lt_of_not-le}
use Rattle.std.specs.Prelude.{Option, position, slice_index_or}
use mathlib.Core.Option as lookup
use mathlib.Core.Logic.{dite}
use native.Mathlib.Decide.{ℕ_discrete, dec_le}
use lib.ListN.{get_elem?}
use Rattle.std.proofs.Math.ListN.{length-set}
use Rattle.std.proofs.lemmas.List.{get_or-set_same, get_or-set_other, get_or_past}
use Rattle.std.proofs.lemmas.List.Quantifiers.{position-Some}
use Rattle.std.proofs.lemmas.Bool.{lt-ltb, le-ltb}
use Rattle.atomic_table.specs.Table.{State}
use Rattle.atomic_table.proofs.Lists.{at_set}
use Rattle.amr_phase.specs.declared.machine.Stage.TheVariants.{Drawn, Held, Given}
use Rattle.amr_phase.specs.Plans.{PlanOf, total}
use Rattle.amr_phase.specs.Machine.{CoreOf, is_with, is_waiting, stage_of, next_of, drawn as drawn_in, can_draw}
use Rattle.amr_phase.specs.Laws.{IsConsistent}
use Rattle.amr_phase.proofs.Sums.{same_default}
use Rattle.amr_board.specs.declared.view.Deed.TheVariants.{Draw}
use Rattle.amr_board.specs.declared.view.Progress.{Progress}
use Rattle.amr_board.specs.declared.view.View.{View}
use Rattle.amr_board.specs.Views.{no_progress, HoldsNone, drawn, gone, after_draw}
use Rattle.amr_board.specs.Core.{Shows, event_of, stage_shown}
use Rattle.amr_board.specs.Rule.{Sentences, numbers}
use Rattle.amr_board.proofs.Sums.{got, in_range_at, some_member}
use Rattle.amr_board.proofs.Keeping.{hit, hit_in, hit_is}
use Rattle.amr_board.proofs.Showing.{given_is, not_with, here, count_tasks, older}

module _ {P : Type 0} (plan : PlanOf) (pieces : List P) (becomes : P → P → Type 0) (s : State (Option P) (View P)) (h : Sentences plan pieces becomes s)
    (c : CoreOf) (good : IsConsistent c) (shows : Shows plan s c) (id : ℕ) (v : View P) (at : get_elem? s.views id ≡ lookup.some v) (live : v.spent ≡ false) where
  -- The seat holds no task
  module _ (none : HoldsNone v) (not_past : v.past ≡ false) where
    all_given : (i : ℕ) (e : Progress) → get_elem? v.tasks i ≡ lookup.some e → e.given ≡ true
    all_given i e is =
        dite (ℕ_discrete i 0)
        (λ z. subst (λ (x : Progress). x.given ≡ true) (got v.tasks 0 e no_progress (ap (get_elem? v.tasks) (sym z) ∙ is)) none)
        (λ ne. older plan pieces becomes s h c good shows id v at live i e is ne)

    -- a task that some view has is not with it
    not_mine : (n k i : ℕ) (u : View P) (e : Progress) → get_elem? s.views k ≡ lookup.some u → get_elem? u.tasks i ≡ lookup.some e → e.task ≡ n → is_with id (stage_of c n) ≡ false
    not_mine n k i u e is in_u same =
        ap (λ m. is_with id (stage_of c m)) (sym same)
        ∙ (ap (is_with id) (shows.noted k u is i e in_u)
        ∙ dite (ℕ_discrete k id)
        (λ mine.
        let view_is : u ≡ v = lookup.some-injective u v (sym is ∙ (ap (get_elem? s.views) mine ∙ at)) in
        ap (is_with id) (given_is e.given (cond e.taken (Held k e.puts e.adds) (Drawn k)) (all_given i e (ap (λ (y : View P). get_elem? y.tasks i) (sym view_is) ∙ in_u))))
        (λ ne. not_with id k e ne))

    -- and no task of the machine is with it
    free : (n : ℕ) → is_with id (stage_of c n) ≡ false
    free n =
        dite (dec_le (length c.stages) n)
        (λ le. ap (is_with id) (get_or_past c.stages n Given le))
        (λ lt.
        let n_lt = lt_of_not-le lt in
        dite (dec_le c.counter n)
        (λ le. ap (is_with id) (shows.waiting n le n_lt))
        (λ below.
        let n_below = lt_of_not-le below in
        let m : ℕ = min (get_or s.words 0 0) (length plan.tasks) in
        let inside : n < m = (let a = shows.counter in let b = count_tasks plan pieces becomes s h c good shows id v at live in omega arith) in
        let one : total (numbers (hit n)) s.views ≡ 1 = h.each_once (hit n) ∙ hit_in n 0 m (omega arith) (omega arith) in
        let holder = some_member (numbers (hit n)) s.views (omega arith) in
        let entry = some_member (λ (e : Progress). hit n e.task) holder.1.tasks (let k = holder.3 in omega arith) in
        not_mine n holder.0 entry.0 holder.1 entry.1 holder.2 entry.2 (hit_is n entry.1.task entry.3)))

    no_position : position (is_with id) c.stages ≡ None
    no_position = found (position (is_with id) c.stages) refl
      where
        found : (o : Option ℕ) → position (is_with id) c.stages ≡ o → position (is_with id) c.stages ≡ None
        found None e = e
        found (Some u) e = absurd (true≢false (sym (position-Some (is_with id) c.stages u Given e).1 ∙ free u))

    not_drawn_past : slice_index_or c.past id true ≡ false
    not_drawn_past = in_past (slice_index_or c.past id false) refl
      where
        id_lt : id < length c.past
        id_lt = (let n = in_range_at s.views id v at in let m = shows.enough in omega arith)

        in_past : (b : Bool) → slice_index_or c.past id false ≡ b → slice_index_or c.past id true ≡ false
        in_past true e = absurd (true≢false (sym (shows.past id v at live e) ∙ not_past))
        in_past false e = same_default c.past id true false id_lt ∙ e

    can : can_draw (position (is_with id) c.stages) (slice_index_or c.past id true) ≡ true
    can = ap (λ o. can_draw o (slice_index_or c.past id true)) no_position ∙ ap (can_draw None) not_drawn_past

    draws : next_of c (event_of id Draw) ≡ Some (drawn_in c id)
    draws = ap (λ b. cond b (cond (can_draw (position (is_with id) c.stages) (slice_index_or c.past id true)) (Some (drawn_in c id)) None) None) (here plan pieces becomes s h c good shows id v at live) ∙ ap (λ b. cond b (Some (drawn_in c id)) None) can

    abbrev n : ℕ
    n = get_or s.words 0 0

    abbrev counted : List ℕ
    counted = set s.words 0 (n + 1)

    is_counter : c.counter ≡ n
    is_counter = shows.counter

    zeroth : length s.words ≡ 1 + plan.places + plan.words → get_or counted 0 0 ≡ n + 1
    zeroth size = get_or-set_same s.words 0 (n + 1) 0 (let k = size in omega arith)

    other_word : (i : ℕ) → 0 < i → get_or s.words i 0 ≡ get_or counted i 0
    other_word i pos = sym (get_or-set_other s.words 0 i (n + 1) 0 (λ e. absurd (omega arith)))

    -- it draws the counter's task
    module _ (size : length s.words ≡ 1 + plan.places + plan.words) (lt : n < length plan.tasks) where
      abbrev with_task : CoreOf
      with_task = record c { counter = c.counter + 1; stages = set c.stages c.counter (Drawn id) }

      in_stages : c.counter < length c.stages
      in_stages = (let a = is_counter in let b = count_tasks plan pieces becomes s h c good shows id v at live in omega arith)

      becomes_with_task : drawn_in c id ≡ with_task
      becomes_with_task = ap (λ b. cond b with_task (record c { counter = c.counter + 1; past = set c.past id true })) (lt-ltb c.counter (length c.stages) in_stages)

      -- nobody has it yet
      unseen : (k i : ℕ) (u : View P) (e : Progress) → get_elem? s.views k ≡ lookup.some u → get_elem? u.tasks i ≡ lookup.some e → e.task ≢ c.counter
      unseen k i u e is in_u same =
          true≢false
          (sym (ap is_waiting (shows.waiting c.counter (omega arith) in_stages))
          ∙ (ap (λ m. is_waiting (stage_of c m)) (sym same) ∙ (ap is_waiting (shows.noted k u is i e in_u) ∙ never_waits k e)))
        where
          never_waits : (k : ℕ) (e : Progress) → is_waiting (stage_shown k e) ≡ false
          never_waits k e =
              elim (e.given) as (λ b. is_waiting (cond b Given (cond e.taken (Held k e.puts e.adds) (Drawn k))) ≡ false) [
                | true ↦ refl
                | false ↦ elim (e.taken) as (λ b. is_waiting (cond b (Held k e.puts e.adds) (Drawn k)) ≡ false) [ true ↦ refl | false ↦ refl ]
              ]

      still : (k i : ℕ) (u : View P) (e : Progress) → get_elem? s.views k ≡ lookup.some u → get_elem? u.tasks i ≡ lookup.some e → stage_of with_task e.task ≡ stage_shown k e
      still k i u e is in_u = get_or-set_other c.stages c.counter e.task (Drawn id) Given (unseen k i u e is in_u) ∙ shows.noted k u is i e in_u

      shows_drawn : Shows plan (record { words = counted; homes = s.homes; views = set s.views id (drawn v n) }) with_task
      shows_drawn =
          record {
            plan_is = shows.plan_is;
            counter = ap (λ k. k + 1) is_counter ∙ sym (zeroth size);
            faces = λ p p_lt. shows.faces p p_lt ∙ other_word (1 + p) (omega arith);
            words = λ x x_lt. shows.words x x_lt ∙ other_word (1 + plan.places + x) (omega arith);
            waiting = λ m le m_lt.
                (let l : m < length c.stages = (let k = length-set c.stages c.counter (Drawn id) in omega arith) in
                get_or-set_other c.stages c.counter m (Drawn id) Given (λ same. absurd (omega arith)) ∙ shows.waiting m (omega arith) l);
            noted = λ k u is i e in_u. ⊎_elim
                (λ (t : (k ≡ id) × (drawn v n ≡ u)). subst (λ j. stage_of with_task e.task ≡ stage_shown j e) (sym t.0) (mine i e (ap (λ (y : View P). get_elem? y.tasks i) t.1 ∙ in_u)))
                (λ (t : (k ≢ id) × (get_elem? s.views k ≡ lookup.some u)). still k i u e t.1 in_u)
                (at_set s.views id k (drawn v n) u is);
            past = λ k u is unspent drew. ⊎_elim
                (λ (t : (k ≡ id) × (drawn v n ≡ u)). ap (λ (y : View P). y.past) (sym t.1) ∙ shows.past id v at live (subst (λ j. slice_index_or c.past j false ≡ true) t.0 drew))
                (λ (t : (k ≢ id) × (get_elem? s.views k ≡ lookup.some u)). shows.past k u t.1 unspent drew)
                (at_set s.views id k (drawn v n) u is);
            idle = λ k le. shows.idle k (let m = length-set s.views id (drawn v n) in omega arith);
            enough = (let m = length-set s.views id (drawn v n) in let e = shows.enough in omega arith);
          }
        where
          mine : (i : ℕ) (e : Progress) → get_elem? (drawn v n).tasks i ≡ lookup.some e → stage_of with_task e.task ≡ stage_shown id e
          mine zero e is =
              subst (λ (x : Progress). stage_of with_task x.task ≡ stage_shown id x) (lookup.some-injective _ e is)
              (ap (λ m. get_or (set c.stages c.counter (Drawn id)) m Given) (sym is_counter) ∙ get_or-set_same c.stages c.counter (Drawn id) Given in_stages)
          mine (suc i) e is = still id i v e at is

    -- it finds no task left
    module _ (size : length s.words ≡ 1 + plan.places + plan.words) (le : length plan.tasks ≤ n) where
      abbrev with_past : CoreOf
      with_past = record c { counter = c.counter + 1; past = set c.past id true }

      becomes_with_past : drawn_in c id ≡ with_past
      becomes_with_past =
          ap (λ b. cond b (record c { counter = c.counter + 1; stages = set c.stages c.counter (Drawn id) }) with_past) (le-ltb c.counter (length c.stages) (let a = is_counter in let b = count_tasks plan pieces becomes s h c good shows id v at live in omega arith))

      shows_gone : Shows plan (record { words = counted; homes = s.homes; views = set s.views id (gone v) }) with_past
      shows_gone =
          record {
            plan_is = shows.plan_is;
            counter = ap (λ k. k + 1) is_counter ∙ sym (zeroth size);
            faces = λ p p_lt. shows.faces p p_lt ∙ other_word (1 + p) (omega arith);
            words = λ x x_lt. shows.words x x_lt ∙ other_word (1 + plan.places + x) (omega arith);
            waiting = λ m le' m_lt. shows.waiting m (omega arith) m_lt;
            noted = λ k u is i e in_u. ⊎_elim
                (λ (t : (k ≡ id) × (gone v ≡ u)). subst (λ j. stage_of c e.task ≡ stage_shown j e) (sym t.0) (shows.noted id v at i e (ap (λ (y : View P). get_elem? y.tasks i) t.1 ∙ in_u)))
                (λ (t : (k ≢ id) × (get_elem? s.views k ≡ lookup.some u)). shows.noted k u t.1 i e in_u)
                (at_set s.views id k (gone v) u is);
            past = λ k u is unspent drew. ⊎_elim
                (λ (t : (k ≡ id) × (gone v ≡ u)). ap (λ (y : View P). y.past) (sym t.1))
                (λ (t : (k ≢ id) × (get_elem? s.views k ≡ lookup.some u)). shows.past k u t.1 unspent (sym (get_or-set_other c.past id k true false t.0) ∙ drew))
                (at_set s.views id k (gone v) u is);
            idle = λ k le'.
                (let m = length-set s.views id (gone v) in
                let apart : k ≢ id = (λ same. absurd (let l = in_range_at s.views id v at in omega arith)) in
                get_or-set_other c.past id k true false apart ∙ shows.idle k (omega arith));
            enough = (let m = length-set s.views id (gone v) in let j = length-set c.past id true in let e = shows.enough in omega arith);
          }

    pub draw_event : v.plan ≡ plan → length s.words ≡ 1 + plan.places + plan.words
        → (d : CoreOf) × (next_of c (event_of id Draw) ≡ Some d) × Shows plan (record { words = counted; homes = s.homes; views = set s.views id (after_draw v n) }) d
    draw_event same size =
        let F : View P → Type 0 = λ (w : View P). (d : CoreOf) × (next_of c (event_of id Draw) ≡ Some d) × Shows plan (record { words = counted; homes = s.homes; views = set s.views id w }) d in
        let tasks_same : length v.plan.tasks ≡ length plan.tasks = ap (λ (q : PlanOf). length q.tasks) same in
        dite (dec_le (length plan.tasks) n)
        (λ le. subst (λ b. F (cond b (drawn v n) (gone v))) (sym (le-ltb n (length v.plan.tasks) (omega arith))) (with_past size le, draws ∙ ap Some (becomes_with_past size le), shows_gone size le))
        (λ no.
        let lt = lt_of_not-le no in
        subst (λ b. F (cond b (drawn v n) (gone v))) (sym (lt-ltb n (length v.plan.tasks) (omega arith))) (with_task size lt, draws ∙ ap Some (becomes_with_task size lt), shows_drawn size lt))
