-- A step of a seat is one event of the machine that the board shows.
use Rattle.std.proofs.Common.{◌≡◌, ◌≢◌, ℕ, ◌+◌, ◌<◌, ◌≤◌, ◌==◌, cond, Bool, true, false, true≢false, List, length, get_or, set, Some, None, refl, sym, ap, ◌∙◌, subst, ⊎_elim, arith, eq-eqb, ne_eqb}
use Rattle.std.specs.Prelude.{Option, nat_lt, position, slice_index_or}
use mathlib.Core.Option as lookup
use mathlib.Core.Logic.{dite}
use native.Mathlib.Decide.{ℕ_discrete}
use lib.ListN.{get_elem?}
use Rattle.std.proofs.Math.ListN.{length-set}
use Rattle.std.proofs.lemmas.List.{get_or-set_same, get_or-set_other}
use Rattle.std.proofs.lemmas.List.Quantifiers.{position-Some}
use Rattle.std.proofs.lemmas.Bool.{lt-ltb}
use Rattle.atomic_table.specs.Table.{State}
use Rattle.atomic_table.proofs.Lists.{at_set}
use Rattle.amr_phase.specs.declared.plan.Post.{Post}
use Rattle.amr_phase.specs.declared.machine.Stage.{Stage}
use Rattle.amr_phase.specs.declared.machine.Stage.TheVariants.{Waiting, Drawn, Held, Given}
use Rattle.amr_phase.specs.Plans.{PlanOf, puts_of, adds_of, no_post}
use Rattle.amr_phase.specs.Machine.{CoreOf, is_with, stage_of, task_at, word_of, next_of, next_at, at_task, held_at, hold_in, hold_of, after_take, after_put, after_add, after_give}
use Rattle.amr_phase.specs.Laws.{IsConsistent}
use Rattle.amr_phase.proofs.Finding.{none_passes}
use Rattle.std.specs.Option.{option_and_then}
use Rattle.amr_board.specs.declared.view.Deed.TheVariants.{Take, Put, Add, Face, Give}
use Rattle.amr_board.specs.declared.view.Progress.{Progress}
use Rattle.amr_board.specs.declared.view.View.{View}
use Rattle.amr_board.specs.Views.{current, no_progress, IsHolding, IsNextPut, IsNextAdd, taking, put_done, add_done, looked, giving}
use Rattle.amr_board.specs.Core.{Shows, event_of, stage_shown}
use Rattle.amr_board.specs.Rule.{Sentences}
use Rattle.amr_board.proofs.Sums.{get_first, in_range_at}

pub given_is : (b : Bool) (s : Stage) → b ≡ true → cond b Given s ≡ Given
given_is true s e = refl
given_is false s e = absurd (true≢false (sym e))

-- a seat's entry is with no other seat
pub not_with : (id k : ℕ) (e : Progress) → k ≢ id → is_with id (stage_shown k e) ≡ false
not_with id k e ne =
    elim (e.given) as (λ b. is_with id (cond b Given (cond e.taken (Held k e.puts e.adds) (Drawn k))) ≡ false) [
      | true ↦ refl
      | false ↦ elim (e.taken) as (λ b. is_with id (cond b (Held k e.puts e.adds) (Drawn k)) ≡ false) [ true ↦ ne_eqb k id ne | false ↦ ne_eqb k id ne ]
    ]

module _ {P : Type 0} (plan : PlanOf) (pieces : List P) (becomes : P → P → Type 0) (s : State (Option P) (View P)) (h : Sentences plan pieces becomes s)
    (c : CoreOf) (good : IsConsistent c) (shows : Shows plan s c) (id : ℕ) (v : View P) (at : get_elem? s.views id ≡ lookup.some v) (live : v.spent ≡ false) where
  pub here : nat_lt id (length c.past) ≡ true
  here = lt-ltb id (length c.past) (let n = in_range_at s.views id v at in let m = shows.enough in omega arith)

  pub count_tasks : length c.stages ≡ length plan.tasks
  count_tasks = good.stage_count ∙ ap (λ (q : PlanOf). length q.tasks) shows.plan_is

  -- what a seat drew before its last task is given
  pub older : (i : ℕ) (e : Progress) → get_elem? v.tasks i ≡ lookup.some e → i ≢ 0 → e.given ≡ true
  older i e is ne = (h.tasks id v at i e is).older (omega arith)

  -- A view and a state after a step that leaves counter and past as they are
  module _ (words : List ℕ) (homes : List (lookup.Option (Option P))) (w : View P) (d : CoreOf)
      (same_plan : d.plan ≡ c.plan) (same_counter : d.counter ≡ c.counter) (zeroth : get_or words 0 0 ≡ get_or s.words 0 0)
      (same_past : d.past ≡ c.past) (past_is : w.past ≡ v.past) (live' : w.spent ≡ false) where
    abbrev s' : State (Option P) (View P)
    s' = record { words = words; homes = homes; views = set s.views id w }

    pub shows_after : ((p : ℕ) → p < plan.places → word_of (slice_index_or d.faces p None) ≡ get_or words (1 + p) 0)
        → ((x : ℕ) → x < plan.words → get_or d.totals x 0 ≡ get_or words (1 + plan.places + x) 0)
        → ((t : ℕ) → c.counter ≤ t → t < length d.stages → stage_of d t ≡ Waiting)
        → ((i : ℕ) (e : Progress) → get_elem? w.tasks i ≡ lookup.some e → stage_of d e.task ≡ stage_shown id e)
        → ((k i : ℕ) (u : View P) (e : Progress) → get_elem? s.views k ≡ lookup.some u → k ≢ id → get_elem? u.tasks i ≡ lookup.some e → stage_of d e.task ≡ stage_of c e.task)
        → Shows plan s' d
    shows_after faces registers waiting mine others =
        record {
          plan_is = same_plan ∙ shows.plan_is;
          counter = same_counter ∙ (shows.counter ∙ sym zeroth);
          faces = faces;
          words = registers;
          waiting = λ t le lt. waiting t (subst (λ n. n ≤ t) same_counter le) lt;
          noted = λ k u is i e in_u. ⊎_elim
              (λ (t : (k ≡ id) × (w ≡ u)). subst (λ n. stage_of d e.task ≡ stage_shown n e) (sym t.0) (mine i e (ap (λ (y : View P). get_elem? y.tasks i) t.1 ∙ in_u)))
              (λ (t : (k ≢ id) × (get_elem? s.views k ≡ lookup.some u)). others k i u e t.1 t.0 in_u ∙ shows.noted k u t.1 i e in_u)
              (at_set s.views id k w u is);
          past = λ k u is unspent drew. ⊎_elim
              (λ (t : (k ≡ id) × (w ≡ u)). ap (λ (y : View P). y.past) (sym t.1) ∙ (past_is ∙ shows.past id v at live (subst (λ n. slice_index_or c.past n false ≡ true) t.0 (ap (λ (l : List Bool). slice_index_or l k false) (sym same_past) ∙ drew))))
              (λ (t : (k ≢ id) × (get_elem? s.views k ≡ lookup.some u)). shows.past k u t.1 unspent (ap (λ (l : List Bool). slice_index_or l k false) (sym same_past) ∙ drew))
              (at_set s.views id k w u is);
          idle = λ k le. ap (λ (l : List Bool). slice_index_or l k false) same_past ∙ shows.idle k (let n = length-set s.views id w in omega arith);
          enough = (let n = length-set s.views id w in let m = ap length same_past in let e = shows.enough in omega arith);
        }

  -- The seat holds a task, of which it notes this
  module _ (held : 0 < length v.tasks) (ungiven : (current v).given ≡ false) where
    abbrev t : ℕ
    t = (current v).task

    with_it : is_with id (stage_of c t) ≡ true
    with_it =
        ap (is_with id) (shows.noted id v at 0 (current v) (get_first v.tasks no_progress held))
        ∙ (ap (λ b. is_with id (cond b Given (cond (current v).taken (Held id (current v).puts (current v).adds) (Drawn id)))) ungiven
        ∙ (elim ((current v).taken) as (λ b. is_with id (cond b (Held id (current v).puts (current v).adds) (Drawn id)) ≡ true) [ true ↦ eq-eqb id id refl | false ↦ eq-eqb id id refl ]))

    position_is : position (is_with id) c.stages ≡ Some t
    position_is = found (position (is_with id) c.stages) refl
      where
        found : (o : Option ℕ) → position (is_with id) c.stages ≡ o → position (is_with id) c.stages ≡ Some t
        found None e = absurd (true≢false (sym with_it ∙ none_passes (is_with id) c.stages Given refl e t))
        found (Some u) e = e ∙ ap Some (good.one_task id u t (position-Some (is_with id) c.stages u Given e).1 with_it)

    t_in_stages : t < length c.stages
    t_in_stages = (position-Some (is_with id) c.stages t Given position_is).0

    at_event : (f : ℕ → Stage → Option CoreOf) → next_at c id f ≡ f t (stage_of c t)
    at_event f = ap (λ b. cond b (at_task c id f (position (is_with id) c.stages)) None) here ∙ ap (at_task c id f) position_is

    -- an entry that shows the stage of no task of the seat is of another task
    elsewhere : (k i : ℕ) (u : View P) (e : Progress) → get_elem? s.views k ≡ lookup.some u → get_elem? u.tasks i ≡ lookup.some e → is_with id (stage_shown k e) ≡ false → e.task ≢ t
    elsewhere k i u e is in_u none same = true≢false (sym with_it ∙ (ap (λ n. is_with id (stage_of c n)) (sym same) ∙ (ap (is_with id) (shows.noted k u is i e in_u) ∙ none)))

    not_waiting : (n : ℕ) → c.counter ≤ n → n < length c.stages → n ≢ t
    not_waiting n le lt same = true≢false (sym with_it ∙ (ap (λ m. is_with id (stage_of c m)) (sym same) ∙ ap (is_with id) (shows.waiting n le lt)))

    -- The task moves on, and the seat notes it
    module _ (words : List ℕ) (homes : List (lookup.Option (Option P))) (w : View P) (e' : Progress) (stage' : Stage) (faces : List (Option ℕ)) (totals : List ℕ)
        (zeroth : get_or words 0 0 ≡ get_or s.words 0 0) (past_is : w.past ≡ v.past) (live' : w.spent ≡ false)
        (tasks_are : w.tasks ≡ set v.tasks 0 e') (same_task : e'.task ≡ t) (shown : stage' ≡ stage_shown id e') where
      abbrev moved_on : CoreOf
      moved_on = record c { stages = set c.stages t stage'; faces = faces; totals = totals }

      other_stage : (n : ℕ) → n ≢ t → stage_of moved_on n ≡ stage_of c n
      other_stage n ne = get_or-set_other c.stages t n stage' Given ne

      pub shows_moved : ((p : ℕ) → p < plan.places → word_of (slice_index_or faces p None) ≡ get_or words (1 + p) 0)
          → ((x : ℕ) → x < plan.words → get_or totals x 0 ≡ get_or words (1 + plan.places + x) 0)
          → Shows plan (record { words = words; homes = homes; views = set s.views id w }) moved_on
      shows_moved faces_are totals_are =
          shows_after words homes w moved_on refl refl zeroth refl past_is live' faces_are totals_are
          (λ n le lt. (let l : n < length c.stages = (let m = length-set c.stages t stage' in omega arith) in other_stage n (not_waiting n le l) ∙ shows.waiting n le l))
          mine
          (λ k i u e is ne in_u. other_stage e.task (elsewhere k i u e is in_u (not_with id k e ne)))
        where
          mine : (i : ℕ) (e : Progress) → get_elem? w.tasks i ≡ lookup.some e → stage_of moved_on e.task ≡ stage_shown id e
          mine i e is =
              ⊎_elim
              (λ (x : (i ≡ 0) × (e' ≡ e)).
              subst (λ (y : Progress). stage_of moved_on y.task ≡ stage_shown id y) x.1
              (ap (stage_of moved_on) same_task ∙ (get_or-set_same c.stages t stage' Given t_in_stages ∙ shown)))
              (λ (x : (i ≢ 0) × (get_elem? v.tasks i ≡ lookup.some e)).
              let given = older i e x.1 x.0 in
              let now : stage_shown id e ≡ Given = given_is e.given (cond e.taken (Held id e.puts e.adds) (Drawn id)) given in
              other_stage e.task (elsewhere id i v e at x.1 (ap (is_with id) now)) ∙ shows.noted id v at i e x.1)
              (at_set v.tasks 0 i e' e (ap (λ (l : List Progress). get_elem? l i) (sym tasks_are) ∙ is))

  -- A look changes nothing
  pub face_event : (place n : ℕ) → place < plan.places → (d : CoreOf) × (next_of c (event_of id (Face place)) ≡ Some d) × Shows plan (record { words = s.words; homes = s.homes; views = set s.views id (looked v place n) }) d
  face_event place n lt =
      let in_places : nat_lt place c.plan.places ≡ true = lt-ltb place c.plan.places (let k = ap (λ (q : PlanOf). q.places) shows.plan_is in omega arith) in (
        c,
        ap (λ b. cond b (cond (nat_lt place c.plan.places) (Some c) None) None) here ∙ ap (λ b. cond b (Some c) None) in_places,
        shows_after s.words s.homes (looked v place n) c refl refl refl refl refl live
            shows.faces
            shows.words
            shows.waiting
            (λ i e is. shows.noted id v at i e is)
            (λ k i u e is ne in_u. refl),
      )

  pub take_event : (homes : List (lookup.Option (Option P))) (task : ℕ) → IsHolding v task false
      → (d : CoreOf) × (next_of c (event_of id Take) ≡ Some d) × Shows plan (record { words = s.words; homes = homes; views = set s.views id (taking v) }) d
  take_event homes task holding =
      let e = current v in
      let n : ℕ = e.task in
      let first = get_first v.tasks no_progress holding.held in
      let stage_is : stage_of c n ≡ Drawn id
      = shows.noted id v at 0 e first ∙ (ap (λ b. cond b Given (cond e.taken (Held id e.puts e.adds) (Drawn id))) holding.ungiven ∙ ap (λ b. cond b (Held id e.puts e.adds) (Drawn id)) holding.is_taken) in
      let none = (h.tasks id v at 0 e first).not_taken holding.is_taken in
      let now : Held id 0 0 ≡ stage_shown id (record e { taken = true })
      = sym (ap (λ b. cond b Given (Held id e.puts e.adds)) holding.ungiven ∙ (ap (λ k. Held id k e.adds) none.0 ∙ ap (λ k. Held id 0 k) none.1)) in (
        record c { stages = set c.stages n (Held id 0 0) },
        at_event holding.held holding.ungiven (after_take c) ∙ ap (after_take c n) stage_is,
        shows_moved holding.held holding.ungiven s.words homes (taking v) (record e { taken = true }) (Held id 0 0) c.faces c.totals refl refl live refl refl now shows.faces shows.words,
      )

  -- the seat has taken the task that it holds
  module _ (held : 0 < length v.tasks) (ungiven : (current v).given ≡ false) (taken : (current v).taken ≡ true) where
    stage_held : stage_of c (current v).task ≡ Held id (current v).puts (current v).adds
    stage_held =
        shows.noted id v at 0 (current v) (get_first v.tasks no_progress held)
        ∙ (ap (λ b. cond b Given (cond (current v).taken (Held id (current v).puts (current v).adds) (Drawn id))) ungiven
        ∙ ap (λ b. cond b (Held id (current v).puts (current v).adds) (Drawn id)) taken)

    hold_here : hold_of c id ≡ Some (record { task = (current v).task; worker = id; puts = (current v).puts; adds = (current v).adds })
    hold_here = ap (λ b. cond b (hold_in c (position (is_with id) c.stages)) None) here ∙ (ap (hold_in c) (position_is held ungiven) ∙ ap (held_at (current v).task) stage_held)

    shown_held : (e : Progress) → e.given ≡ false → e.taken ≡ true → Held id e.puts e.adds ≡ stage_shown id e
    shown_held e g k = sym (ap (λ b. cond b Given (cond e.taken (Held id e.puts e.adds) (Drawn id))) g ∙ ap (λ b. cond b (Held id e.puts e.adds) (Drawn id)) k)

  pub give_event : (homes : List (lookup.Option (Option P))) → IsHolding v (current v).task true → (current v).puts ≡ length (puts_of plan (current v).task) → (current v).adds ≡ length (adds_of plan (current v).task)
      → (d : CoreOf) × (next_of c (event_of id Give) ≡ Some d) × Shows plan (record { words = s.words; homes = homes; views = set s.views id (giving v) }) d
  give_event homes holding puts adds =
      let e = current v in
      let n : ℕ = e.task in
      let all_puts : (e.puts == length (task_at c n).puts) ≡ true = eq-eqb e.puts (length (task_at c n).puts) (puts ∙ ap (λ (q : PlanOf). length (puts_of q n)) (sym shows.plan_is)) in
      let all_adds : (e.adds == length (task_at c n).adds) ≡ true = eq-eqb e.adds (length (task_at c n).adds) (adds ∙ ap (λ (q : PlanOf). length (adds_of q n)) (sym shows.plan_is)) in
      let d : CoreOf = record c { stages = set c.stages n Given } in (
        d,
        ap (option_and_then (after_give c)) (hold_here holding.held holding.ungiven holding.is_taken)
            ∙ (ap (λ b. cond b (cond (e.adds == length (task_at c n).adds) (Some d) None) None) all_puts ∙ ap (λ b. cond b (Some d) None) all_adds),
        shows_moved holding.held holding.ungiven s.words homes (giving v) (record e { given = true }) Given c.faces c.totals refl refl live refl refl refl shows.faces shows.words,
      )

  pub put_event : (place amount : ℕ) → IsNextPut v place amount → v.plan ≡ plan → place < plan.places → length s.words ≡ 1 + plan.places + plan.words
      → (d : CoreOf) × (next_of c (event_of id Put) ≡ Some d) × Shows plan (record { words = set s.words (1 + place) (amount + 1); homes = s.homes; views = set s.views id (put_done v place) }) d
  put_event place amount ready same lt size =
      let e = current v in
      let n : ℕ = e.task in
      let holding = ready.holding in
      let e' : Progress = record e { puts = e.puts + 1 } in
      let puts_same : (task_at c n).puts ≡ puts_of v.plan n = ap (λ (q : PlanOf). puts_of q n) (shows.plan_is ∙ sym same) in
      let more : nat_lt e.puts (length (task_at c n).puts) ≡ true = lt-ltb e.puts (length (task_at c n).puts) (subst (λ (l : List Post). e.puts < length l) (sym puts_same) ready.left) in
      let post : get_or (task_at c n).puts e.puts no_post ≡ record { at = place; amount = amount } = ap (λ (l : List Post). get_or l e.puts no_post) puts_same ∙ ready.post in
      let to : Post → CoreOf = λ (x : Post). record c { stages = set c.stages n (Held id (e.puts + 1) e.adds); faces = set c.faces x.at (Some x.amount) } in
      let inside : 1 + place < length s.words = (let k = size in omega arith) in
      let len : place < length c.faces = (let k = good.face_count in let p = ap (λ (q : PlanOf). q.places) shows.plan_is in omega arith) in (
        to (record { at = place; amount = amount }),
        ap (option_and_then (after_put c)) (hold_here holding.held holding.ungiven holding.is_taken)
            ∙ (ap (λ b. cond b (Some (to (get_or (task_at c n).puts e.puts no_post))) None) more ∙ ap (λ (x : Post). Some (to x)) post),
        shows_moved holding.held holding.ungiven (set s.words (1 + place) (amount + 1)) s.homes (put_done v place) e' (Held id (e.puts + 1) e.adds) (set c.faces place (Some amount)) c.totals
            (get_or-set_other s.words (1 + place) 0 (amount + 1) 0 (λ x. absurd (omega arith))) refl live refl refl (shown_held holding.held holding.ungiven holding.is_taken e' holding.ungiven holding.is_taken)
            (λ p p_lt. dite (ℕ_discrete p place)
            (λ is. subst (λ k. word_of (slice_index_or (set c.faces place (Some amount)) k None) ≡ get_or (set s.words (1 + place) (amount + 1)) (1 + k) 0) (sym is)
            (ap word_of (get_or-set_same c.faces place (Some amount) None len) ∙ sym (get_or-set_same s.words (1 + place) (amount + 1) 0 inside)))
            (λ ne.
            ap word_of (get_or-set_other c.faces place p (Some amount) None ne)
            ∙ (shows.faces p p_lt ∙ sym (get_or-set_other s.words (1 + place) (1 + p) (amount + 1) 0 (λ x. ne (omega arith))))))
            (λ x x_lt. shows.words x x_lt ∙ sym (get_or-set_other s.words (1 + place) (1 + plan.places + x) (amount + 1) 0 (λ y. absurd (omega arith)))),
      )

  pub add_event : (word amount : ℕ) → IsNextAdd v word amount → v.plan ≡ plan → word < plan.words → length s.words ≡ 1 + plan.places + plan.words
      → (d : CoreOf) × (next_of c (event_of id Add) ≡ Some d)
      × Shows plan (record { words = set s.words (1 + plan.places + word) (get_or s.words (1 + plan.places + word) 0 + amount); homes = s.homes; views = set s.views id (add_done v) }) d
  add_event word amount ready same lt size =
      let e = current v in
      let n : ℕ = e.task in
      let holding = ready.holding in
      let e' : Progress = record e { adds = e.adds + 1 } in
      let adds_same : (task_at c n).adds ≡ adds_of v.plan n = ap (λ (q : PlanOf). adds_of q n) (shows.plan_is ∙ sym same) in
      let more : nat_lt e.adds (length (task_at c n).adds) ≡ true = lt-ltb e.adds (length (task_at c n).adds) (subst (λ (l : List Post). e.adds < length l) (sym adds_same) ready.left) in
      let post : get_or (task_at c n).adds e.adds no_post ≡ record { at = word; amount = amount } = ap (λ (l : List Post). get_or l e.adds no_post) adds_same ∙ ready.post in
      let to : Post → CoreOf = λ (x : Post). record c { stages = set c.stages n (Held id e.puts (e.adds + 1)); totals = set c.totals x.at (get_or c.totals x.at 0 + x.amount) } in
      let at_word : ℕ = 1 + plan.places + word in
      let sum : ℕ = get_or s.words at_word 0 + amount in
      let inside : at_word < length s.words = (let k = size in omega arith) in
      let word_now = shows.words word lt in
      let len : word < length c.totals = (let k = good.word_count in let p = ap (λ (q : PlanOf). q.words) shows.plan_is in omega arith) in (
        to (record { at = word; amount = amount }),
        ap (option_and_then (after_add c)) (hold_here holding.held holding.ungiven holding.is_taken)
            ∙ (ap (λ b. cond b (Some (to (get_or (task_at c n).adds e.adds no_post))) None) more ∙ ap (λ (x : Post). Some (to x)) post),
        shows_moved holding.held holding.ungiven (set s.words at_word sum) s.homes (add_done v) e' (Held id e.puts (e.adds + 1)) c.faces (set c.totals word (get_or c.totals word 0 + amount))
            (get_or-set_other s.words at_word 0 sum 0 (λ x. absurd (omega arith))) refl live refl refl (shown_held holding.held holding.ungiven holding.is_taken e' holding.ungiven holding.is_taken)
            (λ p p_lt. shows.faces p p_lt ∙ sym (get_or-set_other s.words at_word (1 + p) sum 0 (λ y. absurd (omega arith))))
            (λ x x_lt. dite (ℕ_discrete x word)
            (λ is. subst (λ k. get_or (set c.totals word (get_or c.totals word 0 + amount)) k 0 ≡ get_or (set s.words at_word sum) (1 + plan.places + k) 0) (sym is)
            (get_or-set_same c.totals word (get_or c.totals word 0 + amount) 0 len
            ∙ (ap (λ k. k + amount) word_now ∙ sym (get_or-set_same s.words at_word sum 0 inside))))
            (λ ne.
            get_or-set_other c.totals word x (get_or c.totals word 0 + amount) 0 ne
            ∙ (shows.words x x_lt ∙ sym (get_or-set_other s.words at_word (1 + plan.places + x) sum 0 (λ y. ne (omega arith)))))),
      )
