-- An add, a put and a look keep the rule.
use Rattle.std.proofs.Common.{◌≡◌, ◌⊎◌, ℕ, ◌+◌, ◌-◌, ◌^◌, ◌<◌, ◌≤◌, ◌==◌, cond, min, false, true≢false, List, [], ◌∷◌, ◌++◌, length, get_or, set, take, drop, refl, sym, ap, ◌∙◌, subst, ⊎_elim, inl, inr, arith, eq-eqb, ne_eqb, add-zero}
use Rattle.std.specs.Prelude.{Contains, Option}
use mathlib.Core.Option as lookup
use mathlib.Core.Logic.{dite}
use native.Mathlib.Decide.{ℕ_discrete}
use lib.ListN.{get_elem?}
use Rattle.std.proofs.Math.ListN.{length-set}
use Rattle.std.proofs.lemmas.List.{get_or-set_same, get_or-set_other}
use Rattle.atomic_table.specs.Table.{State}
use Rattle.amr_phase.specs.declared.plan.Post.{Post}
use Rattle.amr_phase.specs.declared.plan.Task.{Task}
use Rattle.amr_phase.specs.Plans.{PlanOf, total, planned_face, puts_of, adds_of, stored, added, named, no_post, planned_total, puts_named, IsPlan}
use Rattle.amr_board.specs.declared.view.Progress.{Progress}
use Rattle.amr_board.specs.declared.view.View.{View}
use Rattle.amr_board.specs.Views.{current, IsNextAdd, IsNextPut, add_done, put_done, looked}
use Rattle.amr_board.specs.Rule.{Sentences, weigh, numbers, stage_at, stages, own_adds, own_puts, done_adds, done_puts, SlotIs}
use Rattle.amr_phase.proofs.Sums.{total_more, zero_too}
use Rattle.amr_board.proofs.Sums.{sum_set, each_set, weigh_zero, whole}
use Rattle.amr_phase.proofs.Totals.{unnamed}
use Rattle.amr_board.proofs.Keeping.{kept, sum_current, same_current, fit_current}
use Rattle.std.proofs.lemmas.List.Elements.{Contains-push_cases}

-- a word that grows by k
grown : (ws : List ℕ) (i k j : ℕ) → i < length ws → get_or (set ws i (get_or ws i 0 + k)) j 0 ≡ get_or ws j 0 + cond (i == j) k 0
grown ws i k j h =
    dite (ℕ_discrete i j)
    (λ e. subst (λ n. get_or (set ws i (get_or ws i 0 + k)) n 0 ≡ get_or ws n 0 + cond (i == n) k 0) e
    (subst (λ b. get_or (set ws i (get_or ws i 0 + k)) i 0 ≡ get_or ws i 0 + cond b k 0) (sym (eq-eqb i i refl)) (get_or-set_same ws i (get_or ws i 0 + k) 0 h)))
    (λ ne. subst (λ b. get_or (set ws i (get_or ws i 0 + k)) j 0 ≡ get_or ws j 0 + cond b k 0) (sym (ne_eqb i j ne)) (get_or-set_other ws i j (get_or ws i 0 + k) 0 (λ x. ne (sym x)) ∙ sym (add-zero _)))

eqb_shift : (a x y : ℕ) → (a + x == a + y) ≡ (x == y)
eqb_shift a x y =
    dite (ℕ_discrete x y)
    (λ e. eq-eqb (a + x) (a + y) (ap (λ n. a + n) e) ∙ sym (eq-eqb x y e))
    (λ ne. ne_eqb (a + x) (a + y) (λ h. ne (omega arith)) ∙ sym (ne_eqb x y ne))

-- a positive word stays so under a store of a positive number
still : (ws : List ℕ) (i n j : ℕ) → i < length ws → 0 < n → 0 < get_or ws j 0 → 0 < get_or (set ws i n) j 0
still ws i n j lt pos was =
    dite (ℕ_discrete j i)
    (λ e. subst (λ x. 0 < x) (sym (ap (λ y. get_or (set ws i n) y 0) e ∙ get_or-set_same ws i n 0 lt)) pos)
    (λ ne. subst (λ x. 0 < x) (sym (get_or-set_other ws i j n 0 ne)) was)

-- the done and the left part of the puts, however the posts are counted
abbrev part : PlanOf → (Post → ℕ) → Progress → ℕ
part q f e = total f (take e.puts (puts_of q e.task))

abbrev rest_of : PlanOf → (Post → ℕ) → Progress → ℕ
rest_of q f e = total f (drop e.puts (puts_of q e.task))

abbrev later : PlanOf → (Post → ℕ) → ℕ → ℕ → ℕ
later q f m r = weigh (λ t. total f (puts_of q t)) m r

module _ {P : Type 0} (q : PlanOf) (m r : ℕ) (len : length q.tasks ≡ m + r) (vs : List (View P)) (once : (h : ℕ → ℕ) → total (numbers h) vs ≡ weigh h 0 m) (p : ℕ) where
  parts : (f : Post → ℕ) → (total (λ (v : View P). total (part q f) v.tasks) vs + total (λ (v : View P). total (rest_of q f) v.tasks) vs) + later q f m r ≡ total (λ (t : Task). total f t.puts) q.tasks
  parts f = whole q (λ t. t.puts) (λ e. e.puts) f m r len vs once

  none_done : total (λ (v : View P). total (part q (named p)) v.tasks) vs ≡ 0 → total (own_puts q p) vs ≡ 0
  none_done =
      zero_too (λ (v : View P). total (part q (named p)) v.tasks) (own_puts q p) vs
      (λ v. zero_too (part q (named p)) (done_puts q p) v.tasks (λ e. zero_too (named p) (stored p) (take e.puts (puts_of q e.task)) (unnamed p)))

  none_left : total (λ (v : View P). total (rest_of q (named p)) v.tasks) vs ≡ 0 → total (λ (v : View P). total (rest_of q (stored p)) v.tasks) vs ≡ 0
  none_left =
      zero_too (λ (v : View P). total (rest_of q (named p)) v.tasks) (λ (v : View P). total (rest_of q (stored p)) v.tasks) vs
      (λ v. zero_too (rest_of q (named p)) (rest_of q (stored p)) v.tasks (λ e. zero_too (named p) (stored p) (drop e.puts (puts_of q e.task)) (unnamed p)))

  none_later : later q (named p) m r ≡ 0 → later q (stored p) m r ≡ 0
  none_later = weigh_zero (λ t. total (named p) (puts_of q t)) (λ t. total (stored p) (puts_of q t)) m r (λ t. zero_too (named p) (stored p) (puts_of q t) (unnamed p))

  -- what is stored at a place is nothing or all that is planned
  all_or_nothing : puts_named q p ≤ 1 → (total (own_puts q p) vs ≡ 0) ⊎ (total (own_puts q p) vs ≡ planned_face q p)
  all_or_nothing most =
      let d : ℕ = total (λ (v : View P). total (part q (named p)) v.tasks) vs in
      dite (ℕ_discrete d 0)
      (λ z. inl (none_done z))
      (λ ne.
      let c = parts (named p) in
      let l : total (λ (v : View P). total (rest_of q (named p)) v.tasks) vs ≡ 0 = omega arith in
      let u : later q (named p) m r ≡ 0 = omega arith in
      let n = none_left l in
      let k = none_later u in
      let w : (total (own_puts q p) vs + total (λ (v : View P). total (rest_of q (stored p)) v.tasks) vs) + later q (stored p) m r ≡ planned_face q p = parts (stored p) in
      inr (omega arith))

-- the next post names a place or word of the plan
module _ {P : Type 0} (v : View P) (ok : IsPlan v.plan) where
  pub put_in_range : (place amount : ℕ) → IsNextPut v place amount → place < v.plan.places
  put_in_range place amount ready = subst (λ (x : Post). x.at < v.plan.places) ready.post (ok.puts_in_range (current v).task (current v).puts ready.left)

  pub add_in_range : (word amount : ℕ) → IsNextAdd v word amount → word < v.plan.words
  add_in_range word amount ready = subst (λ (x : Post). x.at < v.plan.words) ready.post (ok.adds_in_range (current v).task (current v).adds ready.left)

module _ {P : Type 0} (becomes : P → P → Type 0) (s : State (Option P) (View P)) (id : ℕ) (v : View P) (h : Sentences v.plan v.pieces becomes s) (at : get_elem? s.views id ≡ lookup.some v) (live : v.spent ≡ false) where
  abbrev q : PlanOf
  q = v.plan

  abbrev m : ℕ
  m = min (get_or s.words 0 0) (length q.tasks)

  tasks_are : length q.tasks ≡ m + (length q.tasks - m)
  tasks_are = omega arith

  same_homes : (w : View P) → ((t : ℕ) → stages t w ≡ stages t v) → (t : ℕ) (p : P) → get_elem? v.pieces t ≡ lookup.some p → SlotIs becomes s.homes t p (total (stages t) (set s.views id w))
  same_homes w same t p is =
      subst (λ n. SlotIs becomes s.homes t p n) (let a = sum_set (stages t) s.views id v w at in let e = same t in let r : total (stages t) s.views ≡ total (stages t) (set s.views id w) = omega arith in r) (h.slots t p is)

  pub adds_rule : (word amount : ℕ) → IsNextAdd v word amount
      → (get_or s.words (1 + q.places + word) 0 + amount < 2 ^ 64) × Sentences q v.pieces becomes (record { words = set s.words (1 + q.places + word) (get_or s.words (1 + q.places + word) 0 + amount); homes = s.homes; views = set s.views id (add_done v) })
  adds_rule word amount ready =
      let e = current v in
      let e' : Progress = record e { adds = e.adds + 1 } in
      let held = ready.holding.held in
      let w = add_done v in
      let vs = s.views in
      let at_word : ℕ = 1 + q.places + word in
      let post : Post = record { at = word; amount = amount } in
      let in_words = add_in_range v h.is_plan word amount ready in
      let once' : (g : ℕ → ℕ) → total (numbers g) (set vs id w) ≡ weigh g 0 m
      = λ g. (let t = sum_set (numbers g) vs id v w at in let same : numbers g w ≡ numbers g v = same_current v e' held (λ (x : Progress). g x.task) refl in let o = h.each_once g in omega arith) in
      let more : (x : ℕ) → own_adds q x w ≡ own_adds q x v + added x post
      = λ x. (
      let t : own_adds q x w + done_adds q x e ≡ own_adds q x v + done_adds q x e' = sum_current v e' held (done_adds q x) in
      let r : done_adds q x e' ≡ done_adds q x e + added x (get_or (adds_of q e.task) e.adds no_post) = total_more (added x) (adds_of q e.task) e.adds no_post ready.left in
      let k : added x (get_or (adds_of q e.task) e.adds no_post) ≡ added x post = ap (added x) ready.post in omega arith
      ) in
      let sums' : (x : ℕ) → total (own_adds q x) (set vs id w) ≡ total (own_adds q x) vs + added x post
      = λ x. (let t = sum_set (own_adds q x) vs id v w at in let k = more x in omega arith) in
      let here = h.registers word in_words in
      let all : added word post ≡ amount = ap (λ b. cond {A = ℕ} b amount 0) (eq-eqb word word refl) in
      let fits : get_or s.words at_word 0 + amount < 2 ^ 63 = (
      let b = whole q (λ t. t.adds) (λ x. x.adds) (added word) m (length q.tasks - m) tasks_are (set vs id w) once' in
      let b' : total (own_adds q word) (set vs id w) ≤ planned_total q word = omega arith in
      let f = h.is_plan.totals_fit word in let s' = sums' word in omega arith
      ) in
      let inside : at_word < length s.words = rw h.sized (omega arith) in (
        omega arith,
        kept q v.pieces becomes s h id v at (set s.words at_word (get_or s.words at_word 0 + amount)) s.homes w (length-set s.words at_word (get_or s.words at_word 0 + amount))
            (get_or-set_other s.words at_word 0 (get_or s.words at_word 0 + amount) 0 (λ x. absurd (omega arith)))
            live live (refl, refl) (λ g. same_current v e' held (λ (x : Progress). g x.task) refl) refl refl
            (λ p lt.
            get_or-set_other s.words at_word (1 + p) (get_or s.words at_word 0 + amount) 0 (λ x. absurd (omega arith))
            ∙ (h.faces p lt ∙ (let t = sum_set (own_puts q p) vs id v w at in let same : own_puts q p w ≡ own_puts q p v = same_current v e' held (done_puts q p) refl in omega arith)))
            (λ x lt.
            grown s.words at_word amount (1 + q.places + x) inside
            ∙ (let r = h.registers x lt in let s' = sums' x in let d = ap (λ b. cond {A = ℕ} b amount 0) (eqb_shift (1 + q.places) word x) in omega arith))
            (λ k u p is has.
            (let was = each_set (λ (u : View P). Contains u.known p → (p < q.places) × (0 < get_or s.words (1 + p) 0)) vs id w (λ j x e'. h.known j x p e') (h.known id v p at) k u is has in
            (was.0, rw (get_or-set_other s.words at_word (1 + p) (get_or s.words at_word 0 + amount) 0 (λ x. absurd (let lt = was.0 in omega arith))) was.1)))
            (h.looks id v at)
            (same_homes w (λ t. same_current v e' held (stage_at t) refl))
            (fit_current v e' held q (record { not_taken = λ x. absurd (true≢false (sym ready.holding.is_taken ∙ x)); given = λ x. absurd (true≢false (sym x ∙ ready.holding.ungiven)); older = λ x. absurd (omega arith) }) (h.tasks id v at)),
      )

  pub puts_rule : (place amount : ℕ) → IsNextPut v place amount
      → Sentences q v.pieces becomes (record { words = set s.words (1 + place) (amount + 1); homes = s.homes; views = set s.views id (put_done v place) })
  puts_rule place amount ready =
      let e = current v in
      let e' : Progress = record e { puts = e.puts + 1 } in
      let held = ready.holding.held in
      let w = put_done v place in
      let vs = s.views in
      let post : Post = record { at = place; amount = amount } in
      let lt : place < q.places = put_in_range v h.is_plan place amount ready in
      let inside : 1 + place < length s.words = rw h.sized (omega arith) in
      let once' : (g : ℕ → ℕ) → total (numbers g) (set vs id w) ≡ weigh g 0 m
      = λ g. (let t = sum_set (numbers g) vs id v w at in let same : numbers g w ≡ numbers g v = same_current v e' held (λ (x : Progress). g x.task) refl in let o = h.each_once g in omega arith) in
      let more : (f : Post → ℕ) → total (part q f) w.tasks ≡ total (part q f) v.tasks + f post
      = λ f. (
      let t : total (part q f) w.tasks + part q f e ≡ total (part q f) v.tasks + part q f e' = sum_current v e' held (part q f) in
      let r : part q f e' ≡ part q f e + f (get_or (puts_of q e.task) e.puts no_post) = total_more f (puts_of q e.task) e.puts no_post ready.left in
      let k : f (get_or (puts_of q e.task) e.puts no_post) ≡ f post = ap f ready.post in omega arith
      ) in
      let names : named place post ≡ 1 = ap (λ b. cond {A = ℕ} b 1 0) (eq-eqb place place refl) in
      let stores : stored place post ≡ amount + 1 = ap (λ b. cond {A = ℕ} b (amount + 1) 0) (eq-eqb place place refl) in
      let empty : total (own_puts q place) vs ≡ 0 = none_done q m (length q.tasks - m) tasks_are vs h.each_once place (
      let F : View P → ℕ = λ (u : View P). total (part q (named place)) u.tasks in
      let c' = parts q m (length q.tasks - m) tasks_are (set vs id w) once' place (named place) in
      let most = h.is_plan.apart place in
      let t : total F (set vs id w) + F v ≡ total F vs + F w = sum_set F vs id v w at in
      let k : F w ≡ F v + named place post = more (named place) in omega arith
      ) in
      let sums' : (p : ℕ) → total (own_puts q p) (set vs id w) ≡ total (own_puts q p) vs + stored p post
      = λ p. (let t = sum_set (own_puts q p) vs id v w at in let k : own_puts q p w ≡ own_puts q p v + stored p post = more (stored p) in omega arith) in
      kept q v.pieces becomes s h id v at (set s.words (1 + place) (amount + 1)) s.homes w (length-set s.words (1 + place) (amount + 1))
      (get_or-set_other s.words (1 + place) 0 (amount + 1) 0 (λ x. absurd (omega arith)))
      live live (refl, refl) (λ g. same_current v e' held (λ (x : Progress). g x.task) refl) refl refl
      (λ p p_lt.
      dite (ℕ_discrete p place)
      (λ is. subst (λ x. get_or (set s.words (1 + place) (amount + 1)) (1 + x) 0 ≡ total (own_puts q x) (set vs id w)) (sym is)
      (get_or-set_same s.words (1 + place) (amount + 1) 0 inside ∙ (let t = sums' place in omega arith)))
      (λ ne.
      get_or-set_other s.words (1 + place) (1 + p) (amount + 1) 0 (λ x. ne (omega arith))
      ∙ (h.faces p p_lt ∙ (let t = sums' p in let z : stored p post ≡ 0 = ap (λ b. cond {A = ℕ} b (amount + 1) 0) (ne_eqb place p (λ x. ne (sym x))) in omega arith))))
      (λ x x_lt.
      get_or-set_other s.words (1 + place) (1 + q.places + x) (amount + 1) 0 (λ y. absurd (omega arith))
      ∙ (h.registers x x_lt ∙ (let t = sum_set (own_adds q x) vs id v w at in let same : own_adds q x w ≡ own_adds q x v = same_current v e' held (done_adds q x) refl in omega arith)))
      (λ k u p is has.
      each_set (λ (u : View P). Contains u.known p → (p < q.places) × (0 < get_or (set s.words (1 + place) (amount + 1)) (1 + p) 0)) vs id w
      (λ j y is' has'. (let was = h.known j y p is' has' in (was.0, still s.words (1 + place) (amount + 1) (1 + p) inside (omega arith) was.1)))
      (λ has'. ⊎_elim
      (λ old. (let was = h.known id v p at old in (was.0, still s.words (1 + place) (amount + 1) (1 + p) inside (omega arith) was.1)))
      (λ (same : place ≡ p). subst (λ y. (y < q.places) × (0 < get_or (set s.words (1 + place) (amount + 1)) (1 + y) 0)) same (lt, rw (get_or-set_same s.words (1 + place) (amount + 1) 0 inside) (omega arith)))
      (Contains-push_cases v.known place p has'))
      k u is has)
      (h.looks id v at)
      (same_homes w (λ t. same_current v e' held (stage_at t) refl))
      (fit_current v e' held q (record { not_taken = λ x. absurd (true≢false (sym ready.holding.is_taken ∙ x)); given = λ x. absurd (true≢false (sym x ∙ ready.holding.ungiven)); older = λ x. absurd (omega arith) }) (h.tasks id v at))

  pub face_is : (place : ℕ) → place < q.places → (get_or s.words (1 + place) 0 ≡ 0) ⊎ (get_or s.words (1 + place) 0 ≡ planned_face q place)
  face_is place lt =
      subst (λ x. (x ≡ 0) ⊎ (x ≡ planned_face q place)) (sym (h.faces place lt)) (all_or_nothing q m (length q.tasks - m) tasks_are s.views h.each_once place (h.is_plan.apart place))

  known_after : (place p : ℕ) → place < q.places → Contains (looked v place (get_or s.words (1 + place) 0)).known p → (p < q.places) × (0 < get_or s.words (1 + p) 0)
  known_after place p lt =
      let n : ℕ = get_or s.words (1 + place) 0 in
      dite (ℕ_discrete n 0)
      (λ z. subst (λ b. Contains (cond b v.known (v.known ++ place ∷ [])) p → (p < q.places) × (0 < get_or s.words (1 + p) 0)) (sym (eq-eqb n 0 z)) (h.known id v p at))
      (λ ne. subst (λ b. Contains (cond b v.known (v.known ++ place ∷ [])) p → (p < q.places) × (0 < get_or s.words (1 + p) 0)) (sym (ne_eqb n 0 ne))
      (λ has. ⊎_elim (λ r. h.known id v p at r) (λ (e : place ≡ p). subst (λ x. (x < q.places) × (0 < get_or s.words (1 + x) 0)) e (lt, (let r : 0 < n = omega arith in r))) (Contains-push_cases v.known place p has)))

  pub looks_rule : (place : ℕ) → place < q.places → Sentences q v.pieces becomes (record { words = s.words; homes = s.homes; views = set s.views id (looked v place (get_or s.words (1 + place) 0)) })
  looks_rule place lt =
      let n : ℕ = get_or s.words (1 + place) 0 in
      let w = looked v place n in
      let same : (g : Progress → ℕ) → total (λ (u : View P). total g u.tasks) (set s.views id w) ≡ total (λ (u : View P). total g u.tasks) s.views
      = λ g. (let t = sum_set (λ (u : View P). total g u.tasks) s.views id v w at in let k : total g w.tasks ≡ total g v.tasks = refl in omega arith) in
      kept q v.pieces becomes s h id v at s.words s.homes w refl refl live live (refl, refl) (λ g. refl) refl refl
      (λ p p_lt. h.faces p p_lt ∙ sym (same (done_puts q p)))
      (λ x x_lt. h.registers x x_lt ∙ sym (same (done_adds q x)))
      (λ k u p is has. each_set (λ (y : View P). Contains y.known p → (p < q.places) × (0 < get_or s.words (1 + p) 0)) s.views id w (λ j y e'. h.known j y p e') (known_after place p lt) k u is has)
      (face_is place lt)
      (same_homes w (λ t. refl))
      (h.tasks id v at)
