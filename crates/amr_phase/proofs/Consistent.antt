-- Every event keeps the machine consistent.
use Rattle.std.proofs.Common.{◌≡◌, ◌≢◌, ◌⊎◌, ℕ, zero, suc, ◌+◌, ◌^◌, ◌<◌, ◌≤◌, ◌==◌, cond, Bool, true, false, true≢false, List, [], ◌∷◌, length, get_or, set, take, replicate, Some, None, refl, sym, ap, ◌∙◌, subst, ⊎_elim, inl, inr, arith, eq-eqb, ne_eqb, lt_of_not-le, add-zero}
use Rattle.std.specs.Prelude.{Option, nat_lt, nat_le, position, MatchOption, unwrap_or}
use Rattle.std.proofs.Math.ListN.{length-set, length-replicate}
use Rattle.std.proofs.lemmas.List.{get_or-set_same, get_or-set_other, get_or-replicate}
use Rattle.std.proofs.lemmas.List.Quantifiers.{position-Some}
use Rattle.std.proofs.Math.Seq.{take-length}
use Rattle.std.proofs.lemmas.Bool.{lt-ltb, le-ltb, ltb-true, le-leb, lt-leb, eqb-true}
use mathlib.Core.Logic.{dite}
use native.Mathlib.Decide.{ℕ_discrete, dec_le}
use Rattle.amr_phase.specs.declared.plan.Task.{Task}
use Rattle.amr_phase.specs.declared.machine.Hold.{Hold}
use Rattle.amr_phase.specs.declared.machine.Stage.{Stage}
use Rattle.amr_phase.specs.declared.machine.Stage.TheVariants.{Waiting, Drawn, Held, Given}
use Rattle.amr_phase.specs.declared.machine.Event.{Event}
use Rattle.amr_phase.specs.declared.machine.Event.TheVariants.{Draw, Take, Put, Add, Face, Give}
use Rattle.amr_phase.specs.Plans.{total, added, stored, named, no_post, planned_total, planned_face, PlanOf, IsPlan}
use Rattle.amr_phase.specs.Machine.{CoreOf, is_with, is_waiting, puts_done, total2, adds_sum, puts_sum, puts_count, word_of, stage_of, task_at, drawn, can_draw, held_at, hold_in, hold_of, after_take, after_put, after_add, after_give, at_task, next_at, next_of, after, fresh}
use Rattle.amr_phase.specs.Laws.{IsConsistent}
use Rattle.std.specs.Option.{option_and_then}
use Rattle.amr_phase.proofs.Totals.{total2_set, zero2, le2, unnamed}
use Rattle.amr_phase.proofs.Finding.{at_set, none_passes, any_default}
use Rattle.amr_phase.proofs.Sums.{total_more, total_take, total_set, zero_too}

abbrev one_if : Bool → ℕ
one_if b = cond b 1 0

-- A stage changes to another of the same worker
module _ (c : CoreOf) (h : IsConsistent c) (t : ℕ) (s : Stage) (lt : t < length c.stages) (busy : is_waiting s ≡ is_waiting (stage_of c t)) (same : (w : ℕ) → is_with w s ≡ true → is_with w (stage_of c t) ≡ true)
    (faces : List (Option ℕ)) (totals : List ℕ) where
  abbrev moved : CoreOf
  moved = record c { stages = set c.stages t s; faces = faces; totals = totals }

  pub keeps_moved : length faces ≡ length c.faces → length totals ≡ length c.totals
      → ((w : ℕ) → w < c.plan.words → get_or totals w 0 + adds_sum w (task_at c t) (stage_of c t) ≡ get_or c.totals w 0 + adds_sum w (task_at c t) s)
      → ((p : ℕ) → p < c.plan.places → word_of (get_or faces p None) + puts_sum p (task_at c t) (stage_of c t) ≡ word_of (get_or c.faces p None) + puts_sum p (task_at c t) s)
      → IsConsistent moved
  keeps_moved face_len word_len words places =
      let was : (w u : ℕ) → is_with w (stage_of moved u) ≡ true → is_with w (stage_of c u) ≡ true
      = λ w. at_set (λ u x. is_with w x ≡ true → is_with w (stage_of c u) ≡ true) c.stages t s Given lt (λ j _ e. e) (same w) in
      let count = length-set c.stages t s in
      record {
        is_plan = h.is_plan;
        stage_count = count ∙ h.stage_count;
        face_count = face_len ∙ h.face_count;
        word_count = word_len ∙ h.word_count;
        below = λ u u_lt. at_set (λ j x. j < length c.stages → is_waiting x ≡ nat_le c.counter j) c.stages t s Given lt (λ j _. h.below j) (λ l. busy ∙ h.below t l) u (let k : u < length c.stages = subst (λ n. u < n) count u_lt in k);
        one_task = λ w u x a b. h.one_task w u x (was w u a) (was w x b);
        words = λ w w_lt. (let k = words w w_lt in let o = h.words w w_lt in let r = total2_set (adds_sum w) c.plan.tasks c.stages t s h.stage_count lt in omega arith);
        places = λ p p_lt. (let k = places p p_lt in let o = h.places p p_lt in let r = total2_set (puts_sum p) c.plan.tasks c.stages t s h.stage_count lt in omega arith);
        counter_fits = rw count h.counter_fits;
      }

-- a state after an event, if the event was enabled, is good
abbrev pub Fine : Option CoreOf → Type 0
Fine o = MatchOption o (Unit {0}) IsConsistent

fine_if : (b : Bool) (o : Option CoreOf) → (b ≡ true → Fine o) → Fine (cond b o None)
fine_if true o f = f refl
fine_if false o f = tt

pub keeps_taken : (c : CoreOf) (h : IsConsistent c) (t : ℕ) (s : Stage) → t < length c.stages → stage_of c t ≡ s → Fine (after_take c t s)
keeps_taken c h t Waiting lt e = tt
keeps_taken c h t (Drawn v) lt e =
    keeps_moved c h t (Held v 0 0) lt (sym (ap is_waiting e)) (λ w is. ap (is_with w) e ∙ is) c.faces c.totals refl refl
    (λ w _. ap (λ x. get_or c.totals w 0 + adds_sum w (task_at c t) x) e)
    (λ p _. ap (λ x. word_of (get_or c.faces p None) + puts_sum p (task_at c t) x) e)
keeps_taken c h t (Held v p a) lt e = tt
keeps_taken c h t Given lt e = tt

pub keeps_given : (c : CoreOf) (h : IsConsistent c) (x : Hold) → x.task < length c.stages → stage_of c x.task ≡ Held x.worker x.puts x.adds → Fine (after_give c x)
keeps_given c h x lt e =
    let t = x.task in
    let p = x.puts in
    let a = x.adds in
    fine_if (p == length (task_at c t).puts) _ (λ puts.
    fine_if (a == length (task_at c t).adds) _ (λ adds.
    let p_is : p ≡ length (task_at c t).puts = eqb-true p (length (task_at c t).puts) puts in
    let a_is : a ≡ length (task_at c t).adds = eqb-true a (length (task_at c t).adds) adds in
    keeps_moved c h t Given lt (sym (ap is_waiting e)) (λ w is. absurd (true≢false (sym is))) c.faces c.totals refl refl
    (λ w _. ap (λ x. get_or c.totals w 0 + adds_sum w (task_at c t) x) e ∙ ap (λ l. get_or c.totals w 0 + total (added w) l) (ap (λ n. take n (task_at c t).adds) a_is ∙ take-length (task_at c t).adds))
    (λ q _. ap (λ x. word_of (get_or c.faces q None) + puts_sum q (task_at c t) x) e ∙ ap (λ l. word_of (get_or c.faces q None) + total (stored q) l) (ap (λ n. take n (task_at c t).puts) p_is ∙ take-length (task_at c t).puts))))

pub keeps_add : (c : CoreOf) (h : IsConsistent c) (x : Hold) → x.task < length c.stages → stage_of c x.task ≡ Held x.worker x.puts x.adds → Fine (after_add c x)
keeps_add c h held lt e =
    let t = held.task in
    let v = held.worker in
    let p = held.puts in
    let a = held.adds in
    fine_if (nat_lt a (length (task_at c t).adds)) _ (λ more.
    let x = get_or (task_at c t).adds a no_post in
    let a_lt = ltb-true a (length (task_at c t).adds) more in
    let at_lt : x.at < length c.totals = rw h.word_count (h.is_plan.adds_in_range t a a_lt) in
    keeps_moved c h t (Held v p (a + 1)) lt (sym (ap is_waiting e)) (λ w is. ap (is_with w) e ∙ is) c.faces (set c.totals x.at (get_or c.totals x.at 0 + x.amount)) refl (length-set c.totals x.at (get_or c.totals x.at 0 + x.amount))
    (λ w _.
    let was = ap (λ y. adds_sum w (task_at c t) y) e in
    let one : adds_sum w (task_at c t) (Held v p (a + 1)) ≡ adds_sum w (task_at c t) (Held v p a) + added w x = total_more (added w) (task_at c t).adds a no_post a_lt in
    let word : get_or (set c.totals x.at (get_or c.totals x.at 0 + x.amount)) w 0 ≡ get_or c.totals w 0 + added w x = (
    dite (ℕ_discrete w x.at)
    (λ is. subst (λ k. get_or (set c.totals x.at (get_or c.totals x.at 0 + x.amount)) k 0 ≡ get_or c.totals k 0 + added k x) (sym is)
    (get_or-set_same c.totals x.at (get_or c.totals x.at 0 + x.amount) 0 at_lt ∙ ap (λ b. get_or c.totals x.at 0 + cond b x.amount 0) (sym (eq-eqb x.at x.at refl))))
    (λ ne. get_or-set_other c.totals x.at w (get_or c.totals x.at 0 + x.amount) 0 ne ∙ (sym (add-zero (get_or c.totals w 0)) ∙ ap (λ b. get_or c.totals w 0 + cond b x.amount 0) (sym (ne_eqb x.at w (λ z. ne (sym z))))))
    ) in
    omega arith)
    (λ q _. ap (λ y. word_of (get_or c.faces q None) + puts_sum q (task_at c t) y) e))

puts_count_le : (p : ℕ) (t : Task) (s : Stage) → puts_count p t s ≤ total (named p) t.puts
puts_count_le p t Waiting = let r : 0 ≤ total (named p) t.puts = omega arith in r
puts_count_le p t (Drawn v) = let r : 0 ≤ total (named p) t.puts = omega arith in r
puts_count_le p t (Held v n a) = total_take (named p) t.puts n
puts_count_le p t Given = let r : total (named p) t.puts ≤ total (named p) t.puts = omega arith in r

-- a place whose put is not among the done ones is empty
empty_place : (c : CoreOf) (h : IsConsistent c) (t v p a : ℕ) → t < length c.stages → stage_of c t ≡ Held v p a → p < length (task_at c t).puts
    → total2 (puts_sum (get_or (task_at c t).puts p no_post).at) c.plan.tasks c.stages ≡ 0
empty_place c h t v p a lt e p_lt =
    let x = get_or (task_at c t).puts p no_post in
    let q : ℕ = x.at in
    let set_sum = total2_set (puts_count q) c.plan.tasks c.stages t (Held v (p + 1) a) h.stage_count lt in
    let was = ap (λ y. puts_count q (task_at c t) y) e in
    let one : puts_count q (task_at c t) (Held v (p + 1) a) ≡ puts_count q (task_at c t) (Held v p a) + named q x = total_more (named q) (task_at c t).puts p no_post p_lt in
    let is : named q x ≡ 1 = ap (λ b. cond {A = ℕ} b 1 0) (eq-eqb q q refl) in
    let most = le2 (puts_count q) (λ y. total (named q) y.puts) c.plan.tasks (set c.stages t (Held v (p + 1) a)) (puts_count_le q) in
    let apart = h.is_plan.apart q in
    zero2 (puts_count q) (puts_sum q) c.plan.tasks c.stages (λ y s. zero_too (named q) (stored q) (puts_done y s) (unnamed q)) (omega arith)

pub keeps_put : (c : CoreOf) (h : IsConsistent c) (x : Hold) → x.task < length c.stages → stage_of c x.task ≡ Held x.worker x.puts x.adds → Fine (after_put c x)
keeps_put c h held lt e =
    let t = held.task in
    let v = held.worker in
    let p = held.puts in
    let a = held.adds in
    fine_if (nat_lt p (length (task_at c t).puts)) _ (λ more.
    let x = get_or (task_at c t).puts p no_post in
    let p_lt = ltb-true p (length (task_at c t).puts) more in
    let at_lt : x.at < length c.faces = rw h.face_count (h.is_plan.puts_in_range t p p_lt) in
    keeps_moved c h t (Held v (p + 1) a) lt (sym (ap is_waiting e)) (λ w is. ap (is_with w) e ∙ is) (set c.faces x.at (Some x.amount)) c.totals (length-set c.faces x.at (Some x.amount)) refl
    (λ w _. ap (λ y. get_or c.totals w 0 + adds_sum w (task_at c t) y) e)
    (λ q q_lt.
    let was = ap (λ y. puts_sum q (task_at c t) y) e in
    let one : puts_sum q (task_at c t) (Held v (p + 1) a) ≡ puts_sum q (task_at c t) (Held v p a) + stored q x = total_more (stored q) (task_at c t).puts p no_post p_lt in
    let word : word_of (get_or (set c.faces x.at (Some x.amount)) q None) ≡ word_of (get_or c.faces q None) + stored q x = (
    dite (ℕ_discrete q x.at)
    (λ is.
    let empty : word_of (get_or c.faces q None) ≡ 0 = h.places q q_lt ∙ subst (λ k. total2 (puts_sum k) c.plan.tasks c.stages ≡ 0) (sym is) (empty_place c h t v p a lt e p_lt) in
    let now : word_of (get_or (set c.faces x.at (Some x.amount)) q None) ≡ x.amount + 1 = ap (λ k. word_of (get_or (set c.faces x.at (Some x.amount)) k None)) is ∙ ap word_of (get_or-set_same c.faces x.at (Some x.amount) None at_lt) in
    let st : stored q x ≡ x.amount + 1 = ap (λ b. cond {A = ℕ} b (x.amount + 1) 0) (eq-eqb x.at q (sym is)) in omega arith)
    (λ ne.
    let st : stored q x ≡ 0 = ap (λ b. cond {A = ℕ} b (x.amount + 1) 0) (ne_eqb x.at q (λ z. ne (sym z))) in
    let now = ap word_of (get_or-set_other c.faces x.at q (Some x.amount) None ne) in omega arith)
    ) in
    omega arith))

-- a waiting task has done nothing
idle_adds : (s : Stage) (w : ℕ) (t : Task) → is_waiting s ≡ true → adds_sum w t s ≡ 0
idle_adds Waiting w t e = refl
idle_adds (Drawn v) w t e = refl
idle_adds (Held v p a) w t e = absurd (true≢false (sym e))
idle_adds Given w t e = absurd (true≢false (sym e))

idle_puts : (s : Stage) (p : ℕ) (t : Task) → is_waiting s ≡ true → puts_sum p t s ≡ 0
idle_puts Waiting p t e = refl
idle_puts (Drawn v) p t e = refl
idle_puts (Held v q a) p t e = absurd (true≢false (sym e))
idle_puts Given p t e = absurd (true≢false (sym e))

module _ (c : CoreOf) (h : IsConsistent c) (w : ℕ) (w_lt : w < length c.past) (free : (k : ℕ) → is_with w (stage_of c k) ≡ false) (here : get_or c.past w true ≡ false) where
  pub keeps_drawn : c.counter < length c.stages → IsConsistent (record c { counter = c.counter + 1; stages = set c.stages c.counter (Drawn w) })
  keeps_drawn lt =
      let n = c.counter in
      let count = length-set c.stages n (Drawn w) in
      let waits : is_waiting (stage_of c n) ≡ true = h.below n lt ∙ le-leb n n (omega arith) in
      let ss = set c.stages n (Drawn w) in
      record {
        is_plan = h.is_plan;
        stage_count = count ∙ h.stage_count;
        face_count = h.face_count;
        word_count = h.word_count;
        below = λ u u_lt. at_set (λ j x. j < length c.stages → is_waiting x ≡ nat_le (n + 1) j) c.stages n (Drawn w) Given lt
            (λ j ne l. h.below j l ∙ same_side j n ne) (λ _. sym (lt-leb (n + 1) n (omega arith))) u (let k : u < length c.stages = subst (λ m. u < m) count u_lt in k);
        one_task = λ v t u a b. one_of v t u a b;
        words = λ x x_lt. (let o = h.words x x_lt in let r = total2_set (adds_sum x) c.plan.tasks c.stages n (Drawn w) h.stage_count lt in let z = idle_adds (stage_of c n) x (task_at c n) waits in let y : adds_sum x (task_at c n) (Drawn w) ≡ 0 = refl in omega arith);
        places = λ p p_lt. (let o = h.places p p_lt in let r = total2_set (puts_sum p) c.plan.tasks c.stages n (Drawn w) h.stage_count lt in let z = idle_puts (stage_of c n) p (task_at c n) waits in let y : puts_sum p (task_at c n) (Drawn w) ≡ 0 = refl in omega arith);
        counter_fits = rw count (omega arith);
      }
    where
      same_side : (j n : ℕ) → j ≢ n → nat_le n j ≡ nat_le (n + 1) j
      same_side j n ne =
          dite (dec_le n j)
          (λ le. le-leb n j le ∙ sym (le-leb (n + 1) j (omega arith)))
          (λ nope. let l = lt_of_not-le nope in lt-leb n j l ∙ sym (lt-leb (n + 1) j (omega arith)))

      -- who is with a task afterwards is the drawer with this one, or was with it before
      was : (v u : ℕ) → is_with v (get_or (set c.stages c.counter (Drawn w)) u Given) ≡ true → ((u ≡ c.counter) × (w ≡ v)) ⊎ ((u ≢ c.counter) × (is_with v (stage_of c u) ≡ true))
      was v = at_set (λ u x. is_with v x ≡ true → ((u ≡ c.counter) × (w ≡ v)) ⊎ ((u ≢ c.counter) × (is_with v (stage_of c u) ≡ true))) c.stages c.counter (Drawn w) Given lt
          (λ j ne e. inr (ne, e)) (λ e. inl (refl, eqb-true w v e))

      one_of : (v t u : ℕ) → is_with v (get_or (set c.stages c.counter (Drawn w)) t Given) ≡ true → is_with v (get_or (set c.stages c.counter (Drawn w)) u Given) ≡ true → t ≡ u
      one_of v t u a b =
          ⊎_elim
          (λ (x : (t ≡ c.counter) × (w ≡ v)). ⊎_elim
          (λ (y : (u ≡ c.counter) × (w ≡ v)). x.0 ∙ sym y.0)
          (λ (y : (u ≢ c.counter) × (is_with v (stage_of c u) ≡ true)). absurd (true≢false (sym y.1 ∙ subst (λ k. is_with k (stage_of c u) ≡ false) x.1 (free u))))
          (was v u b))
          (λ (x : (t ≢ c.counter) × (is_with v (stage_of c t) ≡ true)). ⊎_elim
          (λ (y : (u ≡ c.counter) × (w ≡ v)). absurd (true≢false (sym x.1 ∙ subst (λ k. is_with k (stage_of c t) ≡ false) y.1 (free t))))
          (λ (y : (u ≢ c.counter) × (is_with v (stage_of c u) ≡ true)). h.one_task v t u x.1 y.1)
          (was v u b))
          (was v t a)

  pub keeps_past : length c.stages ≤ c.counter → IsConsistent (record c { counter = c.counter + 1; past = set c.past w true })
  keeps_past le =
      record {
        is_plan = h.is_plan;
        stage_count = h.stage_count;
        face_count = h.face_count;
        word_count = h.word_count;
        below = λ u u_lt. h.below u u_lt ∙ (lt-leb c.counter u (omega arith) ∙ sym (lt-leb (c.counter + 1) u (omega arith)));
        one_task = h.one_task;
        words = h.words;
        places = h.places;
        counter_fits = (let s = total_set one_if c.past w true true w_lt in let z : one_if (get_or c.past w true) ≡ 0 = ap one_if here in let o : one_if true ≡ 1 = refl in let f = h.counter_fits in omega arith);
      }

  pub keeps_draw_in : IsConsistent (drawn c w)
  keeps_draw_in =
      dite (dec_le (length c.stages) c.counter)
      (λ le. subst (λ b. IsConsistent (cond b (record c { counter = c.counter + 1; stages = set c.stages c.counter (Drawn w) }) (record c { counter = c.counter + 1; past = set c.past w true }))) (sym (le-ltb c.counter (length c.stages) le)) (keeps_past le))
      (λ nope. subst (λ b. IsConsistent (cond b (record c { counter = c.counter + 1; stages = set c.stages c.counter (Drawn w) }) (record c { counter = c.counter + 1; past = set c.past w true }))) (sym (lt-ltb c.counter (length c.stages) (lt_of_not-le nope))) (keeps_drawn (lt_of_not-le nope)))

draw_conditions : (o : Option ℕ) (b : Bool) → can_draw o b ≡ true → (o ≡ None) × (b ≡ false)
draw_conditions None true e = absurd (true≢false (sym e))
draw_conditions None false e = (refl, refl)
draw_conditions (Some t) b e = absurd (true≢false (sym e))

keeps_at : (c : CoreOf) (h : IsConsistent c) (w : ℕ) (f : ℕ → Stage → Option CoreOf) → ((t : ℕ) (s : Stage) → t < length c.stages → stage_of c t ≡ s → Fine (f t s)) → (o : Option ℕ) → position (is_with w) c.stages ≡ o → Fine (at_task c w f o)
keeps_at c h w f each None e = tt
keeps_at c h w f each (Some t) e = each t (stage_of c t) (position-Some (is_with w) c.stages t Given e).0 refl

keeps_next_at : (c : CoreOf) (h : IsConsistent c) (w : ℕ) (f : ℕ → Stage → Option CoreOf) → ((t : ℕ) (s : Stage) → t < length c.stages → stage_of c t ≡ s → Fine (f t s)) → Fine (next_at c w f)
keeps_next_at c h w f each = fine_if (nat_lt w (length c.past)) _ (λ _. keeps_at c h w f each (position (is_with w) c.stages) refl)

-- the task that a worker holds is one of the stages, with so many of its posts made
pub hold_is : (c : CoreOf) (w : ℕ) (x : Hold) → hold_of c w ≡ Some x → (x.task < length c.stages) × (stage_of c x.task ≡ Held x.worker x.puts x.adds)
hold_is c w x = by_test (nat_lt w (length c.past))
  where
    by_stage : (t : ℕ) (s : Stage) → t < length c.stages → stage_of c t ≡ s → held_at t s ≡ Some x → (x.task < length c.stages) × (stage_of c x.task ≡ Held x.worker x.puts x.adds)
    by_stage t Waiting lt is e = absurd (cc)
    by_stage t (Drawn v) lt is e = absurd (cc)
    by_stage t (Held v p a) lt is e =
        let same : record { task = t; worker = v; puts = p; adds = a } ≡ x = cc in
        subst (λ (y : Hold). (y.task < length c.stages) × (stage_of c y.task ≡ Held y.worker y.puts y.adds)) same (lt, is)
    by_stage t Given lt is e = absurd (cc)

    by_place : (o : Option ℕ) → position (is_with w) c.stages ≡ o → hold_in c o ≡ Some x → (x.task < length c.stages) × (stage_of c x.task ≡ Held x.worker x.puts x.adds)
    by_place None at e = absurd (cc)
    by_place (Some t) at e = by_stage t (stage_of c t) (position-Some (is_with w) c.stages t Given at).0 refl e

    by_test : (b : Bool) → cond b (hold_in c (position (is_with w) c.stages)) None ≡ Some x → (x.task < length c.stages) × (stage_of c x.task ≡ Held x.worker x.puts x.adds)
    by_test true e = by_place (position (is_with w) c.stages) refl e
    by_test false e = absurd (cc)

keeps_held : (c : CoreOf) (w : ℕ) (f : Hold → Option CoreOf) → ((x : Hold) → x.task < length c.stages → stage_of c x.task ≡ Held x.worker x.puts x.adds → Fine (f x)) → Fine (option_and_then f (hold_of c w))
keeps_held c w f each = go (hold_of c w) refl
  where
    go : (o : Option Hold) → hold_of c w ≡ o → Fine (option_and_then f o)
    go None e = tt
    go (Some x) e = let is = hold_is c w x e in each x is.0 is.1

-- an event that is enabled keeps the machine good
pub keeps_next : (c : CoreOf) → IsConsistent c → (e : Event) → Fine (next_of c e)
keeps_next c h (Draw w) =
    fine_if (nat_lt w (length c.past)) _ (λ lt. fine_if (can_draw (position (is_with w) c.stages) (get_or c.past w true)) _ (λ can.
    let k = draw_conditions (position (is_with w) c.stages) (get_or c.past w true) can in
    keeps_draw_in c h w (ltb-true w (length c.past) lt) (none_passes (is_with w) c.stages Given refl k.0) k.1))
keeps_next c h (Take w) = keeps_next_at c h w (after_take c) (keeps_taken c h)
keeps_next c h (Put w) = keeps_held c w (after_put c) (keeps_put c h)
keeps_next c h (Add w) = keeps_held c w (after_add c) (keeps_add c h)
keeps_next c h (Face w p) = fine_if (nat_lt w (length c.past)) _ (λ _. fine_if (nat_lt p c.plan.places) _ (λ _. h))
keeps_next c h (Give w) = keeps_held c w (after_give c) (keeps_given c h)

keeps_or : (o : Option CoreOf) (c : CoreOf) → Fine o → IsConsistent c → IsConsistent (unwrap_or o c)
keeps_or None c f h = h
keeps_or (Some d) c f h = f

-- and so does every list of events, enabled or not
pub keeps_after : (c : CoreOf) → IsConsistent c → (es : List Event) → IsConsistent (after c es)
keeps_after c h [] = h
keeps_after c h (e ∷ es) = keeps_after (unwrap_or (next_of c e) c) (keeps_or (next_of c e) c (keeps_next c h e) h) es

none_yet : (f : Task → Stage → ℕ) (ts : List Task) (n : ℕ) → ((t : Task) → f t Waiting ≡ 0) → total2 f ts (replicate n Waiting) ≡ 0
none_yet f [] n z = refl
none_yet f (t ∷ ts) zero z = refl
none_yet f (t ∷ ts) (suc n) z =
    let a = z t in let b = none_yet f ts n z in
    let r : f t Waiting + total2 f ts (replicate n Waiting) ≡ 0 = omega arith in r

all_wait : (n t : ℕ) (w : ℕ) → is_with w (get_or (replicate n Waiting) t Given) ≡ false
all_wait zero t w = refl
all_wait (suc n) zero w = refl
all_wait (suc n) (suc t) w = all_wait n t w

pub keeps_fresh : (plan : PlanOf) (workers : ℕ) → IsPlan plan → IsConsistent (fresh plan workers)
keeps_fresh plan workers ok =
    let n : ℕ = length plan.tasks in
    record {
      is_plan = ok;
      stage_count = length-replicate n Waiting;
      face_count = length-replicate plan.places None;
      word_count = length-replicate plan.words 0;
      below = λ t lt. (let k : t < n = subst (λ m. t < m) (length-replicate n Waiting) lt in ap is_waiting (get_or-replicate n t Waiting Given k) ∙ sym (le-leb 0 t (omega arith)));
      one_task = λ w t u a b. absurd (true≢false (sym a ∙ all_wait n t w));
      words = λ w lt. get_or-replicate plan.words w 0 0 lt ∙ sym (none_yet (adds_sum w) plan.tasks n (λ t. refl));
      places = λ p lt. ap word_of (get_or-replicate plan.places p None None lt) ∙ sym (none_yet (puts_sum p) plan.tasks n (λ t. refl));
      counter_fits = (let r : 0 ≤ length (replicate n Waiting) + total one_if (replicate workers false) = omega arith in r);
    }

-- Where all tasks are given, the words are the plan's totals and the places its puts
all_given : (f : Task → Stage → ℕ) (g : Task → ℕ) (ts : List Task) (ss : List Stage) → length ss ≡ length ts → ((t : Task) → f t Given ≡ g t) → ((k : ℕ) → k < length ss → get_or ss k Given ≡ Given) → total2 f ts ss ≡ total g ts
all_given f g [] [] len same all = refl
all_given f g [] (s ∷ ss) len same all = absurd (omega arith)
all_given f g (t ∷ ts) [] len same all = absurd (omega arith)
all_given f g (t ∷ ts) (s ∷ ss) len same all =
    let a : f t s ≡ g t = ap (f t) (all 0 (omega arith)) ∙ same t in
    let b = all_given f g ts ss (omega arith) same (λ k lt. all (suc k) (omega arith)) in
    let r : f t s + total2 f ts ss ≡ g t + total g ts = omega arith in r

pub words_end : (c : CoreOf) → IsConsistent c → ((k : ℕ) → k < length c.stages → stage_of c k ≡ Given) → (w : ℕ) → w < c.plan.words → get_or c.totals w 0 ≡ planned_total c.plan w
words_end c h all w lt = h.words w lt ∙ all_given (adds_sum w) (λ (t : Task). total (added w) t.adds) c.plan.tasks c.stages h.stage_count (λ t. refl) all

pub places_end : (c : CoreOf) → IsConsistent c → ((k : ℕ) → k < length c.stages → stage_of c k ≡ Given) → (p : ℕ) → p < c.plan.places → word_of (get_or c.faces p None) ≡ planned_face c.plan p
places_end c h all p lt = h.places p lt ∙ all_given (puts_sum p) (λ (t : Task). total (stored p) t.puts) c.plan.tasks c.stages h.stage_count (λ t. refl) all

pub ones_le : (bs : List Bool) → total one_if bs ≤ length bs
ones_le [] = let r : 0 ≤ 0 = omega arith in r
ones_le (true ∷ bs) = let h = ones_le bs in let r : 1 + total one_if bs ≤ suc (length bs) = omega arith in r
ones_le (false ∷ bs) = let h = ones_le bs in let r : 0 + total one_if bs ≤ suc (length bs) = omega arith in r

pub fine_true : (b : Bool) (d : CoreOf) → b ≡ true → Fine (cond b (Some d) None) → IsConsistent d
fine_true true d e f = f
fine_true false d e f = absurd (true≢false (sym e))

-- the task of a worker, and how far it is
pub stage_read : (c : CoreOf) (t : ℕ) (s : Stage) → t < length c.stages → s ≡ get_or c.stages t s → stage_of c t ≡ s
stage_read c t s lt e = any_default c.stages t s Given lt e

-- an add that is left keeps the word below 2^63
pub add_fits : (c : CoreOf) → IsConsistent c → (t v p a : ℕ) → t < length c.stages → stage_of c t ≡ Held v p a → a < length (task_at c t).adds
    → get_or c.totals (get_or (task_at c t).adds a no_post).at 0 + (get_or (task_at c t).adds a no_post).amount < 2 ^ 63
add_fits c h t v p a lt e a_lt =
    let x = get_or (task_at c t).adds a no_post in
    let w : ℕ = x.at in
    let here = h.words w (h.is_plan.adds_in_range t a a_lt) in
    let s = total2_set (adds_sum w) c.plan.tasks c.stages t (Held v p (a + 1)) h.stage_count lt in
    let was = ap (λ y. adds_sum w (task_at c t) y) e in
    let one : adds_sum w (task_at c t) (Held v p (a + 1)) ≡ adds_sum w (task_at c t) (Held v p a) + added w x = total_more (added w) (task_at c t).adds a no_post a_lt in
    let is : added w x ≡ x.amount = ap (λ b. cond {A = ℕ} b x.amount 0) (eq-eqb w w refl) in
    let most : total2 (adds_sum w) c.plan.tasks (set c.stages t (Held v p (a + 1))) ≤ planned_total c.plan w = le2 (adds_sum w) (λ (y : Task). total (added w) y.adds) c.plan.tasks (set c.stages t (Held v p (a + 1))) (adds_le w) in
    let fits = h.is_plan.totals_fit w in omega arith
  where
    adds_le : (w : ℕ) (y : Task) (s : Stage) → adds_sum w y s ≤ total (added w) y.adds
    adds_le w y Waiting = let r : 0 ≤ total (added w) y.adds = omega arith in r
    adds_le w y (Drawn u) = let r : 0 ≤ total (added w) y.adds = omega arith in r
    adds_le w y (Held u n k) = total_take (added w) y.adds k
    adds_le w y Given = let r : total (added w) y.adds ≤ total (added w) y.adds = omega arith in r
