-- What a plan says of a single put, and when a layout is a plan.
use Rattle.std.proofs.Common.{◌≡◌, ℕ, zero, suc, ◌+◌, ◌<◌, ◌≤◌, cond, List, [], ◌∷◌, length, get_or, refl, sym, ap, ◌∙◌, arith, eq-eqb, ne_eqb, lt_of_not-le}
use mathlib.Core.Logic.{dite}
use native.Mathlib.Decide.{ℕ_discrete, dec_le}
use Rattle.std.proofs.lemmas.List.{get_or_past}
use Rattle.amr_phase.specs.declared.plan.Post.{Post}
use Rattle.amr_phase.specs.declared.plan.Task.{Task}
use Rattle.amr_phase.specs.Plans.{PlanOf, IsPlan, IsLayout, total, stored, named, no_task, no_post, puts_of, put_at, puts_named, planned_face}
use Rattle.amr_phase.proofs.Sums.{total_le, total_zero}
use Rattle.amr_phase.proofs.Totals.{unnamed}
use Rattle.amr_phase.proofs.Sums.{zero_too}

module _ {X : Type 0} where
  -- what has no part anywhere else has its whole sum here
  only_here : (f g : X → ℕ) (xs : List X) (i : ℕ) (d : X) → i < length xs → ((x : X) → f x ≡ 0 → g x ≡ 0) → total f xs ≡ f (get_or xs i d) → total g xs ≡ g (get_or xs i d)
  only_here f g [] i d lt z e = absurd (omega arith)
  only_here f g (x ∷ xs) zero d lt z e =
      let e' : f x + total f xs ≡ f x = e in
      let rest : total g xs ≡ 0 = zero_too f g xs z (omega arith) in
      let r : g x + total g xs ≡ g x = omega arith in r
  only_here f g (x ∷ xs) (suc i) d lt z e =
      let e' : f x + total f xs ≡ f (get_or xs i d) = e in
      let at = total_le f xs i d (omega arith) in
      let first : g x ≡ 0 = z x (omega arith) in
      let rest : total g xs ≡ g (get_or xs i d) = only_here f g xs i d (omega arith) z (omega arith) in
      let r : g x + total g xs ≡ g (get_or xs i d) = omega arith in r

  -- a sum that is not 0 has a part that is not
  pub some_part : (f : X → ℕ) (xs : List X) (d : X) → 0 < total f xs → (i : ℕ) × (i < length xs) × (0 < f (get_or xs i d))
  some_part f [] d h = absurd (omega arith)
  some_part f (x ∷ xs) d h =
      let h' : 0 < f x + total f xs = h in
      dite (ℕ_discrete (f x) 0)
      (λ z. let r = some_part f xs d (omega arith) in (suc r.0, (let l = r.1 in omega arith), r.2))
      (λ ne. (0, (let r : 0 < suc (length xs) = omega arith in r), (let r : 0 < f x = omega arith in r)))

  -- parts of 1 at most, of which one alone is not 0
  at_most_one : (f : X → ℕ) (xs : List X) (d : X) → ((i : ℕ) → i < length xs → f (get_or xs i d) ≤ 1)
      → ((i j : ℕ) → i < length xs → j < length xs → 0 < f (get_or xs i d) → 0 < f (get_or xs j d) → i ≡ j) → total f xs ≤ 1
  at_most_one f [] d small alone = let r : 0 ≤ 1 = omega arith in r
  at_most_one f (x ∷ xs) d small alone =
      let first : f x ≤ 1 = small 0 (let r : 0 < suc (length xs) = omega arith in r) in
      let more : total f xs ≤ 1
      = at_most_one f xs d (λ i lt. small (suc i) (omega arith))
      (λ i j i_lt j_lt a b. let e = alone (suc i) (suc j) (omega arith) (omega arith) a b in omega arith) in
      dite (ℕ_discrete (f x) 0)
      (λ z. let r : f x + total f xs ≤ 1 = omega arith in r)
      (λ ne.
      let others : total f xs ≡ 0
      = total_zero f xs d (λ i lt. dite (ℕ_discrete (f (get_or xs i d)) 0) (λ z. z)
      (λ some. absurd (let e : 0 ≡ suc i = alone 0 (suc i) (let r : 0 < suc (length xs) = omega arith in r) (omega arith) (let r : 0 < f x = omega arith in r) (omega arith) in omega arith))) in
      let r : f x + total f xs ≤ 1 = omega arith in r)

named_here : (p : Post) → named p.at p ≡ 1
named_here p = ap (λ b. cond {A = ℕ} b 1 0) (eq-eqb p.at p.at refl)

stored_here : (p : Post) → stored p.at p ≡ p.amount + 1
stored_here p = ap (λ b. cond {A = ℕ} b (p.amount + 1) 0) (eq-eqb p.at p.at refl)

named_is : (place : ℕ) (p : Post) → 0 < named place p → p.at ≡ place
named_is place p some = dite (ℕ_discrete p.at place) (λ e. e) (λ ne. absurd (let z : named place p ≡ 0 = ap (λ b. cond {A = ℕ} b 1 0) (ne_eqb p.at place ne) in omega arith))

named_small : (place : ℕ) (p : Post) → named place p ≤ 1
named_small place p =
    dite (ℕ_discrete p.at place)
    (λ e. let r : named place p ≡ 1 = ap (λ b. cond {A = ℕ} b 1 0) (eq-eqb p.at place e) in omega arith)
    (λ ne. let z : named place p ≡ 0 = ap (λ b. cond {A = ℕ} b 1 0) (ne_eqb p.at place ne) in omega arith)

module _ (plan : PlanOf) where
  -- a number past the tasks has no puts
  task_in_range : (t k : ℕ) → k < length (puts_of plan t) → t < length plan.tasks
  task_in_range t k lt =
      dite (dec_le (length plan.tasks) t)
      (λ le. absurd (let none : length (puts_of plan t) ≡ 0 = ap (λ (x : Task). length x.puts) (get_or_past plan.tasks t no_task le) in omega arith))
      (λ no. lt_of_not-le no)

  pub put_is_planned : IsPlan plan → (t k : ℕ) → k < length (puts_of plan t) → planned_face plan (put_at plan t k).at ≡ (put_at plan t k).amount + 1
  put_is_planned ok t k lt =
      let p : Post = put_at plan t k in
      let names : Task → ℕ = λ (x : Task). total (named p.at) x.puts in
      let stores : Task → ℕ = λ (x : Task). total (stored p.at) x.puts in
      let t_lt = task_in_range t k lt in
      let one = named_here p in
      let in_task : named p.at p ≤ total (named p.at) (puts_of plan t) = total_le (named p.at) (puts_of plan t) k no_post lt in
      let in_all : total (named p.at) (puts_of plan t) ≤ puts_named plan p.at = total_le names plan.tasks t no_task t_lt in
      let most = ok.apart p.at in
      let here : total (stored p.at) (puts_of plan t) ≡ stored p.at p = only_here (named p.at) (stored p.at) (puts_of plan t) k no_post lt (unnamed p.at) (omega arith) in
      let whole : planned_face plan p.at ≡ total (stored p.at) (puts_of plan t)
      = only_here names stores plan.tasks t no_task t_lt (λ x. zero_too (named p.at) (stored p.at) x.puts (unnamed p.at)) (let n : total names plan.tasks ≡ puts_named plan p.at = refl in omega arith) in
      whole ∙ (here ∙ stored_here p)

  pub layout_is_plan : IsLayout plan → IsPlan plan
  layout_is_plan layout =
      record { puts_in_range = layout.puts_in_range; adds_in_range = layout.adds_in_range; apart = once; puts_fit = layout.puts_fit; totals_fit = layout.totals_fit }
    where
      names : ℕ → Task → ℕ
      names place x = total (named place) x.puts

      -- where a task names the place, one of its puts does
      which : (place t : ℕ) → 0 < total (named place) (puts_of plan t) → (k : ℕ) × (k < length (puts_of plan t)) × ((put_at plan t k).at ≡ place)
      which place t some = let r = some_part (named place) (puts_of plan t) no_post some in (r.0, r.1, named_is place (put_at plan t r.0) r.2)

      once : (place : ℕ) → puts_named plan place ≤ 1
      once place =
          at_most_one (λ (x : Task). total (named place) x.puts) plan.tasks no_task
          (λ t t_lt. at_most_one (named place) (puts_of plan t) no_post (λ k lt. named_small place (put_at plan t k))
          (λ k j k_lt j_lt a b. (layout.apart t k t j k_lt j_lt (named_is place (put_at plan t k) a ∙ sym (named_is place (put_at plan t j) b))).1))
          (λ t u t_lt u_lt a b.
          let x = which place t a in
          let y = which place u b in
          (layout.apart t x.0 u y.0 x.1 y.1 (x.2 ∙ sym y.2)).0)
