-- The test of a plan and the facts of a plan are the same.
use Rattle.std.proofs.Common.{◌≡◌, ◌≢◌, ℕ, zero, suc, ◌<◌, ◌≤◌, ◌^◌, ◌&&◌, cond, Bool, true, List, [], ◌∷◌, length, get_or, ap, subst, arith, ne_eqb}
use Rattle.std.specs.Prelude.{nat_lt, nat_le}
use Rattle.std.specs.List.{list_all}
use Rattle.std.proofs.lemmas.Bool.{lt-ltb, ltb-true, le-leb, leb-true, and_from, and_parts}
use Rattle.std.proofs.lemmas.List.Sums.{AllPass-from_list_all, list_all-from_AllPass}
use Rattle.std.proofs.lemmas.List.Elements.{All-get_or, All-from_get_or}
use mathlib.Core.Logic.{dite}
use native.Mathlib.Decide.{dec_le}
use Rattle.amr_phase.specs.declared.plan.Post.{Post}
use Rattle.amr_phase.specs.declared.plan.Task.{Task}
use Rattle.amr_phase.specs.Plans.{PlanOf, IsPlan, is_plan, are_posts_sound, is_sound_put, is_sound_add, total, named, added, no_task, no_post, puts_of, adds_of, puts_named, planned_total}
use Rattle.amr_phase.proofs.Sums.{total_zero}

-- each element passes the test, or the list fails it
pub passes_at : {X : Type 0} (p : X → Bool) (xs : List X) (i : ℕ) (d : X) → list_all p xs ≡ true → i < length xs → p (get_or xs i d) ≡ true
passes_at p xs i d all lt = All-get_or (λ x. p x ≡ true) xs i d lt (AllPass-from_list_all p xs all)

pub passes_from : {X : Type 0} (p : X → Bool) (xs : List X) (d : X) → ((i : ℕ) → i < length xs → p (get_or xs i d) ≡ true) → list_all p xs ≡ true
passes_from p xs d each = list_all-from_AllPass p xs (All-from_get_or (λ x. p x ≡ true) xs d each)

-- past its end a plan has tasks with no posts
past_end : (plan : PlanOf) (t k : ℕ) → k < length (puts_of plan t) → t < length plan.tasks
past_end plan t k lt = in_tasks plan.tasks t k lt
  where
    in_tasks : (ts : List Task) (t k : ℕ) → k < length (get_or ts t no_task).puts → t < length ts
    in_tasks [] t k lt = absurd (omega arith)
    in_tasks (x ∷ xs) zero k lt = let r : 0 < suc (length xs) = omega arith in r
    in_tasks (x ∷ xs) (suc t) k lt = let h = in_tasks xs t k lt in let r : suc t < suc (length xs) = omega arith in r

past_end_adds : (plan : PlanOf) (t k : ℕ) → k < length (adds_of plan t) → t < length plan.tasks
past_end_adds plan t k lt = in_tasks plan.tasks t k lt
  where
    in_tasks : (ts : List Task) (t k : ℕ) → k < length (get_or ts t no_task).adds → t < length ts
    in_tasks [] t k lt = absurd (omega arith)
    in_tasks (x ∷ xs) zero k lt = let r : 0 < suc (length xs) = omega arith in r
    in_tasks (x ∷ xs) (suc t) k lt = let h = in_tasks xs t k lt in let r : suc t < suc (length xs) = omega arith in r

named_other : (p : ℕ) (x : Post) → x.at ≢ p → named p x ≡ 0
named_other p x ne = ap (λ b. cond {A = ℕ} b 1 0) (ne_eqb x.at p ne)

added_other : (w : ℕ) (x : Post) → x.at ≢ w → added w x ≡ 0
added_other w x ne = ap (λ b. cond {A = ℕ} b x.amount 0) (ne_eqb x.at w ne)

module _ (plan : PlanOf) (passed : is_plan plan ≡ true) where
  task_passes : (t : ℕ) → t < length plan.tasks → (list_all (is_sound_put plan) (puts_of plan t) ≡ true) × (list_all (is_sound_add plan) (adds_of plan t) ≡ true)
  task_passes t lt = and_parts (list_all (is_sound_put plan) (puts_of plan t)) (list_all (is_sound_add plan) (adds_of plan t)) (passes_at (are_posts_sound plan) plan.tasks t no_task passed lt)

  put_passes : (t k : ℕ) → k < length (puts_of plan t)
      → ((get_or (puts_of plan t) k no_post).at < plan.places) × ((get_or (puts_of plan t) k no_post).amount < 2 ^ 63) × (puts_named plan (get_or (puts_of plan t) k no_post).at ≤ 1)
  put_passes t k lt =
      let x : Post = get_or (puts_of plan t) k no_post in
      let all = passes_at (is_sound_put plan) (puts_of plan t) k no_post (task_passes t (past_end plan t k lt)).0 lt in
      let two = and_parts (nat_lt x.at plan.places && nat_lt x.amount (2 ^ 63)) (nat_le (puts_named plan x.at) 1) all in
      let one = and_parts (nat_lt x.at plan.places) (nat_lt x.amount (2 ^ 63)) two.0 in
      (ltb-true x.at plan.places one.0, ltb-true x.amount (2 ^ 63) one.1, leb-true (puts_named plan x.at) 1 two.1)

  add_passes : (t k : ℕ) → k < length (adds_of plan t) → ((get_or (adds_of plan t) k no_post).at < plan.words) × (planned_total plan (get_or (adds_of plan t) k no_post).at < 2 ^ 63)
  add_passes t k lt =
      let x : Post = get_or (adds_of plan t) k no_post in
      let all = passes_at (is_sound_add plan) (adds_of plan t) k no_post (task_passes t (past_end_adds plan t k lt)).1 lt in
      let one = and_parts (nat_lt x.at plan.words) (nat_lt (planned_total plan x.at) (2 ^ 63)) all in
      (ltb-true x.at plan.words one.0, ltb-true (planned_total plan x.at) (2 ^ 63) one.1)

  -- a number that more posts name than n is named by one that we know
  no_put_there : (place : ℕ) → ((t k : ℕ) → k < length (puts_of plan t) → (get_or (puts_of plan t) k no_post).at ≢ place) → puts_named plan place ≡ 0
  no_put_there place none =
      total_zero (λ (t : Task). total (named place) t.puts) plan.tasks no_task
      (λ t lt. total_zero (named place) (puts_of plan t) no_post (λ k k_lt. named_other place (get_or (puts_of plan t) k no_post) (none t k k_lt)))

  no_add_there : (word : ℕ) → ((t k : ℕ) → k < length (adds_of plan t) → (get_or (adds_of plan t) k no_post).at ≢ word) → planned_total plan word ≡ 0
  no_add_there word none =
      total_zero (λ (t : Task). total (added word) t.adds) plan.tasks no_task
      (λ t lt. total_zero (added word) (adds_of plan t) no_post (λ k k_lt. added_other word (get_or (adds_of plan t) k no_post) (none t k k_lt)))

  test_apart : (place : ℕ) → puts_named plan place ≤ 1
  test_apart place =
      dite (dec_le (puts_named plan place) 1)
      (λ le. le)
      (λ more.
      let none = no_put_there place (λ t k lt is. more (subst (λ n. puts_named plan n ≤ 1) is (put_passes t k lt).2)) in
      omega arith)

  test_totals : (word : ℕ) → planned_total plan word < 2 ^ 63
  test_totals word =
      dite (dec_le (2 ^ 63) (planned_total plan word))
      (λ le.
      let none = no_add_there word (λ t k lt is. absurd (let fits : planned_total plan word < 2 ^ 63 = subst (λ n. planned_total plan n < 2 ^ 63) is (add_passes t k lt).1 in omega arith)) in
      absurd (omega arith))
      (λ less. omega arith)

  pub plan_from_test : IsPlan plan
  plan_from_test =
      record {
        puts_in_range = λ t k lt. (put_passes t k lt).0;
        adds_in_range = λ t k lt. (add_passes t k lt).0;
        apart = test_apart;
        puts_fit = λ t k lt. (put_passes t k lt).1;
        totals_fit = test_totals;
      }

pub test_from_plan : (plan : PlanOf) → IsPlan plan → is_plan plan ≡ true
test_from_plan plan h =
    passes_from (are_posts_sound plan) plan.tasks no_task (λ t lt.
    and_from (list_all (is_sound_put plan) (puts_of plan t)) (list_all (is_sound_add plan) (adds_of plan t))
    (passes_from (is_sound_put plan) (puts_of plan t) no_post (λ k k_lt.
    let x : Post = get_or (puts_of plan t) k no_post in
    and_from (nat_lt x.at plan.places && nat_lt x.amount (2 ^ 63)) (nat_le (puts_named plan x.at) 1)
    (and_from (nat_lt x.at plan.places) (nat_lt x.amount (2 ^ 63)) (lt-ltb x.at plan.places (h.puts_in_range t k k_lt)) (lt-ltb x.amount (2 ^ 63) (h.puts_fit t k k_lt)))
    (le-leb (puts_named plan x.at) 1 (h.apart x.at))))
    (passes_from (is_sound_add plan) (adds_of plan t) no_post (λ k k_lt.
    let x : Post = get_or (adds_of plan t) k no_post in
    and_from (nat_lt x.at plan.words) (nat_lt (planned_total plan x.at) (2 ^ 63)) (lt-ltb x.at plan.words (h.adds_in_range t k k_lt)) (lt-ltb (planned_total plan x.at) (2 ^ 63) (h.totals_fit x.at)))))
