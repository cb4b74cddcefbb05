-- A plan whose tasks are those of another one, in runs of so many each: it is a plan, too, with the same totals and faces.
use Rattle.std.proofs.Common.{◌≡◌, ◌∙◌, ℕ, suc, ◌+◌, ◌*◌, ◌^◌, ◌<◌, ◌≤◌, ◌⊎◌, inl, inr, List, [], ◌∷◌, length, get_or, refl, sym, ap, subst, arith}
use Rattle.std.specs.List.{All, flat_map}
use Rattle.std.proofs.lemmas.Bool.{cases_lt}
use Rattle.std.proofs.lemmas.List.{get_or_past}
use Rattle.std.proofs.lemmas.List.Elements.{All-append}
use Rattle.amr_layout.proofs.Totals.{total_append}
use Rattle.amr_lots.specs.Runs.{run}
use Rattle.amr_lots.proofs.Runs.{run_at, run_place}
use Rattle.amr_patch.proofs.Lookups.{same_default}
use Rattle.amr_phase.specs.declared.plan.Post.{Post}
use Rattle.amr_phase.specs.declared.plan.Task.{Task}
use Rattle.amr_phase.specs.Plans.{IsPlan, PlanOf, added, adds_of, named, no_post, no_task, planned_face, planned_total, puts_of, stored, total}
use Rattle.amr_advance.proofs.RunLists.{total_runs}

pub record IsMerged (each : ℕ) (fine q : PlanOf) : Type 0 where
  pub places : q.places ≡ fine.places
  pub words : q.words ≡ fine.words
  pub enough : length fine.tasks ≤ length q.tasks * each
  pub puts : (k : ℕ) → k < length q.tasks → puts_of q k ≡ flat_map (λ (t : Task). t.puts) (run each k fine.tasks)
  pub range : (k j : ℕ) → j < length (adds_of q k) → (get_or (adds_of q k) j no_post).at < q.words
  pub adds : (k word : ℕ) → k < length q.tasks → total (added word) (adds_of q k) ≡ total (λ (t : Task). total (added word) t.adds) (run each k fine.tasks)

-- ---- lists

total_flat : {A B : Type 0} (f : B → ℕ) (g : A → List B) (xs : List A) → total f (flat_map g xs) ≡ total (λ x. total f (g x)) xs
total_flat f g [] = refl
total_flat f g (x ∷ xs) = total_append f (g x) (flat_map g xs) ∙ ap (λ n. total f (g x) + n) (total_flat f g xs)

all_flat : {A B : Type 0} (P : B → Type 0) (g : A → List B) (xs : List A) → ((i : ℕ) (d : A) → i < length xs → All P (g (get_or xs i d))) → All P (flat_map g xs)
all_flat P g [] h = λ k d lt. absurd (omega (arith, lt))
all_flat P g (x ∷ xs) h = All-append P (g x) (flat_map g xs) (h 0 x (omega arith)) (all_flat P g xs (λ i d lt. h (suc i) d (omega (arith, lt))))

module _ {each : ℕ} {fine q : PlanOf} (m : IsMerged each fine q) where
  task_is : (k : ℕ) (d : Task) → k < length q.tasks → get_or q.tasks k d ≡ get_or q.tasks k no_task
  task_is k d lt = same_default q.tasks k d no_task lt

  -- ---- sums over all puts

  puts_sum : (f : Post → ℕ) → total (λ (t : Task). total f t.puts) q.tasks ≡ total (λ (t : Task). total f t.puts) fine.tasks
  puts_sum f =
      total_runs (λ (t : Task). total f t.puts) (λ (t : Task). total f t.puts) each q.tasks fine.tasks
      (λ k y lt. ap (λ (t : Task). total f t.puts) (task_is k y lt) ∙ ap (total f) (m.puts k lt) ∙ total_flat f (λ (t : Task). t.puts) (run each k fine.tasks))
      m.enough

  pub merged_face : (place : ℕ) → planned_face q place ≡ planned_face fine place
  merged_face place = puts_sum (stored place)

  pub merged_total : (word : ℕ) → planned_total q word ≡ planned_total fine word
  merged_total word =
      total_runs (λ (t : Task). total (added word) t.adds) (λ (t : Task). total (added word) t.adds) each q.tasks fine.tasks
      (λ k y lt. ap (λ (t : Task). total (added word) t.adds) (task_is k y lt) ∙ m.adds k word lt)
      m.enough

  -- ---- what holds of all puts

  module _ (is : IsPlan fine) where
    all_puts : (P : Post → Type 0) → ((t j : ℕ) → j < length (puts_of fine t) → P (get_or (puts_of fine t) j no_post)) → (k : ℕ) → All P (puts_of q k)
    all_puts P h k = by_place (cases_lt k (length q.tasks))
      where
        fine_puts : (t : ℕ) (d : Task) → t < length fine.tasks → All P (get_or fine.tasks t d).puts
        fine_puts t d lt = λ j e below.
            let task : get_or fine.tasks t d ≡ get_or fine.tasks t no_task = same_default fine.tasks t d no_task lt in
            let there : j < length (puts_of fine t) = subst (λ (x : Task). j < length x.puts) task below in
            subst (λ (x : Task). P (get_or x.puts j e)) (sym task) (subst P (same_default (puts_of fine t) j no_post e there) (h t j there))

        by_place : ((k < length q.tasks) ⊎ (length q.tasks ≤ k)) → All P (puts_of q k)
        by_place (inl lt) =
            subst (All P) (sym (m.puts k lt))
            (all_flat P (λ (t : Task). t.puts) (run each k fine.tasks) (λ i d below. subst (λ (x : Task). All P x.puts) (sym (run_at each fine.tasks k i d below)) (fine_puts (k * each + i) d (run_place each fine.tasks k i below))))
        by_place (inr le) = subst (λ (x : Task). All P x.puts) (sym (get_or_past q.tasks k no_task le)) (λ j e below. absurd (omega (arith, below)))

    at_put : (P : Post → Type 0) → ((k : ℕ) → All P (puts_of q k)) → (t k : ℕ) → k < length (puts_of q t) → P (get_or (puts_of q t) k no_post)
    at_put P h t k lt = h t k no_post lt

    pub merged_plan : IsPlan q
    merged_plan = record {
      puts_in_range = at_put (λ (x : Post). x.at < q.places) (all_puts (λ (x : Post). x.at < q.places) (λ t j lt. let r = is.puts_in_range t j lt in omega (arith, r, m.places)));
      adds_in_range = m.range;
      apart = λ place. let r = is.apart place in omega (arith, r, puts_sum (named place));
      puts_fit = at_put (λ (x : Post). x.amount < 2 ^ 63) (all_puts (λ (x : Post). x.amount < 2 ^ 63) is.puts_fit);
      totals_fit = λ word. let r = is.totals_fit word in omega (arith, r, merged_total word);
    }
