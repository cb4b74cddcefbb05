-- Posts of a task that go on from those that were made.
use Rattle.std.proofs.Common.{◌≡◌, ℕ, ◌+◌, ◌<◌, true, List, length, get_or, set, refl, sym, ap, ◌∙◌, subst, arith}
use Rattle.std.proofs.Math.ListN.{length-set}
use Rattle.std.proofs.lemmas.List.{get_or-set_same, set-set}
use Rattle.amr_phase.specs.declared.plan.Post.{Post}
use Rattle.amr_phase.specs.Plans.{PlanOf, adds_of, no_post, puts_of}
use Rattle.amr_board.specs.declared.view.Progress.{Progress}
use Rattle.amr_board.specs.declared.view.View.{View}
use Rattle.amr_board.specs.Views.{IsHolding, IsNextAdd, IsNextPut, current, no_progress}
use Rattle.amr_board.specs.Posts.{HasPosted}

module _ {P : Type 0} (v w : View P) (puts adds : ℕ) (held : 0 < length v.tasks) (h : HasPosted v w puts adds) where
  abbrev posted : ℕ → ℕ → Progress
  posted p a = record (current v) { puts = (current v).puts + p; adds = (current v).adds + a }

  now : current w ≡ posted puts adds
  now = ap (λ (l : List Progress). get_or l 0 no_progress) h.tasks ∙ get_or-set_same v.tasks 0 (posted puts adds) no_progress held

  still_held : 0 < length w.tasks
  still_held = subst (λ (l : List Progress). 0 < length l) (sym h.tasks) (let n = length-set v.tasks 0 (posted puts adds) in omega (arith, n, held))

  -- more posts after them
  pub posted_on : (u : View P) (p a : ℕ) → HasPosted w u p a → HasPosted v u (puts + p) (adds + a)
  posted_on u p a g = record {
    tasks = g.tasks ∙ ap (λ (l : List Progress). set l 0 (record (current w) { puts = (current w).puts + p; adds = (current w).adds + a })) h.tasks
        ∙ set-set v.tasks 0 (posted puts adds) (record (current w) { puts = (current w).puts + p; adds = (current w).adds + a }) ∙ ap (set v.tasks 0) all;
    spent = g.spent ∙ h.spent;
    plan = g.plan ∙ h.plan;
    pieces = g.pieces ∙ h.pieces;
    past = g.past ∙ h.past;
    share = g.share ∙ h.share;
    look = g.look ∙ h.look;
    known = λ q has. g.known q (h.known q has);
    made = (let m = h.made in let n = g.made in omega (arith, m, n));
  }
    where
      all : record (current w) { puts = (current w).puts + p; adds = (current w).adds + a } ≡ posted (puts + p) (adds + a)
      all =
          ap (λ (e : Progress). record e { puts = e.puts + p; adds = e.adds + a }) now
          ∙ ap (λ n. record (posted puts adds) { puts = n; adds = (current v).adds + adds + a }) (let r : (current v).puts + puts + p ≡ (current v).puts + (puts + p) = omega arith in r)
          ∙ ap (λ n. record (posted (puts + p) adds) { adds = n }) (let r : (current v).adds + adds + a ≡ (current v).adds + (adds + a) = omega arith in r)

  module _ (holding : IsHolding v (current v).task true) where
    -- the same task is held
    pub holds_on : IsHolding w (current w).task true
    holds_on = record {
      held = still_held;
      is_task = refl;
      ungiven = ap (λ (e : Progress). e.given) now ∙ holding.ungiven;
      is_taken = ap (λ (e : Progress). e.taken) now ∙ holding.is_taken;
    }

    pub same_task : (current w).task ≡ (current v).task
    same_task = ap (λ (e : Progress). e.task) now

    pub so_many_puts : (current w).puts ≡ (current v).puts + puts
    so_many_puts = ap (λ (e : Progress). e.puts) now

    pub puts_are : puts_of w.plan (current w).task ≡ puts_of v.plan (current v).task
    puts_are = ap (λ (q : PlanOf). puts_of q (current w).task) h.plan ∙ ap (puts_of v.plan) same_task

    pub next_put_on : (place amount : ℕ) → (current v).puts + puts < length (puts_of v.plan (current v).task) → get_or (puts_of v.plan (current v).task) ((current v).puts + puts) no_post ≡ record { at = place; amount = amount } → IsNextPut w place amount
    next_put_on place amount lt post = record {
      task = (current w).task;
      holding = holds_on;
      left = omega (arith, lt, so_many_puts, ap length puts_are);
      post = ap (λ (l : List Post). get_or l (current w).puts no_post) puts_are ∙ (ap (λ n. get_or (puts_of v.plan (current v).task) n no_post) so_many_puts ∙ post);
    }

    pub so_many_adds : (current w).adds ≡ (current v).adds + adds
    so_many_adds = ap (λ (e : Progress). e.adds) now

    pub adds_are : adds_of w.plan (current w).task ≡ adds_of v.plan (current v).task
    adds_are = ap (λ (q : PlanOf). adds_of q (current w).task) h.plan ∙ ap (adds_of v.plan) same_task

    pub next_add_on : (word amount : ℕ) → (current v).adds + adds < length (adds_of v.plan (current v).task) → get_or (adds_of v.plan (current v).task) ((current v).adds + adds) no_post ≡ record { at = word; amount = amount } → IsNextAdd w word amount
    next_add_on word amount lt post = record {
      task = (current w).task;
      holding = holds_on;
      left = omega (arith, lt, so_many_adds, ap length adds_are);
      post = ap (λ (l : List Post). get_or l (current w).adds no_post) adds_are ∙ (ap (λ n. get_or (adds_of v.plan (current v).task) n no_post) so_many_adds ∙ post);
    }

-- a seat knows the board's plan
pub own_puts : {P : Type 0} (v : View P) (plan : PlanOf) (posts : List Post) → v.plan ≡ plan → puts_of plan (current v).task ≡ posts → puts_of v.plan (current v).task ≡ posts
own_puts v plan posts e h = ap (λ (q : PlanOf). puts_of q (current v).task) e ∙ h

pub own_adds : {P : Type 0} (v : View P) (plan : PlanOf) (posts : List Post) → v.plan ≡ plan → adds_of plan (current v).task ≡ posts → adds_of v.plan (current v).task ≡ posts
own_adds v plan posts e h = ap (λ (q : PlanOf). adds_of q (current v).task) e ∙ h
