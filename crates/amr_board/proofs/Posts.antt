-- Posts that are made in a loop, and looks.
use Rattle.std.proofs.Common.{◌≡◌, ℕ, ◌+◌, ◌<◌, ◌==◌, cond, true, false, List, [], ◌∷◌, ◌++◌, length, get_or, set, drop, refl, sym, ap, ◌∙◌, subst, arith, add-zero}
use Rattle.std.specs.Prelude.{Contains}
use Rattle.std.proofs.Math.ListN.{length-set}
use Rattle.std.proofs.lemmas.List.{get_or-set_same, set-set, set-get_or}
use Rattle.std.proofs.lemmas.List.Elements.{Contains-append_left}
use Rattle.amr_phase.specs.declared.plan.Post.{Post}
use Rattle.amr_phase.specs.Plans.{PlanOf, puts_of, adds_of, no_post}
use Rattle.amr_board.specs.declared.view.Progress.{Progress}
use Rattle.amr_board.specs.declared.view.View.{View}
use Rattle.amr_board.specs.Views.{current, no_progress, IsHolding, IsFresh, IsNextPut, IsNextAdd, HasWorked, put_done, add_done, looked}
use Rattle.amr_board.specs.Posts.{HasPosted, HasLooked}

module _ {P : Type 0} (v : View P) where
  abbrev posted : ℕ → ℕ → Progress
  posted p a = record (current v) { puts = (current v).puts + p; adds = (current v).adds + a }

  pub posted_none : HasPosted v v 0 0
  posted_none =
      let zero_more : posted 0 0 ≡ current v = ap (λ n. record (current v) { puts = n; adds = (current v).adds + 0 }) (add-zero (current v).puts) ∙ ap (λ n. record (current v) { adds = n }) (add-zero (current v).adds) in
      record {
        tasks = sym (ap (set v.tasks 0) zero_more ∙ set-get_or v.tasks 0 no_progress);
        spent = refl;
        plan = refl;
        pieces = refl;
        past = refl;
        share = refl;
        look = refl;
        known = λ place has. has;
        made = omega arith;
      }

  module _ (w : View P) (puts adds : ℕ) (held : 0 < length v.tasks) (h : HasPosted v w puts adds) where
    -- the task as it is after the posts
    now : current w ≡ posted puts adds
    now = ap (λ (l : List Progress). get_or l 0 no_progress) h.tasks ∙ get_or-set_same v.tasks 0 (posted puts adds) no_progress held

    still_held : 0 < length w.tasks
    still_held = subst (λ (l : List Progress). 0 < length l) (sym h.tasks) (let n = length-set v.tasks 0 (posted puts adds) in omega arith)

    -- one step more, which leaves this task in the first place
    step : (e : Progress) → set w.tasks 0 e ≡ set v.tasks 0 e
    step e = ap (λ (l : List Progress). set l 0 e) h.tasks ∙ set-set v.tasks 0 (posted puts adds) e

    pub posted_put : (place : ℕ) → HasPosted v (put_done w place) (puts + 1) adds
    posted_put place =
        let one : record (current w) { puts = (current w).puts + 1 } ≡ posted (puts + 1) adds
        = ap (λ (e : Progress). record e { puts = e.puts + 1 }) now ∙ ap (λ n. record (posted puts adds) { puts = n }) (let r : (current v).puts + puts + 1 ≡ (current v).puts + (puts + 1) = omega arith in r) in
        record {
          tasks = step (record (current w) { puts = (current w).puts + 1 }) ∙ ap (set v.tasks 0) one;
          spent = h.spent;
          plan = h.plan;
          pieces = h.pieces;
          past = h.past;
          share = h.share;
          look = h.look;
          known = λ q has. Contains-append_left w.known (place ∷ []) q (h.known q has);
          made = (let m = h.made in omega arith);
        }

    pub posted_add : HasPosted v (add_done w) puts (adds + 1)
    posted_add =
        let one : record (current w) { adds = (current w).adds + 1 } ≡ posted puts (adds + 1)
        = ap (λ (e : Progress). record e { adds = e.adds + 1 }) now ∙ ap (λ n. record (posted puts adds) { adds = n }) (let r : (current v).adds + adds + 1 ≡ (current v).adds + (adds + 1) = omega arith in r) in
        record {
          tasks = step (record (current w) { adds = (current w).adds + 1 }) ∙ ap (set v.tasks 0) one;
          spent = h.spent;
          plan = h.plan;
          pieces = h.pieces;
          past = h.past;
          share = h.share;
          look = h.look;
          known = h.known;
          made = (let m = h.made in omega arith);
        }

  module _ (w : View P) (puts adds : ℕ) (fresh : IsFresh v) (h : HasPosted v w puts adds) where
    same_task : (current w).task ≡ (current v).task
    same_task = ap (λ (e : Progress). e.task) (now w puts adds fresh.held h)

    so_many_puts : (current w).puts ≡ puts
    so_many_puts = (let e = ap (λ (e : Progress). e.puts) (now w puts adds fresh.held h) in let z = fresh.no_puts in omega arith)

    so_many_adds : (current w).adds ≡ adds
    so_many_adds = (let e = ap (λ (e : Progress). e.adds) (now w puts adds fresh.held h) in let z = fresh.no_adds in omega arith)

    pub holds_still : IsHolding w (current v).task true
    holds_still =
        record {
          held = still_held w puts adds fresh.held h;
          is_task = same_task;
          ungiven = ap (λ (e : Progress). e.given) (now w puts adds fresh.held h) ∙ fresh.ungiven;
          is_taken = ap (λ (e : Progress). e.taken) (now w puts adds fresh.held h) ∙ fresh.is_taken;
        }

    holds_own : IsHolding w (current w).task true
    holds_own = record { held = holds_still.held; is_task = refl; ungiven = holds_still.ungiven; is_taken = holds_still.is_taken }

    puts_are : puts_of w.plan (current w).task ≡ puts_of v.plan (current v).task
    puts_are = ap (λ (q : PlanOf). puts_of q (current w).task) h.plan ∙ ap (puts_of v.plan) same_task

    adds_are : adds_of w.plan (current w).task ≡ adds_of v.plan (current v).task
    adds_are = ap (λ (q : PlanOf). adds_of q (current w).task) h.plan ∙ ap (adds_of v.plan) same_task

    pub next_put : (place amount : ℕ) → puts < length (puts_of v.plan (current v).task) → get_or (puts_of v.plan (current v).task) puts no_post ≡ record { at = place; amount = amount } → IsNextPut w place amount
    next_put place amount lt post =
        record {
          task = (current w).task;
          holding = holds_own;
          left = (let n = so_many_puts in let l = ap length puts_are in omega arith);
          post = ap (λ (l : List Post). get_or l (current w).puts no_post) puts_are ∙ (ap (λ n. get_or (puts_of v.plan (current v).task) n no_post) so_many_puts ∙ post);
        }

    pub next_add : (word amount : ℕ) → adds < length (adds_of v.plan (current v).task) → get_or (adds_of v.plan (current v).task) adds no_post ≡ record { at = word; amount = amount } → IsNextAdd w word amount
    next_add word amount lt post =
        record {
          task = (current w).task;
          holding = holds_own;
          left = (let n = so_many_adds in let l = ap length adds_are in omega arith);
          post = ap (λ (l : List Post). get_or l (current w).adds no_post) adds_are ∙ (ap (λ n. get_or (adds_of v.plan (current v).task) n no_post) so_many_adds ∙ post);
        }

    -- all posts are made, and looks may have followed: the piece may be given
    pub has_worked : (u : View P) (looks : ℕ) → HasLooked w u looks → puts ≡ length (puts_of v.plan (current v).task) → adds ≡ length (adds_of v.plan (current v).task) → HasWorked v.plan v u
    has_worked u looks l all_puts all_adds =
        let same : u.tasks ≡ set v.tasks 0 (posted puts adds) = l.tasks ∙ h.tasks in
        let cur : current u ≡ current w = ap (λ (es : List Progress). get_or es 0 no_progress) l.tasks in
        record {
          others = ap (drop 1) same ∙ behind v.tasks (posted puts adds);
          count = ap length same ∙ length-set v.tasks 0 (posted puts adds);
          same_task = ap (λ (e : Progress). e.task) cur ∙ same_task;
          ungiven = ap (λ (e : Progress). e.given) cur ∙ holds_still.ungiven;
          is_taken = ap (λ (e : Progress). e.taken) cur ∙ holds_still.is_taken;
          puts = ap (λ (e : Progress). e.puts) cur ∙ (so_many_puts ∙ all_puts);
          adds = ap (λ (e : Progress). e.adds) cur ∙ (so_many_adds ∙ all_adds);
          past = l.past ∙ h.past;
          share = l.share ∙ h.share;
        }
      where
        behind : (es : List Progress) (e : Progress) → drop 1 (set es 0 e) ≡ drop 1 es
        behind [] e = refl
        behind (x ∷ es) e = refl

module _ {P : Type 0} where
  pub looked_none : (v : View P) → HasLooked v v 0
  looked_none v =
      record { tasks = refl; spent = refl; plan = refl; pieces = refl; past = refl; share = refl; none = λ _. refl; number = omega arith; known = λ place has. has; made = omega arith }

  pub looked_once : (v : View P) (place found : ℕ) → HasLooked v (looked v place found) 1
  looked_once v place found =
      record { tasks = refl; spent = refl; plan = refl; pieces = refl; past = refl; share = refl; none = λ e. absurd (omega arith); number = refl; known = λ q has. either q has; made = refl }
    where
      either : (q : ℕ) → Contains v.known q → Contains (looked v place found).known q
      either q has = elim (found == 0) as (λ b. Contains (cond b v.known (v.known ++ place ∷ [])) q) [ true ↦ has | false ↦ Contains-append_left v.known (place ∷ []) q has ]

  pub looked_on : (v w u : View P) (m n : ℕ) → HasLooked v w m → HasLooked w u n → HasLooked v u (m + n)
  looked_on v w u m n a b =
      record {
        tasks = b.tasks ∙ a.tasks;
        spent = b.spent ∙ a.spent;
        plan = b.plan ∙ a.plan;
        pieces = b.pieces ∙ a.pieces;
        past = b.past ∙ a.past;
        share = b.share ∙ a.share;
        none = λ e. b.none (omega arith) ∙ a.none (omega arith);
        number = (let x = a.number in let y = b.number in omega arith);
        known = λ q has. b.known q (a.known q has);
        made = (let x = a.made in let y = b.made in omega arith);
      }

-- the task that was worked on may be given
pub may_give : {P : Type 0} (plan : PlanOf) (v u : View P) → IsFresh v → HasWorked plan v u → IsHolding u (current v).task true
may_give plan v u fresh done = record { held = (let n = done.count in let h = fresh.held in omega arith); is_task = done.same_task; ungiven = done.ungiven; is_taken = done.is_taken }
