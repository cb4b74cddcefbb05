-- What the machine's methods find and write, over plain values.
use Rattle.std.proofs.Common.{◌≡◌, ℕ, ◌+◌, ◌^◌, ◌<◌, ◌==◌, cond, Bool, false, List, length, get_or, set, Some, None, refl, sym, ap, ◌∙◌, subst, arith, eq-eqb}
use Rattle.std.specs.Prelude.{is_some, Option, nat_lt, position}
use Rattle.std.proofs.lemmas.List.Quantifiers.{position-Some}
use Rattle.std.proofs.lemmas.Bool.{lt-ltb}
use Rattle.amr_phase.specs.declared.plan.Post.{Post}
use Rattle.amr_phase.specs.declared.plan.Task.{Task}
use Rattle.amr_phase.specs.declared.machine.Hold.{Hold}
use Rattle.amr_phase.specs.declared.machine.Stage.TheVariants.{Drawn, Held, Given}
use Rattle.amr_phase.specs.Plans.{no_task, no_post}
use Rattle.amr_phase.specs.Machine.{CoreOf, is_with, stage_of, task_at, hold_of}
use Rattle.amr_phase.specs.Laws.{IsConsistent}
use Rattle.amr_phase.proofs.Sums.{same_default}
use Rattle.amr_phase.proofs.Finding.{none_passes, none_of}
use Rattle.amr_phase.proofs.Consistent.{Fine, keeps_taken, keeps_put, keeps_add, keeps_given, fine_true, stage_read, add_fits, hold_is}

module _ (c : CoreOf) (h : IsConsistent c) (w : ℕ) (now : CoreOf) (view_is : c ≡ now) where
  -- who has no task is with none
  pub free : (o : Option ℕ) → o ≡ position (is_with w) now.stages → is_some o ≡ false → (k : ℕ) → is_with w (stage_of c k) ≡ false
  free o found empty = none_passes (is_with w) c.stages Given refl (ap (λ (x : CoreOf). position (is_with w) x.stages) view_is ∙ (sym found ∙ none_of o empty))

  module _ (t : ℕ) (at : Some t ≡ position (is_with w) now.stages) where
    in_stages : t < length c.stages
    in_stages = (position-Some (is_with w) c.stages t Given (ap (λ (x : CoreOf). position (is_with w) x.stages) view_is ∙ sym at)).0

    pub take_keeps : (by : ℕ) → Drawn by ≡ get_or c.stages t (Drawn by) → IsConsistent (record c { stages = set c.stages t (Held by 0 0) })
    take_keeps by read = keeps_taken c h t (Drawn by) in_stages (stage_read c t (Drawn by) in_stages read)

  -- the worker holds this, and d is what stands for the task in the code
  module _ (x : Hold) (found : Some x ≡ hold_of now w) (tasks : List Task) (same : tasks ≡ c.plan.tasks) (d : Task) where
    held : (x.task < length c.stages) × (stage_of c x.task ≡ Held x.worker x.puts x.adds)
    held = hold_is c w x (ap (λ (y : CoreOf). hold_of y w) view_is ∙ sym found)

    abbrev t : ℕ
    t = x.task

    task_is : (e : Task) → get_or tasks t e ≡ task_at c t
    task_is e = ap (λ (l : List Task). get_or l t e) same ∙ same_default c.plan.tasks t e no_task (let k = held.0 in let n = h.stage_count in omega arith)

    module _ (posts : List Post) (is : posts ≡ (get_or tasks t d).puts) (lt : x.puts < length posts) where
      puts_are : posts ≡ (task_at c t).puts
      puts_are = is ∙ ap (λ (y : Task). y.puts) (task_is d)

      left : x.puts < length (task_at c t).puts
      left = subst (λ (l : List Post). x.puts < length l) puts_are lt

      post_is : get_or posts x.puts no_post ≡ get_or (task_at c t).puts x.puts no_post
      post_is = ap (λ (l : List Post). get_or l x.puts no_post) puts_are

      pub put_at : (get_or posts x.puts no_post).at < length c.faces
      put_at = (let e = ap (λ (q : Post). q.at) post_is in let k = h.is_plan.puts_in_range t x.puts left in let n = h.face_count in omega arith)

      pub put_keeps : IsConsistent (record c { stages = set c.stages t (Held x.worker (x.puts + 1) x.adds); faces = set c.faces (get_or posts x.puts no_post).at (Some (get_or posts x.puts no_post).amount) })
      put_keeps =
          let after : Post → CoreOf = λ (q : Post). record c { stages = set c.stages t (Held x.worker (x.puts + 1) x.adds); faces = set c.faces q.at (Some q.amount) } in
          subst (λ (q : Post). IsConsistent (after q)) (sym post_is)
          (fine_true (nat_lt x.puts (length (task_at c t).puts)) (after (get_or (task_at c t).puts x.puts no_post)) (lt-ltb x.puts (length (task_at c t).puts) left) (keeps_put c h x held.0 held.1))

    module _ (posts : List Post) (is : posts ≡ (get_or tasks t d).adds) (lt : x.adds < length posts) where
      adds_are : posts ≡ (task_at c t).adds
      adds_are = is ∙ ap (λ (y : Task). y.adds) (task_is d)

      more : x.adds < length (task_at c t).adds
      more = subst (λ (l : List Post). x.adds < length l) adds_are lt

      next_is : get_or posts x.adds no_post ≡ get_or (task_at c t).adds x.adds no_post
      next_is = ap (λ (l : List Post). get_or l x.adds no_post) adds_are

      pub add_at : (get_or posts x.adds no_post).at < length c.totals
      add_at = (let e = ap (λ (q : Post). q.at) next_is in let k = h.is_plan.adds_in_range t x.adds more in let n = h.word_count in omega arith)

      module _ (was : ℕ) (was_is : was ≡ get_or c.totals (get_or posts x.adds no_post).at was) where
        word_is : was ≡ get_or c.totals (get_or posts x.adds no_post).at 0
        word_is = was_is ∙ same_default c.totals (get_or posts x.adds no_post).at was 0 add_at

        pub add_stays_below : was + (get_or posts x.adds no_post).amount < 2 ^ 63
        add_stays_below =
            subst (λ (q : Post). was + q.amount < 2 ^ 63) (sym next_is)
            (subst (λ (n : ℕ). n + (get_or (task_at c t).adds x.adds no_post).amount < 2 ^ 63) (sym (word_is ∙ ap (λ (q : Post). get_or c.totals q.at 0) next_is))
            (add_fits c h t x.worker x.puts x.adds held.0 held.1 more))

        pub add_keeps : IsConsistent (record c { stages = set c.stages t (Held x.worker x.puts (x.adds + 1)); totals = set c.totals (get_or posts x.adds no_post).at (was + (get_or posts x.adds no_post).amount) })
        add_keeps =
            let after : Post → ℕ → CoreOf = λ (q : Post) (n : ℕ). record c { stages = set c.stages t (Held x.worker x.puts (x.adds + 1)); totals = set c.totals q.at (n + q.amount) } in
            let next : Post = get_or (task_at c t).adds x.adds no_post in
            subst (λ (y : Post). IsConsistent (after y was)) (sym next_is)
            (subst (λ (n : ℕ). IsConsistent (after next n)) (sym (word_is ∙ ap (λ (y : Post). get_or c.totals y.at 0) next_is))
            (fine_true (nat_lt x.adds (length (task_at c t).adds)) (after next (get_or c.totals next.at 0)) (lt-ltb x.adds (length (task_at c t).adds) more) (keeps_add c h x held.0 held.1)))

    pub give_keeps : (puts adds : List Post) (e : Task) → puts ≡ (get_or tasks t d).puts → adds ≡ (get_or tasks t e).adds → x.puts ≡ length puts → x.adds ≡ length adds → IsConsistent (record c { stages = set c.stages t Given })
    give_keeps puts adds e puts_is adds_is all_puts all_adds =
        let D : CoreOf = record c { stages = set c.stages t Given } in
        let puts_made = all_puts ∙ ap length (puts_is ∙ ap (λ (y : Task). y.puts) (task_is d)) in
        let adds_made = all_adds ∙ ap length (adds_is ∙ ap (λ (z : Task). z.adds) (task_is e)) in
        fine_true (x.adds == length (task_at c t).adds) D (eq-eqb x.adds (length (task_at c t).adds) adds_made)
        (subst (λ (b : Bool). Fine (cond b (cond (x.adds == length (task_at c t).adds) (Some D) None) None)) (eq-eqb x.puts (length (task_at c t).puts) puts_made) (keeps_given c h x held.0 held.1))
