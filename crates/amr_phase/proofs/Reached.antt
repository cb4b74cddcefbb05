-- What holds of every reached state.
use Rattle.std.proofs.Common.{◌≡◌, ℕ, suc, ◌+◌, ◌<◌, true, true≢false, List, [], ◌∷◌, length, drop, Some, None, refl, sym, ap, ◌∙◌, subst, inl, inr, arith, add-one}
use Rattle.std.specs.Prelude.{Option}
use mathlib.Core.Logic.{dite}
use native.Mathlib.Decide.{ℕ_discrete}
use Rattle.amr_phase.specs.declared.plan.Post.{Post}
use Rattle.amr_phase.specs.declared.plan.Task.{Task}
use Rattle.amr_phase.specs.declared.machine.Stage.{Stage}
use Rattle.amr_phase.specs.declared.machine.Stage.TheVariants.{Waiting, Drawn, Held, Given}
use Rattle.amr_phase.specs.Plans.{total, named, stored, planned_face}
use Rattle.amr_phase.specs.Machine.{CoreOf, fresh, is_given, puts_done, total2, puts_sum, puts_count, word_of, stage_of}
use Rattle.amr_phase.specs.Laws.{IsReached, IsConsistent, PlacesAreEmptyOrPlanned, DrawnAreBelowCounter, EndsAsPlanned, place_of, puts_made, value_in}
use Rattle.amr_phase.proofs.Sums.{zero_too, total_take_drop}
use Rattle.amr_phase.proofs.Plans.{passes_at}
use Rattle.amr_phase.proofs.Consistent.{keeps_after, keeps_fresh, words_end, places_end}
use Rattle.amr_phase.proofs.Totals.{unnamed, zero2}

pub consistent : (c : CoreOf) → IsReached c → IsConsistent c
consistent c r = subst IsConsistent (sym r.reached) (keeps_after (fresh r.plan r.workers) (keeps_fresh r.plan r.workers r.is_plan) r.events)

-- the puts of a task that are left at its stage
abbrev puts_left : Task → Stage → List Post
puts_left t Waiting = t.puts
puts_left t (Drawn v) = t.puts
puts_left t (Held v p a) = drop p t.puts
puts_left t Given = []

done_and_left : (f : Post → ℕ) (t : Task) (s : Stage) → total f (puts_done t s) + total f (puts_left t s) ≡ total f t.puts
done_and_left f t Waiting = let r : 0 + total f t.puts ≡ total f t.puts = omega arith in r
done_and_left f t (Drawn v) = let r : 0 + total f t.puts ≡ total f t.puts = omega arith in r
done_and_left f t (Held v p a) = total_take_drop f t.puts p
done_and_left f t Given = let r : total f t.puts + 0 ≡ total f t.puts = omega arith in r

all_parts : (f : Post → ℕ) (ts : List Task) (ss : List Stage) → length ss ≡ length ts
    → total2 (λ t s. total f (puts_done t s)) ts ss + total2 (λ t s. total f (puts_left t s)) ts ss ≡ total (λ (t : Task). total f t.puts) ts
all_parts f [] [] len = refl
all_parts f [] (s ∷ ss) len = absurd (omega arith)
all_parts f (t ∷ ts) [] len = absurd (omega arith)
all_parts f (t ∷ ts) (s ∷ ss) len =
    let a = done_and_left f t s in
    let b = all_parts f ts ss (omega arith) in
    let r : (total f (puts_done t s) + total2 (λ u x. total f (puts_done u x)) ts ss) + (total f (puts_left t s) + total2 (λ u x. total f (puts_left u x)) ts ss) ≡ total f t.puts + total (λ (u : Task). total f u.puts) ts = omega arith in r

value_of_word : (o : Option ℕ) → o ≡ value_in (word_of o)
value_of_word None = refl
value_of_word (Some n) = let e : n + 1 ≡ suc n = add-one n in sym (ap value_in e)

none_at : (o : Option ℕ) → word_of o ≡ 0 → o ≡ None
none_at None e = refl
none_at (Some n) e = absurd (let h : n + 1 ≡ 0 = e in omega arith)

module _ (c : CoreOf) (r : IsReached c) where
  abbrev h : IsConsistent c
  h = consistent c r

  pub places_law : PlacesAreEmptyOrPlanned c
  places_law p lt =
      let here = h.places p lt in
      let all = all_parts (named p) c.plan.tasks c.stages h.stage_count in
      let most = h.is_plan.apart p in
      dite (ℕ_discrete (puts_made c p) 0)
      (λ none.
      let nothing : total2 (puts_sum p) c.plan.tasks c.stages ≡ 0 = zero2 (puts_count p) (puts_sum p) c.plan.tasks c.stages (λ t s. zero_too (named p) (stored p) (puts_done t s) (unnamed p)) none in
      inl (none_at (place_of c p) (here ∙ nothing), none))
      (λ some.
      let made : puts_made c p ≡ 1 = omega arith in
      let no_name : total2 (λ t s. total (named p) (puts_left t s)) c.plan.tasks c.stages ≡ 0 = omega arith in
      let no_left = zero2 (λ t s. total (named p) (puts_left t s)) (λ t s. total (stored p) (puts_left t s)) c.plan.tasks c.stages (λ t s. zero_too (named p) (stored p) (puts_left t s) (unnamed p)) no_name in
      let whole = all_parts (stored p) c.plan.tasks c.stages h.stage_count in
      let planned : word_of (place_of c p) ≡ planned_face c.plan p = omega arith in
      inr (value_of_word (place_of c p) ∙ ap value_in planned, made))

  pub counter_law : DrawnAreBelowCounter c
  counter_law t lt = h.below t (let n = h.stage_count in omega arith)

  pub complete_law : EndsAsPlanned c
  complete_law all =
      let given : (k : ℕ) → k < length c.stages → stage_of c k ≡ Given = λ k lt. is_it (stage_of c k) (passes_at is_given c.stages k Given all lt) in
      (words_end c h given, (λ p lt. value_of_word (place_of c p) ∙ ap value_in (places_end c h given p lt)))
    where
      is_it : (s : Stage) → is_given s ≡ true → s ≡ Given
      is_it Waiting e = absurd (true≢false (sym e))
      is_it (Drawn v) e = absurd (true≢false (sym e))
      is_it (Held v p a) e = absurd (true≢false (sym e))
      is_it Given e = refl
