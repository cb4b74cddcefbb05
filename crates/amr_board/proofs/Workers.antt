-- No event changes the number of workers.
use Rattle.std.proofs.Common.{◌≡◌, ℕ, ◌+◌, ◌==◌, cond, Bool, true, false, List, [], ◌∷◌, length, set, Some, None, refl, ◌∙◌}
use Rattle.std.specs.Prelude.{Option, MatchOption, nat_lt, position, unwrap_or, slice_index_or}
use Rattle.std.proofs.Math.ListN.{length-set}
use Rattle.std.specs.Option.{option_and_then}
use Rattle.amr_phase.specs.declared.machine.Hold.{Hold}
use Rattle.amr_phase.specs.declared.machine.Stage.{Stage}
use Rattle.amr_phase.specs.declared.machine.Stage.TheVariants.{Waiting, Drawn, Held, Given}
use Rattle.amr_phase.specs.declared.machine.Event.{Event}
use Rattle.amr_phase.specs.declared.machine.Event.TheVariants.{Draw, Take, Put, Add, Face, Give}
use Rattle.amr_phase.specs.Machine.{CoreOf, is_with, stage_of, task_at, can_draw, drawn, next_of, next_at, at_task, hold_of, after, after_take, after_put, after_add, after_give}

abbrev Same : CoreOf → Option CoreOf → Type 0
Same c o = MatchOption o (Unit {0}) (λ d. length d.past ≡ length c.past)

same_if : (c : CoreOf) (b : Bool) (o : Option CoreOf) → Same c o → Same c (cond b o None)
same_if c true o h = h
same_if c false o h = tt

same_drawn : (c : CoreOf) (w : ℕ) → length (drawn c w).past ≡ length c.past
same_drawn c w =
    elim (nat_lt c.counter (length c.stages)) as (λ b. length (cond b (record c { counter = c.counter + 1; stages = set c.stages c.counter (Drawn w) }) (record c { counter = c.counter + 1; past = set c.past w true })).past ≡ length c.past) [
      | true ↦ refl
      | false ↦ length-set c.past w true
    ]

same_take : (c : CoreOf) (t : ℕ) (s : Stage) → Same c (after_take c t s)
same_take c t Waiting = tt
same_take c t (Drawn v) = refl
same_take c t (Held v p a) = tt
same_take c t Given = tt

same_put : (c : CoreOf) (x : Hold) → Same c (after_put c x)
same_put c x = same_if c (nat_lt x.puts (length (task_at c x.task).puts)) _ refl

same_add : (c : CoreOf) (x : Hold) → Same c (after_add c x)
same_add c x = same_if c (nat_lt x.adds (length (task_at c x.task).adds)) _ refl

same_give : (c : CoreOf) (x : Hold) → Same c (after_give c x)
same_give c x = same_if c (x.puts == length (task_at c x.task).puts) _ (same_if c (x.adds == length (task_at c x.task).adds) _ refl)

same_held : (c : CoreOf) (w : ℕ) (f : Hold → Option CoreOf) → ((x : Hold) → Same c (f x)) → Same c (option_and_then f (hold_of c w))
same_held c w f each = at (hold_of c w)
  where
    at : (o : Option Hold) → Same c (option_and_then f o)
    at None = tt
    at (Some x) = each x

same_at : (c : CoreOf) (w : ℕ) (f : ℕ → Stage → Option CoreOf) → ((t : ℕ) (s : Stage) → Same c (f t s)) → Same c (next_at c w f)
same_at c w f each = same_if c (nat_lt w (length c.past)) _ (at (position (is_with w) c.stages))
  where
    at : (o : Option ℕ) → Same c (at_task c w f o)
    at None = tt
    at (Some t) = each t (stage_of c t)

same_next : (c : CoreOf) (e : Event) → Same c (next_of c e)
same_next c (Draw w) = same_if c (nat_lt w (length c.past)) _ (same_if c (can_draw (position (is_with w) c.stages) (slice_index_or c.past w true)) _ (same_drawn c w))
same_next c (Take w) = same_at c w (after_take c) (same_take c)
same_next c (Put w) = same_held c w (after_put c) (same_put c)
same_next c (Add w) = same_held c w (after_add c) (same_add c)
same_next c (Face w p) = same_if c (nat_lt w (length c.past)) _ (same_if c (nat_lt p c.plan.places) _ refl)
same_next c (Give w) = same_held c w (after_give c) (same_give c)

pub past_stays : (c : CoreOf) (es : List Event) → length (after c es).past ≡ length c.past
past_stays c [] = refl
past_stays c (e ∷ es) = past_stays (unwrap_or (next_of c e) c) es ∙ kept (next_of c e) (same_next c e)
  where
    kept : (o : Option CoreOf) → Same c o → length (unwrap_or o c).past ≡ length c.past
    kept None h = refl
    kept (Some d) h = h
