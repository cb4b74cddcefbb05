-- What holds of every state that events lead to, enabled or not, in every order.
use Rattle.std.specs.Prelude.{ℕ, zero, suc, ◌+◌, ◌≡◌, ◌<◌, ◌≤◌, ◌⊎◌, Bool, true, List, length, slice_index}
use Rattle.std.specs.Prelude.{slice_index_or, nat_le, Option, Some, None, if◌then◌else◌}
use Rattle.amr_phase.specs.declared.machine.Event.{Event}
use Rattle.amr_phase.specs.Plans.{PlanOf, IsPlan, total, planned_total, planned_face}
use Rattle.amr_phase.specs.Machine.{CoreOf, fresh, after, stage_of, is_with, is_waiting, is_complete, total2, adds_sum, puts_sum, puts_count, word_of}

-- some events lead to the state, from the start of a phase of this plan
pub record IsReached (c : CoreOf) : Type 0 where
  pub plan : PlanOf
  pub workers : ℕ
  pub is_plan : IsPlan plan
  pub events : List Event
  pub reached : c ≡ after (fresh plan workers) events

-- the value planned at a place, if one is
abbrev pub value_in : ℕ → Option ℕ
value_in zero = None
value_in (suc n) = Some n

abbrev pub planned_value : PlanOf → ℕ → Option ℕ
planned_value plan p = value_in (planned_face plan p)

abbrev pub place_of : CoreOf → ℕ → Option ℕ
place_of c p = slice_index_or c.faces p None

-- how many puts at the place are done
abbrev pub puts_made : CoreOf → ℕ → ℕ
puts_made c p = total2 (puts_count p) c.plan.tasks c.stages

-- each word is the sum of the adds done
abbrev pub WordsAreSums : CoreOf → Type 0
WordsAreSums c = (w : ℕ) → w < c.plan.words → slice_index c.totals w ≡ total2 (adds_sum w) c.plan.tasks c.stages

-- each place is empty, or has its planned value, and that exactly where its put is done
abbrev pub PlacesAreEmptyOrPlanned : CoreOf → Type 0
PlacesAreEmptyOrPlanned c =
    (p : ℕ) → p < c.plan.places → ((place_of c p ≡ None) × (puts_made c p ≡ 0)) ⊎ ((place_of c p ≡ planned_value c.plan p) × (puts_made c p ≡ 1))

-- the tasks below the counter are just those that don't wait
abbrev pub DrawnAreBelowCounter : CoreOf → Type 0
DrawnAreBelowCounter c = (t : ℕ) → t < length c.plan.tasks → is_waiting (stage_of c t) ≡ nat_le c.counter t

-- no task is with two workers
abbrev pub HasOneWorker : CoreOf → Type 0
HasOneWorker c = (t v w : ℕ) → is_with v (stage_of c t) ≡ true → is_with w (stage_of c t) ≡ true → v ≡ w

-- no worker has two tasks
abbrev pub HasOneTask : CoreOf → Type 0
HasOneTask c = (w t u : ℕ) → is_with w (stage_of c t) ≡ true → is_with w (stage_of c u) ≡ true → t ≡ u

-- where all tasks are given back, the words are the plan's totals and the places have the plan's values
abbrev pub EndsAsPlanned : CoreOf → Type 0
EndsAsPlanned c =
    is_complete c ≡ true
    → ((w : ℕ) → w < c.plan.words → slice_index c.totals w ≡ planned_total c.plan w) × ((p : ℕ) → p < c.plan.places → place_of c p ≡ planned_value c.plan p)

-- each sentence above, but for the last, as one invariant of the machine
pub record IsConsistent (c : CoreOf) : Type 0 where
  pub is_plan : IsPlan c.plan
  pub stage_count : length c.stages ≡ length c.plan.tasks
  pub face_count : length c.faces ≡ c.plan.places
  pub word_count : length c.totals ≡ c.plan.words
  pub below : (t : ℕ) → t < length c.stages → is_waiting (stage_of c t) ≡ nat_le c.counter t
  pub one_task : HasOneTask c
  pub words : WordsAreSums c
  pub places : (p : ℕ) → p < c.plan.places → word_of (place_of c p) ≡ total2 (puts_sum p) c.plan.tasks c.stages
  pub counter_fits : c.counter ≤ length c.stages + total (λ (b : Bool). if b then 1 else 0) c.past
