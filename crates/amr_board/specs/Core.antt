-- A running board is the machine of the phase: at each moment words, slots and views show a state that events lead to,
-- and each call is one event of its seat. (profile)
use Rattle.std.specs.Prelude.{ℕ, ◌+◌, ◌==◌, ◌≡◌, ◌<◌, ◌≤◌, true, false, if◌then◌else◌, List, [], ◌∷◌}
use Rattle.std.specs.Prelude.{length, slice_index, slice_index_or, All, Option, None, Some}
use mathlib.Core.Option as lookup
use lib.ListN.{get_elem?}
use Rattle.amr_phase.specs.declared.machine.Stage.{Stage}
use Rattle.amr_phase.specs.declared.machine.Stage.TheVariants.{Waiting, Drawn, Held, Given}
use Rattle.amr_phase.specs.declared.machine.Event.{Event}
use Rattle.amr_phase.specs.declared.machine.Event.TheVariants as event
use Rattle.amr_phase.specs.Plans.{PlanOf, total}
use Rattle.amr_phase.specs.Machine.{CoreOf, fresh, after, next_of, stage_of, word_of}
use Rattle.atomic_table.specs.Table.{State}
use Rattle.amr_board.specs.declared.view.Deed.{Deed}
use Rattle.amr_board.specs.declared.view.Deed.TheVariants.{Draw, Take, Put, Add, Face, Give}
use Rattle.amr_board.specs.declared.view.Progress.{Progress}
use Rattle.amr_board.specs.declared.view.View.{View}

-- a deed of the seat k as an event of the worker k
abbrev pub event_of : ℕ → Deed → Event
event_of k Draw = event.Draw k
event_of k Take = event.Take k
event_of k Put = event.Put k
event_of k Add = event.Add k
event_of k (Face p) = event.Face k p
event_of k Give = event.Give k

abbrev pub worker_of : Event → ℕ
worker_of (event.Draw k) = k
worker_of (event.Take k) = k
worker_of (event.Put k) = k
worker_of (event.Add k) = k
worker_of (event.Face k p) = k
worker_of (event.Give k) = k

abbrev pub deed_of : Event → Deed
deed_of (event.Draw k) = Draw
deed_of (event.Take k) = Take
deed_of (event.Put k) = Put
deed_of (event.Add k) = Add
deed_of (event.Face k p) = Face p
deed_of (event.Give k) = Give

-- what the worker k did, in order
abbrev pub deeds_by : ℕ → List Event → List Deed
deeds_by k [] = []
deeds_by k (e ∷ es) = if worker_of e == k then deed_of e ∷ deeds_by k es else deeds_by k es

-- each event is enabled where it comes
abbrev pub AllEnabled : CoreOf → List Event → Type 0
AllEnabled c [] = Unit {0}
AllEnabled c (e ∷ es) = (d : CoreOf) × (next_of c e ≡ Some d) × AllEnabled d es

-- how far a task is, by what the seat k notes of it
abbrev pub stage_shown : ℕ → Progress → Stage
stage_shown k e = if e.given then Given else (if e.taken then Held k e.puts e.adds else Drawn k)

module _ {P : Type 0} where
  -- the words, slots and views show this state of the machine, whose workers are the seats
  pub record Shows (plan : PlanOf) (s : State (Option P) (View P)) (c : CoreOf) : Type 0 where
    pub plan_is : c.plan ≡ plan
    pub counter : c.counter ≡ slice_index s.words 0
    pub faces : (p : ℕ) → p < plan.places → word_of (slice_index_or c.faces p None) ≡ slice_index s.words (1 + p)
    pub words : (w : ℕ) → w < plan.words → slice_index c.totals w ≡ slice_index s.words (1 + plan.places + w)
    -- a task at or above the counter waits
    pub waiting : (t : ℕ) → c.counter ≤ t → t < length c.stages → stage_of c t ≡ Waiting
    -- where a view has it, it is drawn, held or given as that view notes
    pub noted : (k : ℕ) (v : View P) → get_elem? s.views k ≡ lookup.some v → (i : ℕ) (e : Progress) → get_elem? v.tasks i ≡ lookup.some e
        → stage_of c e.task ≡ stage_shown k e
    -- who drew past the end is past
    pub past : (k : ℕ) (v : View P) → get_elem? s.views k ≡ lookup.some v → v.spent ≡ false → slice_index_or c.past k false ≡ true → v.past ≡ true
    -- a worker that is no seat yet has drawn nothing
    pub idle : (k : ℕ) → length s.views ≤ k → slice_index_or c.past k false ≡ false
    pub enough : length s.views ≤ length c.past

  -- These events, each enabled where it came, lead from the start to what the board shows, with any number of workers
  -- that is enough. They are the deeds of the seats, each once: those of the worker k are what the seat k did, and
  -- all seats together did as many as there are
  pub record IsCoreOf (plan : PlanOf) (s : State (Option P) (View P)) (events : List Event) : Type 0 where
    pub enabled : (n : ℕ) → length s.views ≤ n → AllEnabled (fresh plan n) events
    pub shown : (n : ℕ) → length s.views ≤ n → Shows plan s (after (fresh plan n) events)
    pub own : (k : ℕ) (v : View P) → get_elem? s.views k ≡ lookup.some v → v.spent ≡ false → deeds_by k events ≡ v.deeds
    pub by_seats : All (λ e. worker_of e < length s.views) events
    pub count : total (λ (v : View P). v.made) s.views ≡ length events

  -- some events lead to what the board shows
  pub record IsCore (plan : PlanOf) (s : State (Option P) (View P)) : Type 0 where
    pub events : List Event
    pub is_core : IsCoreOf plan s events
