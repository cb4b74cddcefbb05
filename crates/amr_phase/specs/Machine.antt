-- The machine as plain data, and what each event does to it. (profile)
use Rattle.std.specs.Prelude.{ℕ, ◌+◌, ◌==◌, ◌≡◌, Bool, true, false, if◌then◌else◌, List, [], ◌∷◌, take, length, replicate, slice_index}
use Rattle.std.specs.Prelude.{slice_index_or, slice_set, nat_lt, Option, Some, None, position, unwrap_or, MatchOption}
use Rattle.std.specs.List.{list_all}
use Rattle.std.specs.Option.{option_and_then}
use Rattle.amr_phase.specs.declared.plan.Post.{Post}
use Rattle.amr_phase.specs.declared.plan.Task.{Task}
use Rattle.amr_phase.specs.declared.machine.Hold.{Hold}
use Rattle.amr_phase.specs.declared.machine.Stage.{Stage}
use Rattle.amr_phase.specs.declared.machine.Stage.TheVariants.{Waiting, Drawn, Held, Given}
use Rattle.amr_phase.specs.declared.machine.Event.{Event}
use Rattle.amr_phase.specs.declared.machine.Event.TheVariants.{Draw, Take, Put, Add, Face, Give}
use Rattle.amr_phase.specs.Plans.{PlanOf, total, added, stored, named, no_task, no_post}

-- A state: the counter, how far each task is, which workers have drawn past the end, and the values of places and words
pub record CoreOf : Type 0 where
  pub plan : PlanOf
  pub counter : ℕ
  pub stages : List Stage
  pub past : List Bool
  pub faces : List (Option ℕ)
  pub totals : List ℕ

-- the start: all tasks wait, all places are empty, all words are 0
abbrev pub fresh : PlanOf → ℕ → CoreOf
fresh plan workers =
    record {
      plan = plan;
      counter = 0;
      stages = replicate (length plan.tasks) Waiting;
      past = replicate workers false;
      faces = replicate plan.places None;
      totals = replicate plan.words 0;
    }

-- the task is drawn or held by this worker
abbrev pub is_with : ℕ → Stage → Bool
is_with w Waiting = false
is_with w (Drawn v) = v == w
is_with w (Held v p a) = v == w
is_with w Given = false

abbrev pub is_waiting : Stage → Bool
is_waiting Waiting = true
is_waiting (Drawn v) = false
is_waiting (Held v p a) = false
is_waiting Given = false

abbrev pub is_given : Stage → Bool
is_given Waiting = false
is_given (Drawn v) = false
is_given (Held v p a) = false
is_given Given = true

-- the puts of a task that are done at its stage, and the adds
abbrev pub puts_done : Task → Stage → List Post
puts_done t Waiting = []
puts_done t (Drawn v) = []
puts_done t (Held v p a) = take p t.puts
puts_done t Given = t.puts

abbrev pub adds_done : Task → Stage → List Post
adds_done t Waiting = []
adds_done t (Drawn v) = []
adds_done t (Held v p a) = take a t.adds
adds_done t Given = t.adds

-- over tasks and their stages, added up
abbrev pub total2 : (Task → Stage → ℕ) → List Task → List Stage → ℕ
total2 f [] ss = 0
total2 f (t ∷ ts) [] = 0
total2 f (t ∷ ts) (s ∷ ss) = f t s + total2 f ts ss

-- the amounts that the done adds of a task add to the word
abbrev pub adds_sum : ℕ → Task → Stage → ℕ
adds_sum w t s = total (added w) (adds_done t s)

-- what the done puts of a task store at the place
abbrev pub puts_sum : ℕ → Task → Stage → ℕ
puts_sum p t s = total (stored p) (puts_done t s)

-- how many done puts of a task name the place
abbrev pub puts_count : ℕ → Task → Stage → ℕ
puts_count p t s = total (named p) (puts_done t s)

-- a place as a word: 0 where it is empty, else its amount plus 1
abbrev pub word_of : Option ℕ → ℕ
word_of None = 0
word_of (Some n) = n + 1

abbrev pub stage_of : CoreOf → ℕ → Stage
stage_of c t = slice_index_or c.stages t Given

abbrev pub task_at : CoreOf → ℕ → Task
task_at c t = slice_index_or c.plan.tasks t no_task

abbrev pub is_complete : CoreOf → Bool
is_complete c = list_all is_given c.stages

abbrev pub with_stage : CoreOf → ℕ → Stage → CoreOf
with_stage c t s = record c { stages = slice_set c.stages t s }

-- the worker gets the counter's number, or is past the end; the counter rises by 1
abbrev pub drawn : CoreOf → ℕ → CoreOf
drawn c w =
    if nat_lt c.counter (length c.stages) then record c { counter = c.counter + 1; stages = slice_set c.stages c.counter (Drawn w) }
    else record c { counter = c.counter + 1; past = slice_set c.past w true }

-- a worker may draw where it holds no task and hasn't drawn past the end
abbrev pub can_draw : Option ℕ → Bool → Bool
can_draw None b = if b then false else true
can_draw (Some t) b = false

abbrev pub after_draw : CoreOf → ℕ → Option CoreOf
after_draw c w =
    if nat_lt w (length c.past) then (if can_draw (position (is_with w) c.stages) (slice_index_or c.past w true) then Some (drawn c w) else None)
    else None

-- the piece of a drawn task becomes its worker's
abbrev pub after_take : CoreOf → ℕ → Stage → Option CoreOf
after_take c t Waiting = None
after_take c t (Drawn v) = Some (with_stage c t (Held v 0 0))
after_take c t (Held v p a) = None
after_take c t Given = None

-- what is made of a task at this stage, if it is held
abbrev pub held_at : ℕ → Stage → Option Hold
held_at t Waiting = None
held_at t (Drawn v) = None
held_at t (Held v p a) = Some (record { task = t; worker = v; puts = p; adds = a })
held_at t Given = None

-- at the task that the worker has, if it has one
abbrev pub at_task : CoreOf → ℕ → (ℕ → Stage → Option CoreOf) → Option ℕ → Option CoreOf
at_task c w f None = None
at_task c w f (Some t) = f t (stage_of c t)

abbrev pub next_at : CoreOf → ℕ → (ℕ → Stage → Option CoreOf) → Option CoreOf
next_at c w f = if nat_lt w (length c.past) then at_task c w f (position (is_with w) c.stages) else None

-- what the worker holds, if it holds a task
abbrev pub hold_in : CoreOf → Option ℕ → Option Hold
hold_in c None = None
hold_in c (Some t) = held_at t (stage_of c t)

abbrev pub hold_of : CoreOf → ℕ → Option Hold
hold_of c w = if nat_lt w (length c.past) then hold_in c (position (is_with w) c.stages) else None

-- the next put's place holds its value
abbrev pub after_put : CoreOf → Hold → Option CoreOf
after_put c h =
    if nat_lt h.puts (length (task_at c h.task).puts) then
    (let x = slice_index_or (task_at c h.task).puts h.puts no_post in
    Some (record (with_stage c h.task (Held h.worker (h.puts + 1) h.adds)) { faces = slice_set c.faces x.at (Some x.amount) }))
    else None

-- the next add's word rises by its amount
abbrev pub after_add : CoreOf → Hold → Option CoreOf
after_add c h =
    if nat_lt h.adds (length (task_at c h.task).adds) then
    (let x = slice_index_or (task_at c h.task).adds h.adds no_post in
    Some (record (with_stage c h.task (Held h.worker h.puts (h.adds + 1))) { totals = slice_set c.totals x.at (slice_index c.totals x.at + x.amount) }))
    else None

-- the task is given back where no post is left
abbrev pub after_give : CoreOf → Hold → Option CoreOf
after_give c h =
    if h.puts == length (task_at c h.task).puts then (if h.adds == length (task_at c h.task).adds then Some (with_stage c h.task Given) else None) else None

-- the state after an event, where the event is enabled
abbrev pub next_of : CoreOf → Event → Option CoreOf
next_of c (Draw w) = after_draw c w
next_of c (Take w) = next_at c w (after_take c)
next_of c (Put w) = option_and_then (after_put c) (hold_of c w)
next_of c (Add w) = option_and_then (after_add c) (hold_of c w)
next_of c (Face w p) = if nat_lt w (length c.past) then (if nat_lt p c.plan.places then Some c else None) else None
next_of c (Give w) = option_and_then (after_give c) (hold_of c w)

-- true and the state to come, where there is one; else false, and nothing changes
abbrev pub Moves : Option CoreOf → CoreOf → Bool → CoreOf → Type 0
Moves to c done d = MatchOption to ((done ≡ false) × (d ≡ c)) (λ n. (done ≡ true) × (d ≡ n))

-- whether the event was enabled, and the state that it leaves
abbrev pub Steps : CoreOf → Event → Bool → CoreOf → Type 0
Steps c e done d = Moves (next_of c e) c done d

-- after a list of events, enabled or not
abbrev pub after : CoreOf → List Event → CoreOf
after c [] = c
after c (e ∷ es) = after (unwrap_or (next_of c e) c) es
