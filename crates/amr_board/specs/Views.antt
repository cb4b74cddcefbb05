-- What a seat knows, and how each call changes it. (profile)
use Rattle.std.specs.Prelude.{ℕ, ◌+◌, ◌-◌, ◌==◌, ◌≡◌, ◌<◌, ◌^◌, ◌/◌, true, false, Bool, if◌then◌else◌, List, []}
use Rattle.std.specs.Prelude.{◌∷◌, ◌++◌, drop, length, slice_index_or, slice_set, nat_lt}
use Rattle.amr_phase.specs.Plans.{PlanOf, puts_of, adds_of, no_post}
use Rattle.amr_board.specs.declared.view.Deed.{Deed}
use Rattle.amr_board.specs.declared.view.Deed.TheVariants.{Draw, Take, Put, Add, Face, Give}
use Rattle.amr_board.specs.declared.view.Progress.{Progress}
use Rattle.amr_board.specs.declared.view.Look.{Look}
use Rattle.amr_board.specs.declared.view.View.{View}

abbrev pub no_plan : PlanOf
no_plan = record { places = 0; words = 0; tasks = [] }

abbrev pub no_look : Look
no_look = record { number = 0; place = 0; found = 0 }

abbrev pub no_progress : Progress
no_progress = record { task = 0; taken = false; given = true; puts = 0; adds = 0 }

-- the first seat: it has every share, and has done nothing
abbrev pub first_view : {P : Type 0} → PlanOf → List P → View P
first_view plan pieces =
    record { spent = false; plan = plan; pieces = pieces; tasks = []; past = false; share = 2 ^ 32; known = []; look = no_look; deeds = []; made = 0 }

module _ {P : Type 0} where
  -- the task that the seat drew last
  abbrev pub current : View P → Progress
  current v = slice_index_or v.tasks 0 no_progress

  abbrev pub with_current : View P → Progress → View P
  with_current v e = record v { tasks = slice_set v.tasks 0 e }

  -- the seat holds a task, taken or not, from the draw until the give
  pub record IsHolding (v : View P) (task : ℕ) (taken : Bool) : Type 0 where
    pub held : 0 < length v.tasks
    pub is_task : (current v).task ≡ task
    pub ungiven : (current v).given ≡ false
    pub is_taken : (current v).taken ≡ taken

  abbrev pub HoldsNone : View P → Type 0
  HoldsNone v = (current v).given ≡ true

  -- this put is the next of the task that the seat holds and has taken
  pub record IsNextPut (v : View P) (place amount : ℕ) : Type 0 where
    pub task : ℕ
    pub holding : IsHolding v task true
    pub left : (current v).puts < length (puts_of v.plan (current v).task)
    pub post : slice_index_or (puts_of v.plan (current v).task) (current v).puts no_post ≡ record { at = place; amount = amount }

  -- this add is the next of the task that the seat holds and has taken
  pub record IsNextAdd (v : View P) (word amount : ℕ) : Type 0 where
    pub task : ℕ
    pub holding : IsHolding v task true
    pub left : (current v).adds < length (adds_of v.plan (current v).task)
    pub post : slice_index_or (adds_of v.plan (current v).task) (current v).adds no_post ≡ record { at = word; amount = amount }

  -- the seat holds a task, taken, of which no post is made
  pub record IsFresh (v : View P) : Type 0 where
    pub held : 0 < length v.tasks
    pub ungiven : (current v).given ≡ false
    pub is_taken : (current v).taken ≡ true
    pub no_puts : (current v).puts ≡ 0
    pub no_adds : (current v).adds ≡ 0

  -- the seat still holds the task, all its posts are made, and its share, its past and its other tasks are as before
  pub record HasWorked (plan : PlanOf) (v w : View P) : Type 0 where
    pub others : drop 1 w.tasks ≡ drop 1 v.tasks
    pub count : length w.tasks ≡ length v.tasks
    pub same_task : (current w).task ≡ (current v).task
    pub ungiven : (current w).given ≡ false
    pub is_taken : (current w).taken ≡ true
    pub puts : (current w).puts ≡ length (puts_of plan (current v).task)
    pub adds : (current w).adds ≡ length (adds_of plan (current v).task)
    pub past : w.past ≡ v.past
    pub share : w.share ≡ v.share

  -- the view with one deed more
  abbrev pub did : Deed → View P → View P
  did d v = record v { deeds = v.deeds ++ d ∷ []; made = v.made + 1 }

  -- this deed and no other was added, as one event
  abbrev pub HasDone : Deed → View P → View P → Type 0
  HasDone d v w = (w.deeds ≡ v.deeds ++ d ∷ []) × (w.made ≡ v.made + 1)

  -- it draws a task
  abbrev pub drawn : View P → ℕ → View P
  drawn v n = did Draw (record v { tasks = record { task = n; taken = false; given = false; puts = 0; adds = 0 } ∷ v.tasks })

  -- it finds that no task is left
  abbrev pub gone : View P → View P
  gone v = did Draw (record v { past = true })

  -- the seat has drawn the number found, or is past
  abbrev pub after_draw : View P → ℕ → View P
  after_draw v n = if nat_lt n (length v.plan.tasks) then drawn v n else gone v

  abbrev pub taking : View P → View P
  taking v = did Take (with_current v (record (current v) { taken = true }))

  abbrev pub put_done : View P → ℕ → View P
  put_done v place = did Put (record v { tasks = slice_set v.tasks 0 (record (current v) { puts = (current v).puts + 1 }); known = v.known ++ place ∷ [] })

  abbrev pub add_done : View P → View P
  add_done v = did Add (with_current v (record (current v) { adds = (current v).adds + 1 }))

  -- the view notes the look, and the put where the word isn't empty
  abbrev pub looked : View P → ℕ → ℕ → View P
  looked v place found =
      did (Face place) (record v {
        look = record { number = v.look.number + 1; place = place; found = found };
        known = if found == 0 then v.known else v.known ++ place ∷ [];
      })

  abbrev pub giving : View P → View P
  giving v = did Give (with_current v (record (current v) { given = true }))

  -- a seat keeps half its share
  abbrev pub keeps_half : View P → View P
  keeps_half v = record v { share = v.share / 2 }

  -- and the new seat has plan, known puts and past, no task, no look and no deed
  abbrev pub other_half : View P → View P
  other_half v = record v { tasks = []; share = v.share - v.share / 2; look = no_look; deeds = []; made = 0 }

  -- the first has what both have, and keeps its own look and its own deeds
  abbrev pub joined : View P → View P → View P
  joined v w =
      record v {
        tasks = v.tasks ++ w.tasks;
        past = if v.past then true else w.past;
        share = v.share + w.share;
        known = v.known ++ w.known;
        made = v.made + w.made;
      }

  abbrev pub spent_view : View P
  spent_view = record { spent = true; plan = no_plan; pieces = []; tasks = []; past = false; share = 0; known = []; look = no_look; deeds = []; made = 0 }
