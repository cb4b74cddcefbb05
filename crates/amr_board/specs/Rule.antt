-- The rule of a board, which holds at each moment, sentence by sentence. (profile)
use Rattle.std.specs.Prelude.{ℕ, zero, suc, ◌+◌, ◌==◌, ◌≡◌, ◌<◌, ◌≤◌, ◌^◌, ◌⊎◌, min, true, false, if◌then◌else◌}
use Rattle.std.specs.Prelude.{List, [], take, length, slice_index, Contains, Option, Some}
use mathlib.Core.Option as lookup
use lib.ListN.{get_elem?}
use Rattle.atomic_table.specs.Table.{State}
use Rattle.amr_phase.specs.Plans.{PlanOf, total, added, stored, puts_of, adds_of, planned_face, IsPlan}
use Rattle.amr_board.specs.declared.view.Progress.{Progress}
use Rattle.amr_board.specs.declared.view.View.{View}
use Rattle.amr_board.specs.Core.{IsCore}

-- the done adds of a task, at one word
abbrev pub done_adds : PlanOf → ℕ → Progress → ℕ
done_adds plan word e = total (added word) (take e.adds (adds_of plan e.task))

-- the done puts of a task, as what they stored at one place
abbrev pub done_puts : PlanOf → ℕ → Progress → ℕ
done_puts plan place e = total (stored place) (take e.puts (puts_of plan e.task))

-- the numbers from t on, n of them, weighed
abbrev pub weigh : (ℕ → ℕ) → ℕ → ℕ → ℕ
weigh h t zero = 0
weigh h t (suc n) = h t + weigh h (suc t) n

-- Posts are done only of a task noted taken, all of them where it is noted given. Of the tasks of a view all but the last drawn are given
pub record IsFit (plan : PlanOf) (i : ℕ) (e : Progress) : Type 0 where
  pub not_taken : e.taken ≡ false → (e.puts ≡ 0) × (e.adds ≡ 0) × (e.given ≡ false)
  pub given : e.given ≡ true → (e.puts ≡ length (puts_of plan e.task)) × (e.adds ≡ length (adds_of plan e.task))
  pub older : 0 < i → e.given ≡ true

-- how far a task is: drawn, taken or given
abbrev pub stage : Progress → ℕ
stage e = if e.given then 3 else (if e.taken then 2 else 1)

-- the stage of this task, and 0 of another
abbrev pub stage_at : ℕ → Progress → ℕ
stage_at t e = if e.task == t then stage e else 0

abbrev pub past_share : {P : Type 0} → View P → ℕ
past_share v = if v.past then v.share else 0

module _ {P : Type 0} where
  -- the numbers of a view's tasks, weighed
  abbrev pub numbers : (ℕ → ℕ) → View P → ℕ
  numbers h v = total (λ (e : Progress). h e.task) v.tasks

  -- a view's own adds to a word: the done adds of its tasks
  abbrev pub own_adds : PlanOf → ℕ → View P → ℕ
  own_adds plan word v = total (done_adds plan word) v.tasks

  abbrev pub own_puts : PlanOf → ℕ → View P → ℕ
  own_puts plan place v = total (done_puts plan place) v.tasks

  -- how far a view notes the task to be: 0 where it doesn't have it
  abbrev pub stages : ℕ → View P → ℕ
  stages t v = total (stage_at t) v.tasks

  -- what a slot holds: the piece as handed in before, nothing while it is out, a piece that it may become after
  abbrev pub IsHome : (P → P → Type 0) → P → ℕ → lookup.Option (Option P) → Type 0
  IsHome becomes p zero home = home ≡ lookup.some (Some p)
  IsHome becomes p (suc zero) home = home ≡ lookup.some (Some p)
  IsHome becomes p (suc (suc zero)) home = home ≡ lookup.none
  IsHome becomes p (suc (suc (suc k))) home = (y : P) × becomes p y × (home ≡ lookup.some (Some y))

  -- the slot t of the piece p, where its task is so far
  abbrev pub SlotIs : (P → P → Type 0) → List (lookup.Option (Option P)) → ℕ → P → ℕ → Type 0
  SlotIs becomes homes t p far = (home : lookup.Option (Option P)) × (get_elem? homes t ≡ lookup.some home) × IsHome becomes p far home

  module _ (plan : PlanOf) (pieces : List P) (becomes : P → P → Type 0) (s : State (Option P) (View P)) where
    abbrev pub counter : ℕ
    counter = slice_index s.words 0

    -- every view that is not spent has the same plan
    abbrev pub SamePlan : Type 0
    SamePlan = (k : ℕ) (v : View P) → get_elem? s.views k ≡ lookup.some v → v.spent ≡ false → (v.plan ≡ plan) × (v.pieces ≡ pieces)

    -- each number below the counter and the number of tasks stands in one view, once, and no other in any
    abbrev pub EachOnce : Type 0
    EachOnce = (h : ℕ → ℕ) → total (numbers h) s.views ≡ weigh h 0 (min counter (length plan.tasks))

    -- where a view is past, the counter is at or beyond the number of tasks
    abbrev pub PastEnd : Type 0
    PastEnd = (k : ℕ) (v : View P) → get_elem? s.views k ≡ lookup.some v → v.past ≡ true → length plan.tasks ≤ counter

    -- a face word is what the puts made at its place stored: nothing, or the planned value plus 1
    abbrev pub FacesAre : Type 0
    FacesAre = (p : ℕ) → p < plan.places → slice_index s.words (1 + p) ≡ total (own_puts plan p) s.views

    -- a register word is the sum of all views' own adds
    abbrev pub RegistersAre : Type 0
    RegistersAre = (w : ℕ) → w < plan.words → slice_index s.words (1 + plan.places + w) ≡ total (own_adds plan w) s.views

    -- a put that a view knows was made
    abbrev pub KnownWereMade : Type 0
    KnownWereMade =
        (k : ℕ) (v : View P) (p : ℕ) → get_elem? s.views k ≡ lookup.some v → Contains v.known p → (p < plan.places) × (0 < slice_index s.words (1 + p))

    -- a look holds 0 or the planned value of its place plus 1
    abbrev pub LooksArePlanned : Type 0
    LooksArePlanned = (k : ℕ) (v : View P) → get_elem? s.views k ≡ lookup.some v → (v.look.found ≡ 0) ⊎ (v.look.found ≡ planned_face plan v.look.place)

    -- a slot is out exactly where a view notes its task taken and not given
    abbrev pub SlotsAre : Type 0
    SlotsAre = (t : ℕ) (p : P) → get_elem? pieces t ≡ lookup.some p → SlotIs becomes s.homes t p (total (stages t) s.views)

    abbrev pub TasksFit : Type 0
    TasksFit = (k : ℕ) (v : View P) → get_elem? s.views k ≡ lookup.some v → (i : ℕ) (e : Progress) → get_elem? v.tasks i ≡ lookup.some e → IsFit plan i e

    -- all shares add up to 2^32
    abbrev pub SharesAre : Type 0
    SharesAre = total (λ (v : View P). v.share) s.views ≡ 2 ^ 32

    -- a spent view's share is 0 and it has no tasks; any other's is at least 1
    abbrev pub SharesFit : Type 0
    SharesFit =
        (k : ℕ) (v : View P) → get_elem? s.views k ≡ lookup.some v → (v.spent ≡ true → (v.share ≡ 0) × (v.tasks ≡ [])) × (v.spent ≡ false → 1 ≤ v.share)

    -- the counter is at most the number of tasks plus the shares of past views, so it can't wrap
    abbrev pub CounterFits : Type 0
    CounterFits = counter ≤ length plan.tasks + total past_share s.views

    -- the sentences on words, slots and views
    pub record Sentences : Type 0 where
      pub is_plan : IsPlan plan
      pub sized : length s.words ≡ 1 + plan.places + plan.words
      pub task_count : length plan.tasks ≡ length pieces
      pub few : length plan.tasks < 2 ^ 32
      pub same_plan : SamePlan
      pub each_once : EachOnce
      pub past : PastEnd
      pub faces : FacesAre
      pub registers : RegistersAre
      pub known : KnownWereMade
      pub looks : LooksArePlanned
      pub slots : SlotsAre
      pub tasks : TasksFit
      pub shares : SharesAre
      pub share_fit : SharesFit
      pub counter_fits : CounterFits

    -- and the board shows the machine
    pub record Rule : Type 0 where
      pub sentences : Sentences
      pub core : IsCore plan s
