-- Plans: what the tasks of a phase post, and how much of it is done. (profile)
use Rattle.std.specs.Prelude.{ℕ, ◌+◌, ◌==◌, ◌≡◌, ◌<◌, ◌≤◌, ◌^◌, ◌&&◌, if◌then◌else◌, Bool, List, [], ◌∷◌, length, slice_index_or, nat_lt, nat_le}
use Rattle.std.specs.List.{list_all}
use Rattle.amr_phase.specs.declared.plan.Post.{Post}
use Rattle.amr_phase.specs.declared.plan.Task.{Task}

-- places and words are numbered from 0, tasks by their place in the list
pub record PlanOf : Type 0 where
  pub places : ℕ
  pub words : ℕ
  pub tasks : List Task

-- the values of f, added up
abbrev pub total : {X : Type 0} → (X → ℕ) → List X → ℕ
total f [] = 0
total f (x ∷ xs) = f x + total f xs

-- the amount that a post adds to a word
abbrev pub added : ℕ → Post → ℕ
added word p = if p.at == word then p.amount else 0

-- what a post stores at a place, where 0 is empty: its amount plus 1
abbrev pub stored : ℕ → Post → ℕ
stored place p = if p.at == place then p.amount + 1 else 0

-- 1 where a post names the number
abbrev pub named : ℕ → Post → ℕ
named place p = if p.at == place then 1 else 0

abbrev pub no_task : Task
no_task = record { puts = []; adds = [] }

abbrev pub no_post : Post
no_post = record { at = 0; amount = 0 }

abbrev pub puts_of : PlanOf → ℕ → List Post
puts_of plan t = (slice_index_or plan.tasks t no_task).puts

abbrev pub adds_of : PlanOf → ℕ → List Post
adds_of plan t = (slice_index_or plan.tasks t no_task).adds

-- the planned total of a word
abbrev pub planned_total : PlanOf → ℕ → ℕ
planned_total plan word = total (λ (t : Task). total (added word) t.adds) plan.tasks

-- the planned word of a place: the amount planned there plus 1, and 0 where nothing is planned
abbrev pub planned_face : PlanOf → ℕ → ℕ
planned_face plan place = total (λ (t : Task). total (stored place) t.puts) plan.tasks

-- how many puts name the place
abbrev pub puts_named : PlanOf → ℕ → ℕ
puts_named plan place = total (λ (t : Task). total (named place) t.puts) plan.tasks

-- the test of a put: its place is in range, its amount below 2^63, and no other put names the place
abbrev pub is_sound_put : PlanOf → Post → Bool
is_sound_put plan p = nat_lt p.at plan.places && nat_lt p.amount (2 ^ 63) && nat_le (puts_named plan p.at) 1

-- the test of an add: its word is in range, and what is added to it in all stays below 2^63
abbrev pub is_sound_add : PlanOf → Post → Bool
is_sound_add plan p = nat_lt p.at plan.words && nat_lt (planned_total plan p.at) (2 ^ 63)

abbrev pub are_posts_sound : PlanOf → Task → Bool
are_posts_sound plan t = list_all (is_sound_put plan) t.puts && list_all (is_sound_add plan) t.adds

-- the test of a plan
abbrev pub is_plan : PlanOf → Bool
is_plan plan = list_all (are_posts_sound plan) plan.tasks

-- A plan: numbers in range, no place named by two puts, and what is put or added at one place or word below 2^63
pub record IsPlan (plan : PlanOf) : Type 0 where
  pub puts_in_range : (t k : ℕ) → k < length (puts_of plan t) → (slice_index_or (puts_of plan t) k no_post).at < plan.places
  pub adds_in_range : (t k : ℕ) → k < length (adds_of plan t) → (slice_index_or (adds_of plan t) k no_post).at < plan.words
  pub apart : (place : ℕ) → puts_named plan place ≤ 1
  pub puts_fit : (t k : ℕ) → k < length (puts_of plan t) → (slice_index_or (puts_of plan t) k no_post).amount < 2 ^ 63
  pub totals_fit : (word : ℕ) → planned_total plan word < 2 ^ 63

-- put k of task t
abbrev pub put_at : PlanOf → ℕ → ℕ → Post
put_at plan t k = slice_index_or (puts_of plan t) k no_post

-- two puts that name one place are one put
abbrev pub PutsAreApart : PlanOf → Type 0
PutsAreApart plan = (t k u j : ℕ) → k < length (puts_of plan t) → j < length (puts_of plan u) → (put_at plan t k).at ≡ (put_at plan u j).at → (t ≡ u) × (k ≡ j)

-- A layout: numbers in range, puts apart, and what is put or added at one place or word below 2^63
pub record IsLayout (plan : PlanOf) : Type 0 where
  pub puts_in_range : (t k : ℕ) → k < length (puts_of plan t) → (put_at plan t k).at < plan.places
  pub adds_in_range : (t k : ℕ) → k < length (adds_of plan t) → (slice_index_or (adds_of plan t) k no_post).at < plan.words
  pub apart : PutsAreApart plan
  pub puts_fit : (t k : ℕ) → k < length (puts_of plan t) → (put_at plan t k).amount < 2 ^ 63
  pub totals_fit : (word : ℕ) → planned_total plan word < 2 ^ 63
