-- The steps at which a run puts a checkpoint, what it puts in the store, and what it says of it. (profile)
use Rattle.std.specs.Prelude.{ℕ, ◌≡◌, ◌+◌, ◌-◌, ◌%◌, ◌==◌, nat_lt, Bool, ◌&&◌, ◌||◌, List, [], ◌∷◌, ◌++◌, map, codes, decimal}
use Rattle.std.specs.List.{filter, flat_map, range_with_len}
use Rattle.amr_def.specs.declared.problem.Problem.{Problem}
use Rattle.amr_def.specs.Plot.{line, plot}
use Rattle.amr_def.specs.Run.{finish}
use Rattle.amr_def.specs.State.{State}
use Rattle.amr_checkpoint.specs.Contents.{Content, Empty, Damaged, Fresh, At, Holds, state_from}

-- each multiple of `every` above 0, and the target
abbrev pub is_mark : ℕ → ℕ → ℕ → Bool
is_mark every target step = (step == target) || (nat_lt 0 step && ((step % every) == 0))

-- the first step of which no state is stored: 0, which is a mark where it is the target, or the one after the stored state
abbrev pub first_unstored : Content → ℕ
first_unstored Empty = 0
first_unstored (Damaged damage) = 0
first_unstored (Fresh bytes p) = 0
first_unstored (At bytes p s sequence) = s.step + 1

-- the steps from one on up to the target
abbrev pub steps_from : ℕ → ℕ → List ℕ
steps_from first target = range_with_len first (target + 1 - first)

abbrev pub marks : ℕ → Content → ℕ → List ℕ
marks every found target = filter (is_mark every target) (steps_from (first_unstored found) target)

-- what the store comes to hold at a step of the run
abbrev pub content_at : List ℕ → Problem → Content → ℕ → Content
content_at bytes p found step = At bytes p (finish p (state_from p found) step) (step + 1)

-- a new store, where there is none
abbrev pub store_to_make : List ℕ → Problem → Content → List Content
store_to_make bytes p Empty = Fresh bytes p ∷ []
store_to_make bytes p (Damaged damage) = []
store_to_make bytes p (Fresh kept q) = []
store_to_make bytes p (At kept q s sequence) = []

-- what a run is to make of the store that it found, in order: a store, and a checkpoint at each mark
abbrev pub to_make : List ℕ → Problem → ℕ → Content → ℕ → List Content
to_make bytes p every found target = store_to_make bytes p found ++ map (content_at bytes p found) (marks every found target)

-- as far as it is made before a step
abbrev pub made_before : List ℕ → Problem → ℕ → Content → ℕ → ℕ → List Content
made_before bytes p every found target step =
    store_to_make bytes p found ++ map (content_at bytes p found)
    (filter (is_mark every target) (range_with_len (first_unstored found) (step - first_unstored found)))

-- ---- what is written

-- the line of a checkpoint that stands
abbrev pub checkpoint_line : ℕ → List ℕ
checkpoint_line step = line (codes "checkpoint " ++ decimal step)

-- a state that stands is acknowledged by its line
abbrev pub acknowledgement : Content → List ℕ
acknowledgement Empty = []
acknowledgement (Damaged damage) = []
acknowledgement (Fresh bytes p) = []
acknowledgement (At bytes p s sequence) = checkpoint_line s.step

abbrev pub acknowledgements : List Content → List ℕ
acknowledgements contents = flat_map acknowledgement contents

-- the answer of a run to a target, from what was found in the store; where none is kept, from nothing
abbrev pub answer_of_run : Problem → Content → ℕ → List ℕ
answer_of_run p found target = plot p (finish p (state_from p found) target)

-- the answer of `show`: the plot of the stored state
pub record IsShown (image out : List ℕ) : Type 0 where
  pub bytes : List ℕ
  pub problem : Problem
  pub state : State
  pub sequence : ℕ
  pub held : Holds image (At bytes problem state sequence)
  pub text : out ≡ plot problem state
