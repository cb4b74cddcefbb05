-- The states of a run.
use Rattle.std.specs.Prelude.{ℕ, zero, suc, ◌+◌, List, [], ◌∷◌, ◌++◌}
use Rattle.amr_def.specs.declared.problem.Problem.{Problem}
use Rattle.amr_def.specs.Run.{finish}
use Rattle.amr_def.specs.State.{State}

-- those after each of the first n steps from a state, in their order
abbrev pub states_after : Problem → State → ℕ → List State
states_after p s zero = []
states_after p s (suc n) = states_after p s n ++ finish p s (s.step + suc n) ∷ []
