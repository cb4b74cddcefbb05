-- Laws of the judgement.
use Rattle.std.specs.Prelude.{◌≡◌, ℕ, List, None}
use Rattle.amr_def.specs.declared.problem.Problem.{Problem}
use Rattle.amr_problem.specs.Judgement.{fault_of, IsProblemOf}

-- bytes are one problem at most
abbrev pub BytesAreOneProblem : Type 0
BytesAreOneProblem = (bytes : List ℕ) → (p q : Problem) → IsProblemOf bytes p → IsProblemOf bytes q → p ≡ q

-- bytes without a fault are a problem
abbrev pub CleanBytesAreAProblem : Type 0
CleanBytesAreAProblem = (bytes : List ℕ) → fault_of bytes ≡ None → (p : Problem) × IsProblemOf bytes p
