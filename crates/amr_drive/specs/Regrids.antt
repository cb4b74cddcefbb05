-- The regrids of a run, and that each covers the cells that were tagged.
use Rattle.std.specs.Prelude.{ℕ, ◌<◌, ◌≤◌, IsTrue}
use Rattle.amr_def.specs.declared.problem.Problem.{Problem}
use Rattle.amr_def.specs.Facts.{IsHeld, IsSound}
use Rattle.amr_def.specs.Regrid.{regrid}
use Rattle.amr_def.specs.Run.{finish, plain_start, regrid_is_due, times}
use Rattle.amr_def.specs.State.{State}

-- a regrid of a state covers each cell that is tagged, but those of the greatest level
abbrev pub HoldsTags : Problem → State → Type 0
HoldsTags p s = IsHeld p s (regrid p s)

-- so does each regrid of the start
abbrev pub StartHoldsTags : Problem → Type 0
StartHoldsTags p = (k : ℕ) → k < p.max_level → HoldsTags p (times (regrid p) k (plain_start p))

-- and each that is due in a run from a state up to step k
abbrev pub RunHoldsTags : Problem → State → ℕ → Type 0
RunHoldsTags p s k = (j : ℕ) → s.step ≤ j → j < k → IsTrue (regrid_is_due p (finish p s j)) → HoldsTags p (finish p s j)

-- ---- laws

abbrev pub StartsHoldTags : Type 0
StartsHoldTags = (p : Problem) → StartHoldsTags p

abbrev pub RunsHoldTags : Type 0
RunsHoldTags = (p : Problem) (s : State) (k : ℕ) → IsSound p s → k ≤ p.steps → RunHoldsTags p s k
