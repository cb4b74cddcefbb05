-- The regrids of a run of several species, and that each covers the cells that were tagged for some of them.
use Rattle.std.specs.Prelude.{ℕ, ◌<◌, ◌≤◌, List, IsTrue}
use Rattle.amr_def.specs.declared.problem.Problem.{Problem}
use Rattle.amr_def.specs.Run.{regrid_is_due, times}
use Rattle.amr_def.specs.Species.{finish_all, first_state, regrid_all, step_of}
use Rattle.amr_def.specs.State.{State}
use Rattle.amr_drive.specs.Flocks.{plain_starts}
use Rattle.amr_laws.specs.Species.{AreHeld}

-- a regrid of all covers each cell that is tagged for some species, but those of the greatest level
abbrev pub HoldsAllTags : Problem → List State → Type 0
HoldsAllTags p ss = AreHeld p ss (regrid_all p ss)

-- so does each regrid of the start
abbrev pub StartHoldsAllTags : Problem → Type 0
StartHoldsAllTags p = (k : ℕ) → k < p.max_level → HoldsAllTags p (times (regrid_all p) k (plain_starts p))

-- and each that is due in a run from these states up to step k
abbrev pub RunHoldsAllTags : Problem → List State → ℕ → Type 0
RunHoldsAllTags p ss k =
    (j : ℕ) → step_of ss ≤ j → j < k → IsTrue (regrid_is_due p (first_state (finish_all p ss j))) → HoldsAllTags p (finish_all p ss j)
