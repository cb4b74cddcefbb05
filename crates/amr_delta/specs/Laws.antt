-- Laws of records, each of which a call of the crate ensures. q is the sequence that the older state is kept under.
use Rattle.std.specs.Prelude.{◌≡◌, ◌↔◌, ℕ, ◌^◌, ◌<◌}
use Rattle.std.specs.declared.result.Result.TheVariants.{Ok}
use Rattle.amr_def.specs.declared.problem.Problem.{Problem}
use Rattle.amr_def.specs.State.{State}
use Rattle.amr_def.specs.Facts.{IsSound}
use Rattle.amr_payload.specs.Delta.{IsLater, delta_bytes, delta_decoded}

-- a sound state of the problem that is later than another
abbrev pub IsSoundLater : Problem → State → State → Type 0
IsSoundLater p old s = IsSound p s × IsLater old s

-- a record is read back
abbrev pub RecordIsReadBack : Type 0
RecordIsReadBack =
    (p : Problem) (old s : State) (q : ℕ) → q < 2 ^ 64 → IsSound p old → IsSoundLater p old s → delta_decoded p old q (delta_bytes old q s) ≡ Ok s

-- one record has one state, and one state one record
abbrev pub RecordHasOneState : Type 0
RecordHasOneState = (p : Problem) (old s s' : State) (q : ℕ) → q < 2 ^ 64 → IsSound p old → IsSoundLater p old s → IsSoundLater p old s'
    → (delta_bytes old q s ≡ delta_bytes old q s') ↔ (s ≡ s')
