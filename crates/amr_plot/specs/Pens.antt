-- Texts that are taken in turn.
use Rattle.std.specs.Prelude.{◌≡◌, ℕ, ◌≤◌, List, [], ◌++◌, Result, OnOk, OnErr}
use Rattle.amr_causes.specs.Causes.{Rose}
use Rattle.amr_io.specs.Buffered.{Sent}
use Rattle.amr_io.specs.Short.{FallsShort}

-- the text was taken, or not all of it
pub record Puts {S T E : Type 0} (wrote failed : S → S → List ℕ → Type 0) (old new : S) (text : List ℕ) (result : Result T E) : Type 0 where
  pub whole : OnOk result (wrote old new text)
  pub part : OnErr result (failed old new text)

-- texts follow one another; one that was not taken whole is not by more of it
pub record IsPen {S : Type 0} (wrote failed : S → S → List ℕ → Type 0) : Type 0 where
  pub nothing : (a : S) → wrote a a []
  pub more : (a b c : S) (t u : List ℕ) → wrote a b t → wrote b c u → wrote a c (t ++ u)
  pub later : (a b c : S) (t u : List ℕ) → wrote a b t → failed b c u → failed a c (t ++ u)
  pub longer : (a b : S) (t u : List ℕ) → failed a b t → failed a b (t ++ u)

-- a text went through a buffer into a sink, with no fault
pub record Goes {S : Type 0} (holds : S → List ℕ → Type 0) (faults : S → ℕ) (old new : S) (kept keeps text : List ℕ) : Type 0 where
  pub sent : Sent holds old new kept keeps text
  pub no_fault : faults new ≡ faults old

-- less than all of it went out, and the sink's faults rose
pub record Falls {S : Type 0} (holds : S → List ℕ → Type 0) (faults : S → ℕ) (old new : S) (kept text : List ℕ) : Type 0 where
  pub short : FallsShort holds old new (kept ++ text)
  pub later : faults old ≤ faults new
  pub rose : Rose (faults old) (faults new)
