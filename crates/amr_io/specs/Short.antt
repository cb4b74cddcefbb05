-- What goes out where a write fails: never the whole, since the write that failed took none of a chunk that was not empty. (profile)
use Rattle.std.specs.Prelude.{ℕ, ◌≡◌, ◌<◌, List, ◌++◌, length}
use Rattle.amr_causes.specs.Bytes.{Grows}

-- the first bytes of a whole, and not all of them
pub record IsProperPrefix (part whole : List ℕ) : Type 0 where
  pub rest : List ℕ
  pub some : 0 < length rest
  pub split : part ++ rest ≡ whole

-- the sink took a proper prefix of these bytes
abbrev pub FallsShort : {S : Type 0} → (S → List ℕ → Type 0) → S → S → List ℕ → Type 0
FallsShort holds old new whole = (part : List ℕ) × IsProperPrefix part whole × Grows holds old new part
