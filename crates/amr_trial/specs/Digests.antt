-- What a sink that keeps a digest alone has taken.
use Rattle.std.specs.Prelude.{ℕ, List}
use Rattle.sha2.specs.Hashers.{Holds256}
use Rattle.amr_trial.specs.declared.digest.DigestSink.{DigestSink}

-- the sink took these bytes: its hasher holds them, by the hasher's own definition
abbrev pub HasTaken : DigestSink → List ℕ → Type 0
HasTaken s bytes = Holds256 s.hasher bytes
