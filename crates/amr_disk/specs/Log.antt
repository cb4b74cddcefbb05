-- The log of a disk in memory: its steps, and the bytes of its writes one after the other. (profile)
use Rattle.std.specs.Prelude.{ℕ, ◌+◌, max, List, [], ◌∷◌, take, drop}
use Rattle.amr_disk.specs.Calls.{Call, Wrote, Synced}
use Rattle.amr_disk.specs.declared.step.Step.{Step}
use Rattle.amr_disk.specs.declared.step.Step.TheVariants.{Write, Sync}

-- the calls that a log stands for
abbrev pub calls_of : List Step → List ℕ → List Call
calls_of [] written = []
calls_of (Write at len ∷ rest) written = Wrote at (take len written) ∷ calls_of rest (drop len written)
calls_of (Sync ∷ rest) written = Synced ∷ calls_of rest written

-- how many bytes its writes have
abbrev pub size_of : List Step → ℕ
size_of [] = 0
size_of (Write at len ∷ rest) = len + size_of rest
size_of (Sync ∷ rest) = size_of rest

-- how far its writes reach
abbrev pub reach_of : List Step → ℕ
reach_of [] = 0
reach_of (Write at len ∷ rest) = max (at + len) (reach_of rest)
reach_of (Sync ∷ rest) = reach_of rest
