-- Laws of payloads and records, each of which a call of the crate ensures. w is the width of a mass: 64 bits in payload 1, 32 in payload 2.
use Rattle.std.specs.Prelude.{◌≡◌, ◌↔◌, ℕ, ◌^◌, ◌<◌, ◌≤◌, List, length}
use Rattle.std.specs.List.{All}
use Rattle.std.specs.Int.{Width, w32}
use Rattle.std.specs.declared.result.Result.TheVariants.{Ok}
use Rattle.amr_def.specs.declared.problem.Problem.{Problem}
use Rattle.amr_def.specs.State.{State}
use Rattle.amr_def.specs.Facts.{IsSound}
use Rattle.amr_payload.specs.Payload.{IsMassWidth, payload, slot_size}
use Rattle.amr_payload.specs.Tests.{decoded}
use Rattle.amr_payload.specs.Delta.{IsLater, delta_bytes, delta_decoded, delta_size}

-- a payload is a list of bytes
abbrev pub PayloadIsBytes : Type 0
PayloadIsBytes = (w : Width) (s : State) → IsMassWidth w → All (λ b. b < 256) (payload w s)

-- bytes are read as a state exactly where they are its payload and the state is sound
abbrev pub ReadExactlyWhereSound : Type 0
ReadExactlyWhereSound = (w : Width) (p : Problem) (s : State) (bytes : List ℕ) → IsMassWidth w → All (λ b. b < 256) bytes
    → (decoded w p bytes ≡ Ok s) ↔ ((bytes ≡ payload w s) × IsSound p s)

-- one payload has one state
abbrev pub PayloadHasOneState : Type 0
PayloadHasOneState = (w : Width) (p : Problem) (s s' : State) → IsMassWidth w → IsSound p s → IsSound p s' → payload w s ≡ payload w s' → s ≡ s'

-- the payload of a sound state fits a slot
abbrev pub PayloadFitsSlot : Type 0
PayloadFitsSlot = (w : Width) (p : Problem) (s : State) → IsMassWidth w → IsSound p s → length (payload w s) ≤ slot_size w p

-- bytes are read as a state on an older one exactly where they are its record, and the state is sound and later
abbrev pub DeltaReadExactlyWhereSound : Type 0
DeltaReadExactlyWhereSound = (p : Problem) (old s : State) (q : ℕ) (bytes : List ℕ) → IsSound p old → q < 2 ^ 64 → All (λ b. b < 256) bytes
    → (delta_decoded p old q bytes ≡ Ok s) ↔ ((bytes ≡ delta_bytes old q s) × IsSound p s × IsLater old s)

-- records, and payloads with masses of 32 bits, fit a slot for records
abbrev pub DeltaFitsSlot : Type 0
DeltaFitsSlot = (p : Problem) (old s : State) (q : ℕ) → IsSound p s → (length (delta_bytes old q s) ≤ delta_size p) × (length (payload w32 s) ≤ delta_size p)
