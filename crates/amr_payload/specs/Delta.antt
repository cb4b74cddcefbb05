-- The record of a state on an older one: the sequence that the older one is kept under (8 bytes), then the state on the older
-- one. A record is tested as a payload is, in its order, and its sequence first: it is bad at place 0 where that is another one.
-- (profile)
use Rattle.std.specs.Prelude.{◌≡◌, ℕ, ◌+◌, ◌<◌, ◌==◌, List, ◌++◌, length, take}
use Rattle.std.specs.Int.{w64}
use Rattle.std.specs.declared.result.Result.{Result}
use Rattle.amr_def.specs.declared.problem.Problem.{Problem}
use Rattle.amr_def.specs.State.{State}
use Rattle.amr_payload.specs.Payload.{number_bytes, older, room, state_bytes}
use Rattle.amr_payload.specs.Tests.{Left, Reading, nothing_follows, read_number, read_state, tested, then_read}

unfoldable pub delta_bytes : State → ℕ → State → List ℕ
delta_bytes old q s = number_bytes w64 q ++ state_bytes (older old) s

unfoldable pub read_delta : Problem → State → ℕ → Left → Reading State
read_delta p old q r = then_read (read_number w64 r) (λ m a. then_read (tested (m == q) r.place m a) (λ m a. read_state (older old) p a))

-- the state that a record is of, or the place of the first test that fails
unfoldable pub delta_decoded : Problem → State → ℕ → List ℕ → Result State ℕ
delta_decoded p old q bytes = nothing_follows (read_delta p old q (record { place = 0; bytes = bytes }))

-- a state is later than another: its step is greater, and its older rows of the ledger are those of the other
pub record IsLater (old s : State) : Type 0 where
  pub step : old.step < s.step
  pub rows : take (length old.rows) s.rows ≡ old.rows

-- the greatest length of a record: at most a flag and 4 bytes a cell, as where each row has one
unfoldable pub delta_size : Problem → ℕ
delta_size p = room 33 5 p
