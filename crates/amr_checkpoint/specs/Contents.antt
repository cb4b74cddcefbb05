-- What an image of the store's file holds for a program: the store's own readings, and then those by its problem, by its latest whole state and
-- by the records behind it, the first that applies. (profile)
use Rattle.std.specs.Prelude.{ℕ, ◌≡◌, ◌+◌, ◌==◌, ⊤, ◌⊎◌, List, [], ◌∷◌, Option, Some, None, Result, Ok, Err, if◌then◌else◌}
use Rattle.std.specs.Int.{Width, w32, w64}
use Rattle.amr_def.specs.declared.problem.Problem.{Problem}
use Rattle.amr_def.specs.Run.{run, start}
use Rattle.amr_def.specs.State.{State}
use Rattle.amr_payload.specs.Delta.{delta_decoded, delta_size}
use Rattle.amr_payload.specs.Payload.{slot_size}
use Rattle.amr_payload.specs.Tests.{decoded}
use Rattle.amr_problem.specs.Judgement.{IsProblemOf}
use Rattle.amr_store.specs.declared.part.Part.{Part}
use Rattle.amr_store.specs.declared.part.Part.TheVariants as part
use Rattle.amr_store.specs.Stored as store

-- no store was made; a part of it is damaged; a store of a problem with no state yet; a store of a problem at a state, with its sequence
pub data Content : Type 0 where
  Empty : Content
  Damaged : (damage : Part) → Content
  Fresh : (bytes : List ℕ) (problem : Problem) → Content
  At : (bytes : List ℕ) (problem : Problem) (state : State) (sequence : ℕ) → Content

-- how wide a mass is in a whole state in a store of this version
abbrev pub mass_width : ℕ → Width
mass_width version = if version == 1 then w64 else w32

-- how many bytes a slot has in a store of this version: enough for each state of the problem, in version 3 for each record too
abbrev pub room_for : ℕ → Problem → ℕ
room_for version p = if version == 3 then delta_size p else slot_size (mass_width version) p

-- a state whose sequence is its step and one
abbrev pub in_sequence : ℕ → Result State ℕ → Option State
in_sequence sequence (Err place) = None
in_sequence sequence (Ok s) = if sequence == s.step + 1 then Some s else None

-- the state that a record is of, on an older one; none where it is bad or out of sequence
abbrev pub record_read : Problem → State → store.Entry → Option State
record_read p old entry = in_sequence entry.sequence (delta_decoded p old (old.step + 1) entry.payload)

-- what follows a record of number j goes by its state
abbrev pub then_on : ℕ → Option State → (State → Result State ℕ) → Result State ℕ
then_on j None next = Err j
then_on j (Some s) next = next s

-- a state with the records from number j on applied, each on the one before; or the number of the first that is none
abbrev pub records_read : Problem → ℕ → State → List store.Entry → Result State ℕ
records_read p j s [] = Ok s
records_read p j s (entry ∷ rest) = then_on j (record_read p s entry) (λ next. records_read p (j + 1) next rest)

abbrev pub chain_read : List ℕ → Problem → Result State ℕ → Content
chain_read bytes p (Err j) = Damaged (part.Chain j)
chain_read bytes p (Ok s) = At bytes p s (s.step + 1)

-- the latest whole state: bad at a place, or a state, whose sequence is its step and one, with the records that count applied
abbrev pub payload_read : List ℕ → Problem → ℕ → List store.Entry → Result State ℕ → Content
payload_read bytes p sequence records (Err place) = Damaged (part.State place)
payload_read bytes p sequence records (Ok s) = if sequence == s.step + 1 then chain_read bytes p (records_read p 1 s records) else Damaged part.Sequence

abbrev pub latest_read : store.State → Problem → Option store.Entry → Content
latest_read held p None = Fresh held.problem p
latest_read held p (Some entry) = payload_read held.problem p entry.sequence held.records (decoded (mass_width held.version) p entry.payload)

-- a store by its problem, whose states it has room for, no more and no less
abbrev pub store_read : store.State → Problem → Content
store_read held p = if held.slot_size == room_for held.version p then latest_read held p held.latest else Damaged part.Size

-- the bytes are this problem, and it can be stored: a store keeps one species
pub record IsStorable (bytes : List ℕ) (p : Problem) : Type 0 where
  pub accepted : IsProblemOf bytes p
  pub alone : p.species ≡ 1

-- the store's bytes are no problem that can be stored
pub record IsNoProblem (held : store.State) (content : Content) : Type 0 where
  pub none : (p : Problem) → ¬ (IsStorable held.problem p)
  pub content_is : content ≡ Damaged part.Problem

-- the store's bytes are such a problem, and by it the store reads as this
pub record IsReadBy (held : store.State) (content : Content) : Type 0 where
  pub problem : Problem
  pub accepted : IsStorable held.problem problem
  pub content_is : content ≡ store_read held problem

abbrev pub StoreHolds : store.Stored → Content → Type 0
StoreHolds store.Empty content = content ≡ Empty
StoreHolds (store.Damaged damage) content = content ≡ Damaged damage
StoreHolds (store.Held held) content = IsNoProblem held content ⊎ IsReadBy held content

-- the image holds this
abbrev pub Holds : List ℕ → Content → Type 0
Holds image content = StoreHolds (store.stored image) content

-- how far a store has come: it never goes back
abbrev pub rank : Content → ℕ
rank Empty = 0
rank (Damaged damage) = 0
rank (Fresh bytes p) = 1
rank (At bytes p s sequence) = sequence + 1

-- what is stored was left by runs of this problem: nothing, no state yet, or the state of the run at its step
pub record IsOfRun (bytes : List ℕ) (p : Problem) (kept : List ℕ) (s : State) (sequence : ℕ) : Type 0 where
  pub bytes_are : kept ≡ bytes
  pub state_is : s ≡ run p s.step
  pub sequence_is : sequence ≡ s.step + 1

abbrev pub IsReached : List ℕ → Problem → Content → Type 0
IsReached bytes p Empty = ⊤
IsReached bytes p (Damaged damage) = ⊥
IsReached bytes p (Fresh kept q) = kept ≡ bytes
IsReached bytes p (At kept q s sequence) = IsOfRun bytes p kept s sequence

-- the state that a run goes on from: the stored one, and else the start
abbrev pub state_from : Problem → Content → State
state_from p Empty = start p
state_from p (Damaged damage) = start p
state_from p (Fresh bytes q) = start p
state_from p (At bytes q s sequence) = s
