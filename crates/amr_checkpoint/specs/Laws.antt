-- Laws of checkpoints, each of which a call of this crate ensures.
use Rattle.std.specs.Prelude.{ℕ, ◌≡◌, ◌+◌, ◌<◌, ⊤, ◌⊎◌, List, [], ◌∷◌, Some}
use Rattle.std.specs.Int.{w32}
use Rattle.std.specs.List.{All, flat_map}
use Rattle.amr_def.specs.declared.problem.Problem.{Problem}
use Rattle.amr_def.specs.Facts.{IsSound}
use Rattle.amr_def.specs.Plot.{plot}
use Rattle.amr_def.specs.Run.{finish, run}
use Rattle.amr_def.specs.State.{State}
use Rattle.amr_payload.specs.Delta.{IsLater, delta_bytes}
use Rattle.amr_payload.specs.Payload.{payload, slot_size}
use Rattle.amr_problem.specs.declared.fault.ProblemFault.{ProblemFault}
use Rattle.amr_problem.specs.Judgement.{IsProblemOf, fault_of}
use Rattle.amr_store.specs.Created.{HasNumber, state_with}
use Rattle.amr_store.specs.Renewed.{renewed_state}
use Rattle.amr_store.specs.Stored as store
use Rattle.amr_checkpoint.specs.declared.refusal.Refusal.{Refusal}
use Rattle.amr_checkpoint.specs.Contents.{Content, Empty, Damaged, Fresh, At, Holds, IsReached, IsStorable, mass_width, rank, room_for, state_from}
use Rattle.amr_checkpoint.specs.Marks.{acknowledgements, answer_of_run, checkpoint_line, marks, to_make}
use Rattle.amr_checkpoint.specs.Refusals.{CanShow, GoesOn, RefusesRun, RefusesShow}

-- ---- what an image holds

-- one content at most
abbrev pub HoldsOne : Type 0
HoldsOne = (image : List ℕ) (a b : Content) → Holds image a → Holds image b → a ≡ b

-- a problem, or one with a fault
abbrev pub IsJudged : List ℕ → Type 0
IsJudged bytes = ((fault : ProblemFault) × (fault_of bytes ≡ Some fault)) ⊎ ((p : Problem) × IsProblemOf bytes p)

-- and one at least, where the bytes of its problem are judged
abbrev pub HoldsSome : Type 0
HoldsSome =
    (image : List ℕ) → ((held : store.State) → store.stored image ≡ store.Held held → IsJudged held.problem) → (content : Content) × Holds image content

-- a state that is stored is a sound one of its problem, and its sequence its step and one
pub record IsSoundAt (bytes : List ℕ) (p : Problem) (s : State) (sequence : ℕ) : Type 0 where
  pub accepted : IsStorable bytes p
  pub sound : IsSound p s
  pub sequence_is : sequence ≡ s.step + 1

abbrev pub HoldsSound : Type 0
HoldsSound =
    (image bytes : List ℕ) (p : Problem) (s : State) (sequence : ℕ) → All (λ b. b < 256) image → Holds image (At bytes p s sequence)
    → IsSoundAt bytes p s sequence

-- ---- what is made

-- a new store of any version has room for the problem's states
abbrev pub CreationHolds : Type 0
CreationHolds = (image bytes : List ℕ) (p : Problem) (version deltas : ℕ) → HasNumber version deltas → IsStorable bytes p
    → store.stored image ≡ store.Held (state_with version deltas bytes (room_for version p)) → Holds image (Fresh bytes p)

-- what is stored is of this problem, with room for its states
pub record StoresProblem (held : store.State) (bytes : List ℕ) (p : Problem) : Type 0 where
  pub bytes_are : held.problem ≡ bytes
  pub accepted : IsStorable bytes p
  pub room : held.slot_size ≡ room_for held.version p

-- the payload of a sound state, put with the sequence of its step and one
abbrev pub PutHolds : Type 0
PutHolds =
    (before image bytes : List ℕ) (p : Problem) (held : store.State) (s : State) → store.stored before ≡ store.Held held → StoresProblem held bytes p
    → IsSound p s
    → store.stored image ≡ store.with_latest (store.stored before) (s.step + 1) (payload (mass_width held.version) s) → Holds image (At bytes p s (s.step + 1))

-- the record of a later state on the one that is held
abbrev pub RecordHolds : Type 0
RecordHolds =
    (before image bytes : List ℕ) (p : Problem) (old s : State) → Holds before (At bytes p old (old.step + 1)) → IsSound p old → IsSound p s → IsLater old s
    → store.stored image ≡ store.with_record (store.stored before) (s.step + 1) (delta_bytes old (old.step + 1) s) → Holds image (At bytes p s (s.step + 1))

-- and the renewal of a store of version 1 with a state
abbrev pub RenewalHolds : Type 0
RenewalHolds = (image bytes : List ℕ) (p : Problem) (s : State) → IsStorable bytes p → IsSound p s
    → store.stored image ≡ store.Held (renewed_state bytes (slot_size w32 p) (s.step + 1) (payload w32 s)) → Holds image (At bytes p s (s.step + 1))

-- ---- runs

-- what is stored lets a run go on or refuses it, and not both
abbrev pub GoesOnOrRefuses : Type 0
GoesOnOrRefuses =
    (bytes : List ℕ) (target : ℕ) (content : Content) → GoesOn bytes target content ⊎ ((refusal : Refusal) × RefusesRun bytes target content refusal)

abbrev pub NotBoth : Type 0
NotBoth = (bytes : List ℕ) (target : ℕ) (content : Content) (refusal : Refusal) → GoesOn bytes target content → RefusesRun bytes target content refusal → ⊥

-- and is refused in one way
abbrev pub RefusesOnce : Type 0
RefusesOnce = (bytes : List ℕ) (target : ℕ) (content : Content) (a b : Refusal) → RefusesRun bytes target content a → RefusesRun bytes target content b → a ≡ b

-- the same of what is shown
abbrev pub ShowsOrRefuses : Type 0
ShowsOrRefuses = (content : Content) → CanShow content ⊎ ((refusal : Refusal) × RefusesShow content refusal)

abbrev pub NotBothShown : Type 0
NotBothShown = (content : Content) (refusal : Refusal) → CanShow content → RefusesShow content refusal → ⊥

-- the sequence of a stored state is its step and one
abbrev pub IsInSequence : Content → Type 0
IsInSequence Empty = ⊤
IsInSequence (Damaged damage) = ⊤
IsInSequence (Fresh bytes p) = ⊤
IsInSequence (At bytes p s sequence) = sequence ≡ s.step + 1

-- each has gone further than the one before
abbrev pub AreRising : Content → List Content → Type 0
AreRising content [] = ⊤
AreRising content (next ∷ rest) = (rank content < rank next) × AreRising next rest

-- what a run makes of a store goes further each time
abbrev pub CheckpointsRise : Type 0
CheckpointsRise =
    (bytes : List ℕ) (p : Problem) (every target : ℕ) (found : Content) → GoesOn bytes target found → IsInSequence found
    → AreRising found (to_make bytes p every found target)

-- all that is made is acknowledged by one line for each mark, in order
abbrev pub AcknowledgesMarks : Type 0
AcknowledgesMarks = (bytes : List ℕ) (p : Problem) (every target : ℕ) (found : Content) → GoesOn bytes target found
    → acknowledgements (to_make bytes p every found target) ≡ flat_map checkpoint_line (marks every found target)

-- a run of these bytes to the target goes on from it, and it is of that run
pub record RunsOn (bytes : List ℕ) (p : Problem) (target : ℕ) (content : Content) : Type 0 where
  pub on : GoesOn bytes target content
  pub reached : IsReached bytes p content

-- where what was found is so, all that is made of it is
abbrev pub CheckpointsRunOn : Type 0
CheckpointsRunOn =
    (bytes : List ℕ) (p : Problem) (every target : ℕ) (found : Content) → RunsOn bytes p target found
    → All (RunsOn bytes p target) (to_make bytes p every found target)

-- and from it the run goes on as if it had never stopped: to the same state, with the same plot
abbrev pub SameRun : Type 0
SameRun = (bytes : List ℕ) (p : Problem) (target : ℕ) (found : Content) → RunsOn bytes p target found
    → (finish p (state_from p found) target ≡ run p target) × (answer_of_run p found target ≡ plot p (run p target))

-- an image from which the bytes of the run follow
pub record IsLeftBy (bytes : List ℕ) (p : Problem) (target : ℕ) (image : List ℕ) : Type 0 where
  pub content : Content
  pub held : Holds image content
  pub runs_on : RunsOn bytes p target content
  pub answer : answer_of_run p content target ≡ plot p (run p target)
