-- Calls that keep the states of a run: which checkpoints stand when they end, what was said of them, and what a stop leaves. (profile)
use Rattle.std.specs.Prelude.{ℕ, ◌≡◌, ◌≢◌, ◌+◌, ◌≤◌, ⊤, List, [], ◌∷◌, ◌++◌, map, Option, Some, None, Result, Ok, Err}
use Rattle.std.specs.List.{filter}
use Rattle.amr_causes.specs.Causes.{Rose}
use Rattle.amr_io.specs.Short.{IsProperPrefix}
use Rattle.amr_def.specs.declared.problem.Problem.{Problem}
use Rattle.amr_def.specs.State.{State}
use Rattle.amr_checkpoint.specs.declared.acknowledgement.Keeping.{Keeping}
use Rattle.amr_checkpoint.specs.declared.faults.KeepFault.{KeepFault}
use Rattle.amr_checkpoint.specs.declared.faults.KeepFault.TheVariants as fault
use Rattle.amr_checkpoint.specs.Contents.{Content, At, Holds}
use Rattle.amr_checkpoint.specs.Laws.{AreRising}
use Rattle.amr_checkpoint.specs.Made.{ReadsWith}
use Rattle.amr_checkpoint.specs.Marks.{acknowledgement, acknowledgements, is_mark, to_make}
use Rattle.amr_checkpoint.specs.Times.{StopsLeave, Time, contents_of, last_of}
use Rattle.amr_checkpoint.specs.Outside.{DiskAt, IsDurable, SaysMore, OutsideAt}

-- ---- what is kept

-- a run that keeps checkpoints: the bytes of its problem, the problem, how many steps lie between marks, the step that it goes to, and how many
-- records follow each whole state in a store that it makes, where any do
pub record KeptRun : Type 0 where
  pub bytes : List ℕ
  pub problem : Problem
  pub every : ℕ
  pub target : ℕ
  pub deltas : Option ℕ

abbrev pub run_of : List ℕ → Keeping → KeptRun
run_of bytes keeping = record { bytes = bytes; problem = keeping.problem.now; every = keeping.every; target = keeping.target; deltas = keeping.deltas }

-- what the store comes to hold by these states of it, in their order: those whose steps are marks
abbrev pub checkpoints_of : KeptRun → List State → List Content
checkpoints_of run states = map (λ (s : State). At run.bytes run.problem s (s.step + 1)) (filter (λ (s : State). is_mark run.every run.target s.step) states)

-- what the run is to make of the store that it found
abbrev pub made_of : KeptRun → Content → List Content
made_of run found = to_make run.bytes run.problem run.every found run.target

-- ---- how calls end

-- by a fault, or not
abbrev pub fault_in : {T F : Type 0} → Result T F → Option F
fault_in (Ok value) = None
fault_in (Err fault) = Some fault

-- the first ones of all
pub record AreFirstOf (all first : List Content) : Type 0 where
  pub rest : List Content
  pub split : first ++ rest ≡ all

-- all that were to be made stand, or the first ones
abbrev pub StandsBy : Option KeepFault → List Content → List Content → Type 0
StandsBy None all stood = stood ≡ all
StandsBy (Some reason) all stood = AreFirstOf all stood

-- All that was made is acknowledged, but for the line of the last: that one did not go out whole.
pub record IsCutAtLast (said : List ℕ) (made : List Content) : Type 0 where
  pub front : List Content
  pub last : Content
  pub part : List ℕ
  pub split : front ++ last ∷ [] ≡ made
  pub all : acknowledgements front ++ part ≡ said
  pub cut : IsProperPrefix part (acknowledgement last)

-- What was made is acknowledged by its lines, all of them and no other; after a fault of `err` but for the last.
abbrev pub IsSaid : Option KeepFault → List ℕ → List Content → Type 0
IsSaid None said made = said ≡ acknowledgements made
IsSaid (Some fault.DiskFault) said made = said ≡ acknowledgements made
IsSaid (Some fault.NoMemory) said made = said ≡ acknowledgements made
IsSaid (Some fault.WriteFault) said made = IsCutAtLast said made

-- `err` failed exactly where calls ended by its fault; `before` and `now` count its faults
abbrev pub ErrFailsBy : Option KeepFault → ℕ → ℕ → Type 0
ErrFailsBy None before now = now ≡ before
ErrFailsBy (Some fault.DiskFault) before now = now ≡ before
ErrFailsBy (Some fault.NoMemory) before now = now ≡ before
ErrFailsBy (Some fault.WriteFault) before now = Rose before now

-- the disk failed exactly where calls ended by its fault; `before` and `now` count its faults
abbrev pub FailsBy : Option KeepFault → ℕ → ℕ → Type 0
FailsBy None before now = now ≡ before
FailsBy (Some fault.DiskFault) before now = Rose before now
FailsBy (Some fault.NoMemory) before now = now ≡ before
FailsBy (Some fault.WriteFault) before now = now ≡ before

-- a call was about to make something, and did not, only where the disk failed
abbrev pub IsBegunBy : Option KeepFault → Option Content → Type 0
IsBegunBy None attempt = attempt ≡ None
IsBegunBy (Some fault.DiskFault) attempt = ⊤
IsBegunBy (Some fault.NoMemory) attempt = attempt ≡ None
IsBegunBy (Some fault.WriteFault) attempt = attempt ≡ None

-- ---- what a stop leaves

-- up to a moment a stop leaves the same images
pub record SameUntil (until : ℕ) (was leaves : ℕ → List ℕ → Type 0) : Type 0 where
  pub still : (t : ℕ) (image : List ℕ) → t ≤ until → was t image → leaves t image
  pub kept : (t : ℕ) (image : List ℕ) → t ≤ until → leaves t image → was t image

-- Calls began on a disk that held this, were to make all these, and made those that stand, each at its time. At each moment in between a stop
-- leaves what was found or made last, or what is made next, and before them what it left. But where the disk failed it reads as what was made
-- last.
pub record StopsThrough (before after : DiskAt) (found : Content) (all stood : List Content) (ended : Option KeepFault) : Type 0 where
  pub times : List Time
  pub made : contents_of times ≡ stood
  pub attempt : Option Content
  pub begun : IsBegunBy ended attempt
  pub leave : StopsLeave after.leaves (record { moment = before.moment; content = found }) after.moment all times attempt
  pub past : SameUntil before.moment before.leaves after.leaves
  pub held : ended ≢ Some fault.DiskFault → (image : List ℕ) → after.seen ≡ Some image → Holds image (last_of found stood)

-- Calls that were to make all these of a store, one after another, and then to acknowledge each on a stream of errors. Of them all stand at the
-- end, or the first ones, and are acknowledged. But where the disk failed each was put whole and nothing else was written, and a stop leaves what
-- a read gives, if it did before.
pub record Keeps (deltas : Option ℕ) (before after : OutsideAt) (all : List Content) (ended : Option KeepFault) : Type 0 where
  pub stood : List Content
  pub said : List ℕ
  pub stands : StandsBy ended all stood
  pub grows : SaysMore before after said
  pub says : IsSaid ended said stood
  pub err_fails : ErrFailsBy ended before.err_faults after.err_faults
  pub later : before.disk_faults ≤ after.disk_faults
  pub fails : FailsBy ended before.disk_faults after.disk_faults
  pub settled : ended ≢ Some fault.DiskFault → IsDurable before.disk → IsDurable after.disk
  pub made : ended ≢ Some fault.DiskFault → (image : List ℕ) → before.disk.seen ≡ Some image → ReadsWith deltas after.disk.seen image stood
  pub stops : (image : List ℕ) (found : Content) → before.disk.seen ≡ Some image → Holds image found → IsDurable before.disk → AreRising found all
      → StopsThrough before.disk after.disk found all stood ended

-- What became of a disk since a time at which it read as the image, where calls were to make all that of it and said this: a stop leaves what was
-- found then or made last, or what is made next. But where the disk failed it reads as it did then, with what was made and nothing else.
pub record History (deltas : Option ℕ) (after : DiskAt) (found : Time) (image : List ℕ)
    (all : List Content) (said : List ℕ) (ended : Option KeepFault) : Type 0 where
  pub times : List Time
  pub attempt : Option Content
  pub leave : StopsLeave after.leaves found after.moment all times attempt
  pub begun : IsBegunBy ended attempt
  pub acknowledged : IsSaid ended said (contents_of times)
  pub made : ended ≢ Some fault.DiskFault → ReadsWith deltas after.seen image (contents_of times)
