-- The table of commands: what each of them means, a row each. The outcome of a call, its stops and what it leaves pending say of a command what
-- its row says, and nothing else of it.
use Rattle.std.specs.Prelude.{ℕ, ◌≡◌, ◌<◌, ⊤, List, [], Option, None, Some}
use Rattle.amr_batch.specs.Batch.{IsBatch, IsMalformedAt}
use Rattle.amr_problem.specs.Judgement.{IsProblemOf, fault_of}
use Rattle.amr_checkpoint.specs.declared.refusal.Refusal.{Refusal}
use Rattle.amr_checkpoint.specs.Contents.{Content, Holds, IsStorable}
use Rattle.amr_checkpoint.specs.Refusals.{RefusesRun, RefusesShow}
use Rattle.amr_cli.specs.declared.command.Command.{Command}
use Rattle.amr_cli.specs.declared.command.Command.TheVariants.{Run, Check, Show, Trial, Batch, View}
use Rattle.amr_cli.specs.declared.command.ViewOptions.{ViewOptions}
use Rattle.amr_def.specs.declared.problem.Problem.{Problem}
use Rattle.amr_run.specs.Answer.{IsLineOfProblem, IsLineOfTrial, IsPlotOfKeptRun, IsPlotOfRun, IsPlotOfStore, IsViewOfRun, stop_of}
use Rattle.amr_run.specs.Batch.{IsBatchAnswer}
use Rattle.amr_run.specs.Views.{bad_view}
use Rattle.amr_run.specs.declared.commands.Marks.{Marks}
use Rattle.amr_run.specs.declared.status.Status.{Status}
use Rattle.amr_run.specs.declared.status.Status.TheVariants.{Problem as BadProblem, BadBatch, Species, BadView}

-- ---- the columns

pub record Meaning : Type 1 where
  -- the most bytes that it takes of its source, or None where it reads none
  pub reads : Option ℕ
  -- the status that refuses these bytes, or None where they are taken
  pub judges : List ℕ → Option Status → Type 0
  -- it opens the store
  pub opens : Type 0
  -- a run on these bytes is refused so by what is stored
  pub refuses : List ℕ → Content → Refusal → Type 0
  -- it puts checkpoints there, at these marks, into a store with so many records where it makes one; any other only reads its disk
  pub keeps : Option Marks
  -- by the bytes of its source and by what its disk reads as: its answer on `out`, and its lines on `err`, one for each checkpoint
  pub answers : List ℕ → Option (List ℕ) → List ℕ → List ℕ → Type 0

-- its bytes are those of a problem, or refused by their first fault
abbrev pub JudgesProblem : List ℕ → Option Status → Type 0
JudgesProblem bytes None = fault_of bytes ≡ None
JudgesProblem bytes (Some (BadProblem fault)) = fault_of bytes ≡ Some fault
JudgesProblem bytes (Some status) = ⊥

-- the bytes are a problem with this fact
pub record IsProblemWith (bytes : List ℕ) (fact : Problem → Type 0) : Type 0 where
  pub problem : Problem
  pub accepted : IsProblemOf bytes problem
  pub has : fact problem

-- its bytes are those of a problem of one species, or refused by their first fault, or those of a problem of so many species
abbrev pub JudgesStorable : List ℕ → Option Status → Type 0
JudgesStorable bytes None = IsProblemWith bytes (λ p. p.species ≡ 1)
JudgesStorable bytes (Some (BadProblem fault)) = fault_of bytes ≡ Some fault
JudgesStorable bytes (Some (Species k)) = IsProblemWith bytes (λ p. (p.species ≡ k) × (1 < k))
JudgesStorable bytes (Some status) = ⊥

-- its bytes are those of a problem that has this view, or refused by their first fault, or those of a problem in which this part of it is outside
abbrev pub JudgesView : ViewOptions → List ℕ → Option Status → Type 0
JudgesView asked bytes None = IsProblemWith bytes (λ p. bad_view asked p ≡ None)
JudgesView asked bytes (Some (BadProblem fault)) = fault_of bytes ≡ Some fault
JudgesView asked bytes (Some (BadView part)) = IsProblemWith bytes (λ p. bad_view asked p ≡ Some part)
JudgesView asked bytes (Some status) = ⊥

-- its bytes are a batch, or malformed at a place
abbrev pub JudgesBatch : List ℕ → Option Status → Type 0
JudgesBatch bytes None = (jobs : List (List ℕ)) × IsBatch bytes jobs
JudgesBatch bytes (Some (BadBatch place)) = IsMalformedAt bytes place
JudgesBatch bytes (Some status) = ⊥

-- no bytes refuse it
abbrev pub JudgesNothing : List ℕ → Option Status → Type 0
JudgesNothing bytes None = ⊤
JudgesNothing bytes (Some status) = ⊥

-- nothing stored refuses it
abbrev pub UsesNoStore : List ℕ → Content → Refusal → Type 0
UsesNoStore bytes content refusal = ⊥

-- the run of the problem, to the step that it stops at, is refused so
pub record RefusesRunTo (to : Option ℕ) (bytes : List ℕ) (content : Content) (refusal : Refusal) : Type 0 where
  pub problem : Problem
  pub accepted : IsStorable bytes problem
  pub refuses : RefusesRun bytes (stop_of to problem) content refusal

-- ---- the rows

-- `run`
abbrev pub run_row : Option ℕ → Meaning
run_row to = record {
  reads = Some 65537;
  judges = JudgesProblem;
  opens = ⊥;
  refuses = UsesNoStore;
  keeps = None;
  answers = λ bytes seen out said. IsPlotOfRun bytes to out × (said ≡ []);
}

-- `run --keep`
abbrev pub kept_row : Marks → Meaning
kept_row marks = record {
  reads = Some 65537;
  judges = JudgesStorable;
  opens = Unit {0};
  refuses = RefusesRunTo marks.to;
  keeps = Some marks;
  answers = λ bytes seen out said. IsPlotOfKeptRun bytes marks.to marks.every seen out said;
}

-- `check`
abbrev pub check_row : Meaning
check_row = record {
  reads = Some 65537;
  judges = JudgesProblem;
  opens = ⊥;
  refuses = UsesNoStore;
  keeps = None;
  answers = λ bytes seen out said. IsLineOfProblem bytes out × (said ≡ []);
}

-- `show`
abbrev pub show_row : Meaning
show_row = record {
  reads = None;
  judges = JudgesNothing;
  opens = Unit {0};
  refuses = λ bytes content refusal. RefusesShow content refusal;
  keeps = None;
  answers = λ bytes seen out said. IsPlotOfStore seen out × (said ≡ []);
}

-- `trial`
abbrev pub trial_row : ℕ → ℕ → Meaning
trial_row number size = record {
  reads = None;
  judges = JudgesNothing;
  opens = ⊥;
  refuses = UsesNoStore;
  keeps = None;
  answers = λ bytes seen out said. IsLineOfTrial number size out × (said ≡ []);
}

-- `batch`
abbrev pub batch_row : Meaning
batch_row = record {
  reads = Some 1048577;
  judges = JudgesBatch;
  opens = ⊥;
  refuses = UsesNoStore;
  keeps = None;
  answers = λ bytes seen out said. IsBatchAnswer bytes out × (said ≡ []);
}

-- `view`
abbrev pub view_row : ViewOptions → Meaning
view_row asked = record {
  reads = Some 65537;
  judges = JudgesView asked;
  opens = ⊥;
  refuses = UsesNoStore;
  keeps = None;
  answers = λ bytes seen out said. IsViewOfRun bytes asked out × (said ≡ []);
}

-- by whether checkpoints are asked for
abbrev pub run_meaning : Option ℕ → Option ℕ → Option ℕ → Meaning
run_meaning to None deltas = run_row to
run_meaning to (Some every) deltas = kept_row record { to = to; every = every; deltas = deltas }

-- the table
abbrev pub meaning : Command → Meaning
meaning (Run options) = run_meaning options.to options.keep options.deltas
meaning Check = check_row
meaning Show = show_row
meaning (Trial number size workers) = trial_row number size
meaning (Batch workers) = batch_row
meaning (View asked) = view_row asked

-- ---- by command

abbrev pub IsGiven : {A : Type 0} → Option A → Type 0
IsGiven None = ⊥
IsGiven (Some given) = Unit {0}

abbrev pub ReadsSource : Command → Type 0
ReadsSource command = IsGiven (meaning command).reads

abbrev pub OpensStore : Command → Type 0
OpensStore command = (meaning command).opens

abbrev pub KeepsCheckpoints : Command → Type 0
KeepsCheckpoints command = IsGiven (meaning command).keeps

-- the disk tells what it reads, and nothing that it holds refuses
pub record TellsAccepted (refuses : Content → Refusal → Type 0) (seen : Option (List ℕ)) : Type 0 where
  pub image : List ℕ
  pub told : seen ≡ Some image
  pub none : (content : Content) → Holds image content → (refusal : Refusal) → ¬ (refuses content refusal)

-- The command has an answer: where it reads its source the bytes are taken, and where it opens the store nothing stored refuses it.
pub record HasAnswer (command : Command) (bytes : List ℕ) (seen : Option (List ℕ)) : Type 0 where
  pub taken : (meaning command).judges bytes None
  pub stored : (meaning command).opens → TellsAccepted ((meaning command).refuses bytes) seen
