-- The defined answer of a command: by the bytes of its source, by what its disk holds, or of a trial by its two numbers alone.
use Rattle.std.specs.Prelude.{ℕ, ◌≡◌, ◌+◌, List, Option, None, Some, IfSome, min, slice_index_or}
use Rattle.std.specs.List.{flat_map}
use Rattle.amr_def.specs.declared.problem.Problem.{Problem}
use Rattle.amr_def.specs.Run as runs
use Rattle.amr_def.specs.Plot as plots
use Rattle.amr_def.specs.Species.{IsFlock, no_state, run_all, start_all}
use Rattle.amr_def.specs.View.{view}
use Rattle.amr_def.specs.Facts.{IsSound, row_at}
use Rattle.amr_def.specs.State.{State}
use Rattle.amr_problem.specs.Judgement.{IsProblemOf}
use Rattle.amr_trial.specs.Summary.{summary_line}
use Rattle.amr_trial.specs.Trial.{text}
use Rattle.amr_checkpoint.specs.Contents.{Content, At, Holds, IsStorable, state_from}
use Rattle.amr_checkpoint.specs.Marks.{answer_of_run, checkpoint_line, marks}
use Rattle.amr_checkpoint.specs.Refusals.{GoesOn}
use Rattle.amr_cli.specs.declared.command.ViewOptions.{ViewOptions}
use Rattle.amr_drive.specs.Regrids.{RunHoldsTags, StartHoldsTags}
use Rattle.amr_run.specs.Regrids.{RunHoldsAllTags, StartHoldsAllTags}
use Rattle.amr_view.specs.Laws.{finest_total}
use Rattle.amr_run.specs.Texts.{problem_line}
use Rattle.amr_run.specs.Views.{bad_view, box_of}

-- the step that a run stops at: one that is asked for, and at most the problem's last
abbrev pub stop_of : Option ℕ → Problem → ℕ
stop_of None p = p.steps
stop_of (Some k) p = min k p.steps

-- The states of a problem's run at a step, one of each species, are sound, with a ledger of their own, and on the same boxes: nested, synced,
-- bounded and telescoped. Each regrid of the start and of the run covers the cells that were tagged for some species.
pub record IsSoundRun (p : Problem) (k : ℕ) : Type 0 where
  pub sound : IsFlock p (run_all p k)
  pub start_held : StartHoldsAllTags p
  pub held : RunHoldsAllTags p (start_all p) k

-- the same of a run of one species from a state
pub record IsSoundRunFrom (p : Problem) (s : State) (k : ℕ) : Type 0 where
  pub sound : IsSound p (runs.finish p s k)
  pub start_held : StartHoldsTags p
  pub held : RunHoldsTags p s k

-- These bytes are the plot of the run of the problem that the bytes of the source are, at the step that it stops at.
pub record IsPlotOfRun (bytes : List ℕ) (to : Option ℕ) (out : List ℕ) : Type 0 where
  pub problem : Problem
  pub accepted : IsProblemOf bytes problem
  pub text : out ≡ plots.plot_all problem (run_all problem (stop_of to problem))
  pub run : IsSoundRun problem (stop_of to problem)

-- the state of the species that is asked for, after the last step of the run
abbrev pub seen_state : ViewOptions → Problem → State
seen_state asked p = slice_index_or (run_all p p.steps) asked.species no_state

-- These bytes are the rows of a box, by the finest masses of a species after the last step of the run of the problem that the bytes of the
-- source are, which has such a view. At every level the finest masses of all cells make up the mass of the last row of its ledger.
pub record IsViewOfRun (bytes : List ℕ) (asked : ViewOptions) (out : List ℕ) : Type 0 where
  pub problem : Problem
  pub accepted : IsProblemOf bytes problem
  pub inside : bad_view asked problem ≡ None
  pub text : out ≡ view (seen_state asked problem) asked.level (box_of asked.corners)
  pub whole : (l : ℕ) → finest_total problem (seen_state asked problem) l ≡ (row_at (seen_state asked problem) (seen_state asked problem).step).mass
  pub run : IsSoundRun problem problem.steps

-- what a disk holds, where it tells what it reads
abbrev pub WasFound : Option (List ℕ) → Content → Type 0
WasFound seen content = IfSome seen (λ image. Holds image content)

-- These bytes are the plot of a problem's run that goes on from what the disk holds to a step, and these lines acknowledge a checkpoint
-- at each of its marks.
pub record IsKeptRun (bytes : List ℕ) (p : Problem) (every target : ℕ) (seen : Option (List ℕ)) (out lines : List ℕ) : Type 0 where
  pub found : Content
  pub held : WasFound seen found
  pub on : GoesOn bytes target found
  pub text : out ≡ answer_of_run p found target
  pub acknowledged : lines ≡ flat_map checkpoint_line (marks every found target)
  pub run : IsSoundRunFrom p (state_from p found) target

-- of the problem of one species that the bytes of the source are, at the step that it stops at
pub record IsPlotOfKeptRun (bytes : List ℕ) (to : Option ℕ) (every : ℕ) (seen : Option (List ℕ)) (out lines : List ℕ) : Type 0 where
  pub problem : Problem
  pub accepted : IsStorable bytes problem
  pub kept : IsKeptRun bytes problem every (stop_of to problem) seen out lines

-- These bytes are the plot of the state that the disk holds, which is sound.
pub record IsPlotOfStore (seen : Option (List ℕ)) (out : List ℕ) : Type 0 where
  pub bytes : List ℕ
  pub problem : Problem
  pub state : State
  pub held : WasFound seen (At bytes problem state (state.step + 1))
  pub text : out ≡ plots.plot problem state
  pub sound : IsSound problem state

-- These bytes are the line of the problem that the bytes of the source are.
pub record IsLineOfProblem (bytes out : List ℕ) : Type 0 where
  pub problem : Problem
  pub accepted : IsProblemOf bytes problem
  pub text : out ≡ problem_line problem

-- These bytes are the line of a trial, on the run of the problem that the trial's text is.
pub record IsLineOfTrial (number size : ℕ) (out : List ℕ) : Type 0 where
  pub problem : Problem
  pub accepted : IsProblemOf (text number size) problem
  pub line : out ≡ summary_line number size problem
  pub run : IsSoundRun problem 16
