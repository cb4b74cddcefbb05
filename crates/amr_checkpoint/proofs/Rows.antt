-- Worked rows: what a few bytes hold, the marks of runs, where two problems differ, and the lines.
use Rattle.std.proofs.Common.{◌≡◌, inr, ℕ, ◌-◌, List, [], ◌∷◌, refl, ap, arith}
use Rattle.std.proofs.lemmas.Option.{same_Some}
use Rattle.std.specs.Prelude.{codes}
use Rattle.std.specs.Fmt.{digits}
use Rattle.amr_def.specs.declared.problem.Problem.{Problem}
use Rattle.amr_def.specs.Plot.{plot}
use Rattle.amr_def.specs.Run.{finish, next, start, times}
use Rattle.amr_def.specs.State.{State}
use Rattle.amr_store.specs.declared.part.Part.TheVariants as part
use Rattle.amr_checkpoint.specs.declared.refusal.Refusal.TheVariants as refused
use Rattle.amr_checkpoint.specs.Contents.{Empty, Damaged, Fresh, At, Holds}
use Rattle.amr_checkpoint.specs.Marks.{acknowledgements, answer_of_run, checkpoint_line, marks}
use Rattle.amr_checkpoint.specs.Refusals.{GoesOn, IsFirstDifference, RefusesRun, refusal_line}

-- ---- images

no_byte : Holds [] Empty
no_byte = refl

one_open_byte : Holds (165 ∷ []) Empty
one_open_byte = refl

open_byte_and_one : Holds (165 ∷ 0 ∷ []) (Damaged part.Head)
open_byte_and_one = refl

-- ---- marks

abbrev after : ℕ → State
after step = record { step = step; rows = []; levels = [] }

each_step_to_2 : marks 1 Empty 2 ≡ 1 ∷ 2 ∷ []
each_step_to_2 = refl

on_from_2 : (bytes : List ℕ) (p : Problem) → marks 1 (At bytes p (after 2) 3) 4 ≡ 3 ∷ 4 ∷ []
on_from_2 bytes p = refl

third_steps_and_target : (bytes : List ℕ) (p : Problem) → marks 3 (Fresh bytes p) 7 ≡ 3 ∷ 6 ∷ 7 ∷ []
third_steps_and_target bytes p = refl

target_alone : marks 4096 Empty 5 ≡ 5 ∷ []
target_alone = refl

start_alone : marks 5 Empty 0 ≡ 0 ∷ []
start_alone = refl

nothing_at_the_target : (bytes : List ℕ) (p : Problem) → marks 1 (At bytes p (after 0) 1) 0 ≡ []
nothing_at_the_target bytes p = refl

-- ---- a run to step 0

to_0_is_the_start : (p : Problem) → answer_of_run p Empty 0 ≡ plot p (start p)
unfolding finish
to_0_is_the_start p =
    let none : 0 - (start p).step ≡ 0 = omega arith in
    ap (λ n. plot p (times (next p) n (start p))) none

-- ---- lines

line_of_3 : checkpoint_line 3 ≡ codes "checkpoint 3\n"
unfolding digits
line_of_3 = refl

lines_of_two : (bytes : List ℕ) (p : Problem) → acknowledgements (Fresh bytes p ∷ At bytes p (after 1) 2 ∷ At bytes p (after 10) 11 ∷ []) ≡ codes "checkpoint 1\ncheckpoint 10\n"
unfolding digits
lines_of_two bytes p = refl

-- ---- refusals

abbrev ring_to_4 : List ℕ
ring_to_4 = codes "version = 1\nname = \"ring\"\ncells = [4, 2]\nsteps = 4\ncourant = [1, 0, 2]\nsides = [-1, -1, -1, -1]\nmax_level = 0\nblocks = [[0, 0, 0, 0, 8]]\n"

abbrev ring_to_1 : List ℕ
ring_to_1 = codes "version = 1\nname = \"ring\"\ncells = [4, 2]\nsteps = 1\ncourant = [1, 0, 2]\nsides = [-1, -1, -1, -1]\nmax_level = 0\nblocks = [[0, 0, 0, 0, 8]]\n"

other_steps : IsFirstDifference ring_to_4 ring_to_1 49
other_steps = record { alike = refl; differs = λ e. let clash : 52 ≡ 49 = same_Some 52 49 e in absurd (omega arith) }

another_problem : (p : Problem) → RefusesRun ring_to_1 1 (Fresh ring_to_4 p) (refused.WrongProblem 137 137 49)
another_problem p = record { place = 49; first = other_steps; told = refl }

lower_target : (bytes : List ℕ) (p : Problem) → RefusesRun bytes 2 (At bytes p (after 4) 5) (refused.Ahead 4 2)
lower_target bytes p = inr record { same = refl; past = omega arith; told = refl }

same_target : (bytes : List ℕ) (p : Problem) → GoesOn bytes 4 (At bytes p (after 4) 5)
same_target bytes p = (refl, omega arith)

another_problem_line : refusal_line (refused.WrongProblem 137 137 49) ≡ codes "amr: store holds another problem: 137 137 at 49\n"
unfolding digits
another_problem_line = refl

lower_target_line : refusal_line (refused.Ahead 4 2) ≡ codes "amr: store is ahead: 4 2\n"
unfolding digits
lower_target_line = refl

nothing_stored_line : refusal_line refused.Empty ≡ codes "amr: store is empty\n"
nothing_stored_line = refl

damaged_head_line : refusal_line (refused.Damaged part.Head) ≡ codes "amr: store damaged: head\n"
damaged_head_line = refl

damaged_slot_line : refusal_line (refused.Damaged (part.Slot 1)) ≡ codes "amr: store damaged: slot 1\n"
unfolding digits
damaged_slot_line = refl

damaged_state_line : refusal_line (refused.Damaged (part.State 28)) ≡ codes "amr: store damaged: state 28\n"
unfolding digits
damaged_state_line = refl
