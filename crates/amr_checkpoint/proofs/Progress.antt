-- What a run makes of a store goes further each time, and is of the run where what was found is.
use Rattle.std.proofs.Common.{◌≡◌, ℕ, zero, suc, ◌+◌, ◌-◌, ◌<◌, ◌≤◌, ◌∷◌, [], ◌++◌, Bool, true, false, cond, List, map, refl, sym, ◌∙◌, ap, arith, All}
use Rattle.std.proofs.lemmas.List.{append_assoc, map-append}
use Rattle.std.proofs.lemmas.List.Elements.{All-nil, All-cons, filter-append}
use Rattle.std.specs.List.{filter, flat_map, range_with_len}
use Rattle.amr_box.proofs.Numbers.{range_parts}
use Rattle.amr_def.specs.declared.problem.Problem.{Problem}
use Rattle.amr_def.specs.Plot.{plot}
use Rattle.amr_def.specs.Run.{finish, run, start}
use Rattle.amr_def.specs.State.{State}
use Rattle.amr_def.proofs.Runs.{finish_step}
use Rattle.amr_checkpoint.specs.Contents.{Content, Empty, Damaged, Fresh, At, IsReached, rank, state_from}
use Rattle.amr_checkpoint.specs.Laws.{AreRising, IsInSequence, RunsOn}
use Rattle.amr_checkpoint.specs.Marks.{acknowledgement, acknowledgements, answer_of_run, checkpoint_line, content_at, first_unstored, is_mark, made_before, marks, store_to_make, to_make}
use Rattle.amr_checkpoint.specs.Refusals.{GoesOn}
use Rattle.amr_checkpoint.proofs.Stepping.{run_is, runs_on, start_step}

-- ---- ranks rise

rising_step : (content : Content) (f : ℕ → Content) (b : Bool) (first : ℕ) (rest : List ℕ) → rank content < rank (f first) → AreRising (f first) (map f rest) → AreRising content (map f rest)
    → AreRising content (map f (cond b (first ∷ rest) rest))
rising_step content f true first rest above taken left = (above, taken)
rising_step content f false first rest above taken left = left

rising_from : (bytes : List ℕ) (p : Problem) (found : Content) (every target : ℕ) (content : Content) (first n : ℕ) → rank content ≤ first + 1
    → AreRising content (map (content_at bytes p found) (filter (is_mark every target) (range_with_len first n)))
rising_from bytes p found every target content first zero below = tt
rising_from bytes p found every target content first (suc n) below =
    rising_step content (content_at bytes p found) (is_mark every target first) first (filter (is_mark every target) (range_with_len (first + 1) n)) (omega arith)
    (rising_from bytes p found every target (content_at bytes p found first) (first + 1) n (omega arith))
    (rising_from bytes p found every target content (first + 1) n (omega arith))

pub checkpoints_rise : (bytes : List ℕ) (p : Problem) (every target : ℕ) (found : Content) → GoesOn bytes target found → IsInSequence found → AreRising found (to_make bytes p every found target)
checkpoints_rise bytes p every target Empty on order = (omega arith, rising_from bytes p Empty every target (Fresh bytes p) 0 (target + 1 - 0) (omega arith))
checkpoints_rise bytes p every target (Damaged damage) on order = absurd on
checkpoints_rise bytes p every target (Fresh kept q) on order = rising_from bytes p (Fresh kept q) every target (Fresh kept q) 0 (target + 1 - 0) (omega arith)
checkpoints_rise bytes p every target (At kept q s sequence) on order = rising_from bytes p (At kept q s sequence) every target (At kept q s sequence) (s.step + 1) (target + 1 - (s.step + 1)) (omega arith)

-- ---- reached

-- to go on from what was found is the run
pub reached_runs : (bytes : List ℕ) (p : Problem) (found : Content) (k : ℕ) → IsReached bytes p found → GoesOn bytes k found → finish p (state_from p found) k ≡ run p k
reached_runs bytes p Empty k reached on = run_is p k
reached_runs bytes p (Damaged damage) k reached on = absurd reached
reached_runs bytes p (Fresh kept q) k reached on = run_is p k
reached_runs bytes p (At kept q s sequence) k reached on = runs_on p s k reached.state_is on.1

-- a step that is not before the stored state
later_goes_on : (bytes : List ℕ) (target : ℕ) (found : Content) (k : ℕ) → GoesOn bytes target found → first_unstored found ≤ k → GoesOn bytes k found
later_goes_on bytes target Empty k on later = tt
later_goes_on bytes target (Damaged damage) k on later = on
later_goes_on bytes target (Fresh kept q) k on later = on
later_goes_on bytes target (At kept q s sequence) k on later = (on.0, omega arith)

step_from : (bytes : List ℕ) (p : Problem) (found : Content) (k : ℕ) → GoesOn bytes k found → (finish p (state_from p found) k).step ≡ k
step_from bytes p Empty k on = finish_step p (start p) k (omega (arith, start_step p))
step_from bytes p (Damaged damage) k on = absurd on
step_from bytes p (Fresh kept q) k on = finish_step p (start p) k (omega (arith, start_step p))
step_from bytes p (At kept q s sequence) k on = finish_step p s k on.1

content_reached : (bytes : List ℕ) (p : Problem) (found : Content) (k : ℕ) → IsReached bytes p found → GoesOn bytes k found → IsReached bytes p (content_at bytes p found k)
content_reached bytes p found k reached on =
    let step : (finish p (state_from p found) k).step ≡ k = step_from bytes p found k on in
    record {
      bytes_are = refl;
      state_is = reached_runs bytes p found k reached on ∙ ap (λ n. run p n) (sym step);
      sequence_is = omega arith;
    }

each_step : (P : Content → Type 0) (f : ℕ → Content) (b : Bool) (first : ℕ) (rest : List ℕ) → P (f first) → All P (map f rest) → All P (map f (cond b (first ∷ rest) rest))
each_step P f true first rest here left = All-cons P (f first) (map f rest) here left
each_step P f false first rest here left = left

each_from : (P : Content → Type 0) (f : ℕ → Content) (test : ℕ → Bool) (least most first n : ℕ) → least ≤ first → first + n ≤ most → ((k : ℕ) → least ≤ k → k < most → P (f k))
    → All P (map f (filter test (range_with_len first n)))
each_from P f test least most first zero later within each = All-nil P
each_from P f test least most first (suc n) later within each =
    each_step P f (test first) first (filter test (range_with_len (first + 1) n)) (each first later (omega arith)) (each_from P f test least most (first + 1) n (omega arith) (omega arith) each)

not_past : (bytes : List ℕ) (target : ℕ) (found : Content) → GoesOn bytes target found → first_unstored found ≤ target + 1
not_past bytes target Empty on = omega arith
not_past bytes target (Damaged damage) on = absurd on
not_past bytes target (Fresh kept q) on = omega arith
not_past bytes target (At kept q s sequence) on = let up_to = on.1 in omega arith

content_runs_on : (bytes : List ℕ) (p : Problem) (target : ℕ) (found : Content) (k : ℕ) → RunsOn bytes p target found → first_unstored found ≤ k → k < target + 1 → RunsOn bytes p target (content_at bytes p found k)
content_runs_on bytes p target found k runs later within =
    let on = later_goes_on bytes target found k runs.on later in
    let step : (finish p (state_from p found) k).step ≡ k = step_from bytes p found k on in
    record { on = (refl, omega arith); reached = content_reached bytes p found k runs.reached on }

marks_run_on : (bytes : List ℕ) (p : Problem) (every target : ℕ) (found : Content) → RunsOn bytes p target found → All (RunsOn bytes p target) (map (content_at bytes p found) (marks every found target))
marks_run_on bytes p every target found runs =
    let within : first_unstored found ≤ target + 1 = not_past bytes target found runs.on in
    each_from (RunsOn bytes p target) (content_at bytes p found) (is_mark every target) (first_unstored found) (target + 1) (first_unstored found) (target + 1 - first_unstored found) (omega arith) (omega arith)
    (λ k later before. content_runs_on bytes p target found k runs later before)

pub checkpoints_run_on : (bytes : List ℕ) (p : Problem) (every target : ℕ) (found : Content) → RunsOn bytes p target found → All (RunsOn bytes p target) (to_make bytes p every found target)
checkpoints_run_on bytes p every target Empty runs = All-cons (RunsOn bytes p target) (Fresh bytes p) _ (record { on = refl; reached = refl }) (marks_run_on bytes p every target Empty runs)
checkpoints_run_on bytes p every target (Damaged damage) runs = absurd runs.on
checkpoints_run_on bytes p every target (Fresh kept q) runs = marks_run_on bytes p every target (Fresh kept q) runs
checkpoints_run_on bytes p every target (At kept q s sequence) runs = marks_run_on bytes p every target (At kept q s sequence) runs

pub same_run : (bytes : List ℕ) (p : Problem) (target : ℕ) (found : Content) → RunsOn bytes p target found
    → (finish p (state_from p found) target ≡ run p target) × (answer_of_run p found target ≡ plot p (run p target))
same_run bytes p target found runs =
    let same = reached_runs bytes p found target runs.reached runs.on in
    (same, ap (λ (s : State). plot p s) same)

-- ---- acknowledged

lines_step : (f : ℕ → Content) (b : Bool) (first : ℕ) (rest : List ℕ) → acknowledgement (f first) ≡ checkpoint_line first → flat_map acknowledgement (map f rest) ≡ flat_map checkpoint_line rest
    → flat_map acknowledgement (map f (cond b (first ∷ rest) rest)) ≡ flat_map checkpoint_line (cond b (first ∷ rest) rest)
lines_step f true first rest here left =
    ap (λ (t : List ℕ). t ++ flat_map acknowledgement (map f rest)) here ∙ ap (λ (t : List ℕ). checkpoint_line first ++ t) left
lines_step f false first rest here left = left

lines_from : (f : ℕ → Content) (test : ℕ → Bool) (least first n : ℕ) → least ≤ first → ((k : ℕ) → least ≤ k → acknowledgement (f k) ≡ checkpoint_line k)
    → flat_map acknowledgement (map f (filter test (range_with_len first n))) ≡ flat_map checkpoint_line (filter test (range_with_len first n))
lines_from f test least first zero later each = refl
lines_from f test least first (suc n) later each =
    lines_step f (test first) first (filter test (range_with_len (first + 1) n)) (each first later) (lines_from f test least (first + 1) n (omega arith) each)

lines_of_marks : (bytes : List ℕ) (p : Problem) (every target : ℕ) (found : Content) → GoesOn bytes target found
    → flat_map acknowledgement (map (content_at bytes p found) (marks every found target)) ≡ flat_map checkpoint_line (marks every found target)
lines_of_marks bytes p every target found on =
    lines_from (content_at bytes p found) (is_mark every target) (first_unstored found) (first_unstored found) (target + 1 - first_unstored found) (omega arith)
    (λ k later. ap (λ n. checkpoint_line n) (step_from bytes p found k (later_goes_on bytes target found k on later)))

pub acknowledges_marks : (bytes : List ℕ) (p : Problem) (every target : ℕ) (found : Content) → GoesOn bytes target found
    → acknowledgements (to_make bytes p every found target) ≡ flat_map checkpoint_line (marks every found target)
acknowledges_marks bytes p every target Empty on = lines_of_marks bytes p every target Empty on
acknowledges_marks bytes p every target (Damaged damage) on = absurd on
acknowledges_marks bytes p every target (Fresh kept q) on = lines_of_marks bytes p every target (Fresh kept q) on
acknowledges_marks bytes p every target (At kept q s sequence) on = lines_of_marks bytes p every target (At kept q s sequence) on

-- ---- step by step

marked_split : (f : ℕ → Content) (test : ℕ → Bool) (front : List Content) (first m n : ℕ)
    → front ++ map f (filter test (range_with_len first (m + n))) ≡ (front ++ map f (filter test (range_with_len first m))) ++ map f (filter test (range_with_len (first + m) n))
marked_split f test front first m n =
    ap (λ (xs : List ℕ). front ++ map f (filter test xs)) (range_parts first m n)
    ∙ ap (λ (xs : List ℕ). front ++ map f xs) (filter-append test (range_with_len first m) (range_with_len (first + m) n))
    ∙ ap (λ (cs : List Content). front ++ cs) (map-append f (filter test (range_with_len first m)) (filter test (range_with_len (first + m) n)))
    ∙ sym (append_assoc front (map f (filter test (range_with_len first m))) (map f (filter test (range_with_len (first + m) n))))

-- what is made at a step
pub made_next : (bytes : List ℕ) (p : Problem) (every target : ℕ) (found : Content) (step : ℕ) → first_unstored found ≤ step
    → made_before bytes p every found target (step + 1) ≡ made_before bytes p every found target step ++ cond (is_mark every target step) (content_at bytes p found step ∷ []) []
made_next bytes p every target found step later =
    let first = first_unstored found in
    let f = λ (k : ℕ). content_at bytes p found k in
    let e : step + 1 - first ≡ (step - first) + 1 = omega arith in
    let here : first + (step - first) ≡ step = omega arith in
    ap (λ k. store_to_make bytes p found ++ map f (filter (is_mark every target) (range_with_len first k))) e
    ∙ marked_split f (is_mark every target) (store_to_make bytes p found) first (step - first) 1
    ∙ ap (λ k. made_before bytes p every found target step ++ map f (filter (is_mark every target) (range_with_len k 1))) here
    ∙ ap (λ (cs : List Content). made_before bytes p every found target step ++ cs) (one (is_mark every target step))
  where
    one : (b : Bool) → map (content_at bytes p found) (cond b (step ∷ []) []) ≡ cond b (content_at bytes p found step ∷ []) []
    one true = refl
    one false = refl

-- what is left to make from a step on
pub made_front : (bytes : List ℕ) (p : Problem) (every target : ℕ) (found : Content) (step : ℕ) → first_unstored found ≤ step → step ≤ target + 1
    → made_before bytes p every found target step ++ map (content_at bytes p found) (filter (is_mark every target) (range_with_len step (target + 1 - step))) ≡ to_make bytes p every found target
made_front bytes p every target found step later within =
    let first = first_unstored found in
    let f = λ (k : ℕ). content_at bytes p found k in
    let all : (step - first) + (target + 1 - step) ≡ target + 1 - first = omega arith in
    let here : first + (step - first) ≡ step = omega arith in
    sym (ap (λ k. made_before bytes p every found target step ++ map f (filter (is_mark every target) (range_with_len k (target + 1 - step)))) here)
    ∙ sym (marked_split f (is_mark every target) (store_to_make bytes p found) first (step - first) (target + 1 - step))
    ∙ ap (λ k. store_to_make bytes p found ++ map f (filter (is_mark every target) (range_with_len first k))) all
