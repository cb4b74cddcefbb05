-- The states of a run, and what is made of those that are kept.
use Rattle.std.proofs.Common.{◌≡◌, ℕ, zero, suc, ◌+◌, ◌-◌, ◌≤◌, nat_le, Bool, true, false, cond, List, [], ◌∷◌, ◌++◌, map, Option, Some, None, inl, inr, refl, sym, ◌∙◌, ap, subst, arith}
use Rattle.std.proofs.lemmas.Bool.{cases_Bool, leb-true, leb-false}
use Rattle.std.proofs.lemmas.List.{append-nil, append_assoc, map-append}
use Rattle.std.specs.List.{filter, range_with_len}
use Rattle.amr_box.proofs.Numbers.{range_more}
use Rattle.amr_def.specs.declared.problem.Problem.{Problem}
use Rattle.amr_def.specs.Run.{finish, start}
use Rattle.amr_def.specs.State.{State}
use Rattle.amr_def.proofs.Runs.{finish_step}
use Rattle.amr_drive.specs.States.{states_after}
use Rattle.amr_drive.proofs.Finishes.{finish_here}
use Rattle.amr_checkpoint.specs.declared.faults.KeepFault.{KeepFault}
use Rattle.amr_checkpoint.specs.declared.faults.KeepFault.TheVariants as fault
use Rattle.amr_checkpoint.specs.Contents.{Content, Empty, Fresh, At}
use Rattle.amr_checkpoint.specs.KeptCheckpoints.{Keeps, KeptRun, checkpoints_of, made_of}
use Rattle.amr_checkpoint.specs.Marks.{is_mark}
use Rattle.amr_checkpoint.specs.Outside.{OutsideAt, outside_at}
use Rattle.amr_checkpoint.proofs.KeptStates.{checkpoints_on, keeps_ended, keeps_longer, keeps_on}
use Rattle.amr_checkpoint.proofs.Stepping.{start_step}

-- ---- states and steps

states_are : (p : Problem) (s : State) (n : ℕ) → states_after p s n ≡ map (finish p s) (range_with_len (s.step + 1) n)
states_are p s zero = refl
states_are p s (suc n) =
    let same : s.step + suc n ≡ s.step + 1 + n = omega arith in
    ap (λ (ss : List State). ss ++ finish p s (s.step + suc n) ∷ []) (states_are p s n)
    ∙ ap (λ k. map (finish p s) (range_with_len (s.step + 1) n) ++ finish p s k ∷ []) same
    ∙ sym (map-append (finish p s) (range_with_len (s.step + 1) n) ((s.step + 1 + n) ∷ []))
    ∙ ap (map (finish p s)) (sym (range_more (s.step + 1) n))

-- the later states
states_split : (p : Problem) (s : State) (n m : ℕ) → n ≤ m → (rest : List State) × (states_after p s n ++ rest ≡ states_after p s m)
states_split p s n zero within = let none : n ≡ 0 = omega arith in ([], append-nil (states_after p s n) ∙ ap (states_after p s) none)
states_split p s n (suc m) within = elim (cases_Bool (nat_le n m)) [
  | inl le ↦ let before = states_split p s n m (leb-true n m le) in
      (before.0 ++ finish p s (s.step + suc m) ∷ [], sym (append_assoc (states_after p s n) before.0 (finish p s (s.step + suc m) ∷ [])) ∙ ap (λ (ss : List State). ss ++ finish p s (s.step + suc m) ∷ []) before.1)
  | inr gt ↦ let same : n ≡ suc m = omega (arith, leb-false n m gt) in ([], append-nil (states_after p s n) ∙ ap (states_after p s) same)
]

-- ---- what is made

abbrev marked : ℕ → ℕ → List State → List State
marked every target states = filter (λ (s : State). is_mark every target s.step) states

abbrev contents_at : List ℕ → Problem → List State → List Content
contents_at bytes p states = map (λ (s : State). At bytes p s (s.step + 1)) states

made_one : (bytes : List ℕ) (p : Problem) (f : ℕ → State) (first : ℕ) (b : Bool) (rest : List State) (ks : List ℕ) → (f first).step ≡ first → contents_at bytes p rest ≡ map (λ k. At bytes p (f k) (k + 1)) ks
    → contents_at bytes p (cond b (f first ∷ rest) rest) ≡ map (λ k. At bytes p (f k) (k + 1)) (cond b (first ∷ ks) ks)
made_one bytes p f first true rest ks at made =
    ap (λ k. At bytes p (f first) (k + 1) ∷ contents_at bytes p rest) at ∙ ap (λ (cs : List Content). At bytes p (f first) (first + 1) ∷ cs) made
made_one bytes p f first false rest ks at made = made

made_range : (bytes : List ℕ) (p : Problem) (every target : ℕ) (s : State) (first n : ℕ) → s.step ≤ first
    → contents_at bytes p (marked every target (map (finish p s) (range_with_len first n))) ≡ map (λ k. At bytes p (finish p s k) (k + 1)) (filter (is_mark every target) (range_with_len first n))
made_range bytes p every target s first zero from = refl
made_range bytes p every target s first (suc n) from =
    let at : (finish p s first).step ≡ first = finish_step p s first from in
    let rest : List State = marked every target (map (finish p s) (range_with_len (first + 1) n)) in
    ap (λ k. contents_at bytes p (cond (is_mark every target k) (finish p s first ∷ rest) rest)) at
    ∙ made_one bytes p (finish p s) first (is_mark every target first) rest (filter (is_mark every target) (range_with_len (first + 1) n)) at (made_range bytes p every target s (first + 1) n (omega arith))

-- from a stored state
pub made_on : (run : KeptRun) (kept : List ℕ) (q : Problem) (sequence : ℕ) (s : State) → checkpoints_of run (states_after run.problem s (run.target - s.step)) ≡ made_of run (At kept q s sequence)
made_on run kept q sequence s =
    let count : run.target - s.step ≡ run.target + 1 - (s.step + 1) = omega arith in
    ap (checkpoints_of run) (states_are run.problem s (run.target - s.step) ∙ ap (λ n. map (finish run.problem s) (range_with_len (s.step + 1) n)) count)
    ∙ made_range run.bytes run.problem run.every run.target s (s.step + 1) (run.target + 1 - (s.step + 1)) (omega arith)

-- from the start
start_states : (p : Problem) (target : ℕ) → start p ∷ states_after p (start p) target ≡ map (finish p (start p)) (range_with_len 0 (target + 1 - 0))
start_states p target =
    let zeroth : start p ≡ finish p (start p) 0 = sym (finish_here p (start p) 0 (start_step p)) in
    let first : (start p).step + 1 ≡ 1 = omega (arith, start_step p) in
    let count : suc target ≡ target + 1 - 0 = omega arith in
    ap (λ (s : State). s ∷ states_after p (start p) target) zeroth
    ∙ ap (λ (ss : List State). finish p (start p) 0 ∷ ss) (states_are p (start p) target ∙ ap (λ k. map (finish p (start p)) (range_with_len k target)) first)
    ∙ ap (λ n. map (finish p (start p)) (range_with_len 0 n)) count

abbrev all_states : Problem → ℕ → List State
all_states p target = start p ∷ states_after p (start p) target

pub made_new : (run : KeptRun) (kept : List ℕ) (q : Problem) → checkpoints_of run (all_states run.problem run.target) ≡ made_of run (Fresh kept q)
made_new run kept q =
    ap (checkpoints_of run) (start_states run.problem run.target)
    ∙ made_range run.bytes run.problem run.every run.target (start run.problem) 0 (run.target + 1 - 0) (omega (arith, start_step run.problem))

pub made_first : (run : KeptRun) → Fresh run.bytes run.problem ∷ checkpoints_of run (all_states run.problem run.target) ≡ made_of run Empty
made_first run = ap (λ (cs : List Content). Fresh run.bytes run.problem ∷ cs) (made_new run run.bytes run.problem)

-- ---- calls that kept the states

-- the disk and the stream as they were lent back
module _ {D E : Type 0} (seen : D → Option (List ℕ)) (moment : D → ℕ) (leaves : D → ℕ → List ℕ → Type 0) (disk_faults : D → ℕ) (holds : E → List ℕ → Type 0) (err_faults : E → ℕ) where
  abbrev at : D → E → OutsideAt
  at d e = outside_at seen moment leaves disk_faults holds err_faults d e

  pub keeps_back : (deltas : Option ℕ) (before : OutsideAt) (later_d back_d : D) (later_e back_e : E) (all : List Content) (ended : Option KeepFault) → back_d ≡ later_d → back_e ≡ later_e → Keeps deltas before (at later_d later_e) all ended
      → Keeps deltas before (at back_d back_e) all ended
  keeps_back deltas before later_d back_d later_e back_e all ended disk err h =
      subst (λ (x : D). Keeps deltas before (at x back_e) all ended) (sym disk) (subst (λ (x : E). Keeps deltas before (at later_d x) all ended) (sym err) h)

module _ (before after : OutsideAt) (run : KeptRun) where
  -- a fault after the first of these states
  keeps_first : (first rest all : List State) (reason : KeepFault) → first ++ rest ≡ all → Keeps run.deltas before after (checkpoints_of run first) (Some reason) → Keeps run.deltas before after (checkpoints_of run all) (Some reason)
  keeps_first first rest all reason split h =
      subst (λ (ss : List State). Keeps run.deltas before after (checkpoints_of run ss) (Some reason)) split
      (subst (λ (cs : List Content). Keeps run.deltas before after cs (Some reason)) (sym (checkpoints_on run first rest)) (keeps_longer run.deltas before after (checkpoints_of run first) (checkpoints_of run rest) reason h))

  -- a fault after the first n states of a run
  pub keeps_part : (s : State) (n : ℕ) (reason : KeepFault) → s.step + n ≤ run.target → Keeps run.deltas before after (checkpoints_of run (states_after run.problem s n)) (Some reason)
      → Keeps run.deltas before after (checkpoints_of run (states_after run.problem s (run.target - s.step))) (Some reason)
  keeps_part s n reason within h =
      let all = states_split run.problem s n (run.target - s.step) (omega arith) in
      keeps_first (states_after run.problem s n) all.0 (states_after run.problem s (run.target - s.step)) reason all.1 h

  -- and out of memory
  pub keeps_no_more : (s : State) (n : ℕ) → s.step + n ≤ run.target → Keeps run.deltas before after (checkpoints_of run (states_after run.problem s n)) None
      → Keeps run.deltas before after (checkpoints_of run (states_after run.problem s (run.target - s.step))) (Some fault.NoMemory)
  keeps_no_more s n within h = keeps_part s n fault.NoMemory within (keeps_ended run.deltas before after (checkpoints_of run (states_after run.problem s n)) h)

  -- by the bytes that a store has
  pub keeps_of : (other : List ℕ) (states : List State) (ended : Option KeepFault) → other ≡ run.bytes → Keeps run.deltas before after (checkpoints_of (record run { bytes = other }) states) ended
      → Keeps run.deltas before after (checkpoints_of run states) ended
  keeps_of other states ended same h = subst (λ (b : List ℕ). Keeps run.deltas before after (checkpoints_of (record run { bytes = b }) states) ended) same h

  -- the start and all states after it
  start_first : (s : State) → s ≡ start run.problem → s ∷ states_after run.problem s (run.target - s.step) ≡ all_states run.problem run.target
  start_first s is =
      let p = run.problem in
      let none : run.target - (start p).step ≡ run.target = omega (arith, start_step p) in
      ap (λ (t : State). t ∷ states_after p t (run.target - t.step)) is ∙ ap (λ n. start p ∷ states_after p (start p) n) none

  -- a fault at the start
  pub keeps_start : (s : State) (reason : KeepFault) → s ≡ start run.problem → Keeps run.deltas before after (checkpoints_of run (s ∷ [])) (Some reason)
      → Keeps run.deltas before after (checkpoints_of run (all_states run.problem run.target)) (Some reason)
  keeps_start s reason is h = keeps_first (s ∷ []) (states_after run.problem s (run.target - s.step)) (all_states run.problem run.target) reason (start_first s is) h

  pub keeps_new : (middle : OutsideAt) (s : State) (ended : Option KeepFault) → s ≡ start run.problem → Keeps run.deltas before middle (checkpoints_of run (s ∷ [])) None
      → Keeps run.deltas middle after (checkpoints_of run (states_after run.problem s (run.target - s.step))) ended → Keeps run.deltas before after (checkpoints_of run (all_states run.problem run.target)) ended
  keeps_new middle s ended is h k =
      let rest : List State = states_after run.problem s (run.target - s.step) in
      subst (λ (ss : List State). Keeps run.deltas before after (checkpoints_of run ss) ended) (start_first s is)
      (subst (λ (cs : List Content). Keeps run.deltas before after cs ended) (sym (checkpoints_on run (s ∷ []) rest)) (keeps_on run.deltas before middle after (checkpoints_of run (s ∷ [])) (checkpoints_of run rest) ended h k))
