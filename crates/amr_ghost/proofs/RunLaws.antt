-- Runs of patches one after the other: spans of each together are spans of all.
use Rattle.std.proofs.Common.{◌≡◌, ◌∙◌, ℕ, zero, suc, ◌+◌, ◌*◌, ◌/◌, ◌%◌, ◌<◌, ◌≤◌, min, Bool, true, false, List, [], ◌∷◌, ◌++◌, length, get_or, Ok, refl, sym, ap, subst, arith}
use Rattle.std.specs.Prelude.{IfOk, nat_lt}
use Rattle.std.specs.Global.{Vec}
use Rattle.std.specs.Fork.{IsChunk}
use Rattle.std.specs.List.{Any}
use Rattle.std.specs.declared.result.Result.{Result}
use Rattle.std.proofs.lemmas.Bool.Decides.{nat_tests}
use Rattle.std.proofs.lemmas.Grind.{div_ceil_times}
use Rattle.std.proofs.lemmas.List.{get_or_append_left, get_or-append-add, length-append}
use Rattle.std.proofs.lemmas.List.Elements.{All-append, All-nil}
use Rattle.std.proofs.lemmas.Result.{IfOk-weaker}
use Rattle.amr_causes.specs.declared.no_memory.NoMemory.{NoMemory}
use Rattle.amr_def.specs.Domain.{Domain}
use Rattle.amr_patch.specs.declared.patches.Patch.{Patch}
use Rattle.amr_ghost.specs.Plans.{ArePlannedRuns, HasCell, HaveFrame, IsSpan, KeepSpans, PlansFrames, PlansRun}
use Rattle.amr_ghost.specs.declared.sources.GhostSpan.{GhostSpan}
use Rattle.amr_ghost.specs.declared.plan.FramePlan.{FramePlan}
use Rattle.amr_ghost.proofs.PlannedSpans.{still_whole}

any_left : {A : Type 0} (P : A → Type 0) (xs ys : List A) → Any P xs → Any P (xs ++ ys)
any_left P xs ys a = (a.0, a.1, omega (arith, a.2, length-append xs ys), get_or_append_left xs ys a.1 a.0 a.2 ∙ a.3, a.4)

any_right : {A : Type 0} (P : A → Type 0) (xs ys : List A) → Any P ys → Any P (xs ++ ys)
any_right P xs ys a = (length xs + a.0, a.1, omega (arith, a.2, length-append xs ys), get_or-append-add xs ys a.0 a.1 ∙ a.3, a.4)

keep_left : (ss ts : List GhostSpan) → KeepSpans ss (ss ++ ts)
keep_left ss ts = record { at = λ i c h. any_left (HasCell i c) ss ts h }

keep_right : (ss ts : List GhostSpan) → KeepSpans ts (ss ++ ts)
keep_right ss ts = record { at = λ i c h. any_right (HasCell i c) ss ts h }

pub no_run : (d : Domain) (ps : List Patch) (to : ℕ) (ss : List GhostSpan) → to ≡ 0 → ss ≡ [] → PlansRun d ps 0 to ss
no_run d ps to ss none empty = record {
  spans = rw empty (All-nil (IsSpan d ps));
  frames = λ i from lt there. absurd (omega (arith, none, lt));
}

-- a run, and the one from where it ends on
next_run : (d : Domain) (ps : List Patch) (to next : ℕ) (ss ts : List GhostSpan) → PlansRun d ps 0 to ss → PlansRun d ps to next ts → PlansRun d ps 0 next (ss ++ ts)
next_run d ps to next ss ts first then = record {
  spans = All-append (IsSpan d ps) ss ts first.spans then.spans;
  frames = λ i from lt there. by_place i lt there (nat_lt i to) refl;
}
  where
    by_place : (i : ℕ) → i < next → i < length ps → (b : Bool) → nat_lt i to ≡ b → HaveFrame ps (ss ++ ts) i
    by_place i lt there true e = still_whole ps ss (ss ++ ts) i (keep_left ss ts) (first.frames i (omega arith) (grind (arith, nat_tests)) there)
    by_place i lt there false e = still_whole ps ts (ss ++ ts) i (keep_right ss ts) (then.frames i (grind (arith, nat_tests)) lt there)

module _ (d : Domain) (ps : List Patch) (size : ℕ) (runs : List (Result (Vec GhostSpan) NoMemory)) (run : Result (Vec GhostSpan) NoMemory) (all : ArePlannedRuns d ps size (runs ++ run ∷ [])) where
  runs_before : ArePlannedRuns d ps size runs
  runs_before k r lt = subst (λ (x : Result (Vec GhostSpan) NoMemory). IfOk x (λ v. PlansRun d ps (k * size) (k * size + size) v.items)) (get_or_append_left runs (run ∷ []) r k lt) (all k r (omega (arith, lt, length-append runs (run ∷ []))))

  last_run : IfOk run (λ v. PlansRun d ps (length runs * size) (length runs * size + size) v.items)
  last_run =
      let at : get_or (runs ++ run ∷ []) (length runs) run ≡ run = ap (λ (k : ℕ). get_or (runs ++ run ∷ []) k run) (omega arith) ∙ get_or-append-add runs (run ∷ []) 0 run in
      subst (λ (x : Result (Vec GhostSpan) NoMemory). IfOk x (λ v. PlansRun d ps (length runs * size) (length runs * size + size) v.items)) at (all (length runs) run (omega (arith, length-append runs (run ∷ []))))

-- the spans of the next run stand behind those of the runs so far
pub next_joined : (d : Domain) (ps : List Patch) (size : ℕ) (runs : List (Result (Vec GhostSpan) NoMemory)) (run : Result (Vec GhostSpan) NoMemory) (v : Vec GhostSpan) (ss all : List GhostSpan) → run ≡ Ok v → all ≡ ss ++ v.items → (ArePlannedRuns d ps size runs → PlansRun d ps 0 (length runs * size) ss) → ArePlannedRuns d ps size (runs ++ run ∷ []) → PlansRun d ps 0 (length (runs ++ run ∷ []) * size) all
next_joined d ps size runs run v ss all is joined so_far planned =
    let first = so_far (runs_before d ps size runs run planned) in
    let then : PlansRun d ps (length runs * size) (length runs * size + size) v.items = subst (λ (x : Result (Vec GhostSpan) NoMemory). IfOk x (λ u. PlansRun d ps (length runs * size) (length runs * size + size) u.items)) is (last_run d ps size runs run planned) in
    let count : length (runs ++ run ∷ []) ≡ length runs + 1 = length-append runs (run ∷ []) in
    let to : length (runs ++ run ∷ []) * size ≡ length runs * size + size = ap (λ (n : ℕ). n * size) count ∙ omega arith in
    rw (to, joined) (next_run d ps (length runs * size) (length runs * size + size) ss v.items first then)

-- where runs of one size are those of all patches, their spans are a plan
pub whole_plan : (d : Domain) (ps : List Patch) (to : ℕ) (plan : FramePlan) → length ps ≤ to → PlansRun d ps 0 to plan.spans.items → PlansFrames d ps plan
whole_plan d ps to plan enough h = record {
  spans = h.spans;
  frames = λ i lt. h.frames i (omega arith) (omega (arith, lt, enough)) lt;
}

-- a chunk of the patches is the run of its number
pub run_of_chunk : (d : Domain) (ps chunk : List Patch) (size start : ℕ) (r : Result (Vec GhostSpan) NoMemory) → IsChunk ps size start chunk → IfOk r (λ v. PlansRun d ps start (start + length chunk) v.items) → IfOk r (λ v. PlansRun d ps start (start + size) v.items)
run_of_chunk d ps chunk size start r is h = IfOk-weaker r (λ v. PlansRun d ps start (start + length chunk) v.items) (λ v. PlansRun d ps start (start + size) v.items)
    (λ v run. record {
      spans = run.spans;
      frames = λ i from lt there. run.frames i from (omega (arith, is.len, lt, there)) there;
    }) h

-- runs of one size, as many as are begun, have all patches
pub all_in_runs : (patches threads size runs : ℕ) → 0 < patches → 0 < threads → size ≡ patches / threads + min 1 (patches % threads) → runs ≡ patches / size + min 1 (patches % size) → patches ≤ runs * size
all_in_runs patches threads size runs some shared is count = by_size size refl
  where
    by_size : (s : ℕ) → size ≡ s → patches ≤ runs * size
    by_size zero e =
        let most = (div_ceil_times patches threads shared).0 in
        let none : (patches / threads + min 1 (patches % threads)) * threads ≡ 0 = ap (λ (n : ℕ). n * threads) (sym is ∙ e) ∙ omega arith in
        absurd (omega (arith, some, most, none))
    by_size (suc s) e = rw count ((div_ceil_times patches size (omega (arith, e))).0)
