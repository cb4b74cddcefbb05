-- A step of a state, from the step of its levels.
use Rattle.std.proofs.Common.{◌≡◌, ℕ, suc, ◌+◌, ◌*◌, ◌^◌, ◌<◌, ◌≤◌, refl, sym, ap, subst, ◌∙◌, arith, List, [], ◌∷◌, ◌++◌, length, map, get_or}
use Rattle.std.specs.declared.option.Option.{Option}
use Rattle.std.specs.declared.option.Option.TheVariants.{Some}
use Rattle.std.specs.Option.{unwrap_or}
use Rattle.amr_def.specs.declared.problem.Problem.{Problem}
use Rattle.amr_def.specs.declared.problem.Row.{Row}
use Rattle.amr_def.specs.State.{Masses, Level, State, no_masses}
use Rattle.amr_def.specs.LevelStep.{Stepped, step}
use Rattle.amr_def.specs.Ledger.{first_of, inflow, outflow, row_after, total_mass}
use Rattle.amr_def.specs.Run.{with_masses, stepped}
use Rattle.amr_def.specs.Facts.{IsSound}
use Rattle.amr_def.proofs.Courants.{stable}
use Rattle.amr_def.proofs.Greatest.{AllUpTo, rise, step-raises}
use Rattle.amr_def.proofs.Stepping.{sides_up}
use Rattle.amr_witness.specs.declared.PlainLevel.{PlainLevel}
use Rattle.amr_witness.specs.Maps.{boxes_in, levels_of, masses_in, masses_of}
use Rattle.amr_witness.specs.Ready.{AreReadyToStep, HasSmallMasses}
use Rattle.amr_witness.proofs.Readiness.{state_ready}

-- ---- levels as maps

pub masses_same : (ks : List PlainLevel) → map (λ (k : Level). k.masses) (levels_of ks) ≡ masses_in ks
masses_same [] = refl
masses_same (k ∷ ks) = ap (λ ms. masses_of k.masses ∷ ms) (masses_same ks)

pub count_same : (ks : List PlainLevel) → length (levels_of ks) ≡ length ks
count_same [] = refl
count_same (k ∷ ks) = ap suc (count_same ks)

pub levels_after : (ks rs : List PlainLevel) → boxes_in rs ≡ boxes_in ks → levels_of rs ≡ with_masses (levels_of ks) (masses_in rs)
levels_after [] [] boxes = refl
levels_after [] (r ∷ rs) boxes = cc
levels_after (k ∷ ks) [] boxes = cc
levels_after (k ∷ ks) (r ∷ rs) boxes =
    let here : r.boxes.items ≡ k.boxes.items = cc in
    let later : boxes_in rs ≡ boxes_in ks = cc in
    let rest = levels_after ks rs later in
    λ i. record { boxes = here i; masses = masses_of r.masses } ∷ rest i

pub first_masses : (ks : List PlainLevel) (k : PlainLevel) → 0 < length ks → k ≡ get_or ks 0 k → masses_of k.masses ≡ first_of (masses_in ks)
first_masses [] k some is = absurd (omega arith)
first_masses (r ∷ ks) k some is = ap (λ (x : PlainLevel). masses_of x.masses) is

-- ---- readiness

pub plain_ready : (p : Problem) (s : State) (ks : List PlainLevel) → s.levels ≡ levels_of ks → IsSound p s → s.step < p.steps → AreReadyToStep p 0 (masses_in ks) no_masses
plain_ready p s ks is sound before =
    subst (λ (ms : List Masses). AreReadyToStep p 0 ms no_masses) (ap (λ (xs : List Level). map (λ (k : Level). k.masses) xs) is ∙ masses_same ks) (state_ready p s sound before)

pub few_levels : (p : Problem) (s : State) (ks : List PlainLevel) → s.levels ≡ levels_of ks → IsSound p s → length ks ≤ 5
few_levels p s ks is sound = omega (arith, ap (λ (xs : List Level). length xs) is, count_same ks, sound.few_levels, p.limits.greatest_max_level)

pub some_level : (p : Problem) (s : State) (ks : List PlainLevel) → s.levels ≡ levels_of ks → IsSound p s → 0 < length ks
some_level p s ks is sound = omega (arith, ap (λ (xs : List Level). length xs) is, count_same ks, sound.some_level)

-- ---- the masses of level 0 after a step

alone : (o : Option ℕ) (v b : ℕ) → 1 * unwrap_or o 0 ≤ b → b < 2 ^ 31 → o ≡ Some v → v < 2 ^ 31
alone o v b up room is = omega (arith, up, room, ap (λ (x : Option ℕ). unwrap_or x 0) is)

first_small : (ms : List Masses) (b : ℕ) → AllUpTo 0 ms b → b < 2 ^ 31 → HasSmallMasses (first_of ms)
first_small [] b up room = record { at = λ c v is. cc }
first_small (m ∷ ms) b up room = record { at = λ c v is. alone (m c) v b (up.0.at c) room is }

pub small_after : (p : Problem) (ms : List Masses) → AreReadyToStep p 0 ms no_masses → HasSmallMasses (first_of (step p 0 ms no_masses).levels)
small_after p ms r =
    first_small (step p 0 ms no_masses).levels (r.bound + rise (length ms) 0) (step-raises p (length ms) 0 ms no_masses r.bound (omega arith) (stable p) r.nested r.synced r.masses r.olds (sides_up p r.bound r.least)).masses (omega (arith, r.room))

-- ---- the state

pub state_after : (p : Problem) (s r : State) (ks rs : List PlainLevel) (row : Row) → s.levels ≡ levels_of ks → r.levels ≡ levels_of rs → r.step ≡ s.step + 1 → r.rows ≡ s.rows ++ row ∷ [] → masses_in rs ≡ (step p 0 (masses_in ks) no_masses).levels → boxes_in rs ≡ boxes_in ks
    → row ≡ row_after p (step p 0 (masses_in ks) no_masses) → r ≡ stepped p s
unfolding stepped
state_after p s r ks rs row ks_is rs_is counted rows masses boxes row_is =
    let e : masses_in ks ≡ map (λ (k : Level). k.masses) s.levels = sym (masses_same ks) ∙ ap (λ (xs : List Level). map (λ (k : Level). k.masses) xs) (sym ks_is) in
    let S : List Masses → Stepped = λ ms. step p 0 ms no_masses in
    let all : levels_of rs ≡ with_masses s.levels (S (map (λ (k : Level). k.masses) s.levels)).levels =
    levels_after ks rs boxes ∙ ap (λ (ms : List Masses). with_masses (levels_of ks) ms) masses ∙ ap (λ (xs : List Level). with_masses xs (S (masses_in ks)).levels) (sym ks_is)
    ∙ ap (λ (ms : List Masses). with_masses s.levels (S ms).levels) e in
    let last : r.rows ≡ s.rows ++ row_after p (S (map (λ (k : Level). k.masses) s.levels)) ∷ [] = rows ∙ ap (λ (x : Row). s.rows ++ x ∷ []) (row_is ∙ ap (λ (ms : List Masses). row_after p (S ms)) e) in
    let levels = rs_is ∙ all in
    λ i. record { step = counted i; rows = last i; levels = levels i }

pub row_is : (p : Problem) (r : Stepped) (m : Masses) (row : Row) → m ≡ first_of r.levels → row.mass ≡ total_mass p m → row.inflow ≡ inflow p r.fluxes → row.outflow ≡ outflow p r.fluxes → row ≡ row_after p r
row_is p r m row first mass into out =
    let whole = mass ∙ ap (total_mass p) first in
    λ i. record { mass = whole i; inflow = into i; outflow = out i }
