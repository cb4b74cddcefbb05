-- Regrids of all species where they are due, and when they are.
use Rattle.std.proofs.Common.{◌≡◌, ◌∙◌, Bool, true, false, cond, ◌&&◌, ℕ, zero, suc, ◌+◌, ◌-◌, ◌%◌, ◌<◌, ◌≤◌, ◌==◌, min, refl, sym, ap, List, [], ◌∷◌, length, map, arith}
use Rattle.std.specs.Prelude.{nat_lt}
use Rattle.std.specs.List.{All}
use Rattle.std.proofs.lemmas.List.Elements.{All-head, All-tail}
use Rattle.amr_box.specs.declared.Cell.{Cell}
use Rattle.amr_def.specs.declared.problem.Problem.{Problem}
use Rattle.amr_def.specs.declared.problem.Row.{Row}
use Rattle.amr_def.specs.Facts.{IsSound}
use Rattle.amr_def.specs.NewBoxes.{new_boxes}
use Rattle.amr_def.specs.Regrid.{refill, regrid_by, regridded_levels}
use Rattle.amr_def.specs.Run.{regrid_is_due, stepped, times}
use Rattle.amr_def.specs.Species.{AreAlike, IsFlock, each_from, finish_all, first_state, is_tagged_in_some, next_all, of_species, regrid_all, step_of, stepped_all}
use Rattle.amr_def.specs.State.{Level, State}
use Rattle.amr_laws.proofs.FlockRuns.{some_states, stepped_all-flock, stepped_all-step, times_stepped_all}

-- ---- one level alone

levels_alone : (p : Problem) (tagged : ℕ → Cell → Bool) (n : ℕ) (rs : List Row) (ks : List Level) → p.max_level ≡ 0 → length ks ≤ 1
    → regrid_by p tagged (record { step = n; rows = rs; levels = ks }) ≡ record { step = n; rows = rs; levels = ks }
unfolding regrid_by refill new_boxes
levels_alone p tagged n rs [] e h = refl
levels_alone p tagged n rs (k ∷ []) e h =
    let none : min 1 p.max_level ≡ 0 = omega (arith, e) in
    ap (λ (t : ℕ). let s : State = record { step = n; rows = rs; levels = regridded_levels (k ∷ []) (new_boxes p tagged t 0) } in s) none
levels_alone p tagged n rs (k ∷ k' ∷ ks) e h = absurd (omega arith)

states_alone : (p : Problem) (tagged : ℕ → Cell → Bool) → p.max_level ≡ 0 → (ss : List State) → All (IsSound p) ss → map (regrid_by p tagged) ss ≡ ss
states_alone p tagged e [] h = refl
states_alone p tagged e (s ∷ ss) h =
    let sound : IsSound p s = All-head (IsSound p) s ss h in
    let here : regrid_by p tagged s ≡ s = levels_alone p tagged s.step s.rows s.levels e (omega (arith, e, sound.few_levels)) in
    let rest = states_alone p tagged e ss (All-tail (IsSound p) s ss h) in
    λ i. here i ∷ rest i

-- a regrid that is due leaves one level alone as it is
pub all_alone : (p : Problem) (ss : List State) → p.max_level ≡ 0 → AreAlike p ss → ss ≡ cond (regrid_is_due p (first_state ss)) (regrid_all p ss) ss
unfolding regrid_all
all_alone p ss e alike = either (regrid_is_due p (first_state ss))
  where
    either : (b : Bool) → ss ≡ cond b (map (regrid_by p (is_tagged_in_some p ss)) ss) ss
    either true = sym (states_alone p (is_tagged_in_some p ss) e ss alike.sound)
    either false = refl

-- so each species goes by itself all the way
alone_next : (p : Problem) (ss : List State) → p.max_level ≡ 0 → AreAlike p ss → next_all p ss ≡ stepped_all p ss
unfolding next_all
alone_next p ss e alike = ap (stepped_all p) (sym (all_alone p ss e alike))

alone_steps : (p : Problem) (n : ℕ) (ss : List State) → p.max_level ≡ 0 → IsFlock p ss → step_of ss + n ≤ p.steps → times (next_all p) n ss ≡ times (stepped_all p) n ss
alone_steps p zero ss e f fits = refl
alone_steps p (suc n) ss e f fits =
    ap (times (next_all p) n) (alone_next p ss e f.alike)
    ∙ alone_steps p n (stepped_all p ss) e (stepped_all-flock p ss f (omega arith)) (omega (arith, stepped_all-step p ss (some_states p ss f), fits))

pub alone_to : (p : Problem) (k : ℕ) (ss : List State) → p.max_level ≡ 0 → IsFlock p ss → step_of ss < k → k ≤ p.steps
    → finish_all p ss k ≡ each_from (λ i s. times (stepped (of_species p i)) (k - step_of ss) s) 0 (cond (regrid_is_due p (first_state ss)) (regrid_all p ss) ss)
unfolding finish_all
alone_to p k ss e f more within =
    alone_steps p (k - step_of ss) ss e f (omega (arith, more, within))
    ∙ times_stepped_all p (k - step_of ss) ss
    ∙ ap (each_from (λ i s. times (stepped (of_species p i)) (k - step_of ss) s) 0) (all_alone p ss e f.alike)

-- ---- when none is

pub not_due : (p : Problem) (s : State) → (s.step % p.regrid_int == 0) ≡ false → regrid_is_due p s ≡ false
not_due p s h = ap (λ b. nat_lt 0 s.step && b) h ∙ and_none (nat_lt 0 s.step)
  where
    and_none : (a : Bool) → (a && false) ≡ false
    and_none true = refl
    and_none false = refl
