-- Runs of several species: every state is sound, and all are on the same boxes.
use Rattle.std.proofs.Common.{◌≡◌, ℕ, zero, suc, ◌+◌, ◌-◌, ◌<◌, ◌≤◌, Bool, true, false, cond, refl, sym, ap, subst, ◌∙◌, arith, List, [], ◌∷◌, length, map}
use Rattle.std.specs.List.{All, range_with_len}
use Rattle.std.proofs.lemmas.List.Elements.{All-map, All-nil}
use Rattle.std.proofs.lemmas.List.FromFn.{length-map-range_with_len}
use Rattle.amr_box.specs.Cells.{Extent}
use Rattle.amr_def.specs.declared.problem.Problem.{Problem}
use Rattle.amr_def.specs.Domain.{Domain, domain_box}
use Rattle.amr_def.specs.State.{State}
use Rattle.amr_def.specs.Run.{plain_start, regrid_is_due, stepped, times}
use Rattle.amr_def.specs.Facts.{IsSound}
use Rattle.amr_def.specs.Species.{AreAlike, IsFlock, boxes_in, each_from, finish_all, first_state, next_all, no_state, of_species, regrid_all, run_all, start_all, step_of, stepped_all}
use Rattle.amr_def.proofs.Runs.{at_times, times_in_parts}
use Rattle.amr_def.proofs.SoundRun.{plain_start-sound}
use Rattle.amr_laws.proofs.OneSpecies.{domain_of_species, sound_by_species, species_step, species_step-boxes, species_step-sound}
use Rattle.amr_laws.proofs.FlockLists.{IsLike, alike, alike_each, each_from-itself, each_from-twice, length-each_from}
use Rattle.amr_laws.proofs.FlockRegrid.{length-regrid_all, regrid_all-flock, regrid_all-step}

-- ---- a step

pub length-stepped_all : (p : Problem) (ss : List State) → length (stepped_all p ss) ≡ length ss
unfolding stepped_all
length-stepped_all p ss = length-each_from (λ k s. stepped (of_species p k) s) 0 ss

pub stepped_all-step : (p : Problem) (ss : List State) → 0 < length ss → step_of (stepped_all p ss) ≡ step_of ss + 1
unfolding stepped_all
stepped_all-step p [] some = absurd (omega arith)
stepped_all-step p (s ∷ ss) some = species_step p 0 s

pub stepped_all-alike : (p : Problem) (ss : List State) → AreAlike p ss → step_of ss < p.steps → AreAlike p (stepped_all p ss)
unfolding stepped_all
stepped_all-alike p ss a more =
    let first = first_state ss in
    alike_each p (λ k s. stepped (of_species p k) s) ss (λ k x sound h. record {
      sound = species_step-sound p k x h.sound (omega (arith, h.step, more));
      step = species_step p k x ∙ ap (λ n. n + 1) h.step ∙ sym (species_step p 0 first);
      boxes = species_step-boxes p k x h.sound ∙ h.boxes ∙ sym (species_step-boxes p 0 first sound);
    }) a

pub stepped_all-flock : (p : Problem) (ss : List State) → IsFlock p ss → step_of ss < p.steps → IsFlock p (stepped_all p ss)
stepped_all-flock p ss f more = record { one_each = length-stepped_all p ss ∙ f.one_each; alike = stepped_all-alike p ss f.alike more }

-- ---- a regrid that is due, and a step

pub length-next_all : (p : Problem) (ss : List State) → length (next_all p ss) ≡ length ss
unfolding next_all
length-next_all p ss = by_due (regrid_is_due p (first_state ss))
  where
    by_due : (due : Bool) → length (stepped_all p (cond due (regrid_all p ss) ss)) ≡ length ss
    by_due true = length-stepped_all p (regrid_all p ss) ∙ length-regrid_all p ss
    by_due false = length-stepped_all p ss

pub next_all-step : (p : Problem) (ss : List State) → 0 < length ss → step_of (next_all p ss) ≡ step_of ss + 1
unfolding next_all
next_all-step p ss some = by_due (regrid_is_due p (first_state ss))
  where
    by_due : (due : Bool) → step_of (stepped_all p (cond due (regrid_all p ss) ss)) ≡ step_of ss + 1
    by_due true = stepped_all-step p (regrid_all p ss) (omega (arith, length-regrid_all p ss, some)) ∙ ap (λ n. n + 1) (regrid_all-step p ss)
    by_due false = stepped_all-step p ss some

pub next_all-flock : (p : Problem) (ss : List State) → IsFlock p ss → step_of ss < p.steps → IsFlock p (next_all p ss)
unfolding next_all
next_all-flock p ss f more = by_due (regrid_is_due p (first_state ss))
  where
    by_due : (due : Bool) → IsFlock p (stepped_all p (cond due (regrid_all p ss) ss))
    by_due true = stepped_all-flock p (regrid_all p ss) (regrid_all-flock p ss f) (omega (arith, regrid_all-step p ss, more))
    by_due false = stepped_all-flock p ss f more

-- ---- runs

pub some_states : (p : Problem) (ss : List State) → IsFlock p ss → 0 < length ss
some_states p ss f = omega (arith, f.one_each, p.limits.some_species)

steps_all-flock : (p : Problem) (n : ℕ) (ss : List State) → IsFlock p ss → step_of ss + n ≤ p.steps → IsFlock p (times (next_all p) n ss)
steps_all-flock p zero ss f fits = f
steps_all-flock p (suc n) ss f fits =
    steps_all-flock p n (next_all p ss) (next_all-flock p ss f (omega arith)) (omega (arith, next_all-step p ss (some_states p ss f), fits))

pub flock_within : (p : Problem) (ss : List State) → IsFlock p ss → step_of ss ≤ p.steps
flock_within p ss f = (f.alike.sound 0 no_state (some_states p ss f)).within

pub finish_all-flock : (p : Problem) (ss : List State) (k : ℕ) → IsFlock p ss → k ≤ p.steps → IsFlock p (finish_all p ss k)
unfolding finish_all
finish_all-flock p ss k f fits = steps_all-flock p (k - step_of ss) ss f (omega (arith, flock_within p ss f, fits))

-- level 0 alone, for each species
abbrev pub plain_starts : Problem → List State
plain_starts p = map (λ k. plain_start (of_species p k)) (range_with_len 0 p.species)

plain_boxes : (p : Problem) (k : ℕ) → boxes_in (plain_start (of_species p k)) ≡ boxes_in (plain_start p)
plain_boxes p k = ap (λ (d : Domain). (domain_box d ∷ []) ∷ []) (domain_of_species p k 0)

plain_like : (p : Problem) (i k : ℕ) → IsLike p (plain_start (of_species p i)) (plain_start (of_species p k))
plain_like p i k = record {
  sound = sound_by_species p k (plain_start (of_species p k)) (plain_start-sound (of_species p k));
  step = refl;
  boxes = plain_boxes p k ∙ sym (plain_boxes p i);
}

pub plain_starts-alike : (p : Problem) (n : ℕ) → AreAlike p (map (λ k. plain_start (of_species p k)) (range_with_len 0 n))
plain_starts-alike p zero = alike p [] (All-nil (IsLike p no_state))
plain_starts-alike p (suc n) =
    alike p (map (λ k. plain_start (of_species p k)) (range_with_len 0 (suc n)))
    (All-map (IsLike p (plain_start (of_species p 0))) (λ k. plain_start (of_species p k)) (range_with_len 0 (suc n)) (λ i d h. plain_like p 0 _))

pub plain_starts-flock : (p : Problem) → IsFlock p (plain_starts p)
plain_starts-flock p = record { one_each = length-map-range_with_len (λ k. plain_start (of_species p k)) 0 p.species; alike = plain_starts-alike p p.species }

pub regrids_all-flock : (p : Problem) (n : ℕ) (ss : List State) → IsFlock p ss → IsFlock p (times (regrid_all p) n ss)
regrids_all-flock p zero ss f = f
regrids_all-flock p (suc n) ss f = regrids_all-flock p n (regrid_all p ss) (regrid_all-flock p ss f)

pub start_all-flock : (p : Problem) → IsFlock p (start_all p)
unfolding start_all
start_all-flock p = regrids_all-flock p p.max_level (plain_starts p) (plain_starts-flock p)

plain_starts-step : (p : Problem) (n : ℕ) → step_of (map (λ k. plain_start (of_species p k)) (range_with_len 0 n)) ≡ 0
plain_starts-step p zero = refl
plain_starts-step p (suc n) = refl

pub regrids_all-step : (p : Problem) (n : ℕ) (ss : List State) → step_of (times (regrid_all p) n ss) ≡ step_of ss
regrids_all-step p zero ss = refl
regrids_all-step p (suc n) ss = regrids_all-step p n (regrid_all p ss) ∙ regrid_all-step p ss

pub start_all-step : (p : Problem) → step_of (start_all p) ≡ 0
unfolding start_all
start_all-step p = regrids_all-step p p.max_level (plain_starts p) ∙ plain_starts-step p p.species

pub run_all-flock : (p : Problem) (k : ℕ) → k ≤ p.steps → IsFlock p (run_all p k)
unfolding run_all
run_all-flock p k fits = finish_all-flock p (start_all p) k (start_all-flock p) fits

-- ---- in parts

module _ (p : Problem) where
  next_some : (ss : List State) → 0 < length ss → 0 < length (next_all p ss)
  next_some ss some = omega (arith, length-next_all p ss, some)

  pub finish_all-step : (ss : List State) (k : ℕ) → 0 < length ss → step_of ss ≤ k → step_of (finish_all p ss k) ≡ k
  unfolding finish_all
  finish_all-step ss k some from = omega (arith, at_times (next_all p) step_of (λ ss. 0 < length ss) next_some (next_all-step p) (k - step_of ss) ss some, from)

  pub finish_all-parts : (ss : List State) (i k : ℕ) → 0 < length ss → step_of ss ≤ i → i ≤ k → finish_all p (finish_all p ss i) k ≡ finish_all p ss k
  unfolding finish_all
  finish_all-parts ss i k some from on = times_in_parts (next_all p) step_of (λ ss. 0 < length ss) next_some (next_all-step p) ss i k some from on

  pub finish_all-here : (ss : List State) (k : ℕ) → step_of ss ≡ k → finish_all p ss k ≡ ss
  unfolding finish_all
  finish_all-here ss k e = let none : k - step_of ss ≡ 0 = omega (arith, e) in ap (λ n. times (next_all p) n ss) none

  pub finish_all-one : (ss : List State) → finish_all p ss (step_of ss + 1) ≡ next_all p ss
  unfolding finish_all
  finish_all-one ss = let one : step_of ss + 1 - step_of ss ≡ 1 = omega arith in ap (λ n. times (next_all p) n ss) one

  pub finish_all-more : (ss : List State) (k : ℕ) → 0 < length ss → step_of ss ≤ k → next_all p (finish_all p ss k) ≡ finish_all p ss (k + 1)
  finish_all-more ss k some from =
      sym (finish_all-one (finish_all p ss k))
      ∙ ap (λ n. finish_all p (finish_all p ss k) (n + 1)) (finish_all-step ss k some from)
      ∙ finish_all-parts ss k (k + 1) some from (omega arith)

-- ---- between regrids each species goes by itself

-- n steps of a species
abbrev pub steps_of_species : Problem → ℕ → ℕ → State → State
steps_of_species p n k = times (stepped (of_species p k)) n

pub steps_of_species-sound : (p : Problem) (k n : ℕ) (s : State) → IsSound p s → s.step + n ≤ p.steps → IsSound p (steps_of_species p n k s)
steps_of_species-sound p k zero s sound fits = sound
steps_of_species-sound p k (suc n) s sound fits =
    steps_of_species-sound p k n (stepped (of_species p k) s) (species_step-sound p k s sound (omega (arith, fits))) (omega (arith, species_step p k s, fits))

pub steps_of_species-step : (p : Problem) (k n : ℕ) (s : State) → (steps_of_species p n k s).step ≡ s.step + n
steps_of_species-step p k zero s = omega arith
steps_of_species-step p k (suc n) s = omega (arith, steps_of_species-step p k n (stepped (of_species p k) s), species_step p k s)

pub times_stepped_all : (p : Problem) (n : ℕ) (ss : List State) → times (stepped_all p) n ss ≡ each_from (λ k s. steps_of_species p n k s) 0 ss
unfolding stepped_all
times_stepped_all p zero ss = sym (each_from-itself 0 ss)
times_stepped_all p (suc n) ss =
    times_stepped_all p n (stepped_all p ss) ∙ each_from-twice (λ k s. steps_of_species p n k s) (λ k s. stepped (of_species p k) s) 0 ss

module _ (p : Problem) (k : ℕ) where
  -- no regrid is due from step a on and before step k
  abbrev pub NoneDue : ℕ → Type 0
  NoneDue a = (s : State) → a ≤ s.step → s.step < k → regrid_is_due p s ≡ false

  not_due : (ss : List State) → NoneDue (step_of ss) → step_of ss < k → next_all p ss ≡ stepped_all p ss
  unfolding next_all
  not_due ss none more = ap (λ t. stepped_all p (cond t (regrid_all p ss) ss)) (none (first_state ss) (omega arith) more)

  no_regrids : (n : ℕ) (ss : List State) → 0 < length ss → NoneDue (step_of ss) → step_of ss + n ≤ k → times (next_all p) n ss ≡ times (stepped_all p) n ss
  no_regrids zero ss some none fits = refl
  no_regrids (suc n) ss some none fits =
      let here : next_all p ss ≡ stepped_all p ss = not_due ss none (omega arith) in
      let next = stepped_all-step p ss some in
      ap (times (next_all p) n) here
      ∙ no_regrids n (stepped_all p ss) (omega (arith, length-stepped_all p ss, some)) (λ s from below. none s (omega (arith, next, from)) below) (omega (arith, next, fits))

  first_step : (n : ℕ) (ss : List State) → times (stepped_all p) n (next_all p ss) ≡ times (stepped_all p) (suc n) (cond (regrid_is_due p (first_state ss)) (regrid_all p ss) ss)
  unfolding next_all
  first_step n ss = refl

  pub by_themselves : (ss : List State) → 0 < length ss → step_of ss < k → ((s : State) → step_of ss < s.step → s.step < k → regrid_is_due p s ≡ false)
      → finish_all p ss k ≡ each_from (λ i s. steps_of_species p (k - step_of ss) i s) 0 (cond (regrid_is_due p (first_state ss)) (regrid_all p ss) ss)
  unfolding finish_all
  by_themselves ss some more none =
      let n = k - step_of ss - 1 in
      let count : k - step_of ss ≡ suc n = omega arith in
      let next = next_all-step p ss some in
      ap (λ m. times (next_all p) m ss) count
      ∙ no_regrids n (next_all p ss) (omega (arith, length-next_all p ss, some)) (λ s from below. none s (omega (arith, next, from)) below) (omega (arith, next, more))
      ∙ first_step n ss
      ∙ times_stepped_all p (suc n) (cond (regrid_is_due p (first_state ss)) (regrid_all p ss) ss)
      ∙ ap (λ m. each_from (λ i s. steps_of_species p m i s) 0 (cond (regrid_is_due p (first_state ss)) (regrid_all p ss) ss)) (sym count)
