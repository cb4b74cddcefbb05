-- One species: the states of several are what was said of one state.
use Rattle.std.proofs.Common.{◌≡◌, ℕ, zero, suc, ◌-◌, Bool, true, false, cond, refl, ap, ◌∙◌, List, [], ◌∷◌, map}
use Rattle.std.specs.List.{range_with_len}
use Rattle.std.proofs.Math.Bool.{or-false}
use Rattle.amr_box.specs.declared.Cell.{Cell}
use Rattle.amr_def.specs.declared.problem.Problem.{Problem}
use Rattle.amr_def.specs.State.{State}
use Rattle.amr_def.specs.Tags.{is_tagged}
use Rattle.amr_def.specs.Regrid.{regrid, regrid_by}
use Rattle.amr_def.specs.Run.{finish, next, plain_start, regrid_is_due, run, start, stepped, times}
use Rattle.amr_def.specs.Species.{finish_all, is_tagged_in_some, next_all, of_species, regrid_all, run_all, start_all, stepped_all}
use Rattle.amr_laws.proofs.OneSpecies.{only_species}

own_tags : (p : Problem) (s : State) → is_tagged_in_some p (s ∷ []) ≡ is_tagged p s
own_tags p s i l c = or-false (is_tagged p s l c) i

pub regrid_of_one : (p : Problem) (s : State) → regrid_all p (s ∷ []) ≡ regrid p s ∷ []
unfolding regrid_all regrid
regrid_of_one p s = ap (λ (tagged : ℕ → Cell → Bool). regrid_by p tagged s ∷ []) (own_tags p s)

times_of_one : (f : List State → List State) (g : State → State) → ((s : State) → f (s ∷ []) ≡ g s ∷ []) → (n : ℕ) (s : State) → times f n (s ∷ []) ≡ times g n s ∷ []
times_of_one f g same zero s = refl
times_of_one f g same (suc n) s = ap (times f n) (same s) ∙ times_of_one f g same n (g s)

module _ (p : Problem) (one : p.species ≡ 1) where
  pub stepped_of_one : (s : State) → stepped_all p (s ∷ []) ≡ stepped p s ∷ []
  unfolding stepped_all
  stepped_of_one s = ap (λ (q : Problem). stepped q s ∷ []) (only_species p one)

  pub next_of_one : (s : State) → next_all p (s ∷ []) ≡ next p s ∷ []
  unfolding next_all next
  next_of_one s = by_due (regrid_is_due p s)
    where
      by_due : (due : Bool) → stepped_all p (cond due (regrid_all p (s ∷ [])) (s ∷ [])) ≡ stepped p (cond due (regrid p s) s) ∷ []
      by_due true = ap (stepped_all p) (regrid_of_one p s) ∙ stepped_of_one (regrid p s)
      by_due false = stepped_of_one s

  pub finish_of_one : (s : State) (k : ℕ) → finish_all p (s ∷ []) k ≡ finish p s k ∷ []
  unfolding finish_all finish
  finish_of_one s k = times_of_one (next_all p) (next p) next_of_one (k - s.step) s

  pub start_of_one : start_all p ≡ start p ∷ []
  unfolding start_all start
  start_of_one =
      ap (λ n. times (regrid_all p) p.max_level (map (λ k. plain_start (of_species p k)) (range_with_len 0 n))) one
      ∙ ap (λ (q : Problem). times (regrid_all p) p.max_level (plain_start q ∷ [])) (only_species p one)
      ∙ times_of_one (regrid_all p) (regrid p) (regrid_of_one p) p.max_level (plain_start p)

  pub run_of_one : (k : ℕ) → run_all p k ≡ run p k ∷ []
  unfolding run_all run
  run_of_one k = ap (λ (ss : List State). finish_all p ss k) start_of_one ∙ finish_of_one (start p) k
