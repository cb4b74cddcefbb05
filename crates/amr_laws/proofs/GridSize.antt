-- The run of a problem is the same for each greatest size of a patch, also that of several species.
use Rattle.std.proofs.Common.{◌≡◌, ℕ, zero, suc, ◌+◌, ◌-◌, Bool, true, false, cond, refl, ap, ◌∙◌, List, [], ◌∷◌, ◌++◌, length, map}
use Rattle.amr_box.specs.declared.Cell.{Cell}
use Rattle.amr_box.specs.Cells.{Extent}
use Rattle.amr_def.specs.declared.problem.Problem.{Problem}
use Rattle.amr_def.specs.Domain.{in_domain}
use Rattle.amr_def.specs.State.{Masses, State, no_masses}
use Rattle.amr_def.specs.Value.{value_at, inflow_at}
use Rattle.amr_def.specs.Flux.{courant, flux_at}
use Rattle.amr_def.specs.LevelStep.{effective, Stepped, at_top, over_finer, step_within}
use Rattle.amr_def.specs.Ledger.{total_mass, inflow, outflow, row_after}
use Rattle.amr_def.specs.Tags.{is_tagged_by, is_tagged}
use Rattle.amr_def.specs.NewBoxes.{first_boxes, new_boxes}
use Rattle.amr_def.specs.Regrid.{new_level_count, regridded_levels, regrid, regrid_by}
use Rattle.amr_def.specs.Run.{with_masses, stepped, next, regrid_is_due, times, finish, plain_start, start, run}
use Rattle.amr_def.specs.Species.{each_from, finish_all, first_state, is_tagged_in_some, next_all, of_species, regrid_all, run_all, start_all, step_of, stepped_all}
use Rattle.amr_def.specs.SpeciesLimits.{limits_of_species}
use Rattle.amr_def.specs.Plot.{plot_all, head_text}
use Rattle.std.specs.List.{range_with_len}
use Rattle.amr_laws.proofs.Coverage.{boxes_over}
use Rattle.amr_laws.specs.GridSize.{AreLimits, with_grid_size}

module _ (p : Problem) (n : ℕ) (limits : AreLimits p n) where
  abbrev q : Problem
  q = with_grid_size p n limits

  step_same : (k l : ℕ) (ms : List Masses) (old : Masses) → step_within q k l ms old ≡ step_within p k l ms old
  unfolding step_within at_top over_finer effective flux_at courant value_at in_domain inflow_at
  step_same zero l ms old = refl
  step_same (suc k) l [] old = refl
  step_same (suc k) l (m ∷ []) old = refl
  step_same (suc k) l (m ∷ fine ∷ finer) old =
      let first : step_within q k (suc l) (fine ∷ finer) m ≡ step_within p k (suc l) (fine ∷ finer) m = step_same k (suc l) (fine ∷ finer) m in
      let second : step_within q k (suc l) (step_within q k (suc l) (fine ∷ finer) m).levels m ≡ step_within p k (suc l) (step_within p k (suc l) (fine ∷ finer) m).levels m =
      step_same k (suc l) (step_within q k (suc l) (fine ∷ finer) m).levels m ∙ ap (λ (t : Stepped). step_within p k (suc l) t.levels m) first in
      λ i. over_finer p l m old fine (first i) (second i)

  stepped_same : (s : State) → stepped q s ≡ stepped p s
  unfolding stepped total_mass inflow outflow
  stepped_same s =
      let ms = map (λ k. k.masses) s.levels in
      let e = step_same (length ms) 0 ms no_masses in
      ap (λ (r : Stepped). stepped_with s r) e
    where
      stepped_with : State → Stepped → State
      stepped_with s r = record { step = s.step + 1; rows = s.rows ++ row_after p r ∷ []; levels = with_masses s.levels r.levels }

  boxes_same : (tagged : ℕ → Cell → Bool) (k l : ℕ) → new_boxes q tagged k l ≡ new_boxes p tagged k l
  unfolding new_boxes
  boxes_same tagged zero l = refl
  boxes_same tagged (suc k) l = ap (λ (finer : List (List Extent)). boxes_over p tagged l (first_boxes finer) ∷ finer) (boxes_same tagged k (suc l))

  regrid_by_same : (tagged : ℕ → Cell → Bool) (s : State) → regrid_by q tagged s ≡ regrid_by p tagged s
  unfolding regrid_by
  regrid_by_same tagged s = ap (λ (ns : List (List Extent)). regridded_with s ns) (boxes_same tagged (new_level_count p s) 0)
    where
      regridded_with : State → List (List Extent) → State
      regridded_with s ns = record { step = s.step; rows = s.rows; levels = regridded_levels s.levels ns }

  regrid_same : (s : State) → regrid q s ≡ regrid p s
  unfolding regrid is_tagged_by value_at in_domain inflow_at
  regrid_same s = regrid_by_same (is_tagged p s) s

  next_same : (s : State) → next q s ≡ next p s
  unfolding next
  next_same s = by_due (regrid_is_due p s)
    where
      by_due : (due : Bool) → stepped q (cond due (regrid q s) s) ≡ stepped p (cond due (regrid p s) s)
      by_due true = stepped_same (regrid q s) ∙ ap (stepped p) (regrid_same s)
      by_due false = stepped_same s

  start_same : start q ≡ start p
  unfolding start total_mass
  start_same = ap (λ (f : State → State). times f p.max_level (plain_start p)) (λ i s. regrid_same s i)

  pub run_same : (k : ℕ) → run q k ≡ run p k
  unfolding run finish
  run_same k =
      ap (λ (s : State). times (next q) (k - s.step) s) start_same
      ∙ ap (λ (f : State → State). times f (k - (start p).step) (start p)) (λ i s. next_same s i)

  pub plot_same : (ss : List State) → plot_all q ss ≡ plot_all p ss
  unfolding plot_all head_text
  plot_same ss = refl

-- ---- all species

module _ (p : Problem) (n : ℕ) (limits : AreLimits p n) where
  abbrev r : Problem
  r = with_grid_size p n limits

  species_step_same : (k : ℕ) (s : State) → stepped (of_species r k) s ≡ stepped (of_species p k) s
  unfolding of_species
  species_step_same k s = stepped_same (of_species p k) n (limits_of_species r k) s

  species_start_same : (k : ℕ) → plain_start (of_species r k) ≡ plain_start (of_species p k)
  unfolding of_species total_mass
  species_start_same k = refl

  stepped_all_same : (ss : List State) → stepped_all r ss ≡ stepped_all p ss
  unfolding stepped_all
  stepped_all_same ss = ap (λ (f : ℕ → State → State). each_from f 0 ss) (λ i k s. species_step_same k s i)

  regrid_all_same : (ss : List State) → regrid_all r ss ≡ regrid_all p ss
  unfolding regrid_all is_tagged_by value_at in_domain inflow_at
  regrid_all_same ss = ap (λ (f : State → State). map f ss) (λ i s. regrid_by_same p n limits (is_tagged_in_some p ss) s i)

  next_all_same : (ss : List State) → next_all r ss ≡ next_all p ss
  unfolding next_all
  next_all_same ss = by_due (regrid_is_due p (first_state ss))
    where
      by_due : (due : Bool) → stepped_all r (cond due (regrid_all r ss) ss) ≡ stepped_all p (cond due (regrid_all p ss) ss)
      by_due true = stepped_all_same (regrid_all r ss) ∙ ap (stepped_all p) (regrid_all_same ss)
      by_due false = stepped_all_same ss

  start_all_same : start_all r ≡ start_all p
  unfolding start_all
  start_all_same =
      ap (λ (f : ℕ → State). times (regrid_all r) p.max_level (map f (range_with_len 0 p.species))) (λ i k. species_start_same k i)
      ∙ ap (λ (f : List State → List State). times f p.max_level (map (λ k. plain_start (of_species p k)) (range_with_len 0 p.species))) (λ i ss. regrid_all_same ss i)

  pub run_all_same : (k : ℕ) → run_all r k ≡ run_all p k
  unfolding run_all finish_all
  run_all_same k =
      ap (λ (ss : List State). times (next_all r) (k - step_of ss) ss) start_all_same
      ∙ ap (λ (f : List State → List State). times f (k - step_of (start_all p)) (start_all p)) (λ i ss. next_all_same ss i)
