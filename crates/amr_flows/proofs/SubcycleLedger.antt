-- What flows through open sides in a step within a step is a part of what flows in the whole.
use Rattle.std.proofs.Common.{ℕ, suc, ◌<◌, ◌≤◌, Bool, arith, List, [], ◌∷◌}
use Rattle.amr_box.specs.declared.Cell.{Cell}
use Rattle.amr_def.specs.declared.problem.Problem.{Problem}
use Rattle.amr_def.specs.declared.problem.Row.{Row}
use Rattle.amr_def.specs.State.{Level, Masses, State, no_masses}
use Rattle.amr_def.specs.Flux.{Fluxes}
use Rattle.amr_def.specs.Facts.{IsSound}
use Rattle.amr_def.specs.Laws.{step_fluxes}
use Rattle.amr_def.proofs.Totals.{IsSmallFluxes, inflow_within, outflow_within}
use Rattle.amr_laws.specs.Levels.{AreLevels}
use Rattle.amr_laws.specs.Sides.{inflow_beside, outflow_beside, over_levels}
use Rattle.amr_laws.specs.Substeps.{IsSubstep, after_step}
use Rattle.amr_laws.specs.Substeps.{whole, first, second}
use Rattle.amr_laws.proofs.LedgerLevels.{inflow_levels, outflow_levels}
use Rattle.amr_laws.proofs.Substeps.{fits, of_levels}
use Rattle.amr_flows.specs.Subcycle.{FlowsFit, flows_of_step}
use Rattle.amr_flows.proofs.SubcycleSteps.{of_finer_steps}

module _ (flows : ℕ → (Cell → Bool) → Fluxes → ℕ) (p : Problem) where
  no_more : (l : ℕ) (old : Masses) (n : ℕ) → flows_of_step flows p l [] old ≤ n
  unfolding over_levels
  no_more l old n = omega arith

  first_part : (l : ℕ) (k : Level) (finer : List Level) (old : Masses) → AreLevels p l (k ∷ finer) → flows_of_step flows p (suc l) finer k.masses ≤ flows_of_step flows p l (k ∷ finer) old
  first_part l k [] old a = no_more (suc l) k.masses _
  first_part l k (fine ∷ ks) old a = omega (arith, of_finer_steps flows p l k fine ks old a.3)

  second_part : (l : ℕ) (k : Level) (finer : List Level) (old : Masses) → AreLevels p l (k ∷ finer) → flows_of_step flows p (suc l) (after_step p (suc l) finer k.masses) k.masses ≤ flows_of_step flows p l (k ∷ finer) old
  second_part l k [] old a = no_more (suc l) k.masses _
  second_part l k (fine ∷ ks) old a = omega (arith, of_finer_steps flows p l k fine ks old a.3)

  pub part_of_step : (s : State) (l : ℕ) (ks : List Level) (old : Masses) → IsSound p s → IsSubstep p s l ks old → flows_of_step flows p l ks old ≤ flows_of_step flows p 0 s.levels no_masses
  part_of_step s l ks old sound whole = omega arith
  part_of_step s l ks old sound (first m k finer before h) = omega (arith, first_part m k finer before (of_levels p s m (k ∷ finer) before sound h), part_of_step s m (k ∷ finer) before sound h)
  part_of_step s l ks old sound (second m k finer before h) = omega (arith, second_part m k finer before (of_levels p s m (k ∷ finer) before sound h), part_of_step s m (k ∷ finer) before sound h)

small_from : (p : Problem) (n : ℕ) (rs : List Row) (ks : List Level) → let s : State = record { step = n; rows = rs; levels = ks } in IsSound p s → n < p.steps → IsSmallFluxes (step_fluxes p s)
small_from p n rs [] sound more = absurd (omega (arith, sound.some_level))
small_from p n rs (k ∷ ks) sound more = record { at = (fits p (record { step = n; rows = rs; levels = k ∷ ks }) 0 k ks no_masses sound more whole).step_fluxes }

pub flows_fit : FlowsFit
flows_fit p s l ks old sound more sub =
    let small = small_from p s.step s.rows s.levels sound more in
    record {
      inflow = omega (arith, part_of_step (inflow_beside p) p s l ks old sound sub, inflow_levels p s sound, inflow_within p (step_fluxes p s) small);
      outflow = omega (arith, part_of_step (outflow_beside p) p s l ks old sound sub, outflow_levels p s sound, outflow_within p (step_fluxes p s) small);
    }
