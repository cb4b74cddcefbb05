-- A step of a state: its levels, and the ledger's row.
use Rattle.std.proofs.Common.{◌≡◌, ℕ, true, ◌+◌, ◌-◌, ◌^◌, ◌<◌, ◌≤◌, List, [], ◌∷◌, ◌++◌, length, refl, sym, ap, subst, ◌∙◌, arith}
use Rattle.std.specs.Prelude.{slice_index_or, IsTrue}
use Rattle.std.specs.declared.option.Option.TheVariants.{None}
use Rattle.amr_box.specs.declared.Cell.{Cell}
use Rattle.amr_box.specs.Cells.{Extent, in_boxes}
use Rattle.amr_def.specs.declared.problem.Problem.{Problem}
use Rattle.amr_def.specs.declared.problem.Row.{Row}
use Rattle.amr_def.specs.Domain.{domain, domain_box, in_domain}
use Rattle.amr_def.specs.State.{Level, Masses, State, level_at, no_masses}
use Rattle.amr_def.specs.LevelStep.{step}
use Rattle.amr_def.specs.Ledger.{first_of, inflow, outflow, total_mass}
use Rattle.amr_def.specs.Laws.{step_fluxes}
use Rattle.amr_def.specs.Run.{stepped, with_masses}
use Rattle.amr_def.specs.Facts.{IsLevel, IsSound, no_row}
use Rattle.amr_def.proofs.Chain.{nth}
use Rattle.amr_def.proofs.OneStep.{mass_by_flows, masses-small}
use Rattle.amr_def.proofs.Stepping.{first_kept}
use Rattle.amr_def.proofs.Totals.{total_within}
use Rattle.amr_laws.specs.Levels.{masses_of}
use Rattle.amr_laws.specs.Sides.{inflow_beside, outflow_beside}
use Rattle.amr_laws.specs.Substeps.{IsSubstep, after_step}
use Rattle.amr_laws.specs.Substeps.{whole}
use Rattle.amr_laws.proofs.LedgerLevels.{inflow_levels, outflow_levels}
use Rattle.amr_register.proofs.CellLists.{in_domain-box}
use Rattle.amr_patch.proofs.Lookups.{same_default}
use Rattle.amr_flows.specs.Subcycle.{LedgerFits, flows_of_step}
use Rattle.amr_flows.proofs.SubcycleLedger.{flows_fit}
use Rattle.amr_advance.specs.Registers.{HasCoarser}
use Rattle.amr_cycle.specs.Cycles.{HasStepToCome, IsPartOfStep}

-- ---- the levels

in_whole : (p : Problem) (c : Cell) → IsTrue (in_domain (domain p 0) c) → in_boxes (domain_box (domain p 0) ∷ []) c ≡ true
in_whole p c h = rw (sym (in_domain-box (domain p 0) c) ∙ h) refl

module _ (p : Problem) (k : Level) (ks : List Level) (come : HasStepToCome p (k ∷ ks)) where
  all_within : IsSubstep p come.state 0 (k ∷ ks) no_masses
  all_within = subst (λ (js : List Level). IsSubstep p come.state 0 js no_masses) come.levels_are whole

  -- the step of all levels is a part of the step
  pub whole_part : IsPartOfStep p 0 (k ∷ ks) no_masses
  whole_part = record { state = come.state; sound = come.sound; before = come.before; within = all_within }

  base_is : level_at come.state 0 ≡ k
  base_is = ap (λ (js : List Level). slice_index_or js 0 _) come.levels_are

  base_level : IsLevel p 0 k
  base_level = subst (IsLevel p 0) base_is (come.sound.nested.each 0 come.sound.some_level)

  -- level 0 is the domain
  pub no_coarser : HasCoarser p 0 k None None
  no_coarser c inside =
      base_level.filled c ∙ ap (λ (bs : List Extent). in_boxes bs c) (ap (λ (j : Level). j.boxes) (sym base_is) ∙ come.sound.base) ∙ in_whole p c inside

  pub sums_fit : LedgerFits p 0 (k ∷ ks) no_masses
  sums_fit = flows_fit p come.state 0 (k ∷ ks) no_masses come.sound come.before all_within

-- ---- the ledger

first_masses : (ks : List Level) (ms : List Masses) → 0 < length ks → (nth (with_masses ks ms) 0).masses ≡ first_of ms
first_masses [] ms h = absurd (omega arith)
first_masses (k ∷ ks) ms h = first_kept k ks ms

-- the numbers of a step from a state: its step and rows, its levels, its last row, and what flowed
module _ (p : Problem) (s : State) (sound : IsSound p s) (n : ℕ) (number : n ≡ s.step) (rows : List Row) (rows_are : rows ≡ s.rows) (ks : List Level) (levels_are : ks ≡ s.levels)
    (last : Row) (last_is : last ≡ slice_index_or rows n last) (into out : ℕ) (into_is : into ≡ flows_of_step (inflow_beside p) p 0 ks no_masses) (out_is : out ≡ flows_of_step (outflow_beside p) p 0 ks no_masses) where
  before_small : total_mass p (level_at s 0).masses ≤ 2 ^ 47
  before_small = total_within p (level_at s 0).masses (λ c. masses-small p s 0 c sound)

  last_mass : last.mass ≡ total_mass p (level_at s 0).masses
  last_mass =
      ap (λ (r : Row). r.mass) (last_is ∙ (λ i. slice_index_or (rows_are i) (number i) last) ∙ same_default s.rows s.step last no_row (omega (arith, sound.telescoped.count)))
      ∙ sound.telescoped.last

  inflow_is : into ≡ inflow p (step_fluxes p s)
  inflow_is = into_is ∙ ap (λ (js : List Level). flows_of_step (inflow_beside p) p 0 js no_masses) levels_are ∙ sym (inflow_levels p s sound)

  outflow_is : out ≡ outflow p (step_fluxes p s)
  outflow_is = out_is ∙ ap (λ (js : List Level). flows_of_step (outflow_beside p) p 0 js no_masses) levels_are ∙ sym (outflow_levels p s sound)

  pub subtracts : out ≤ last.mass + into
  subtracts = omega (arith, mass_by_flows p s sound, last_mass, inflow_is, outflow_is)

  pub adds : s.step < p.steps → last.mass + into < 2 ^ 64
  adds more =
      let fit = flows_fit p s 0 s.levels no_masses sound more whole in
      omega (arith, before_small, last_mass, into_is, ap (λ (js : List Level). flows_of_step (inflow_beside p) p 0 js no_masses) levels_are, fit.inflow)

  mass_after : last.mass + into - out ≡ total_mass p (first_of (step p 0 (masses_of s.levels) no_masses).levels)
  unfolding stepped
  mass_after =
      let first = first_masses s.levels (step p 0 (masses_of s.levels) no_masses).levels sound.some_level in
      let sum = mass_by_flows p s sound in
      omega (arith, subst (λ (m : Masses). total_mass p m + outflow p (step_fluxes p s) ≡ total_mass p (level_at s 0).masses + inflow p (step_fluxes p s)) first sum, last_mass, inflow_is, outflow_is)

  pub is_stepped : (js : List Level) → js ≡ after_step p 0 ks no_masses → record { step = n + 1; rows = rows ++ record { mass = last.mass + into - out; inflow = into; outflow = out } ∷ []; levels = js } ≡ stepped p s
  unfolding stepped
  is_stepped js e =
      let levels : js ≡ after_step p 0 s.levels no_masses = e ∙ ap (λ (hs : List Level). after_step p 0 hs no_masses) levels_are in
      λ i. record { step = number i + 1; rows = rows_are i ++ record { mass = mass_after i; inflow = inflow_is i; outflow = outflow_is i } ∷ []; levels = levels i }
