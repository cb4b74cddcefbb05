-- What a correction asks, after both finer steps.
use Rattle.std.proofs.Common.{◌≡◌, ℕ, suc, ◌+◌, ◌^◌, ◌<◌, ℤ, pos, ◌+ℤ◌, true, false, List, ◌∷◌, refl, sym, ap, subst, ◌∙◌, arith}
use Rattle.std.specs.Prelude.{◌≤ℤ◌, ◌<ℤ◌, is_some, IsSome}
use Rattle.std.specs.declared.option.Option.{Option}
use Rattle.std.specs.declared.option.Option.TheVariants.{None, Some}
use Rattle.std.specs.List.{Contains}
use Rattle.std.specs.Option.{option_map, unwrap_or}
use Rattle.std.proofs.lemmas.Bool.{cond-true}
use Rattle.std.proofs.lemmas.Int.{ints}
use Rattle.amr_box.specs.declared.Cell.{Cell}
use Rattle.amr_box.specs.Cells.{at_least_zero, child, parent}
use Rattle.amr_def.specs.declared.problem.Problem.{Problem}
use Rattle.amr_def.specs.Domain.{domain}
use Rattle.amr_def.specs.State.{Level, Masses, children_mass, is_covered, mass_of}
use Rattle.amr_def.specs.Flux.{Fluxes, flux_at, net, updated}
use Rattle.amr_def.specs.LevelStep.{Stepped, step}
use Rattle.amr_def.specs.Ledger.{first_of}
use Rattle.amr_def.proofs.Chain.{chain_first}
use Rattle.amr_def.proofs.Children.{first_child, second_child, third_child, fourth_child}
use Rattle.amr_def.proofs.LevelLists.{IsNest}
use Rattle.amr_def.proofs.Nesting.{nest}
use Rattle.amr_def.proofs.Stepping.{first_kept}
use Rattle.amr_def.proofs.Subcycle.{HasSameCells, bool_cases, covered_same}
use Rattle.amr_def.proofs.Uncovered.{no_children}
use Rattle.amr_laws.specs.Laws.{second_of}
use Rattle.amr_laws.specs.Levels.{AreLevels, masses_of}
use Rattle.amr_laws.specs.Substeps.{after_step}
use Rattle.amr_laws.proofs.Registers.{by_registers}
use Rattle.amr_laws.proofs.Steps.{links}
use Rattle.amr_laws.proofs.Substeps.{fits, gives_masses}
use Rattle.amr_register.specs.RegisterCells.{is_register_cell, register_cells}
use Rattle.amr_register.proofs.CellLists.{of_level, where_passes}
use Rattle.amr_flows.specs.Subcycle.{AreGathered}
use Rattle.amr_flows.proofs.RegisterFlowsCells.{alike}
use Rattle.amr_flows.proofs.Subcycle.{give_the_step}
use Rattle.amr_flows.proofs.SubcycleSteps.{step_cells}
use Rattle.amr_cycle.specs.Cycles.{IsPartOfStep}
use Rattle.amr_cycle.proofs.Cycling.{fits_at, levels, part_levels, second_part}

-- an update has the same cells
some_updated : (m : Masses) (e : Fluxes) (c : Cell) → is_some (updated m e c) ≡ is_some (m c)
unfolding updated
some_updated m e c = of_option (m c)
  where
    of_option : (o : Option ℕ) → is_some (option_map (λ v. at_least_zero (pos v +ℤ net e c)) o) ≡ is_some o
    of_option None = refl
    of_option (Some v) = refl

module _ (p : Problem) (l : ℕ) (k fine : Level) (ks : List Level) (old : Masses) (part : IsPartOfStep p l (k ∷ fine ∷ ks) old) where
  abbrev plain : Masses
  plain = updated k.masses (flux_at p l k.masses old)

  abbrev after : List Level
  after = after_step p (suc l) (fine ∷ ks) k.masses

  abbrev between : Masses
  between = first_of (step p (suc l) (masses_of (fine ∷ ks)) k.masses).levels

  are : AreLevels p l (k ∷ fine ∷ ks)
  are = levels p l k fine ks old part

  nested : IsNest p l k.masses fine.masses
  nested = nest p l k fine are.0 (chain_first p (suc l) fine ks (links p (suc l) (fine ∷ ks) are.3)) are.1

  -- ---- register cells

  pub of_level_at : (c : Cell) → Contains (register_cells p l k.masses fine.masses) c → IsSome (plain c)
  of_level_at c listed = some_updated k.masses (flux_at p l k.masses old) c ∙ of_level (domain p l) k.masses fine.masses c (where_passes (domain p l) (is_register_cell (domain p l) k.masses fine.masses) c listed)

  module _ (e : Cell → ℤ) (entries : AreGathered p l k old fine.masses between e) where
    pub kept_at : (c : Cell) → Contains (register_cells p l k.masses fine.masses) c → pos 0 ≤ℤ (pos (mass_of plain c) +ℤ e c)
    kept_at c listed = let f = fits_at p l k fine ks old part c listed in omega (arith, ints, f.kept, entries.cells c listed)

    pub fits_32 : (c : Cell) → Contains (register_cells p l k.masses fine.masses) c → (pos (mass_of plain c) +ℤ e c) <ℤ pos (2 ^ 32)
    fits_32 c listed = let f = fits_at p l k fine ks old part c listed in omega (arith, ints, f.fits, entries.cells c listed)

  -- ---- covered cells

  module _ (last : Masses) (is : last ≡ first_of (step p (suc l) (masses_of after) k.masses).levels) where
    after_levels : AreLevels p (suc l) after
    after_levels = part_levels p (suc l) after k.masses (second_part p l k fine ks old part)

    same_cells : HasSameCells fine.masses last
    same_cells =
        let one = step_cells p (suc l) (fine ∷ ks) k.masses are.3 in
        let two = step_cells p (suc l) after k.masses after_levels in
        let between_is : first_of (masses_of after) ≡ between = ap (λ (ms : List Masses). first_of ms) (gives_masses p (suc l) (fine ∷ ks) k.masses are.3) in
        record { at = λ c. ap (λ (m : Masses). is_some (m c)) is ∙ two.at c ∙ ap (λ (m : Masses). is_some (m c)) between_is ∙ one.at c }

    pub parents_at : (c : Cell) → IsSome (last c) → IsSome (plain (parent c))
    parents_at c h = some_updated k.masses (flux_at p l k.masses old) (parent c) ∙ nested.there (parent c) (sym (alike fine.masses nested.children c) ∙ sym (same_cells.at c) ∙ h)

    module _ (e : Cell → ℤ) (entries : AreGathered p l k old fine.masses between e) where
      abbrev result : Stepped
      result = step p l (masses_of (k ∷ fine ∷ ks)) old

      last_is : second_of result.levels ≡ last
      last_is = ap (λ (ms : List Masses). second_of ms) (give_the_step p l k fine ks old are e entries) ∙ sym is

      pub small_sums : (c : Cell) → children_mass last c < 2 ^ 32
      small_sums c = bool_cases (is_covered fine.masses c) covered free
        where
          covered : is_covered fine.masses c ≡ true → children_mass last c < 2 ^ 32
          covered h =
              let sum : pos (mass_of (first_of result.levels) c) ≡ pos (children_mass last c) = by_registers p l k fine ks old c are (nested.there c h) ∙ cond-true (is_covered fine.masses c) _ _ h ∙ ap (λ (m : Masses). pos (children_mass m c)) last_is in
              let small : mass_of (first_of result.levels) c < 2 ^ 31 = subst (λ (m : Masses). mass_of m c < 2 ^ 31) (first_kept k (fine ∷ ks) result.levels) ((fits p part.state l k (fine ∷ ks) old part.sound part.before part.within).masses_after 0 c) in
              omega (arith, ints, sum, small)

          free : is_covered fine.masses c ≡ false → children_mass last c < 2 ^ 32
          free h =
              let none = no_children last c (covered_same fine.masses last same_cells c ∙ h) in
              let zero_mass : children_mass last c ≡ 0 = empty (last (child c 0)) (last (child c 1)) (last (child c 2)) (last (child c 3)) (ap last (first_child c) ∙ none.k0) (ap last (second_child c) ∙ none.k1) (ap last (third_child c) ∙ none.k2) (ap last (fourth_child c) ∙ none.k3) in
              omega (arith, zero_mass)
            where
              empty : (a b c d : Option ℕ) → a ≡ None → b ≡ None → c ≡ None → d ≡ None → unwrap_or a 0 + unwrap_or b 0 + unwrap_or c 0 + unwrap_or d 0 ≡ 0
              empty a b c d ha hb hc hd = rw (ha, hb, hc, hd) refl
