-- The step of a level over finer ones, by a register and by sums over children.
use Rattle.std.proofs.Common.{◌≡◌, ◌∙◌, ℕ, suc, ◌<◌, Bool, true, false, ◌⊎◌, inl, inr, ℤ, pos, ◌+ℤ◌, ◌-ℤ◌, ◌≤ℤ◌, List, [], ◌∷◌, length, refl, sym, ap, subst, arith}
use Rattle.std.specs.Prelude.{is_some, slice_index_or}
use Rattle.std.specs.Option.{option_map, unwrap_or}
use Rattle.std.specs.declared.option.Option.{Option}
use Rattle.std.specs.declared.option.Option.TheVariants.{None, Some}
use Rattle.std.specs.List.{Contains, list_any}
use Rattle.std.proofs.lemmas.Int.{ints}
use Rattle.std.proofs.lemmas.Bool.{cond-false, cond-true}
use Rattle.amr_box.specs.declared.Cell.{Cell}
use Rattle.amr_box.specs.declared.Face.{Face}
use Rattle.amr_box.specs.declared.Axis.TheVariants.{X, Y}
use Rattle.amr_box.specs.Cells.{at_least_zero, moved}
use Rattle.amr_box.proofs.Numbers.{at_least_zero-same, more_and_less, plus_minus_one}
use Rattle.amr_def.specs.declared.problem.Problem.{Problem}
use Rattle.amr_def.specs.Domain.{domain, home_cell}
use Rattle.amr_def.specs.State.{Level, Masses, children_mass, is_covered, mass_of}
use Rattle.amr_def.specs.Flux.{Fluxes, face, flux_at, high_cell, low_cell, net, updated}
use Rattle.amr_def.specs.LevelStep.{Stepped, at_top, effective, over_finer, step, step_within}
use Rattle.amr_def.specs.Ledger.{first_of}
use Rattle.amr_def.specs.Tags.{neighbours}
use Rattle.amr_def.proofs.Chain.{chain_first}
use Rattle.amr_def.proofs.Courants.{stable}
use Rattle.amr_def.proofs.Flows.{net_is}
use Rattle.amr_def.proofs.LevelLists.{IsCellInside, IsNest}
use Rattle.amr_def.proofs.Nesting.{any_at, level_inside, nest}
use Rattle.amr_def.proofs.Subcycle.{HasSameCells, bool_cases, covered_same, is_false, plain_covers}
use Rattle.amr_def.proofs.Uncovered.{home_at, in_domain-yes}
use Rattle.amr_def.proofs.Values.{same_cell}
use Rattle.amr_laws.specs.Levels.{AreLevels, masses_of}
use Rattle.amr_laws.specs.Laws.{second_of}
use Rattle.amr_laws.specs.Substeps.{after_step}
use Rattle.amr_laws.proofs.Registers.{by_registers}
use Rattle.amr_laws.proofs.Steps.{beside, links}
use Rattle.amr_laws.proofs.Substeps.{gives_masses, keeps_levels, two_finer}
use Rattle.amr_register.specs.Entries.{with_entries}
use Rattle.amr_register.specs.RegisterCells.{is_register_cell, register_cells}
use Rattle.amr_register.proofs.CellLists.{is_or_not, where_among}
use Rattle.amr_register.proofs.CollectLaws.{passes}
use Rattle.amr_transfer.specs.Sums.{summed}
use Rattle.amr_flows.specs.Subcycle.{AreGathered, gathered}
use Rattle.amr_flows.proofs.RegisterFlowsCells.{plus_none}
use Rattle.amr_flows.proofs.SubcycleSteps.{step_cells, step_count}
use Rattle.amr_flows.proofs.SubcycleFaces.{AgreesRound, net_by_parts, own_round}

-- ---- masses of a cell

-- two sums one after the other
added_twice : (o : Option ℕ) (a b d : ℤ) → (is_some o ≡ true → pos 0 ≤ℤ (pos (unwrap_or o 0) +ℤ a)) → (is_some o ≡ true → d ≡ a +ℤ b)
    → option_map (λ v. at_least_zero (pos v +ℤ b)) (option_map (λ v. at_least_zero (pos v +ℤ a)) o) ≡ option_map (λ v. at_least_zero (pos v +ℤ d)) o
added_twice None a b d covers is = refl
added_twice (Some v) a b d covers is =
    let once : pos (at_least_zero (pos v +ℤ a)) ≡ pos v +ℤ a = at_least_zero-same (pos v +ℤ a) (covers refl) in
    let both : pos (at_least_zero (pos v +ℤ a)) +ℤ b ≡ pos v +ℤ d = omega (arith, ints, once, is refl) in
    ap (λ (z : ℤ). Some (at_least_zero z)) both

is_mass : (o : Option ℕ) (n : ℕ) → is_some o ≡ true → pos (unwrap_or o 0) ≡ pos n → o ≡ Some n
is_mass None n h e = cc
is_mass (Some v) n h e = let same : v ≡ n = omega (arith, ints, e) in ap Some same

-- ---- a level over finer ones

module _ (p : Problem) (l : ℕ) (k fine : Level) (ks : List Level) (old : Masses) (levels : AreLevels p l (k ∷ fine ∷ ks)) where
  abbrev finer : List Level
  finer = fine ∷ ks

  abbrev after : List Level
  after = after_step p (suc l) (fine ∷ ks) k.masses

  abbrev first : Stepped
  first = step p (suc l) (masses_of (fine ∷ ks)) k.masses

  abbrev second : Stepped
  second = step p (suc l) (masses_of after) k.masses

  abbrev plain : Fluxes
  plain = flux_at p l k.masses old

  abbrev together : Fluxes
  together = effective p l k.masses old fine.masses first.fluxes second.fluxes

  nested : IsNest p l k.masses fine.masses
  nested = nest p l k fine levels.0 (chain_first p (suc l) fine ks (links p (suc l) (fine ∷ ks) levels.3)) levels.1

  inside : (c : Cell) → is_some (k.masses c) ≡ true → IsCellInside p l c
  inside = (level_inside p l k levels.0).at

  after_levels : AreLevels p (suc l) after
  after_levels = keeps_levels p (suc l) (fine ∷ ks) k.masses levels.3

  after_masses : masses_of after ≡ first.levels
  after_masses = gives_masses p (suc l) (fine ∷ ks) k.masses levels.3

  some_after : 0 < length after
  some_after = let e = step_count p (suc l) (fine ∷ ks) k.masses levels.3 in omega (arith, e)

  same_first : HasSameCells fine.masses (first_of first.levels)
  same_first = step_cells p (suc l) (fine ∷ ks) k.masses levels.3

  same_after : HasSameCells fine.masses (first_of (masses_of after))
  same_after = subst (λ (ms : List Masses). HasSameCells fine.masses (first_of ms)) (sym after_masses) same_first

  same_second : HasSameCells (first_of (masses_of after)) (first_of second.levels)
  same_second = step_cells p (suc l) after k.masses after_levels

  covers : (c : Cell) → is_covered (first_of second.levels) c ≡ is_covered fine.masses c
  covers c = covered_same _ _ same_second c ∙ covered_same _ _ same_after c

  pub is_over : step p l (masses_of (k ∷ fine ∷ ks)) old ≡ over_finer p l k.masses old fine.masses first second
  is_over = two_finer p l k fine ks old levels.3

  pub step_fluxes : (step p l (masses_of (k ∷ fine ∷ ks)) old).fluxes ≡ together
  unfolding over_finer
  step_fluxes = ap (λ (r : Stepped). r.fluxes) is_over

  pub step_first : first_of (step p l (masses_of (k ∷ fine ∷ ks)) old).levels ≡ updated k.masses together
  unfolding over_finer
  step_first = ap (λ (r : Stepped). first_of r.levels) is_over

  step_second : second_of (step p l (masses_of (k ∷ fine ∷ ks)) old).levels ≡ first_of second.levels
  unfolding over_finer
  step_second = ap (λ (r : Stepped). second_of r.levels) is_over

  -- ---- a cell that is not covered

  module _ (c : Cell) (there : is_some (k.masses c) ≡ true) (free : is_covered fine.masses c ≡ false) where
    first_round : AgreesRound c first.fluxes (flux_at p (suc l) fine.masses k.masses)
    first_round = own_round p l fine.masses c (inside c there) free nested.children (fine ∷ ks) k.masses levels.3 (omega arith) (record { at = λ q. refl })

    second_round : AgreesRound c second.fluxes (flux_at p (suc l) (first_of first.levels) k.masses)
    second_round =
        subst (λ (ms : List Masses). AgreesRound c second.fluxes (flux_at p (suc l) (first_of ms) k.masses)) after_masses
        (own_round p l fine.masses c (inside c there) free nested.children after k.masses after_levels some_after same_after)

    pub net_gathered : net together c ≡ net plain c +ℤ gathered p l k old fine.masses (first_of first.levels) c
    net_gathered = net_by_parts p l fine.masses c (inside c there) free k.masses old first.fluxes second.fluxes _ _ first_round second_round

    -- beside one that is no register cell none is covered
    module _ (no_register : Contains (register_cells p l k.masses fine.masses) c → ⊥) where
      far : (n : ℕ) (q : Cell) → n < 4 → moved c (slice_index_or neighbours n c) ≡ q → is_covered fine.masses (home_cell (domain p l) q) ≡ false
      far n q lt e =
          let next_to : Cell → Bool = λ o. is_covered fine.masses (home_cell (domain p l) (moved c o)) in
          let found : is_covered fine.masses (home_cell (domain p l) q) ≡ true → list_any next_to neighbours ≡ true = λ h. any_at next_to neighbours n c lt (ap (λ (r : Cell). is_covered fine.masses (home_cell (domain p l) r)) e ∙ h) in
          is_false _ (λ h. no_register (where_among (domain p l) (is_register_cell (domain p l) k.masses fine.masses) c (in_domain-yes p l c (inside c there)) (passes (domain p l) k.masses fine.masses c there free (found h))))

      own : (q : Cell) → q ≡ c → is_covered fine.masses (home_cell (domain p l) q) ≡ false
      own q e = ap (λ (r : Cell). is_covered fine.masses (home_cell (domain p l) r)) e ∙ ap (is_covered fine.masses) (home_at p l c (inside c there)) ∙ free

      at : (f : Face) → is_covered fine.masses (home_cell (domain p l) (low_cell f)) ≡ false → is_covered fine.masses (home_cell (domain p l) (high_cell f)) ≡ false → together f ≡ plain f
      at f low high = beside p l k.masses old fine.masses first.fluxes second.fluxes f low high

      net_plain : net together c ≡ net plain c
      unfolding net
      net_plain = net_is together c (plain (face X c.x c.y)) (plain (face X (c.x +ℤ pos 1) c.y)) (plain (face Y c.x c.y)) (plain (face Y c.x (c.y +ℤ pos 1)))
          (at (face X c.x c.y) (far 0 _ (omega arith) (same_cell (plus_minus_one c.x) (plus_none c.y))) (own _ refl))
          (at (face X (c.x +ℤ pos 1) c.y) (own _ (same_cell (more_and_less c.x) refl)) (far 1 _ (omega arith) (same_cell refl (plus_none c.y))))
          (at (face Y c.x c.y) (far 2 _ (omega arith) (same_cell (plus_none c.x) (plus_minus_one c.y))) (own _ refl))
          (at (face Y c.x (c.y +ℤ pos 1)) (own _ (same_cell refl (more_and_less c.y))) (far 3 _ (omega arith) (same_cell (plus_none c.x) refl)))

  -- ---- every cell

  module _ (e : Cell → ℤ) (entries : AreGathered p l k old fine.masses (first_of first.levels) e) where
    net_entries : (c : Cell) → is_covered fine.masses c ≡ false → is_some (k.masses c) ≡ true → net together c ≡ net plain c +ℤ e c
    net_entries c free there = by_place (is_or_not c (register_cells p l k.masses fine.masses))
      where
        by_place : Contains (register_cells p l k.masses fine.masses) c ⊎ (Contains (register_cells p l k.masses fine.masses) c → ⊥) → net together c ≡ net plain c +ℤ e c
        by_place (inl h) = omega (arith, ints, net_gathered c there free, entries.cells c h)
        by_place (inr h) = omega (arith, ints, net_plain c there free h, entries.others c h)

    abbrev made : Masses
    made = summed (first_of second.levels) (with_entries e (updated k.masses plain))

    at_free : (c : Cell) → is_covered fine.masses c ≡ false → made c ≡ updated k.masses together c
    unfolding updated
    at_free c free =
        cond-false (is_covered (first_of second.levels) c) _ _ (covers c ∙ free)
        ∙ added_twice (k.masses c) (net plain c) (e c) (net together c) (plain_covers p l k.masses old (stable p) (level_inside p l k levels.0) c) (net_entries c free)

    at_covered : (c : Cell) → is_covered fine.masses c ≡ true → made c ≡ first_of (step p l (masses_of (k ∷ fine ∷ ks)) old).levels c
    at_covered c covered =
        let there = nested.there c covered in
        let r : Stepped = step p l (masses_of (k ∷ fine ∷ ks)) old in
        let register : ℤ = (pos (mass_of k.masses c) +ℤ net plain c) +ℤ net (λ f. r.fluxes f -ℤ plain f) c in
        let sum : pos (mass_of (first_of r.levels) c) ≡ pos (children_mass (first_of second.levels) c) =
        by_registers p l k fine ks old c levels there ∙ cond-true (is_covered fine.masses c) (pos (children_mass (second_of r.levels) c)) register covered ∙ ap (λ (m : Masses). pos (children_mass m c)) step_second in
        cond-true (is_covered (first_of second.levels) c) _ _ (covers c ∙ covered)
        ∙ sym (is_mass (first_of r.levels c) (children_mass (first_of second.levels) c) ((step_cells p l (k ∷ fine ∷ ks) old levels).at c ∙ there) sum)

    is_made : made ≡ updated k.masses together
    is_made = λ i c. by_cover c i
      where
        by_cover : (c : Cell) → made c ≡ updated k.masses together c
        by_cover c = bool_cases (is_covered fine.masses c) (λ covered. at_covered c covered ∙ ap (λ (m : Masses). m c) step_first) (at_free c)

    pub give_the_step : (step p l (masses_of (k ∷ fine ∷ ks)) old).levels ≡ made ∷ second.levels
    unfolding over_finer
    give_the_step = ap (λ (r : Stepped). r.levels) is_over ∙ sym (ap (λ (m : Masses). m ∷ second.levels) is_made)

pub of_plain_fluxes : (p : Problem) (l : ℕ) (k : Level) (old : Masses) → (step p l (masses_of (k ∷ [])) old).levels ≡ updated k.masses (flux_at p l k.masses old) ∷ []
unfolding step_within at_top
of_plain_fluxes p l k old = refl
