-- A step of a sound state gives a sound state.
use Rattle.std.proofs.Common.{◌≡◌, ℕ, zero, suc, ◌+◌, ◌*◌, ◌/◌, ◌^◌, ◌<◌, ◌≤◌, ◌⊎◌, inl, inr, pos, ◌+ℤ◌, IsSome, refl, sym, ap, subst, ◌∙◌, arith, List, [], ◌∷◌, ◌++◌, length}
use Rattle.std.specs.Prelude.{slice_index_or}
use Rattle.std.proofs.lemmas.List.{get_or_at}
use Rattle.std.proofs.Math.ListN.{length-append}
use Rattle.std.proofs.lemmas.List.Elements.{All-push}
use Rattle.amr_box.specs.declared.Cell.{Cell}
use Rattle.amr_def.specs.declared.problem.Problem.{Problem}
use Rattle.amr_def.specs.declared.problem.Row.{Row}
use Rattle.amr_def.specs.State.{Masses, Level, State, no_masses, mass_of}
use Rattle.amr_def.specs.Flux.{net, updated}
use Rattle.amr_def.specs.LevelStep.{Stepped, step}
use Rattle.amr_def.specs.Ledger.{first_of, total_mass, inflow, outflow, row_after}
use Rattle.amr_def.specs.Run.{with_masses, stepped}
use Rattle.amr_def.specs.Facts.{IsSmallRow, IsSound, IsBounded, IsTelescoped, no_row, growth}
use Rattle.amr_def.proofs.LevelLists.{IsWhole, Nested, Synced}
use Rattle.amr_def.proofs.Courants.{stable, some_columns}
use Rattle.amr_def.proofs.Subcycle.{KeepsLevels, step-kept}
use Rattle.amr_def.proofs.Steps.{head_updated, step-telescopes}
use Rattle.amr_def.proofs.Greatest.{AllUpTo, IsRaised, rise, step-raises, all_more}
use Rattle.amr_def.proofs.Totals.{IsSmallFluxes, bound_small, flux_within, inflow_within, outflow_within, total_within}
use Rattle.amr_def.proofs.Chain.{nth, Chain, state_chain, state_nested, state_synced, chain_first}
use Rattle.amr_def.proofs.Stepping.{masses_in, chain_lists, chain_kept, count_kept, boxes_kept, first_kept, whole, sides_up, all_up, up_at, rise_within}

-- ---- rows of the ledger

pub row_before : (rs more : List Row) (k : ℕ) → k < length rs → slice_index_or (rs ++ more) k no_row ≡ slice_index_or rs k no_row
row_before [] more k h = absurd (omega arith)
row_before (r ∷ rs) more zero h = refl
row_before (r ∷ rs) more (suc k) h = row_before rs more k (omega arith)

first_up : (ms : List Masses) (b : ℕ) → AllUpTo 0 ms b → (c : Cell) → mass_of (first_of ms) c ≤ b
first_up [] b u c = omega arith
first_up (m ∷ ms) b u c = omega (arith, u.0.at c)

-- no masses are up to any bound
pub no_old : (b : ℕ) (k : Cell) → 4 ^ 0 * (mass_of no_masses k / 4) ≤ b
no_old b k = omega arith

-- ---- the state after a step of a sound state with a level

module _ (p : Problem) (n : ℕ) (rs : List Row) (k : Level) (ks : List Level) where
  abbrev pub before : State
  before = record { step = n; rows = rs; levels = k ∷ ks }

  abbrev pub taken : Stepped
  taken = step p 0 (masses_in (k ∷ ks)) no_masses

  module _ (sound : IsSound p before) where
    links : Chain p 0 (k ∷ ks)
    links = state_chain p before sound.nested sound.synced

    lists : Nested p 0 (masses_in (k ∷ ks)) × Synced (masses_in (k ∷ ks))
    lists = chain_lists p 0 (k ∷ ks) links

    kept : KeepsLevels p 0 (masses_in (k ∷ ks)) no_masses taken.levels taken.fluxes
    kept = step-kept p (length (masses_in (k ∷ ks))) 0 (masses_in (k ∷ ks)) no_masses (stable p) lists.0 lists.1

    new_links : Chain p 0 (with_masses (k ∷ ks) taken.levels)
    new_links = chain_kept p 0 (k ∷ ks) taken.levels links kept.same kept.synced

    base_whole : IsWhole p k.masses
    base_whole = whole p k (chain_first p 0 k ks links) sound.base

    head : first_of taken.levels ≡ updated k.masses taken.fluxes
    head = head_updated p (length (masses_in ks)) 0 k.masses (masses_in ks) no_masses

    -- mass changes by what flows through open sides
    pub flows : total_mass p (first_of taken.levels) + outflow p taken.fluxes ≡ total_mass p k.masses + inflow p taken.fluxes
    flows = ap (λ (m : Masses). total_mass p m + outflow p taken.fluxes) head ∙ step-telescopes p k.masses (masses_in ks) (stable p) (some_columns p) lists.0 lists.1 base_whole

    -- every mass of level 0 is what it was and what came in
    pub exact : (c : Cell) → IsSome (k.masses c) → pos (mass_of (first_of taken.levels) c) ≡ pos (mass_of k.masses c) +ℤ net taken.fluxes c
    exact c there = by_head taken.levels kept
      where
        by_head : (ms : List Masses) → KeepsLevels p 0 (masses_in (k ∷ ks)) no_masses ms taken.fluxes → pos (mass_of (first_of ms) c) ≡ pos (mass_of k.masses c) +ℤ net taken.fluxes c
        by_head [] x = absurd x.same
        by_head (m ∷ ms) x = x.head.exact c there

    -- ---- bounded

    bound : ℕ
    bound = 2 ^ 30 + growth p.max_level * (n + 1)

    new_bound : ℕ
    new_bound = 2 ^ 30 + growth p.max_level * (n + 1 + 1)

    few : length (masses_in (k ∷ ks)) ≤ p.max_level + 1
    few = subst (λ c. c ≤ p.max_level + 1) (sym (map_length (k ∷ ks))) sound.few_levels
      where
        map_length : (ks : List Level) → length (masses_in ks) ≡ length ks
        map_length [] = refl
        map_length (k ∷ ks) = ap suc (map_length ks)

    up : AllUpTo 0 (masses_in (k ∷ ks)) bound
    unfolding bound
    up = all_up 0 (k ∷ ks) (2 ^ 30 + growth p.max_level * (n + 1)) (λ j c. let e : j ≡ 0 + j = omega arith in subst (λ i. 4 ^ i * mass_of (nth (k ∷ ks) j).masses c ≤ 2 ^ 30 + growth p.max_level * (n + 1)) e (sound.bounded.at j c))

    raises : IsRaised p 0 (masses_in (k ∷ ks)) no_masses taken.levels taken.fluxes (bound + rise (length (masses_in (k ∷ ks))) 0)
    unfolding bound
    raises = step-raises p (length (masses_in (k ∷ ks))) 0 (masses_in (k ∷ ks)) no_masses bound (omega arith) (stable p) lists.0 lists.1 up (record { at = no_old bound }) (sides_up p bound (omega arith))

    raised : AllUpTo 0 taken.levels (bound + rise (length (masses_in (k ∷ ks))) 0)
    raised = raises.masses

    enough : bound + rise (length (masses_in (k ∷ ks))) 0 ≤ new_bound
    unfolding bound new_bound
    enough = omega (arith, rise_within (length (masses_in (k ∷ ks))) p.max_level few p.limits.greatest_max_level)

    new_bounded : IsBounded p (stepped p before)
    unfolding stepped new_bound
    new_bounded = record {
      at = λ l c. let e : 0 + l ≡ l = omega arith in
          subst (λ i. 4 ^ i * mass_of (nth (with_masses (k ∷ ks) taken.levels) l).masses c ≤ 2 ^ 30 + growth p.max_level * (n + 1 + 1)) e (up_at 0 (k ∷ ks) taken.levels _ (all_more 0 taken.levels _ _ enough raised) l c);
    }

    -- ---- telescoped

    abbrev last_row : Row
    last_row = row_after p taken

    abbrev new_rows : List Row
    new_rows = rs ++ last_row ∷ []

    old_row : (i : ℕ) → i ≤ n → slice_index_or new_rows i no_row ≡ slice_index_or rs i no_row
    old_row i h = row_before rs (last_row ∷ []) i (omega (arith, sound.telescoped.count))

    new_row : slice_index_or new_rows (n + 1) no_row ≡ last_row
    new_row = get_or_at rs last_row [] no_row (n + 1) sound.telescoped.count

    each_row : (i : ℕ) → i < n + 1 → (i < n) ⊎ (i ≡ n) → (slice_index_or new_rows (i + 1) no_row).mass + (slice_index_or new_rows (i + 1) no_row).outflow ≡ (slice_index_or new_rows i no_row).mass + (slice_index_or new_rows (i + 1) no_row).inflow
    each_row i h (inl lower) =
        let here = old_row i (omega arith) in
        let next = old_row (i + 1) (omega arith) in
        rw (here, next) (sound.telescoped.each i lower)
    each_row i h (inr is) =
        let here : slice_index_or new_rows i no_row ≡ slice_index_or rs n no_row = ap (λ j. slice_index_or new_rows j no_row) is ∙ old_row n (omega arith) in
        let next : slice_index_or new_rows (i + 1) no_row ≡ last_row = ap (λ j. slice_index_or new_rows (j + 1) no_row) is ∙ new_row in
        let was : (slice_index_or rs n no_row).mass ≡ total_mass p k.masses = sound.telescoped.last in
        rw (here, next) (flows ∙ ap (λ t. t + inflow p taken.fluxes) (sym was))

    new_telescoped : IsTelescoped p (stepped p before)
    unfolding stepped
    new_telescoped = record {
      count = omega (arith, length-append rs (last_row ∷ []), sound.telescoped.count);
      no_inflow = ap (λ (r : Row). r.inflow) (old_row 0 (omega arith)) ∙ sound.telescoped.no_inflow;
      no_outflow = ap (λ (r : Row). r.outflow) (old_row 0 (omega arith)) ∙ sound.telescoped.no_outflow;
      each = λ i h. each_row i h (below_or_at i n h);
      last = ap (λ (r : Row). r.mass) new_row ∙ ap (total_mass p) (sym (first_kept k ks taken.levels));
    }
      where
        below_or_at : (i n : ℕ) → i < n + 1 → (i < n) ⊎ (i ≡ n)
        below_or_at i n h = grind arith

    -- ---- the new row is small

    below : n < p.steps → bound + rise (length (masses_in (k ∷ ks))) 0 < 2 ^ 31
    unfolding new_bound
    below more = omega (arith, enough, bound_small p (n + 1) (omega arith))

    small_fluxes : n < p.steps → IsSmallFluxes taken.fluxes
    small_fluxes more = record { at = λ f. let fits = flux_within p 0 k.masses no_masses (bound + rise (length (masses_in (k ∷ ks))) 0) taken.fluxes raises.flows f in omega (arith, fits, below more) }

    small_masses : n < p.steps → (c : Cell) → mass_of (first_of taken.levels) c < 2 ^ 31
    small_masses more c = omega (arith, first_up taken.levels (bound + rise (length (masses_in (k ∷ ks))) 0) raised c, below more)

    small_row : n < p.steps → IsSmallRow last_row
    small_row more = record {
      mass = omega (arith, total_within p (first_of taken.levels) (small_masses more));
      inflow = omega (arith, inflow_within p taken.fluxes (small_fluxes more));
      outflow = omega (arith, outflow_within p taken.fluxes (small_fluxes more));
    }

    -- ---- sound

    pub sound_after : n < p.steps → IsSound p (stepped p before)
    unfolding stepped
    sound_after more = record {
      within = omega arith;
      base = boxes_kept k ks taken.levels kept.same ∙ sound.base;
      some_level = omega (arith, count_kept (k ∷ ks) taken.levels kept.same);
      few_levels = omega (arith, count_kept (k ∷ ks) taken.levels kept.same, sound.few_levels);
      nested = state_nested p (stepped p before) new_links;
      synced = state_synced p (stepped p before) new_links;
      bounded = new_bounded;
      telescoped = new_telescoped;
      small_rows = All-push IsSmallRow rs last_row sound.small_rows (small_row more);
    }

sound_from : (p : Problem) (n : ℕ) (rs : List Row) (ks : List Level) → IsSound p (record { step = n; rows = rs; levels = ks }) → n < p.steps → IsSound p (stepped p (record { step = n; rows = rs; levels = ks }))
sound_from p n rs [] sound more = absurd (omega (arith, sound.some_level))
sound_from p n rs (k ∷ ks) sound more = sound_after p n rs k ks sound more

pub step-sound : (p : Problem) (s : State) → IsSound p s → s.step < p.steps → IsSound p (stepped p s)
step-sound p s sound more = sound_from p s.step s.rows s.levels sound more
