-- A step of levels, by parts: the coarsest level's own step, both finer ones, the correction.
use Rattle.std.proofs.Common.{◌≡◌, ℕ, suc, ◌+◌, ◌^◌, ◌<◌, ℤ, ◌+ℤ◌, neg_ℤ, Bool, List, [], ◌∷◌, map, refl, sym, ap, subst, ◌∙◌, arith}
use Rattle.std.specs.Prelude.{unsigned_abs}
use Rattle.std.specs.List.{Contains}
use Rattle.std.proofs.lemmas.Int.{ints}
use Rattle.amr_box.specs.declared.Cell.{Cell}
use Rattle.amr_box.specs.Cells.{Extent}
use Rattle.amr_def.specs.declared.problem.Problem.{Problem}
use Rattle.amr_def.specs.State.{Level, Masses}
use Rattle.amr_def.specs.Flux.{Fluxes, flux_at, updated}
use Rattle.amr_def.specs.LevelStep.{Stepped, step}
use Rattle.amr_def.specs.Ledger.{first_of}
use Rattle.amr_def.specs.Run.{with_masses}
use Rattle.amr_def.specs.Facts.{IsLevel, IsNestedLevel}
use Rattle.amr_def.proofs.Chain.{chain_first}
use Rattle.amr_def.proofs.Subcycle.{updated_exact}
use Rattle.amr_laws.specs.Levels.{AreLevels, masses_of}
use Rattle.amr_laws.specs.Sides.{is_uncovered}
use Rattle.amr_laws.specs.Substeps.{StepFits as LevelsFit, after_step}
use Rattle.amr_laws.specs.Substeps.{first, second}
use Rattle.amr_laws.proofs.Steps.{links}
use Rattle.amr_laws.proofs.Substeps.{fits, gives_masses, keeps_boxes, of_levels}
use Rattle.amr_register.specs.Entries.{with_entries}
use Rattle.amr_register.specs.RegisterCells.{register_cells}
use Rattle.amr_transfer.specs.Sums.{summed}
use Rattle.amr_flows.specs.Subcycle.{AreGathered, CoverAlike, GatheredFits, children_part, edge_part, flows_of_step}
use Rattle.amr_flows.proofs.Subcycle.{give_the_step, of_plain_fluxes}
use Rattle.amr_flows.proofs.SubcycleSizes.{gathered_fits}
use Rattle.amr_flows.proofs.SubcycleSteps.{keeps_cover, of_finer_steps}
use Rattle.amr_lots.specs.Lots.{LevelStepFits}
use Rattle.amr_cycle.specs.Cycles.{IsCoarsePart, IsPartOfStep}

-- ---- one level's numbers

-- what a level's step asks, from what the laws say of the levels
pub level_fits : (p : Problem) (l : ℕ) (k : Level) (finer : List Level) (old : Masses) → LevelsFit p l k finer old → LevelStepFits p l k.masses old
level_fits p l k finer old f = record {
  values = f.values;
  fluxes = f.fluxes;
  kept = f.covered;
  fits = λ c there. let sum = updated_exact k.masses (flux_at p l k.masses old) c there (f.covered c there) in omega (arith, ints, sum, f.updated_masses c);
}

pub part_fits : (p : Problem) (l : ℕ) (k : Level) (finer : List Level) (old : Masses) → IsPartOfStep p l (k ∷ finer) old → LevelStepFits p l k.masses old
part_fits p l k finer old part = level_fits p l k finer old (fits p part.state l k finer old part.sound part.before part.within)

pub part_levels : (p : Problem) (l : ℕ) (ks : List Level) (old : Masses) → IsPartOfStep p l ks old → AreLevels p l ks
part_levels p l ks old part = of_levels p part.state l ks old part.sound part.within

-- a level with a finer one
module _ (p : Problem) (l : ℕ) (k fine : Level) (old : Masses) (part : IsCoarsePart p l k fine old) where
  coarse_levels : AreLevels p l (k ∷ fine ∷ part.finest)
  coarse_levels = part_levels p l (k ∷ fine ∷ part.finest) old part.part

  pub coarse_level : IsLevel p l k
  coarse_level = coarse_levels.0

  pub coarse_nested : IsNestedLevel p l k fine
  coarse_nested = coarse_levels.1

  pub fine_level : IsLevel p (suc l) fine
  fine_level = chain_first p (suc l) fine part.finest (links p (suc l) (fine ∷ part.finest) coarse_levels.3)

  pub coarse_fits : LevelStepFits p l k.masses old
  coarse_fits = part_fits p l k (fine ∷ part.finest) old part.part

-- ---- lists of levels

-- as many boxes with these masses
abbrev in_boxes_of : List (List Extent) → List Masses → List Level
in_boxes_of [] ms = []
in_boxes_of (bs ∷ bss) [] = []
in_boxes_of (bs ∷ bss) (m ∷ ms) = record { boxes = bs; masses = m } ∷ in_boxes_of bss ms

by_boxes : (ks : List Level) (ms : List Masses) → with_masses ks ms ≡ in_boxes_of (map (λ k. k.boxes) ks) ms
by_boxes [] ms = refl
by_boxes (k ∷ ks) [] = refl
by_boxes (k ∷ ks) (m ∷ ms) = ap (λ (rest : List Level). record { boxes = k.boxes; masses = m } ∷ rest) (by_boxes ks ms)

with_same_boxes : (ks ks' : List Level) (ms : List Masses) → map (λ k. k.boxes) ks ≡ map (λ k. k.boxes) ks' → with_masses ks ms ≡ with_masses ks' ms
with_same_boxes ks ks' ms e = by_boxes ks ms ∙ ap (λ (bss : List (List Extent)). in_boxes_of bss ms) e ∙ sym (by_boxes ks' ms)

pub same_level : (k : Level) (j : Level) → k.boxes ≡ j.boxes → k.masses ≡ j.masses → k ≡ j
same_level k j bs ms = λ i. record { boxes = bs i; masses = ms i }

-- a level alone after its step
pub alone_after : (p : Problem) (l : ℕ) (k j : Level) (old : Masses) → j.boxes ≡ k.boxes → j.masses ≡ updated k.masses (flux_at p l k.masses old) → j ∷ [] ≡ after_step p l (k ∷ []) old
alone_after p l k j old bs ms =
    let level : j ≡ record { boxes = k.boxes; masses = updated k.masses (flux_at p l k.masses old) } = same_level j (record { boxes = k.boxes; masses = updated k.masses (flux_at p l k.masses old) }) bs ms in
    (λ i. level i ∷ []) ∙ ap (λ (ns : List Masses). with_masses (k ∷ []) ns) (sym (of_plain_fluxes p l k old))

-- ---- a level over finer ones

module _ (p : Problem) (l : ℕ) (k fine : Level) (ks : List Level) (old : Masses) (part : IsPartOfStep p l (k ∷ fine ∷ ks) old) where
  pub levels : AreLevels p l (k ∷ fine ∷ ks)
  levels = part_levels p l (k ∷ fine ∷ ks) old part

  abbrev pub after : List Level
  after = after_step p (suc l) (fine ∷ ks) k.masses

  abbrev pub between : Masses
  between = first_of (step p (suc l) (masses_of (fine ∷ ks)) k.masses).levels

  abbrev twice : Stepped
  twice = step p (suc l) (masses_of after) k.masses

  pub first_part : IsPartOfStep p (suc l) (fine ∷ ks) k.masses
  first_part = record { state = part.state; sound = part.sound; before = part.before; within = first l k (fine ∷ ks) old part.within }

  pub second_part : IsPartOfStep p (suc l) after k.masses
  second_part = record { state = part.state; sound = part.sound; before = part.before; within = second l k (fine ∷ ks) old part.within }

  after_levels : AreLevels p (suc l) after
  after_levels = part_levels p (suc l) after k.masses second_part

  after_masses : masses_of after ≡ (step p (suc l) (masses_of (fine ∷ ks)) k.masses).levels
  after_masses = gives_masses p (suc l) (fine ∷ ks) k.masses levels.3

  last_masses : masses_of (after_step p (suc l) after k.masses) ≡ twice.levels
  last_masses = gives_masses p (suc l) after k.masses after_levels

  -- the finer level covers the same throughout
  pub alike_between : CoverAlike fine.masses between
  alike_between = keeps_cover p (suc l) (fine ∷ ks) k.masses levels.3

  -- ---- levels that calls hold

  -- the next finer level after its first step, and those finer than it
  module _ (next : Level) (rest : List Level) (is : next ∷ rest ≡ after) where
    pub next_masses : next.masses ≡ between
    next_masses = ap (λ (ms : List Masses). first_of ms) (ap masses_of is ∙ after_masses)

    pub next_boxes : next.boxes ≡ fine.boxes
    next_boxes = heads (ap (map (λ j. j.boxes)) is ∙ keeps_boxes p (suc l) (fine ∷ ks) k.masses levels.3)
      where
        heads : {bs cs : List Extent} {bss css : List (List Extent)} → (bs ∷ bss) ≡ (cs ∷ css) → bs ≡ cs
        heads e = cc

    pub next_part : IsPartOfStep p (suc l) (next ∷ rest) k.masses
    next_part = subst (λ (js : List Level). IsPartOfStep p (suc l) js k.masses) (sym is) second_part

    -- and after its second
    module _ (last : Level) (finest : List Level) (ends : last ∷ finest ≡ after_step p (suc l) (next ∷ rest) k.masses) where
      ends_after : last ∷ finest ≡ after_step p (suc l) after k.masses
      ends_after = ends ∙ ap (λ (js : List Level). after_step p (suc l) js k.masses) is

      pub last_is : last.masses ≡ first_of twice.levels
      last_is = ap (λ (ms : List Masses). first_of ms) (ap masses_of ends_after ∙ last_masses)

      -- with what the register gathered, all are as after the step
      pub cycle_is : (e : Cell → ℤ) (j : Level) → AreGathered p l k old fine.masses between e → j.boxes ≡ k.boxes → j.masses ≡ summed last.masses (with_entries e (updated k.masses (flux_at p l k.masses old)))
          → j ∷ last ∷ finest ≡ after_step p l (k ∷ fine ∷ ks) old
      cycle_is e j entries bs ms =
          let made : Masses = summed (first_of twice.levels) (with_entries e (updated k.masses (flux_at p l k.masses old))) in
          let is_made : j.masses ≡ made = ms ∙ ap (λ (m : Masses). summed m (with_entries e (updated k.masses (flux_at p l k.masses old)))) last_is in
          let level : j ≡ record { boxes = k.boxes; masses = made } = same_level j (record { boxes = k.boxes; masses = made }) bs is_made in
          let others : last ∷ finest ≡ with_masses (fine ∷ ks) twice.levels = ends_after ∙ with_same_boxes after (fine ∷ ks) twice.levels (keeps_boxes p (suc l) (fine ∷ ks) k.masses levels.3) in
          (λ i. level i ∷ others i) ∙ ap (λ (ns : List Masses). with_masses (k ∷ fine ∷ ks) ns) (sym (give_the_step p l k fine ks old levels e entries))

  -- ---- its register

  pub fits_at : (c : Cell) → Contains (register_cells p l k.masses fine.masses) c → GatheredFits p l k old fine.masses between c
  fits_at c listed = gathered_fits p part.state l k fine ks old c part.sound part.before part.within listed

  pub lost_small : (c : Cell) → Contains (register_cells p l k.masses fine.masses) c → unsigned_abs (neg_ℤ (edge_part p l k old fine.masses c)) < 2 ^ 61
  lost_small c listed = let f = fits_at c listed in omega (arith, ints, f.edges)

  pub won_small : (c : Cell) → Contains (register_cells p l k.masses fine.masses) c → unsigned_abs (neg_ℤ (edge_part p l k old fine.masses c) +ℤ children_part p l k fine.masses fine.masses c) < 2 ^ 61
  won_small c listed = let f = fits_at c listed in omega (arith, ints, f.edges, f.first)

  -- ---- its sums

  pub flows_are : (flows : ℕ → (Cell → Bool) → Fluxes → ℕ) → flows_of_step flows p l (k ∷ fine ∷ ks) old ≡ flows l (is_uncovered k.masses fine.masses) (flux_at p l k.masses old) + (flows_of_step flows p (suc l) (fine ∷ ks) k.masses + flows_of_step flows p (suc l) after k.masses)
  flows_are flows = of_finer_steps flows p l k fine ks old levels.3
