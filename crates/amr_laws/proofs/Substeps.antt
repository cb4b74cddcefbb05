-- Steps of levels within the step from a sound state: of levels, and with numbers that fit.
use Rattle.std.proofs.Common.{◌≡◌, ℕ, suc, ◌+◌, ◌*◌, ◌^◌, ◌<◌, ◌≤◌, refl, sym, ap, subst, ◌∙◌, arith, List, [], ◌∷◌, length, map}
use Rattle.std.specs.Prelude.{unsigned_abs}
use Rattle.amr_box.specs.declared.Cell.{Cell}
use Rattle.amr_box.specs.declared.Face.{Face}
use Rattle.amr_box.specs.Cells.{Extent}
use Rattle.amr_def.specs.declared.problem.Problem.{Problem}
use Rattle.amr_def.specs.State.{Masses, Level, State, no_masses, mass_of}
use Rattle.amr_def.specs.Value.{value_at}
use Rattle.amr_def.specs.Flux.{courant, flux_at, updated}
use Rattle.amr_def.specs.LevelStep.{Stepped, over_finer, step, step_within}
use Rattle.amr_def.specs.Ledger.{sum_to}
use Rattle.amr_def.specs.Run.{with_masses}
use Rattle.amr_def.specs.Facts.{IsSound, growth}
use Rattle.amr_def.proofs.Courants.{stable, weighs}
use Rattle.amr_def.proofs.Subcycle.{KeepsLevels, SameCells, plain_covers, step-kept}
use Rattle.amr_def.proofs.Raise.{IsUpTo}
use Rattle.amr_def.proofs.Greatest.{AllUpTo, IsRaised, OldUpTo, finer_old, old_more, plain_flows, rise, same_length, step-raises, top_raised, values_up}
use Rattle.amr_def.proofs.Nesting.{level_inside}
use Rattle.amr_def.proofs.Chain.{Chain, chain_first, nth, state_chain}
use Rattle.amr_def.proofs.Stepping.{all_up, chain_kept, chain_lists, masses_in, rise_within, sides_up, up_at}
use Rattle.amr_def.proofs.Totals.{bound_small, courant_within, flux_within, sum_within}
use Rattle.amr_def.proofs.SoundStep.{no_old}
use Rattle.amr_laws.specs.Levels.{AreLevels, masses_of}
use Rattle.amr_laws.specs.Substeps.{IsSubstep, StepFits, after_step}
use Rattle.amr_laws.specs.Substeps.{whole, first, second}
use Rattle.amr_laws.proofs.Steps.{links}
use Rattle.amr_laws.proofs.Sizes.{product_small}

-- ---- a step keeps levels

-- from the links of levels back to what the laws ask
pub levels_of : (p : Problem) (l : ℕ) (ks : List Level) → Chain p l ks → AreLevels p l ks
levels_of p l [] x = tt
levels_of p l (k ∷ []) x = x
levels_of p l (k ∷ fine ∷ finer) x = (x.0, x.1, x.2.at, levels_of p (suc l) (fine ∷ finer) x.3)

kept_by_step : (p : Problem) (l : ℕ) (ks : List Level) (old : Masses) → Chain p l ks → KeepsLevels p l (masses_in ks) old (step p l (masses_in ks) old).levels (step p l (masses_in ks) old).fluxes
kept_by_step p l ks old x = let lists = chain_lists p l ks x in step-kept p (length (masses_in ks)) l (masses_in ks) old (stable p) lists.0 lists.1

chain_after : (p : Problem) (l : ℕ) (ks : List Level) (old : Masses) → Chain p l ks → Chain p l (after_step p l ks old)
chain_after p l ks old x = let kept = kept_by_step p l ks old x in chain_kept p l ks (step p l (masses_in ks) old).levels x kept.same kept.synced

pub keeps_levels : (p : Problem) (l : ℕ) (ks : List Level) (old : Masses) → AreLevels p l ks → AreLevels p l (after_step p l ks old)
keeps_levels p l ks old a = levels_of p l (after_step p l ks old) (chain_after p l ks old (links p l ks a))

boxes_with : (ks : List Level) (ms : List Masses) → SameCells (masses_in ks) ms → map (λ k. k.boxes) (with_masses ks ms) ≡ map (λ k. k.boxes) ks
boxes_with [] [] same = refl
boxes_with [] (m ∷ ms) same = absurd same
boxes_with (k ∷ ks) [] same = absurd same
boxes_with (k ∷ ks) (m ∷ ms) same = ap (λ (rest : List (List Extent)). k.boxes ∷ rest) (boxes_with ks ms same.1)

pub keeps_boxes : (p : Problem) (l : ℕ) (ks : List Level) (old : Masses) → AreLevels p l ks → map (λ k. k.boxes) (after_step p l ks old) ≡ map (λ k. k.boxes) ks
keeps_boxes p l ks old a = boxes_with ks (step p l (masses_in ks) old).levels (kept_by_step p l ks old (links p l ks a)).same

-- ---- two finer steps

-- new masses in the boxes of as many levels
masses_with : (ks : List Level) (ms : List Masses) → SameCells (masses_in ks) ms → masses_in (with_masses ks ms) ≡ ms
masses_with [] [] same = refl
masses_with [] (m ∷ ms) same = absurd same
masses_with (k ∷ ks) [] same = absurd same
masses_with (k ∷ ks) (m ∷ ms) same = ap (λ (rest : List Masses). m ∷ rest) (masses_with ks ms same.1)

masses_after : (p : Problem) (l : ℕ) (ks : List Level) (old : Masses) → Chain p l ks → masses_in (after_step p l ks old) ≡ (step p l (masses_in ks) old).levels
masses_after p l ks old x = masses_with ks (step p l (masses_in ks) old).levels (kept_by_step p l ks old x).same

pub gives_masses : (p : Problem) (l : ℕ) (ks : List Level) (old : Masses) → AreLevels p l ks → masses_of (after_step p l ks old) ≡ (step p l (masses_of ks) old).levels
gives_masses p l ks old a = masses_after p l ks old (links p l ks a)

pub two_finer : (p : Problem) (l : ℕ) (k fine : Level) (finer : List Level) (old : Masses) → AreLevels p (suc l) (fine ∷ finer)
    → let first : Stepped = step p (suc l) (masses_of (fine ∷ finer)) k.masses in
    let second : Stepped = step p (suc l) (masses_of (after_step p (suc l) (fine ∷ finer) k.masses)) k.masses in
    step p l (masses_of (k ∷ fine ∷ finer)) old ≡ over_finer p l k.masses old fine.masses first second
unfolding step_within
two_finer p l k fine finer old a =
    let x = links p (suc l) (fine ∷ finer) a in
    let first : Stepped = step p (suc l) (masses_in (fine ∷ finer)) k.masses in
    let count : length first.levels ≡ length (masses_in (fine ∷ finer)) = same_length (masses_in (fine ∷ finer)) first.levels (kept_by_step p (suc l) (fine ∷ finer) k.masses x).same in
    let same : masses_in (after_step p (suc l) (fine ∷ finer) k.masses) ≡ first.levels = masses_after p (suc l) (fine ∷ finer) k.masses x in
    let by_count : step_within p (length (masses_in (fine ∷ finer))) (suc l) first.levels k.masses ≡ step p (suc l) first.levels k.masses = ap (λ n. step_within p n (suc l) first.levels k.masses) (sym count) in
    let by_masses : step p (suc l) first.levels k.masses ≡ step p (suc l) (masses_in (after_step p (suc l) (fine ∷ finer) k.masses)) k.masses = ap (λ (ms : List Masses). step p (suc l) ms k.masses) (sym same) in
    ap (λ (r : Stepped). over_finer p l k.masses old fine.masses first r) (by_count ∙ by_masses)

-- ---- each step within the step from a state

-- the greatest mass after the step, counted in cells of level 0
top : Problem → State → ℕ
top p s = 2 ^ 30 + growth p.max_level * (s.step + 1) + rise (length (masses_in s.levels)) 0

record SubstepFacts (p : Problem) (t l : ℕ) (ks : List Level) (old : Masses) : Type 0 where
  chain : Chain p l ks
  bound : ℕ
  base : 2 ^ 30 ≤ bound
  up : AllUpTo l (masses_in ks) bound
  olds : OldUpTo l old bound
  old_masses : (c : Cell) → mass_of old c ≤ t
  room : bound + rise (length (masses_in ks)) l ≤ t

chain_rest : (p : Problem) (l : ℕ) (k : Level) (finer : List Level) → Chain p l (k ∷ finer) → Chain p (suc l) finer
chain_rest p l k [] x = tt
chain_rest p l k (fine ∷ more) x = x.3

raised_by_step : (p : Problem) (l : ℕ) (ks : List Level) (old : Masses) (b : ℕ) → 2 ^ 30 ≤ b → Chain p l ks → AllUpTo l (masses_in ks) b → OldUpTo l old b
    → IsRaised p l (masses_in ks) old (step p l (masses_in ks) old).levels (step p l (masses_in ks) old).fluxes (b + rise (length (masses_in ks)) l)
raised_by_step p l ks old b base x up olds =
    let lists = chain_lists p l ks x in
    step-raises p (length (masses_in ks)) l (masses_in ks) old b (omega arith) (stable p) lists.0 lists.1 up olds (sides_up p b base)

module _ (p : Problem) (s : State) (sound : IsSound p s) where
  whole_facts : SubstepFacts p (top p s) 0 s.levels no_masses
  unfolding top
  whole_facts =
      let b = 2 ^ 30 + growth p.max_level * (s.step + 1) in
      record {
        chain = state_chain p s sound.nested sound.synced;
        bound = b;
        base = omega arith;
        up = all_up 0 s.levels b (λ j c. let e : j ≡ 0 + j = omega arith in subst (λ i. 4 ^ i * mass_of (nth s.levels j).masses c ≤ 2 ^ 30 + growth p.max_level * (s.step + 1)) e (sound.bounded.at j c));
        olds = record { at = no_old b };
        old_masses = λ c. omega arith;
        room = omega arith;
      }

  first_facts : (l : ℕ) (k : Level) (finer : List Level) (old : Masses) → SubstepFacts p (top p s) l (k ∷ finer) old → SubstepFacts p (top p s) (suc l) finer k.masses
  first_facts l k finer old f = record {
    chain = chain_rest p l k finer f.chain;
    bound = f.bound;
    base = f.base;
    up = f.up.1;
    olds = finer_old l k.masses f.bound f.up.0;
    old_masses = λ c. omega (arith, weighs l (mass_of k.masses c) f.bound (f.up.0.at c), f.room);
    room = omega (arith, f.room);
  }

  second_facts : (l : ℕ) (k : Level) (finer : List Level) (old : Masses) → SubstepFacts p (top p s) l (k ∷ finer) old → SubstepFacts p (top p s) (suc l) (after_step p (suc l) finer k.masses) k.masses
  second_facts l k finer old f =
      let x = chain_rest p l k finer f.chain in
      let b = f.bound in
      let r = rise (length (masses_in finer)) (suc l) in
      let ms = (step p (suc l) (masses_in finer) k.masses).levels in
      let below = finer_old l k.masses b f.up.0 in
      let raised = raised_by_step p (suc l) finer k.masses b f.base x f.up.1 below in
      let same : masses_in (after_step p (suc l) finer k.masses) ≡ ms = masses_after p (suc l) finer k.masses x in
      let count : length ms ≡ length (masses_in finer) = same_length (masses_in finer) ms (kept_by_step p (suc l) finer k.masses x).same in
      let room : b + r + rise (length (masses_in finer)) (suc l) ≤ top p s = omega (arith, f.room) in
      record {
        chain = chain_after p (suc l) finer k.masses x;
        bound = b + r;
        base = omega (arith, f.base);
        up = subst (λ (ns : List Masses). AllUpTo (suc l) ns (b + r)) (sym same) raised.masses;
        olds = old_more (suc l) k.masses b (b + r) (omega arith) below;
        old_masses = λ c. omega (arith, weighs l (mass_of k.masses c) b (f.up.0.at c), f.room);
        room = subst (λ n. b + r + rise n (suc l) ≤ top p s) (sym (ap (λ (ns : List Masses). length ns) same ∙ count)) room;
      }

  facts : (l : ℕ) (ks : List Level) (old : Masses) → IsSubstep p s l ks old → SubstepFacts p (top p s) l ks old
  facts l ks old whole = whole_facts
  facts l ks old (first m k finer before h) = first_facts m k finer before (facts m (k ∷ finer) before h)
  facts l ks old (second m k finer before h) = second_facts m k finer before (facts m (k ∷ finer) before h)

pub of_levels : (p : Problem) (s : State) (l : ℕ) (ks : List Level) (old : Masses) → IsSound p s → IsSubstep p s l ks old → AreLevels p l ks
of_levels p s l ks old sound h = levels_of p l ks (facts p s sound l ks old h).chain

-- ---- numbers

top_small : (p : Problem) (s : State) → IsSound p s → s.step < p.steps → top p s < 2 ^ 31
unfolding top
top_small p s sound more =
    let few : length (masses_in s.levels) ≤ p.max_level + 1 = omega (arith, map_length s.levels, sound.few_levels) in
    omega (arith, rise_within (length (masses_in s.levels)) p.max_level few p.limits.greatest_max_level, bound_small p (s.step + 1) (omega arith))
  where
    map_length : (ks : List Level) → length (masses_in ks) ≡ length ks
    map_length [] = refl
    map_length (k ∷ ks) = ap suc (map_length ks)

module _ (p : Problem) (l : ℕ) (k : Level) (finer : List Level) (old : Masses) (t : ℕ) (small : t < 2 ^ 31) (f : SubstepFacts p t l (k ∷ finer) old) where
  fits_by : StepFits p l k finer old
  fits_by =
      let b = f.bound in
      let n = rise (length (masses_in (k ∷ finer))) l in
      let within : b ≤ t = omega (arith, f.room) in
      let one : b + 14 * 4 ^ l ≤ t = omega (arith, f.room) in
      let values : IsUpTo p l k.masses old b = values_up p l k.masses old b f.up.0 f.olds (sides_up p b f.base) in
      let inside = level_inside p l k (chain_first p l k finer f.chain) in
      let value : (c : Cell) → value_at p l k.masses old c < 2 ^ 31 = λ c. omega (arith, weighs l (value_at p l k.masses old c) b (values.at c), within, small) in
      let flux : (e : Face) → unsigned_abs (flux_at p l k.masses old e) < 2 ^ 31 = λ e. omega (arith, weighs l (unsigned_abs (flux_at p l k.masses old e)) b (flux_within p l k.masses old b (flux_at p l k.masses old) (plain_flows p l k.masses old b values) e), within, small) in
      let raised = raised_by_step p l (k ∷ finer) old b f.base f.chain f.up f.olds in
      let taken = step p l (masses_in (k ∷ finer)) old in
      record {
        masses = λ c. omega (arith, weighs l (mass_of k.masses c) b (f.up.0.at c), within, small);
        old_masses = λ c. omega (arith, f.old_masses c, small);
        values = value;
        products = λ e c. product_small (unsigned_abs (courant p l e)) (value_at p l k.masses old c) (omega (arith, courant_within p l e, p.limits.greatest_d)) (value c);
        fluxes = flux;
        sums = λ faces count few.
            let most : sum_to (λ i. unsigned_abs (flux_at p l k.masses old (faces i))) count ≤ count * 2 ^ 31 = sum_within (λ i. unsigned_abs (flux_at p l k.masses old (faces i))) (2 ^ 31) count (λ i. omega (arith, flux (faces i))) in
            omega (arith, most, few);
        covered = plain_covers p l k.masses old (stable p) inside;
        updated_masses = λ c. omega (arith, weighs l (mass_of (updated k.masses (flux_at p l k.masses old)) c) t (omega (arith, (top_raised p l k.masses old b (stable p) inside f.up.0 values).at c, one)), small);
        step_fluxes = λ e. omega (arith, weighs l (unsigned_abs (taken.fluxes e)) (b + n) (flux_within p l k.masses old (b + n) taken.fluxes raised.flows e), f.room, small);
        masses_after = λ j c. omega (arith, weighs (l + j) (mass_of (nth (with_masses (k ∷ finer) taken.levels) j).masses c) (b + n) (up_at l (k ∷ finer) taken.levels (b + n) raised.masses j c), f.room, small);
      }

pub fits : (p : Problem) (s : State) (l : ℕ) (k : Level) (finer : List Level) (old : Masses) → IsSound p s → s.step < p.steps → IsSubstep p s l (k ∷ finer) old → StepFits p l k finer old
fits p s l k finer old sound more h = fits_by p l k finer old (top p s) (top_small p s sound more) (facts p s sound l (k ∷ finer) old h)
