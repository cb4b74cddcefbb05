-- The problem of a species alone: it has the same levels, so the same states are sound for it; and the only species is the whole problem.
use Rattle.std.proofs.Common.{◌≡◌, ℕ, zero, suc, ◌+◌, ◌*◌, ◌^◌, ◌<◌, ◌≤◌, true, cond, refl, sym, ap, subst, ◌∙◌, arith, List, [], ◌∷◌, ◌==◌, length, map}
use Rattle.std.specs.Prelude.{nat_lt}
use Rattle.std.proofs.Props.{props}
use Rattle.std.specs.List.{filter, list_all}
use Rattle.std.proofs.lemmas.Bool.{and_parts as both_parts}
use Rattle.std.proofs.lemmas.Bool.Decides.{nat_tests}
use Rattle.amr_box.specs.declared.Cell.{Cell}
use Rattle.amr_def.specs.declared.problem.Problem.{Problem}
use Rattle.amr_def.specs.declared.problem.Block.{Block}
use Rattle.amr_def.specs.declared.problem.Sides.{Sides}
use Rattle.amr_def.specs.declared.problem.Sides.TheVariants.{Periodic, Open}
use Rattle.amr_def.specs.Limits.{Limits, is_of_species_below}
use Rattle.amr_def.specs.OneSpecies.{alone, blocks_of, is_of, sides_of}
use Rattle.amr_def.specs.SpeciesLimits.{limits_of_species}
use Rattle.amr_def.specs.Domain.{Domain, domain, domain_box, in_domain, is_periodic}
use Rattle.amr_def.specs.State.{Level, Masses, State, level_at, mass_of, no_masses}
use Rattle.amr_def.specs.Ledger.{mass_at, sum_to, total_mass}
use Rattle.amr_def.specs.Run.{stepped}
use Rattle.amr_def.specs.Facts.{IsLevel, IsNestedIn, IsSound, growth}
use Rattle.amr_def.specs.Species.{boxes_in, of_species}
use Rattle.amr_def.proofs.Chain.{state_chain}
use Rattle.amr_def.proofs.SoundStep.{step-sound}
use Rattle.amr_laws.proofs.Substeps.{keeps_boxes, levels_of}

-- ---- problems with the same levels have the same sound states

pub record HasLevelsOf (p q : Problem) : Type 0 where
  pub steps : p.steps ≡ q.steps
  pub max_level : p.max_level ≡ q.max_level
  pub blocking : p.blocking ≡ q.blocking
  pub domains : (l : ℕ) → domain p l ≡ domain q l

module _ (p q : Problem) (same : HasLevelsOf p q) where
  mass_over : Masses → Domain → ℕ
  mass_over m d = sum_to (λ y. sum_to (λ x. mass_at m x y) d.columns) d.rows

  mass_same : (m : Masses) → total_mass p m ≡ total_mass q m
  unfolding total_mass mass_over
  mass_same m = ap (mass_over m) (same.domains 0)

  level_same : (l : ℕ) (k : Level) → IsLevel p l k → IsLevel q l k
  level_same l k x = record {
    some = x.some;
    proper = x.proper;
    disjoint = x.disjoint;
    inside = λ c h. subst (λ (d : Domain). in_domain d c ≡ true) (same.domains l) (x.inside c h);
    filled = x.filled;
  }

  pub sound_same : (s : State) → IsSound p s → IsSound q s
  sound_same s x = record {
    within = subst (λ n. s.step ≤ n) same.steps x.within;
    base = x.base ∙ ap (λ (d : Domain). domain_box d ∷ []) (same.domains 0);
    some_level = x.some_level;
    few_levels = subst (λ n. length s.levels ≤ n + 1) same.max_level x.few_levels;
    nested = record {
      each = λ l h. level_same l (level_at s l) (x.nested.each l h);
      nested = λ l h.
          subst (λ (d : Domain). IsNestedIn d q.blocking (level_at s (l + 1)).boxes (level_at s l).boxes) (same.domains l)
          (subst (λ b. IsNestedIn (domain p l) b (level_at s (l + 1)).boxes (level_at s l).boxes) same.blocking (x.nested.nested l h));
    };
    synced = x.synced;
    bounded = record { at = λ l c. subst (λ n. 4 ^ l * mass_of (level_at s l).masses c ≤ 2 ^ 30 + growth n * (s.step + 1)) same.max_level (x.bounded.at l c) };
    telescoped = record {
      count = x.telescoped.count;
      no_inflow = x.telescoped.no_inflow;
      no_outflow = x.telescoped.no_outflow;
      each = x.telescoped.each;
      last = x.telescoped.last ∙ mass_same (level_at s 0).masses;
    };
    small_rows = x.small_rows;
  }

-- ---- a species alone

periodic_of : (k : ℕ) (sides : Sides) → is_periodic (sides_of k sides) ≡ is_periodic sides
periodic_of k Periodic = refl
periodic_of zero (Open low high) = refl
periodic_of (suc k) (Open low high) = refl

pub domain_of_species : (p : Problem) (k l : ℕ) → domain (of_species p k) l ≡ domain p l
unfolding of_species
domain_of_species p k l i = record { columns = (domain p l).columns; rows = (domain p l).rows; wrap_x = periodic_of k p.x_sides i; wrap_y = periodic_of k p.y_sides i }

has_levels : (p : Problem) (k : ℕ) → HasLevelsOf p (of_species p k)
unfolding of_species
has_levels p k = record { steps = refl; max_level = refl; blocking = refl; domains = λ l. sym (domain_of_species p k l) }

gives_levels : (p : Problem) (k : ℕ) → HasLevelsOf (of_species p k) p
unfolding of_species
gives_levels p k = record { steps = refl; max_level = refl; blocking = refl; domains = domain_of_species p k }

pub sound_of_species : (p : Problem) (k : ℕ) (s : State) → IsSound p s → IsSound (of_species p k) s
sound_of_species p k s = sound_same p (of_species p k) (has_levels p k) s

pub sound_by_species : (p : Problem) (k : ℕ) (s : State) → IsSound (of_species p k) s → IsSound p s
sound_by_species p k s = sound_same (of_species p k) p (gives_levels p k) s

-- ---- a step of a species

pub species_step : (p : Problem) (k : ℕ) (s : State) → (stepped (of_species p k) s).step ≡ s.step + 1
unfolding stepped
species_step p k s = refl

pub species_step-sound : (p : Problem) (k : ℕ) (s : State) → IsSound p s → s.step < p.steps → IsSound p (stepped (of_species p k) s)
species_step-sound p k s sound more =
    let q = of_species p k in
    sound_by_species p k (stepped q s) (step-sound q s (sound_of_species p k s sound) (subst (λ n. s.step < n) (has_levels p k).steps more))

pub step_keeps_boxes : (p : Problem) (s : State) → IsSound p s → boxes_in (stepped p s) ≡ boxes_in s
unfolding stepped
step_keeps_boxes p s sound = keeps_boxes p 0 s.levels no_masses (levels_of p 0 s.levels (state_chain p s sound.nested sound.synced))

pub species_step-boxes : (p : Problem) (k : ℕ) (s : State) → IsSound p s → boxes_in (stepped (of_species p k) s) ≡ boxes_in s
species_step-boxes p k s sound = step_keeps_boxes (of_species p k) s (sound_of_species p k s sound)

-- ---- the only species

-- what of a problem its species change
record Parts : Type 0 where
  x_sides : Sides
  y_sides : Sides
  blocks : List Block
  species : ℕ

abbrev LimitsWith : Problem → Parts → Type 0
LimitsWith p f =
    Limits p.version p.name p.nx p.ny p.steps p.cx p.cy p.d p.shear_x p.shear_y f.x_sides f.y_sides p.max_level p.tag p.n_error_buf p.efficiency p.min_width
    p.regrid_int p.blocking p.max_grid_size f.blocks f.species

-- limits have one proof
limits_once : (p : Problem) (f : Parts) (l k : LimitsWith p f) → l ≡ k
limits_once p f = hlevel props

abbrev with_parts : (p : Problem) (f : Parts) → LimitsWith p f → Problem
with_parts p f l = record p { x_sides = f.x_sides; y_sides = f.y_sides; blocks = f.blocks; species = f.species; limits = l }

same_with : (p : Problem) (f g : Parts) → f ≡ g → (l : LimitsWith p f) (k : LimitsWith p g) → with_parts p f l ≡ with_parts p g k
same_with p f g is l = subst (λ (h : Parts). (k : LimitsWith p h) → with_parts p f l ≡ with_parts p h k) is (λ k. ap (with_parts p f) (limits_once p f l k))

sides_first : (sides : Sides) → sides_of 0 sides ≡ sides
sides_first Periodic = refl
sides_first (Open low high) = refl

none_below_one : (n : ℕ) → nat_lt n 1 ≡ true → n ≡ 0
none_below_one n h = grind (arith, nat_tests)

blocks_first : (bs : List Block) → list_all (is_of_species_below 1) bs ≡ true → blocks_of 0 bs ≡ bs
blocks_first [] h = refl
blocks_first (b ∷ bs) h =
    let parts = both_parts (is_of_species_below 1 b) (list_all (is_of_species_below 1) bs) h in
    let first : b.species ≡ 0 = none_below_one b.species parts.0 in
    ap (λ t. map alone (cond t (b ∷ filter (is_of 0) bs) (filter (is_of 0) bs))) (ap (λ n. n == 0) first)
    ∙ (λ i. record b { species = sym first i } ∷ blocks_first bs parts.1 i)

pub only_species : (p : Problem) → p.species ≡ 1 → of_species p 0 ≡ p
unfolding of_species
only_species p one =
    let all : list_all (is_of_species_below 1) p.blocks ≡ true = subst (λ n. list_all (is_of_species_below n) p.blocks ≡ true) one p.limits.blocks_species in
    let before : Parts = record { x_sides = sides_of 0 p.x_sides; y_sides = sides_of 0 p.y_sides; blocks = blocks_of 0 p.blocks; species = 1 } in
    let whole : Parts = record { x_sides = p.x_sides; y_sides = p.y_sides; blocks = p.blocks; species = p.species } in
    let same : before ≡ whole = λ i. record { x_sides = sides_first p.x_sides i; y_sides = sides_first p.y_sides i; blocks = blocks_first p.blocks all i; species = sym one i } in
    same_with p before whole same (limits_of_species p 0) p.limits
