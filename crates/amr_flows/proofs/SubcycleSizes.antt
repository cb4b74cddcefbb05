-- What a register gathers fits the integers of calls, and so does what it leaves in a cell.
use Rattle.std.proofs.Common.{◌≡◌, ℕ, suc, ◌+◌, ◌*◌, ◌^◌, ◌<◌, Bool, true, false, cond, ℤ, pos, negsuc, ◌+ℤ◌, neg_ℤ, ◌≤ℤ◌, ◌<ℤ◌, List, [], ◌∷◌, length, ap, subst, arith}
use Rattle.std.specs.Prelude.{is_some, unsigned_abs}
use Rattle.std.specs.List.{Contains}
use Rattle.std.proofs.lemmas.Int.{ints}
use Rattle.amr_box.specs.declared.Cell.{Cell}
use Rattle.amr_box.specs.declared.Face.{Face}
use Rattle.amr_box.specs.declared.Axis.{Axis}
use Rattle.amr_box.specs.declared.Axis.TheVariants.{X, Y}
use Rattle.amr_def.specs.declared.problem.Problem.{Problem}
use Rattle.amr_def.specs.Domain.{domain}
use Rattle.amr_def.specs.State.{Level, Masses, State, is_covered, mass_of}
use Rattle.amr_def.specs.Flux.{Fluxes, face, flux_at, net, updated}
use Rattle.amr_def.specs.LevelStep.{Stepped, step, through_children}
use Rattle.amr_def.specs.Ledger.{first_of}
use Rattle.amr_def.specs.Facts.{IsSound}
use Rattle.amr_def.proofs.Stepping.{first_kept}
use Rattle.amr_def.proofs.Subcycle.{is_false, updated_exact}
use Rattle.amr_laws.specs.Levels.{AreLevels, masses_of}
use Rattle.amr_laws.specs.Substeps.{IsSubstep, StepFits, after_step}
use Rattle.amr_laws.specs.Substeps.{first, second}
use Rattle.amr_laws.proofs.Steps.{exact}
use Rattle.amr_laws.proofs.Substeps.{fits, gives_masses, of_levels}
use Rattle.amr_register.specs.CoarseFlows.{edge_flows}
use Rattle.amr_register.specs.RegisterCells.{is_coarse_fine, is_register_cell, register_cells}
use Rattle.amr_register.proofs.CellLists.{of_level, where_passes}
use Rattle.amr_register.proofs.CollectLaws.{none_covered}
use Rattle.amr_flows.specs.Words.{child_flows}
use Rattle.amr_flows.specs.Subcycle.{GatheredFits, RefluxFits, gathered}
use Rattle.amr_flows.proofs.Subcycle.{net_gathered, step_fluxes}
use Rattle.amr_flows.proofs.SubcycleSteps.{step_count}

-- ---- sizes

pub record IsWithin (n : ℕ) (z : ℤ) : Type 0 where
  pub low : neg_ℤ (pos n) ≤ℤ z
  pub high : z <ℤ pos n

pub within_from : (n : ℕ) (z : ℤ) → unsigned_abs z < n → IsWithin n z
within_from n (pos a) h = record { low = omega (arith, ints, h); high = omega (arith, ints, h) }
within_from n (negsuc a) h = record { low = omega (arith, ints, h); high = omega (arith, ints, h) }

size_from : (n : ℕ) (z : ℤ) → neg_ℤ (pos n) <ℤ z → z <ℤ pos n → unsigned_abs z < n
size_from n (pos a) h k = omega (arith, ints, k)
size_from n (negsuc a) h k = omega (arith, ints, h)

-- four fluxes
pub net_size : (n : ℕ) (e : Fluxes) (c : Cell) → ((f : Face) → IsWithin n (e f)) → unsigned_abs (net e c) < 4 * n
unfolding net
net_size n e c h =
    let w = h (face X c.x c.y) in
    let a = h (face X (c.x +ℤ pos 1) c.y) in
    let s = h (face Y c.x c.y) in
    let o = h (face Y c.x (c.y +ℤ pos 1)) in
    size_from (4 * n) (net e c) (omega (arith, ints, w.low, a.high, s.low, o.high)) (omega (arith, ints, w.high, a.low, s.high, o.low))

pub cond_within : (n : ℕ) (t : Bool) (z : ℤ) → IsWithin n z → IsWithin n (cond t z (pos 0))
cond_within n true z h = h
cond_within n false z h = record { low = omega (arith, ints); high = omega (arith, ints, h.low, h.high) }

children_within : (n : ℕ) (e : Fluxes) (a : Axis) (x y : ℤ) → ((f : Face) → IsWithin n (e f)) → IsWithin (n + n) (through_children e a x y)
children_within n e X x y h =
    let a = h (face X (x +ℤ x) (y +ℤ y)) in
    let b = h (face X (x +ℤ x) (y +ℤ y +ℤ pos 1)) in
    record { low = omega (arith, ints, a.low, b.low); high = omega (arith, ints, a.high, b.high) }
children_within n e Y x y h =
    let a = h (face Y (x +ℤ x) (y +ℤ y)) in
    let b = h (face Y (x +ℤ x +ℤ pos 1) (y +ℤ y)) in
    record { low = omega (arith, ints, a.low, b.low); high = omega (arith, ints, a.high, b.high) }

pub children_size : (p : Problem) (l : ℕ) (fine : Masses) (e : Fluxes) (c : Cell) → ((f : Face) → unsigned_abs (e f) < 2 ^ 31) → unsigned_abs (net (child_flows p l fine e) c) < 2 ^ 34
unfolding child_flows
children_size p l fine e c h = net_size (2 ^ 31 + 2 ^ 31) (child_flows p l fine e) c (λ f. cond_within _ (is_coarse_fine (domain p l) fine f) _ (children_within (2 ^ 31) e f.axis f.x f.y (λ g. within_from _ _ (h g))))

edges_size : (p : Problem) (l : ℕ) (m old fine : Masses) (c : Cell) → ((f : Face) → unsigned_abs (flux_at p l m old f) < 2 ^ 31) → unsigned_abs (net (edge_flows p l m old fine) c) < 2 ^ 33
unfolding edge_flows
edges_size p l m old fine c h = net_size (2 ^ 31) (edge_flows p l m old fine) c (λ f. cond_within _ (is_coarse_fine (domain p l) fine f) _ (within_from _ _ (h f)))

-- the own fluxes of the first of some levels
own_size : (p : Problem) (s : State) (l : ℕ) (ks : List Level) (old : Masses) → IsSound p s → s.step < p.steps → IsSubstep p s l ks old → 0 < length ks → (f : Face) → unsigned_abs (flux_at p l (first_of (masses_of ks)) old f) < 2 ^ 31
own_size p s l [] old sound more sub some f = absurd (omega arith)
own_size p s l (k ∷ finer) old sound more sub some f = (fits p s l k finer old sound more sub).fluxes f

-- ---- a register cell

module _ (p : Problem) (s : State) (l : ℕ) (k fine : Level) (ks : List Level) (old : Masses) (c : Cell) (sound : IsSound p s) (more : s.step < p.steps) (sub : IsSubstep p s l (k ∷ fine ∷ ks) old)
    (listed : Contains (register_cells p l k.masses fine.masses) c) where
  abbrev between : Masses
  between = first_of (step p (suc l) (masses_of (fine ∷ ks)) k.masses).levels

  abbrev plain : Fluxes
  plain = flux_at p l k.masses old

  abbrev result : Stepped
  result = step p l (masses_of (k ∷ fine ∷ ks)) old

  levels : AreLevels p l (k ∷ fine ∷ ks)
  levels = of_levels p s l (k ∷ fine ∷ ks) old sound sub

  small : StepFits p l k (fine ∷ ks) old
  small = fits p s l k (fine ∷ ks) old sound more sub

  passes : is_register_cell (domain p l) k.masses fine.masses c ≡ true
  passes = where_passes (domain p l) (is_register_cell (domain p l) k.masses fine.masses) c listed

  there : is_some (k.masses c) ≡ true
  there = of_level (domain p l) k.masses fine.masses c passes

  free : is_covered fine.masses c ≡ false
  free = is_false _ (λ h. none_covered (domain p l) k.masses fine.masses c h passes)

  -- what is gathered makes the mass after the step
  sum : pos (mass_of (updated k.masses plain) c) +ℤ gathered p l k old fine.masses between c ≡ pos (mass_of (first_of result.levels) c)
  sum =
      let whole = exact p l (fine ∷ ks) k old c levels there in
      let fluxes = ap (λ (e : Fluxes). net e c) (step_fluxes p l k fine ks old levels) in
      omega (arith, ints, whole, fluxes, net_gathered p l k fine ks old levels c there free, updated_exact k.masses plain c there (small.covered c there))

  after_small : mass_of (first_of result.levels) c < 2 ^ 31
  after_small = subst (λ (m : Masses). mass_of m c < 2 ^ 31) (first_kept k (fine ∷ ks) result.levels) (small.masses_after 0 c)

  between_size : (f : Face) → unsigned_abs (flux_at p (suc l) between k.masses f) < 2 ^ 31
  between_size f =
      let count = step_count p (suc l) (fine ∷ ks) k.masses levels.3 in
      subst (λ (ms : List Masses). unsigned_abs (flux_at p (suc l) (first_of ms) k.masses f) < 2 ^ 31) (gives_masses p (suc l) (fine ∷ ks) k.masses levels.3)
      (own_size p s (suc l) (after_step p (suc l) (fine ∷ ks) k.masses) k.masses sound more (second l k (fine ∷ ks) old sub) (omega (arith, count)) f)

  pub gathered_fits : GatheredFits p l k old fine.masses between c
  gathered_fits = record {
    kept = omega (arith, ints, sum);
    fits = omega (arith, ints, sum, after_small);
    first = children_size p l fine.masses _ c (own_size p s (suc l) (fine ∷ ks) k.masses sound more (first l k (fine ∷ ks) old sub) (omega arith));
    second = children_size p l fine.masses _ c between_size;
    edges = edges_size p l k.masses old fine.masses c small.fluxes;
  }

pub reflux_fits : RefluxFits
reflux_fits p s l k fine ks old c sound more sub listed = gathered_fits p s l k fine ks old c sound more sub listed
