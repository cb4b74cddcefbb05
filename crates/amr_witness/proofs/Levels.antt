-- Lists of levels as ordered maps: the level step of one, taken apart at its first level.
use Rattle.std.proofs.Common.{◌≡◌, ℕ, zero, suc, ◌+◌, ◌*◌, ◌^◌, ◌<◌, ◌≤◌, true, false, ℤ, pos, ◌+ℤ◌, is_some, refl, sym, ap, subst, ◌∙◌, arith, add-one, List, [], ◌∷◌, length}
use Rattle.std.specs.declared.option.Option.{Option}
use Rattle.std.specs.declared.option.Option.TheVariants.{Some}
use Rattle.std.specs.Option.{option_map, unwrap_or}
use Rattle.std.specs.Map.{lookup}
use Rattle.std.specs.BTreeMap.{BTreeMap, is_at, IsEmpty}
use Rattle.std.proofs.Math.Nat.{pow-suc}
use Rattle.amr_box.specs.declared.Cell.{Cell}
use Rattle.amr_box.specs.declared.Face.{Face}
use Rattle.amr_box.specs.Cells.{cell_cmp, at_least_zero}
use Rattle.amr_def.specs.declared.problem.Problem.{Problem}
use Rattle.amr_def.specs.State.{Masses, mass_of}
use Rattle.amr_def.specs.Flux.{Fluxes, flux_at, updated, net}
use Rattle.amr_def.specs.LevelStep.{step, step_within}
use Rattle.amr_def.specs.Ledger.{first_of}
use Rattle.amr_def.proofs.LevelLists.{Nested, IsInside}
use Rattle.amr_witness.specs.declared.PlainLevel.{PlainLevel}
use Rattle.amr_witness.specs.Maps.{boxes_in, masses_in, masses_of}
use Rattle.amr_witness.specs.Ready.{AreReadyToStep, HasMasses, flux_bound}
use Rattle.amr_witness.specs.Parts.{IsInDomain, beside_covered, new_mass, through_both}
use Rattle.amr_witness.proofs.StepLaws.{plain_flux, refluxed, levels_after}
use Rattle.amr_witness.proofs.Readiness.{finer_ready, middle_ready}
use Rattle.amr_witness.proofs.Values.{mass_up}

-- ---- no level

pub no_flux : (p : Problem) (l : ℕ) (ks : List PlainLevel) (old : Masses) (f : Face) → length ks ≡ 0 → pos 0 ≡ (step p l (masses_in ks) old).fluxes f
unfolding step_within
no_flux p l [] old f none = refl
no_flux p l (k ∷ ks) old f none = absurd (omega arith)

pub no_levels : (p : Problem) (l : ℕ) (ks rs : List PlainLevel) (old : Masses) → length ks ≡ 0 → rs ≡ [] → masses_in rs ≡ (step p l (masses_in ks) old).levels
unfolding step_within
no_levels p l [] rs old none empty = ap masses_in empty
no_levels p l (k ∷ ks) rs old none empty = absurd (omega arith)

pub no_boxes : (ks rs : List PlainLevel) → length ks ≡ 0 → rs ≡ [] → boxes_in rs ≡ boxes_in ks
no_boxes [] rs none empty = ap boxes_in empty
no_boxes (k ∷ ks) rs none empty = absurd (omega arith)

pub no_masses_updated : (next : BTreeMap Cell ℕ) (ks : List PlainLevel) (e : Fluxes) → IsEmpty next → length ks ≡ 0 → HasMasses next (updated (first_of (masses_in ks)) e)
unfolding updated
no_masses_updated next [] e empty none = record { at = λ q. ap (λ (es : List (Cell × ℕ)). lookup (is_at (cell_cmp q)) es) empty }
no_masses_updated next (k ∷ ks) e empty none = absurd (omega arith)

-- ---- a first level

module _ (p : Problem) (l : ℕ) (ks : List PlainLevel) (k : PlainLevel) (rest : List PlainLevel) (old : Masses) (parts : ks ≡ k ∷ rest) where
  pub first_ready : AreReadyToStep p l (masses_in ks) old → AreReadyToStep p l (masses_of k.masses ∷ masses_in rest) old
  first_ready r = subst (λ (xs : List PlainLevel). AreReadyToStep p l (masses_in xs) old) parts r

  pub rest_ready : AreReadyToStep p l (masses_in ks) old → AreReadyToStep p (l + 1) (masses_in rest) (masses_of k.masses)
  rest_ready r = subst (λ i. AreReadyToStep p i (masses_in rest) (masses_of k.masses)) (sym (add-one l)) (finer_ready p l (masses_of k.masses) (masses_in rest) old (first_ready r))

  pub rest_middle_ready : AreReadyToStep p l (masses_in ks) old → AreReadyToStep p (l + 1) (step p (l + 1) (masses_in rest) (masses_of k.masses)).levels (masses_of k.masses)
  rest_middle_ready r = subst (λ i. AreReadyToStep p i (step p i (masses_in rest) (masses_of k.masses)).levels (masses_of k.masses)) (sym (add-one l)) (middle_ready p l (masses_of k.masses) (masses_in rest) old (first_ready r))

  pub plain_in : (f : Face) → beside_covered p l (masses_in rest) f ≡ false → flux_at p l (masses_of k.masses) old f ≡ (step p l (masses_in ks) old).fluxes f
  plain_in f none =
      sym (plain_flux p l (masses_of k.masses) (masses_in rest) old f none) ∙ ap (λ (xs : List PlainLevel). (step p l (masses_in xs) old).fluxes f) (sym parts)

  pub refluxed_in : (f : Face) → beside_covered p l (masses_in rest) f ≡ true → through_both p (l + 1) (masses_in rest) (masses_of k.masses) f ≡ (step p l (masses_in ks) old).fluxes f
  refluxed_in f covered =
      ap (λ i. through_both p i (masses_in rest) (masses_of k.masses) f) (add-one l) ∙ sym (refluxed p l (masses_of k.masses) (masses_in rest) old f covered)
      ∙ ap (λ (xs : List PlainLevel). (step p l (masses_in xs) old).fluxes f) (sym parts)

  pub first_is : first_of (masses_in ks) ≡ masses_of k.masses
  first_is = ap (λ (xs : List PlainLevel). first_of (masses_in xs)) parts

  pub after_in : (first all : List PlainLevel) (new : PlainLevel) → HasMasses new.masses (updated (first_of (masses_in ks)) (step p l (masses_in ks) old).fluxes) → masses_in first ≡ (step p (l + 1) (masses_in rest) (masses_of k.masses)).levels
      → masses_in all ≡ (step p (l + 1) (masses_in first) (masses_of k.masses)).levels → masses_in (new ∷ all) ≡ (step p l (masses_in ks) old).levels
  after_in first all new has one two =
      let m = masses_of k.masses in
      let ms = masses_in rest in
      let later : masses_in all ≡ (step p (suc l) (step p (suc l) ms m).levels m).levels =
      two ∙ ap (λ (xs : List Masses). (step p (l + 1) xs m).levels) one ∙ ap (λ i. (step p i (step p i ms m).levels m).levels) (add-one l) in
      let same : masses_of new.masses ≡ updated (first_of (masses_in ks)) (step p l (masses_in ks) old).fluxes = λ i c. has.at c i in
      let head : masses_of new.masses ≡ updated m (step p l (m ∷ ms) old).fluxes =
      same ∙ ap (λ (xs : List PlainLevel). updated (first_of (masses_in xs)) (step p l (masses_in xs) old).fluxes) parts in
      let both : masses_in (new ∷ all) ≡ updated m (step p l (m ∷ ms) old).fluxes ∷ (step p (suc l) (step p (suc l) ms m).levels m).levels = λ i. head i ∷ later i in
      both ∙ sym (levels_after p l m ms old) ∙ ap (λ (xs : List PlainLevel). (step p l (masses_in xs) old).levels) (sym parts)

pub boxes_after : (ks : List PlainLevel) (k : PlainLevel) (rest first all : List PlainLevel) (new : PlainLevel) → ks ≡ k ∷ rest → new.boxes.items ≡ k.boxes.items → boxes_in first ≡ boxes_in rest → boxes_in all ≡ boxes_in first → boxes_in (new ∷ all) ≡ boxes_in ks
boxes_after ks k rest first all new parts same one two =
    let later : boxes_in all ≡ boxes_in rest = two ∙ one in
    let both : boxes_in (new ∷ all) ≡ boxes_in (k ∷ rest) = λ i. same i ∷ later i in
    both ∙ ap boxes_in (sym parts)

-- ---- a mass of the first level

inside_first : (p : Problem) (l : ℕ) (m : Masses) (ms : List Masses) → Nested p l (m ∷ ms) → IsInside p l m
inside_first p l m [] n = n
inside_first p l m (fine ∷ finer) n = n.0

is_there : (o : Option ℕ) (v : ℕ) → o ≡ Some v → is_some o ≡ true
is_there o v e = ap is_some e

pub cell_inside : (p : Problem) (l : ℕ) (m : Masses) (ms : List Masses) (old : Masses) (c : Cell) (v : ℕ) → AreReadyToStep p l (m ∷ ms) old → m c ≡ Some v → IsInDomain p l c
cell_inside p l m ms old c v r there =
    let inside = (inside_first p l m ms r.nested).at c (is_there (m c) v there) in
    record { west = inside.west; south = inside.south; east = inside.east; north = inside.north }

pub mass_small : (p : Problem) (l : ℕ) (m : Masses) (ms : List Masses) (old : Masses) (c : Cell) (v : ℕ) → AreReadyToStep p l (m ∷ ms) old → m c ≡ Some v → v < 2 ^ 31
mass_small p l m ms old c v r there =
    let is : mass_of m c ≡ v = ap (λ (o : Option ℕ). unwrap_or o 0) there in
    omega (arith, is, mass_up p l m old ms r c, r.room)

pub updated_at : (m : Masses) (e : Fluxes) (c : Cell) (v : ℕ) (z : ℤ) → m c ≡ Some v → z ≡ net e c → updated m e c ≡ Some (new_mass v z)
unfolding updated
updated_at m e c v z there is = ap (option_map (λ w. at_least_zero (pos w +ℤ net e c))) there ∙ ap (λ (y : ℤ). Some (new_mass v y)) (sym is)

-- ---- bounds

pub four_least : (n : ℕ) → 1 ≤ n → n ≤ 5 → 4 ≤ 4 ^ n
four_least zero some few = absurd (omega arith)
four_least (suc zero) some few = omega arith
four_least (suc (suc zero)) some few = omega arith
four_least (suc (suc (suc zero))) some few = omega arith
four_least (suc (suc (suc (suc zero)))) some few = omega arith
four_least (suc (suc (suc (suc (suc zero))))) some few = omega arith
four_least (suc (suc (suc (suc (suc (suc n)))))) some few = absurd (omega arith)

pub bound_more : (n : ℕ) → flux_bound (n + 1) ≡ 4 * flux_bound n
bound_more n =
    let e : 4 ^ (n + 1) ≡ 4 ^ n * 4 = ap (λ k. 4 ^ k) (add-one n) ∙ pow-suc 4 n in
    omega (arith, e)
