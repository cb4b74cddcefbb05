-- The level step as what registers and averaging down make of a step with plain fluxes.
use Rattle.std.proofs.Common.{◌≡◌, ℕ, Bool, true, cond, ℤ, pos, ◌+ℤ◌, ◌-ℤ◌, sym, ap, ◌∙◌, List, [], ◌∷◌, length}
use Rattle.std.specs.Prelude.{IsSome}
use Rattle.amr_box.specs.declared.Cell.{Cell}
use Rattle.amr_def.specs.declared.problem.Problem.{Problem}
use Rattle.amr_def.specs.State.{Masses, Level, is_covered, mass_of, children_mass}
use Rattle.amr_def.specs.Flux.{Fluxes, flux_at, net}
use Rattle.amr_def.specs.LevelStep.{Stepped, step}
use Rattle.amr_def.specs.Ledger.{first_of}
use Rattle.amr_def.proofs.Courants.{stable}
use Rattle.amr_def.proofs.LevelLists.{Synced}
use Rattle.amr_def.proofs.Stepping.{masses_in, chain_lists}
use Rattle.amr_def.proofs.Subcycle.{SameCells, covered_same, step-kept, bool_cases}
use Rattle.amr_def.proofs.TwoLevels.{refluxed}
use Rattle.amr_laws.specs.Levels.{AreLevels}
use Rattle.amr_laws.specs.Laws.{second_of}
use Rattle.amr_laws.proofs.Steps.{exact, links}

children_after : (m fine : Masses) (rest ms : List Masses) → SameCells (m ∷ fine ∷ rest) ms → Synced ms → (c : Cell) → is_covered fine c ≡ true → mass_of (first_of ms) c ≡ children_mass (second_of ms) c
children_after m fine rest [] same synced c covered = absurd same
children_after m fine rest (m' ∷ []) same synced c covered = absurd same.1
children_after m fine rest (m' ∷ fine' ∷ rest') same synced c covered = synced.0.at c (covered_same fine fine' same.1.0 c ∙ covered)

pub by_registers : (p : Problem) (l : ℕ) (k fine : Level) (ks : List Level) (old : Masses) (c : Cell) → AreLevels p l (k ∷ fine ∷ ks) → IsSome (k.masses c)
    → let r : Stepped = step p l (k.masses ∷ fine.masses ∷ masses_in ks) old in
    let plain : Fluxes = flux_at p l k.masses old in
    pos (mass_of (first_of r.levels) c) ≡ cond (is_covered fine.masses c) (pos (children_mass (second_of r.levels) c)) ((pos (mass_of k.masses c) +ℤ net plain c) +ℤ net (λ f. r.fluxes f -ℤ plain f) c)
by_registers p l k fine ks old c levels there =
    let lists = chain_lists p l (k ∷ fine ∷ ks) (links p l (k ∷ fine ∷ ks) levels) in
    let r : Stepped = step p l (k.masses ∷ fine.masses ∷ masses_in ks) old in
    let plain : Fluxes = flux_at p l k.masses old in
    let kept = step-kept p (length (masses_in (k ∷ fine ∷ ks))) l (masses_in (k ∷ fine ∷ ks)) old (stable p) lists.0 lists.1 in
    let children = pos (children_mass (second_of r.levels) c) in
    let register : ℤ = (pos (mass_of k.masses c) +ℤ net plain c) +ℤ net (λ f. r.fluxes f -ℤ plain f) c in
    bool_cases (is_covered fine.masses c)
    (λ e. ap pos (children_after k.masses fine.masses (masses_in ks) r.levels kept.same kept.synced c e) ∙ sym (ap (λ (t : Bool). cond t children register) e))
    (λ e. exact p l (fine ∷ ks) k old c levels there ∙ sym (refluxed (mass_of k.masses c) plain r.fluxes c) ∙ sym (ap (λ (t : Bool). cond t children register) e))
