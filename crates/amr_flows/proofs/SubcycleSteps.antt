-- What steps of levels keep, and where the flux of a level in a step is its own.
use Rattle.std.proofs.Common.{◌≡◌, ◌∙◌, ℕ, suc, ◌+◌, ◌<◌, Bool, true, false, List, [], ◌∷◌, length, refl, sym, ap, arith}
use Rattle.std.specs.Prelude.{◌&&◌, cond, is_some, not, pos}
use Rattle.amr_box.specs.declared.Cell.{Cell}
use Rattle.amr_box.specs.declared.Face.{Face}
use Rattle.amr_box.proofs.Tests.{opposite}
use Rattle.amr_def.specs.declared.problem.Problem.{Problem}
use Rattle.amr_def.specs.Domain.{Domain, cells_where, domain, home_cell, in_domain}
use Rattle.amr_def.specs.State.{Level, Masses, is_covered, no_masses}
use Rattle.amr_def.specs.Flux.{Fluxes, flux_at, high_cell, low_cell}
use Rattle.amr_def.specs.LevelStep.{Stepped, at_top, over_finer, step, step_within, through_children}
use Rattle.amr_def.specs.Ledger.{first_of}
use Rattle.amr_def.proofs.Chain.{chain_first}
use Rattle.amr_def.proofs.Courants.{stable}
use Rattle.amr_def.proofs.Greatest.{same_length}
use Rattle.amr_def.proofs.Nesting.{nest}
use Rattle.amr_def.proofs.Stepping.{chain_lists, count_kept, masses_in}
use Rattle.amr_def.proofs.Subcycle.{HasSameCells, KeepsLevels, SameCells, covered_same, is_false, step-kept}
use Rattle.amr_laws.specs.Levels.{AreLevels, masses_of}
use Rattle.amr_laws.specs.Sides.{is_uncovered, over_levels}
use Rattle.amr_laws.specs.Substeps.{after_step}
use Rattle.amr_laws.proofs.Steps.{beside, links}
use Rattle.amr_laws.proofs.Substeps.{gives_masses}
use Rattle.amr_register.specs.CoarseFlows.{edge_flows}
use Rattle.amr_register.specs.RegisterCells.{has_neighbour_where, is_coarse_fine, is_register_cell}
use Rattle.amr_flows.specs.Words.{child_flows}
use Rattle.amr_flows.specs.Subcycle.{CoverAlike, flows_of_step}

-- ---- what a step keeps

pub kept_by : (p : Problem) (l : ℕ) (ks : List Level) (old : Masses) → AreLevels p l ks → KeepsLevels p l (masses_of ks) old (step p l (masses_of ks) old).levels (step p l (masses_of ks) old).fluxes
kept_by p l ks old a = let lists = chain_lists p l ks (links p l ks a) in step-kept p (length (masses_in ks)) l (masses_in ks) old (stable p) lists.0 lists.1

heads_same : (ms ms' : List Masses) → SameCells ms ms' → HasSameCells (first_of ms) (first_of ms')
heads_same [] [] h = record { at = λ c. refl }
heads_same [] (m' ∷ ms') h = absurd h
heads_same (m ∷ ms) [] h = absurd h
heads_same (m ∷ ms) (m' ∷ ms') h = h.0

-- the coarsest level keeps its cells
pub step_cells : (p : Problem) (l : ℕ) (ks : List Level) (old : Masses) → AreLevels p l ks → HasSameCells (first_of (masses_of ks)) (first_of (step p l (masses_of ks) old).levels)
step_cells p l ks old a = heads_same _ _ (kept_by p l ks old a).same

-- as many levels stay
pub step_count : (p : Problem) (l : ℕ) (ks : List Level) (old : Masses) → AreLevels p l ks → length (after_step p l ks old) ≡ length ks
step_count p l ks old a = count_kept ks (step p l (masses_of ks) old).levels (kept_by p l ks old a).same

-- by which cells a level covers
cover_alike : (fine after : Masses) → is_covered after ≡ is_covered fine → CoverAlike fine after
unfolding is_coarse_fine is_register_cell child_flows edge_flows
cover_alike fine after e = record {
  covered = e;
  register = λ p l m i. cells_where (domain p l) (λ c. is_some (m c) && (not (e i c) && has_neighbour_where (domain p l) (e i) c));
  children = λ p l f i g. cond (is_edge (domain p l) (e i) g) (through_children f g.axis g.x g.y) (pos 0);
  edges = λ p l m old i g. cond (is_edge (domain p l) (e i) g) (flux_at p l m old g) (pos 0);
}
  where
    is_edge : Domain → (Cell → Bool) → Face → Bool
    is_edge d covered g = cond (covered (home_cell d (low_cell g))) (not (covered (home_cell d (high_cell g)))) (covered (home_cell d (high_cell g)))

pub keeps_cover : (p : Problem) (l : ℕ) (ks : List Level) (old : Masses) → AreLevels p l ks → CoverAlike (first_of (masses_of ks)) (first_of (step p l (masses_of ks) old).levels)
keeps_cover p l ks old a = cover_alike _ _ (λ i c. covered_same _ _ (step_cells p l ks old a) c i)

-- ---- the ledger

pub of_finer_steps : (flows : ℕ → (Cell → Bool) → Fluxes → ℕ) (p : Problem) (l : ℕ) (k fine : Level) (ks : List Level) (old : Masses) → AreLevels p (suc l) (fine ∷ ks)
    → flows_of_step flows p l (k ∷ fine ∷ ks) old ≡ flows l (is_uncovered k.masses fine.masses) (flux_at p l k.masses old) + (flows_of_step flows p (suc l) (fine ∷ ks) k.masses + flows_of_step flows p (suc l) (after_step p (suc l) (fine ∷ ks) k.masses) k.masses)
unfolding over_levels
of_finer_steps flows p l k fine ks old a =
    let first : Stepped = step p (suc l) (masses_of (fine ∷ ks)) k.masses in
    let own = flows l (is_uncovered k.masses fine.masses) (flux_at p l k.masses old) in
    let one = flows_of_step flows p (suc l) (fine ∷ ks) k.masses in
    let count : length first.levels ≡ length (masses_of (fine ∷ ks)) = same_length (masses_of (fine ∷ ks)) first.levels (kept_by p (suc l) (fine ∷ ks) k.masses a).same in
    let by_count : over_levels flows p (length (masses_of (fine ∷ ks))) (suc l) first.levels k.masses ≡ over_levels flows p (length first.levels) (suc l) first.levels k.masses = ap (λ n. over_levels flows p n (suc l) first.levels k.masses) (sym count) in
    let by_masses : over_levels flows p (length first.levels) (suc l) first.levels k.masses ≡ flows_of_step flows p (suc l) (after_step p (suc l) (fine ∷ ks) k.masses) k.masses = ap (λ (ms : List Masses). over_levels flows p (length ms) (suc l) ms k.masses) (sym (gives_masses p (suc l) (fine ∷ ks) k.masses a)) in
    ap (λ n. own + (one + n)) (by_count ∙ by_masses)

pub of_level_alone : (flows : ℕ → (Cell → Bool) → Fluxes → ℕ) (p : Problem) (l : ℕ) (k : Level) (old : Masses) → flows_of_step flows p l (k ∷ []) old ≡ flows l (is_uncovered k.masses no_masses) (flux_at p l k.masses old)
unfolding over_levels is_covered
of_level_alone flows p l k old = ap (λ (t : Cell → Bool). flows l t (flux_at p l k.masses old)) (λ i c. not_covered (is_some (k.masses c)) i)
  where
    not_covered : (t : Bool) → t ≡ (t && true)
    not_covered true = refl
    not_covered false = refl

-- ---- own fluxes

-- a cell that stands for one of the domain that is not of the level
pub record IsFree (p : Problem) (l : ℕ) (m : Masses) (q : Cell) : Type 0 where
  pub inside : in_domain (domain p l) (home_cell (domain p l) q) ≡ true
  pub none : is_some (m (home_cell (domain p l) q)) ≡ false

-- beside such a cell nothing is covered, as the level has a cell more round each covered one. So the flux of the level there is its
-- own.
pub own_low : (p : Problem) (l : ℕ) (ks : List Level) (old : Masses) (g : Face) → AreLevels p l ks → 0 < length ks → IsFree p l (first_of (masses_of ks)) (low_cell g) → (step p l (masses_of ks) old).fluxes g ≡ flux_at p l (first_of (masses_of ks)) old g
unfolding step_within over_finer at_top
own_low p l [] old g a some free = absurd (omega arith)
own_low p l (k ∷ []) old g a some free = refl
own_low p l (k ∷ fine ∷ finer) old g a some free =
    let n = nest p l k fine a.0 (chain_first p (suc l) fine finer (links p (suc l) (fine ∷ finer) a.3)) a.1 in
    let first = step_within p (suc (length (masses_of finer))) (suc l) (masses_of (fine ∷ finer)) k.masses in
    let second = step_within p (suc (length (masses_of finer))) (suc l) first.levels k.masses in
    beside p l k.masses old fine.masses first.fluxes second.fluxes g (is_false _ (λ h. opposite (n.there _ h) free.none)) (is_false _ (λ h. opposite (n.low g h free.inside) free.none))

pub own_high : (p : Problem) (l : ℕ) (ks : List Level) (old : Masses) (g : Face) → AreLevels p l ks → 0 < length ks → IsFree p l (first_of (masses_of ks)) (high_cell g) → (step p l (masses_of ks) old).fluxes g ≡ flux_at p l (first_of (masses_of ks)) old g
unfolding step_within over_finer at_top
own_high p l [] old g a some free = absurd (omega arith)
own_high p l (k ∷ []) old g a some free = refl
own_high p l (k ∷ fine ∷ finer) old g a some free =
    let n = nest p l k fine a.0 (chain_first p (suc l) fine finer (links p (suc l) (fine ∷ finer) a.3)) a.1 in
    let first = step_within p (suc (length (masses_of finer))) (suc l) (masses_of (fine ∷ finer)) k.masses in
    let second = step_within p (suc (length (masses_of finer))) (suc l) first.levels k.masses in
    beside p l k.masses old fine.masses first.fluxes second.fluxes g (is_false _ (λ h. opposite (n.high g h free.inside) free.none)) (is_false _ (λ h. opposite (n.there _ h) free.none))
