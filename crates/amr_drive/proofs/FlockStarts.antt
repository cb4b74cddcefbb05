-- The start of all species: level 0 of each, and their regrids.
use Rattle.std.proofs.Common.{◌≡◌, ◌∙◌, false, ℕ, suc, ◌+◌, ◌-◌, ◌<◌, sym, ap, subst, List, [], ◌∷◌, ◌++◌, length, map, arith}
use Rattle.std.specs.List.{All, range_with_len}
use Rattle.std.specs.Vec.{with_items}
use Rattle.std.proofs.lemmas.List.{map-append}
use Rattle.std.proofs.lemmas.List.FromFn.{map-range_with_len_more}
use Rattle.amr_def.specs.declared.problem.Problem.{Problem}
use Rattle.amr_def.specs.State.{State}
use Rattle.amr_def.specs.Run.{plain_start, times}
use Rattle.amr_def.specs.Species.{IsFlock, of_species, regrid_all, start_all}
use Rattle.amr_laws.proofs.FlockRegrid.{regrid_all-flock}
use Rattle.amr_laws.proofs.FlockRuns.{plain_starts-flock}
use Rattle.amr_patch.specs.declared.meshes.Mesh.{Mesh}
use Rattle.amr_patch.specs.Meshes.{is_spent, levels_of, state_of}
use Rattle.amr_start.specs.PatchBoxes.{HasChoppedDomain}
use Rattle.amr_drive.specs.declared.flocks.Flock.{Flock}
use Rattle.amr_drive.specs.Flocks.{AreMeshesOf, IsFlockOf, IsInPatchesOf, meshes_of, plain_starts, problems_of, states_of}
use Rattle.amr_drive.proofs.Lent.{lent_back}
use Rattle.amr_drive.proofs.StartLaws.{base-chopped}

-- ---- one more

pub made_more : {X : Type 0} (f : ℕ → X) (k : ℕ) (xs : List X) (x : X) → xs ≡ map f (range_with_len 0 k) → x ≡ f k → xs ++ x ∷ [] ≡ map f (range_with_len 0 (k + 1))
made_more f k xs x is at = (λ i. is i ++ at i ∷ []) ∙ sym (map-range_with_len_more f 0 k k (omega arith))

pub states_more : (f : ℕ → State) (k : ℕ) (ms : List Mesh) (m : Mesh) → map state_of ms ≡ map f (range_with_len 0 k) → state_of m ≡ f k → map state_of (ms ++ m ∷ []) ≡ map f (range_with_len 0 (k + 1))
states_more f k ms m is at = map-append state_of ms (m ∷ []) ∙ made_more f k (map state_of ms) (state_of m) is at

pub base_state : (p : Problem) (k : ℕ) (own : Problem) (m : Mesh) → own ≡ of_species p k → state_of m ≡ plain_start own → state_of m ≡ plain_start (of_species p k)
base_state p k own m is state = state ∙ ap plain_start is

pub base_patches : (p : Problem) (k : ℕ) (own : Problem) (m : Mesh) → own ≡ of_species p k → state_of m ≡ plain_start own → HasChoppedDomain own (levels_of m) → IsInPatchesOf p m
unfolding of_species
base_patches p k own m is state has = subst (λ (q : Problem). IsInPatchesOf q m) is (base-chopped own m state has)

-- ---- all

pub bases_flock : (p : Problem) (f : Flock) → f.problems.items ≡ problems_of p → map state_of f.meshes.items ≡ plain_starts p → All (λ m. is_spent m ≡ false) f.meshes.items
    → All (IsInPatchesOf p) f.meshes.items → IsFlockOf p f
unfolding meshes_of
bases_flock p f problems states whole patches =
    record { problems = problems; meshes = record { whole = whole; states = subst (IsFlock p) (sym states) (plain_starts-flock p); patches = patches } }

pub all_begun : (p : Problem) (ss : List State) → times (regrid_all p) p.max_level ss ≡ times (regrid_all p) (p.max_level - 0) ss
all_begun p ss =
    let all : p.max_level ≡ p.max_level - 0 = omega arith in
    ap (λ n. times (regrid_all p) n ss) all

pub all_onward : (p : Problem) (k : ℕ) (first ss ts : List State) → k < p.max_level → ts ≡ regrid_all p ss → times (regrid_all p) p.max_level first ≡ times (regrid_all p) (p.max_level - k) ss
    → times (regrid_all p) p.max_level first ≡ times (regrid_all p) (p.max_level - (k + 1)) ts
all_onward p k first ss ts below is so_far =
    let more : p.max_level - k ≡ suc (p.max_level - (k + 1)) = omega arith in
    so_far ∙ ap (λ n. times (regrid_all p) n ss) more ∙ ap (times (regrid_all p) (p.max_level - (k + 1))) (sym is)

pub all_ended : (p : Problem) (k : ℕ) (first ss : List State) → k ≡ p.max_level → times (regrid_all p) p.max_level first ≡ times (regrid_all p) (p.max_level - k) ss → ss ≡ times (regrid_all p) p.max_level first
all_ended p k first ss last so_far =
    let none : p.max_level - k ≡ 0 = omega (arith, last) in
    sym (so_far ∙ ap (λ n. times (regrid_all p) n ss) none)

pub regridded_meshes : (p : Problem) (ms ns : List Mesh) → AreMeshesOf p ms → map state_of ns ≡ regrid_all p (map state_of ms) → All (λ m. is_spent m ≡ false) ns → All (IsInPatchesOf p) ns
    → AreMeshesOf p ns
regridded_meshes p ms ns is states whole patches = record { whole = whole; states = subst (IsFlock p) (sym states) (regrid_all-flock p (map state_of ms) is.states); patches = patches }

-- the start, from level 0 of each
pub all_started : (p : Problem) (first ss : List State) → first ≡ plain_starts p → ss ≡ times (regrid_all p) p.max_level first → ss ≡ start_all p
unfolding start_all
all_started p first ss is made = made ∙ ap (times (regrid_all p) p.max_level) is

-- ---- a flock whose meshes were lent

module _ (p : Problem) (f : Flock) (lent ns : List Mesh) (is : lent ≡ f.meshes.items) (same : length lent ≡ length ns) where
  pub lent_states : states_of (record f { meshes = with_items f.meshes ns }) ≡ map state_of ns
  unfolding meshes_of
  lent_states = ap (map state_of) (lent_back f.meshes lent ns is same)

  pub lent_flock : IsFlockOf p f → AreMeshesOf p ns → IsFlockOf p (record f { meshes = with_items f.meshes ns })
  unfolding meshes_of
  lent_flock flock meshes = record { problems = flock.problems; meshes = subst (AreMeshesOf p) (sym (lent_back f.meshes lent ns is same)) meshes }
