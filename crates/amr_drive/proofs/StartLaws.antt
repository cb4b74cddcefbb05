-- The start: level 0 in its patches, and what each regrid of it covers.
use Rattle.std.proofs.Common.{◌≡◌, ℕ, zero, suc, ◌+◌, ◌-◌, ◌<◌, List, [], ◌∷◌, ap, sym, subst, ◌∙◌, refl, map, arith}
use Rattle.std.specs.Prelude.{slice_index_or}
use Rattle.std.specs.List.{All, flat_map}
use Rattle.std.specs.List.Sorted.{IsPermutation}
use Rattle.std.proofs.lemmas.List.{append-nil}
use Rattle.std.proofs.lemmas.List.Elements.{All-nil, All-push}
use Rattle.amr_box.specs.Cells.{Extent}
use Rattle.amr_boxlist.specs.Chopped.{chopped}
use Rattle.amr_def.specs.declared.problem.Problem.{Problem}
use Rattle.amr_def.specs.Domain.{domain, domain_box}
use Rattle.amr_def.specs.Facts.{IsSound}
use Rattle.amr_def.specs.Regrid.{regrid}
use Rattle.amr_def.specs.Run.{plain_start, start, times}
use Rattle.amr_def.specs.State as defined
use Rattle.amr_def.specs.State.{State, no_level}
use Rattle.amr_def.proofs.SoundRun.{plain_start-sound}
use Rattle.amr_laws.proofs.Held.{regrid-held}
use Rattle.amr_laws.proofs.SoundRegrid.{regrid-sound}
use Rattle.amr_patch.specs.declared.levels.Level.{Level}
use Rattle.amr_patch.specs.declared.meshes.Mesh.{Mesh}
use Rattle.amr_patch.specs.Levels.{level_of, patches_of}
use Rattle.amr_patch.specs.Meshes.{levels_of, state_of}
use Rattle.amr_patch.specs.Patches.{box}
use Rattle.amr_start.specs.PatchBoxes.{IsChopped}
use Rattle.amr_start.specs.PatchBoxes.{HasChoppedDomain}
use Rattle.amr_drive.specs.Regrids.{StartHoldsTags}

pub regrids-sound : (p : Problem) (n : ℕ) (s : State) → IsSound p s → IsSound p (times (regrid p) n s)
regrids-sound p zero s sound = sound
regrids-sound p (suc n) s sound = regrids-sound p n (regrid p s) (regrid-sound p s sound)

pub start-holds_tags : (p : Problem) → StartHoldsTags p
start-holds_tags p k below = regrid-held p (times (regrid p) k (plain_start p)) (regrids-sound p k (plain_start p) (plain_start-sound p))

-- the regrids that are left, from what was made so far
pub start-begun : (p : Problem) (s : State) → s ≡ plain_start p → times (regrid p) (p.max_level - 0) s ≡ start p
unfolding start
start-begun p s is =
    let all : p.max_level - 0 ≡ p.max_level = omega arith in
    (λ i. times (regrid p) (all i) (is i))

pub start-onward : (p : Problem) (k : ℕ) (s t : State) → k < p.max_level → t ≡ regrid p s → times (regrid p) (p.max_level - k) s ≡ start p → times (regrid p) (p.max_level - (k + 1)) t ≡ start p
start-onward p k s t below is so_far =
    let more : p.max_level - k ≡ suc (p.max_level - (k + 1)) = omega arith in
    ap (times (regrid p) (p.max_level - (k + 1))) is ∙ ap (λ n. times (regrid p) n s) (sym more) ∙ so_far

levels_shown : (m : Mesh) → map level_of (levels_of m) ≡ (state_of m).levels
unfolding state_of levels_of
levels_shown m = refl

-- a level whose one box is chopped
one_box-chopped : (max : ℕ) (b : Extent) (k : Level) → (level_of k).boxes ≡ b ∷ [] → IsPermutation (chopped max b) (map box (patches_of k)) → IsChopped max k
one_box-chopped max b k boxes is = record { patches = subst (λ (l : List Extent). IsPermutation l (map box (patches_of k))) (sym (ap (flat_map (chopped max)) boxes ∙ append-nil (chopped max b))) is }

-- level 0 alone in its patches
pub base-chopped : (p : Problem) (m : Mesh) → state_of m ≡ plain_start p → HasChoppedDomain p (levels_of m) → All (IsChopped p.max_grid_size) (levels_of m)
base-chopped p m state has =
    let max = p.max_grid_size in
    let levels : map level_of (has.base ∷ []) ≡ (plain_start p).levels = ap (map level_of) (sym has.alone) ∙ levels_shown m ∙ ap (λ (s : State). s.levels) state in
    let boxes : (level_of has.base).boxes ≡ domain_box (domain p 0) ∷ [] = ap (λ (ks : List defined.Level). (slice_index_or ks 0 no_level).boxes) levels in
    subst (All (IsChopped max)) (sym has.alone) (All-push (IsChopped max) [] has.base (All-nil (IsChopped max)) (one_box-chopped max (domain_box (domain p 0)) has.base boxes has.chopped.patches))
