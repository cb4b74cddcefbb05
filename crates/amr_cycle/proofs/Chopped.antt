-- Levels of a sound state, chopped into patches as the problem asks, cut no coarser cell.
use Rattle.std.proofs.Common.{◌≡◌, ◌∙◌, ℕ, zero, suc, refl, add-one, ◌+◌, ◌<◌, List, [], ◌∷◌, length, map, ap, subst, arith}
use Rattle.std.specs.Prelude.{slice_index_or}
use Rattle.std.specs.List.{All, flat_map}
use Rattle.std.specs.List.Sorted.{IsPermutation}
use Rattle.std.proofs.lemmas.List.{length-map}
use Rattle.amr_boxlist.specs.Chopped.{chopped}
use Rattle.amr_def.specs.declared.problem.Problem.{Problem}
use Rattle.amr_def.specs.Facts.{IsAligned, IsSound}
use Rattle.amr_def.specs.State.{Level, State, level_at, no_level}
use Rattle.amr_patch.specs.declared.levels.Level.{Level as Held}
use Rattle.amr_patch.specs.Levels.{level_of, patches_of}
use Rattle.amr_patch.specs.Patches.{box}
use Rattle.amr_flows.proofs.Coarsenable.{all_coarsenable}
use Rattle.amr_cycle.specs.Cycles.{AreCoarsenableAbove}

-- a level whose patches are its boxes chopped
abbrev pub HasChoppedBoxes : Problem → Held → Type 0
HasChoppedBoxes p k = IsPermutation (flat_map (chopped p.max_grid_size) (level_of k).boxes) (map box (patches_of k))

pub chopped_above : (p : Problem) (s : State) (ks : List Held) → IsSound p s → s.levels ≡ map level_of ks → All (HasChoppedBoxes p) ks → AreCoarsenableAbove ks
chopped_above p s [] sound is h = tt
chopped_above p s (k ∷ ks) sound is h = λ n d lt.
    let count : length s.levels ≡ suc (length ks) = ap length is ∙ length-map (k ∷ ks) level_of in
    let at : level_at s (n + 1) ≡ level_of (slice_index_or ks n d) = ap (λ (js : List Level). slice_index_or js (n + 1) no_level) is ∙ level_is n d lt in
    all_coarsenable p (level_of (slice_index_or ks n d)).boxes (patches_of (slice_index_or ks n d)) (subst (λ (j : Level). All (IsAligned p.blocking) j.boxes) at (sound.nested.nested n (omega (arith, count, lt))).aligned) (h (suc n) d (omega (arith, lt)))
  where
    level_is : (n : ℕ) (d : Held) → n < length ks → slice_index_or (map level_of (k ∷ ks)) (n + 1) no_level ≡ level_of (slice_index_or ks n d)
    level_is n d lt = rw add-one (of_list ks n lt)
      where
        of_list : (hs : List Held) (n : ℕ) → n < length hs → slice_index_or (map level_of hs) n no_level ≡ level_of (slice_index_or hs n d)
        of_list [] n lt = absurd (omega arith)
        of_list (j ∷ hs) zero lt = refl
        of_list (j ∷ hs) (suc n) lt = of_list hs n (omega (arith, lt))
