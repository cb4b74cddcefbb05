-- What a regrid keeps: where no patch cut a coarser cell, none does.
use Rattle.std.proofs.Common.{◌≡◌, ◌∙◌, inl, inr, ℕ, zero, suc, refl, add-one, ◌+◌, ◌<◌, List, [], ◌∷◌, length, map, ap, subst, arith}
use Rattle.std.specs.Prelude.{slice_index_or}
use Rattle.std.specs.List.{All}
use Rattle.std.proofs.lemmas.List.{length-map}
use Rattle.std.proofs.lemmas.List.Elements.{All-cons, All-head, All-nil, All-tail}
use Rattle.amr_def.specs.declared.problem.Problem.{Problem}
use Rattle.amr_def.specs.Facts.{IsAligned, IsSound}
use Rattle.amr_def.specs.State.{Level, State, level_at, no_level}
use Rattle.amr_patch.specs.declared.levels.Level.{Level as Held}
use Rattle.amr_patch.specs.declared.meshes.Mesh.{Mesh}
use Rattle.amr_patch.specs.Levels.{level_of, patches_of}
use Rattle.amr_patch.specs.Meshes.{levels_of, state_of}
use Rattle.amr_patch.proofs.Items.{levels_are}
use Rattle.amr_start.specs.PatchBoxes.{IsChopped}
use Rattle.amr_flows.proofs.Coarsenable.{all_coarsenable}
use Rattle.amr_cycle.specs.Cycles.{AreCoarsenableAbove}
use Rattle.amr_cycle.proofs.Coarsenable.{coarsenable_by_boxes}
use Rattle.amr_regrid.specs.Outlines.{Outline, outlines}
use Rattle.amr_regrid.specs.Remade.{AreChoppedOrKept}
use Rattle.amr_transfer.specs.Sums.{AreCoarsenable}

-- no patch of a level cuts a coarser cell
abbrev IsCoarsenable : Held → Type 0
IsCoarsenable k = AreCoarsenable (patches_of k)

abbrev HasAlignedBoxes : Problem → Held → Type 0
HasAlignedBoxes p k = All (IsAligned p.blocking) (level_of k).boxes

-- the levels above the first have their boxes on multiples of the blocking factor
abbrev AreAlignedAbove : Problem → List Held → Type 0
AreAlignedAbove p [] = Unit {0}
AreAlignedAbove p (k ∷ ks) = All (HasAlignedBoxes p) ks

aligned_above : (p : Problem) (s : State) (ks : List Held) → IsSound p s → s.levels ≡ map level_of ks → AreAlignedAbove p ks
aligned_above p s [] sound is = tt
aligned_above p s (k ∷ ks) sound is = λ n d lt.
    let count : length s.levels ≡ suc (length ks) = ap length is ∙ length-map (k ∷ ks) level_of in
    let at : level_at s (n + 1) ≡ level_of (slice_index_or ks n d) = ap (λ (js : List Level). slice_index_or js (n + 1) no_level) is ∙ above n d lt in
    subst (λ (j : Level). All (IsAligned p.blocking) j.boxes) at (sound.nested.nested n (omega (arith, count, lt))).aligned
  where
    above : (n : ℕ) (d : Held) → n < length ks → slice_index_or (map level_of (k ∷ ks)) (n + 1) no_level ≡ level_of (slice_index_or ks n d)
    above n d lt = rw add-one (of_list ks n lt)
      where
        of_list : (hs : List Held) (n : ℕ) → n < length hs → slice_index_or (map level_of hs) n no_level ≡ level_of (slice_index_or hs n d)
        of_list [] n lt = absurd (omega arith)
        of_list (j ∷ hs) zero lt = refl
        of_list (j ∷ hs) (suc n) lt = of_list hs n (omega (arith, lt))

chopped_coarsenable : (p : Problem) (k : Held) → HasAlignedBoxes p k → IsChopped p.max_grid_size k → IsCoarsenable k
chopped_coarsenable p k aligned h = all_coarsenable p (level_of k).boxes (patches_of k) aligned h.patches

finer_coarsenable : (p : Problem) (ks olds : List Held) → All (HasAlignedBoxes p) ks → AreChoppedOrKept p.max_grid_size ks (outlines olds) → All IsCoarsenable olds → All IsCoarsenable ks
finer_coarsenable p [] olds aligned is h = All-nil IsCoarsenable
finer_coarsenable p (k ∷ ks) [] aligned is h =
    All-cons IsCoarsenable k ks (chopped_coarsenable p k (All-head (HasAlignedBoxes p) k ks aligned) is.0) (finer_coarsenable p ks [] (All-tail (HasAlignedBoxes p) k ks aligned) is.1 h)
finer_coarsenable p (k ∷ ks) (o ∷ os) aligned is h =
    All-cons IsCoarsenable k ks first (finer_coarsenable p ks os (All-tail (HasAlignedBoxes p) k ks aligned) is.1 (All-tail IsCoarsenable o os h))
  where
    first : IsCoarsenable k
    first = elim is.0 [
      | inl chopped ↦ chopped_coarsenable p k (All-head (HasAlignedBoxes p) k ks aligned) chopped
      | inr same ↦ coarsenable_by_boxes (patches_of k) (patches_of o) (ap (λ (l : Outline). l.patch_boxes) same) (All-head IsCoarsenable o os h)
    ]

levels_coarsenable : (p : Problem) (ks olds : List Held) → AreAlignedAbove p ks → AreChoppedOrKept p.max_grid_size ks (outlines olds) → AreCoarsenableAbove olds → AreCoarsenableAbove ks
levels_coarsenable p [] olds aligned is h = tt
levels_coarsenable p (k ∷ ks) [] aligned is h = finer_coarsenable p ks [] aligned is.1 (All-nil IsCoarsenable)
levels_coarsenable p (k ∷ ks) (o ∷ os) aligned is h = finer_coarsenable p ks os aligned is.1 h

pub coarsenable_after_regrid : (p : Problem) (m n : Mesh) → AreCoarsenableAbove (levels_of m) → IsSound p (state_of n) → AreChoppedOrKept p.max_grid_size (levels_of n) (outlines (levels_of m)) → AreCoarsenableAbove (levels_of n)
coarsenable_after_regrid p m n h sound is = levels_coarsenable p (levels_of n) (levels_of m) (aligned_above p (state_of n) (levels_of n) sound (levels_are n)) is h
