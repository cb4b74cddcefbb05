-- Patches of the same boxes cut no coarser cell either.
use Rattle.std.proofs.Common.{◌≡◌, suc, List, [], ◌∷◌, length, map, subst, sym, ap, ◌∙◌, arith}
use Rattle.std.specs.Prelude.{slice_index_or}
use Rattle.std.specs.List.{All}
use Rattle.std.proofs.lemmas.List.{length-map}
use Rattle.std.proofs.lemmas.List.Elements.{All-cons, All-map, All-nil}
use Rattle.amr_box.specs.Cells.{Extent}
use Rattle.amr_def.specs.Facts.{IsAligned}
use Rattle.amr_patch.specs.declared.levels.Level.{Level as Held}
use Rattle.amr_patch.specs.declared.patches.Patch.{Patch}
use Rattle.amr_patch.specs.Levels.{patches_of}
use Rattle.amr_patch.specs.Patches.{box}
use Rattle.amr_transfer.specs.Sums.{AreCoarsenable}
use Rattle.amr_cycle.specs.Cycles.{patch_boxes}

unmapped : {X Y : Type 0} (P : X → Type 0) (f : Y → X) (ys : List Y) → All P (map f ys) → All (λ y. P (f y)) ys
unmapped P f [] h = All-nil (λ y. P (f y))
unmapped P f (y ∷ ys) h = All-cons (λ z. P (f z)) y ys (h 0 (f y) (omega arith)) (unmapped P f ys (λ k d lt. h (suc k) d (omega (arith, lt))))

pub coarsenable_by_boxes : (ps qs : List Patch) → map box ps ≡ map box qs → AreCoarsenable qs → AreCoarsenable ps
coarsenable_by_boxes ps qs e h = unmapped (IsAligned 2) box ps (subst (All (IsAligned 2)) (sym e) (All-map (IsAligned 2) box qs h))

abbrev AreAligned : List Extent → Type 0
AreAligned bs = All (IsAligned 2) bs

pub all_coarsenable : (hs gs : List Held) → patch_boxes hs ≡ patch_boxes gs → All (λ k. AreCoarsenable (patches_of k)) gs → All (λ k. AreCoarsenable (patches_of k)) hs
all_coarsenable hs gs e h =
    let boxes : All AreAligned (patch_boxes gs) = All-map AreAligned (λ (k : Held). map box (patches_of k)) gs (λ n d lt. All-map (IsAligned 2) box (patches_of (slice_index_or gs n d)) (h n d lt)) in
    let after : All AreAligned (patch_boxes hs) = subst (All AreAligned) (sym e) boxes in
    λ n d lt. unmapped (IsAligned 2) box (patches_of (slice_index_or hs n d)) (unmapped AreAligned (λ (k : Held). map box (patches_of k)) hs after n d lt)

pub same_count : (hs gs : List Held) → patch_boxes hs ≡ patch_boxes gs → length hs ≡ length gs
same_count hs gs e = sym (length-map hs _) ∙ ap length e ∙ length-map gs _
