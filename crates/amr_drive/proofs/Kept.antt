-- What a step keeps: levels that were chopped are, since boxes and patch boxes stay.
use Rattle.std.proofs.Common.{◌≡◌, ◌∙◌, Bool, true, false, Result, Ok, Err, OnOk, OnErr, ℕ, suc, List, [], ◌∷◌, map, refl, sym, ap, subst, arith}
use Rattle.std.specs.List.{All, flat_map}
use Rattle.std.specs.List.Sorted.{IsPermutation}
use Rattle.std.proofs.lemmas.Bool.{true≢false}
use Rattle.std.proofs.lemmas.List.Elements.{All-cons, All-nil}
use Rattle.amr_box.specs.Cells.{Extent}
use Rattle.amr_boxlist.specs.Chopped.{chopped}
use Rattle.amr_def.specs.declared.problem.Problem.{Problem}
use Rattle.amr_def.specs.Facts.{IsSound}
use Rattle.amr_def.specs.State.{State, no_masses}
use Rattle.amr_def.specs.Run.{stepped}
use Rattle.amr_def.proofs.Chain.{state_chain}
use Rattle.amr_laws.proofs.Substeps.{keeps_boxes, levels_of as levels_from}
use Rattle.amr_patch.specs.declared.levels.Level.{Level as Held}
use Rattle.amr_patch.specs.declared.meshes.Mesh.{Mesh}
use Rattle.amr_patch.specs.Levels.{level_of, patches_of}
use Rattle.amr_patch.specs.Meshes.{levels_of, state_of}
use Rattle.amr_patch.specs.Patches.{box}
use Rattle.amr_patch.proofs.Items.{levels_are}
use Rattle.amr_regrid.specs.Outlines.{Outline, outlines}
use Rattle.amr_regrid.proofs.OutlineLaws.{same_levels}
use Rattle.amr_start.specs.PatchBoxes.{IsChopped}
use Rattle.amr_cycle.specs.Cycles.{AreCoarsenableAbove, patch_boxes}
use Rattle.amr_cycle.proofs.Chopped.{chopped_above}
use Rattle.amr_cycle.proofs.Coarsenable.{all_coarsenable}

-- patches that a problem asks for cut no coarser cell
pub coarsenable : (p : Problem) (m : Mesh) → IsSound p (state_of m) → All (IsChopped p.max_grid_size) (levels_of m) → AreCoarsenableAbove (levels_of m)
coarsenable p m sound h = chopped_above p (state_of m) (levels_of m) sound (levels_are m) (λ n d lt. (h n d lt).patches)

boxes_of : List Held → List (List Extent)
boxes_of = map (λ k. (level_of k).boxes)

all_kept : (n : ℕ) (hs ks : List Held) → patch_boxes hs ≡ patch_boxes ks → map (λ k. (level_of k).boxes) hs ≡ map (λ k. (level_of k).boxes) ks → All (IsChopped n) ks → All (IsChopped n) hs
all_kept n [] ks ps bs h = All-nil (IsChopped n)
all_kept n (j ∷ hs) [] ps bs h = cc
all_kept n (j ∷ hs) (k ∷ ks) ps bs h =
    let of_patches : map box (patches_of j) ≡ map box (patches_of k) = cc in
    let of_boxes : (level_of j).boxes ≡ (level_of k).boxes = cc in
    let more_patches : patch_boxes hs ≡ patch_boxes ks = cc in
    let more_boxes : map (λ k. (level_of k).boxes) hs ≡ map (λ k. (level_of k).boxes) ks = cc in
    let first : IsChopped n k = h 0 k (omega arith) in
    All-cons (IsChopped n) j hs
    (record { patches = subst (λ (xs : List Extent). IsPermutation (flat_map (chopped n) xs) (map box (patches_of j))) (sym of_boxes) (subst (λ (xs : List Extent). IsPermutation (flat_map (chopped n) (level_of k).boxes) xs) (sym of_patches) first.patches) })
    (all_kept n hs ks more_patches more_boxes (λ i d lt. h (suc i) d (omega (arith, lt))))

step_boxes : (p : Problem) (s : State) → IsSound p s → map (λ k. k.boxes) (stepped p s).levels ≡ map (λ k. k.boxes) s.levels
unfolding stepped
step_boxes p s sound = keeps_boxes p 0 s.levels no_masses (levels_from p 0 s.levels (state_chain p s sound.nested sound.synced))

of_levels : (hs : List Held) → map (λ k. k.boxes) (map level_of hs) ≡ map (λ k. (level_of k).boxes) hs
of_levels [] = refl
of_levels (k ∷ hs) = ap (λ (rest : List (List Extent)). (level_of k).boxes ∷ rest) (of_levels hs)

pub chopped_after : (p : Problem) (m n : Mesh) → IsSound p (state_of m) → state_of n ≡ stepped p (state_of m) → patch_boxes (levels_of n) ≡ patch_boxes (levels_of m) → All (IsChopped p.max_grid_size) (levels_of m) → All (IsChopped p.max_grid_size) (levels_of n)
chopped_after p m n sound is ps h =
    let boxes : map (λ k. (level_of k).boxes) (levels_of n) ≡ map (λ k. (level_of k).boxes) (levels_of m) =
    sym (of_levels (levels_of n)) ∙ ap (map (λ k. k.boxes)) (sym (levels_are n) ∙ ap (λ (s : State). s.levels) is) ∙ step_boxes p (state_of m) sound ∙ ap (map (λ k. k.boxes)) (levels_are m) ∙ of_levels (levels_of m) in
    all_kept p.max_grid_size (levels_of n) (levels_of m) ps boxes h

-- so do levels in other patches that cut no coarser cell
pub coarsenable_after_step : (hs ks : List Held) → patch_boxes hs ≡ patch_boxes ks → AreCoarsenableAbove ks → AreCoarsenableAbove hs
coarsenable_after_step [] ks e h = tt
coarsenable_after_step (j ∷ hs) [] e h = cc
coarsenable_after_step (j ∷ hs) (k ∷ ks) e h =
    let more : patch_boxes hs ≡ patch_boxes ks = cc in
    all_coarsenable hs ks more h

-- ---- levels that keep their outlines

patches_by : (ks : List Held) → patch_boxes ks ≡ map (λ (o : Outline). o.patch_boxes) (outlines ks)
patches_by [] = refl
patches_by (k ∷ ks) = ap (λ (rest : List (List Extent)). map box (patches_of k) ∷ rest) (patches_by ks)

same_patches : (hs ks : List Held) → outlines hs ≡ outlines ks → patch_boxes hs ≡ patch_boxes ks
same_patches hs ks e = patches_by hs ∙ ap (map (λ (o : Outline). o.patch_boxes)) e ∙ sym (patches_by ks)

pub coarsenable_stays : (hs ks : List Held) → outlines hs ≡ outlines ks → AreCoarsenableAbove ks → AreCoarsenableAbove hs
coarsenable_stays hs ks e = coarsenable_after_step hs ks (same_patches hs ks e)

pub chopped_stays : (n : ℕ) (hs ks : List Held) → outlines hs ≡ outlines ks → All (IsChopped n) ks → All (IsChopped n) hs
chopped_stays n hs ks e = all_kept n hs ks (same_patches hs ks e) (sym (of_levels hs) ∙ ap (map (λ k. k.boxes)) (same_levels hs ks e) ∙ of_levels ks)

-- ---- a step whose refusal leaves the mesh spent

pub unless_spent : {T E X Y : Type 0} {spent : Bool} (r : Result T E) → OnErr r (spent ≡ true) → OnOk r X → (X → Y) → spent ≡ false → Y
unless_spent (Ok t) gone made from whole = from made
unless_spent (Err e) gone made from whole = absurd (true≢false (sym gone ∙ whole))
