-- Patches that have the boxes of others: they are as many, have the same cells, and are apart as those are.
use Rattle.std.proofs.Common.{◌≡◌, ◌∙◌, ◌||◌, ℕ, Bool, List, [], ◌∷◌, length, get_or, map, refl, sym, ap, arith}
use Rattle.std.proofs.Math.ListN.{get_or-map}
use Rattle.std.proofs.lemmas.List.{length-map}
use Rattle.amr_box.specs.declared.Cell.{Cell}
use Rattle.amr_box.specs.Cells.{Extent, holds, in_boxes}
use Rattle.amr_patch.specs.declared.patches.Patch.{Patch}
use Rattle.amr_patch.specs.Patches.{ArePatchesApart, box, in_patches}

-- the cells of patches are those of their boxes
pub in_mapped : (ps : List Patch) (c : Cell) → in_patches ps c ≡ in_boxes (map box ps) c
in_mapped [] c = refl
in_mapped (p ∷ ps) c = ap (λ (t : Bool). holds (box p) c || t) (in_mapped ps c)

pub in_same_boxes : (ps qs : List Patch) (c : Cell) → map box ps ≡ map box qs → in_patches ps c ≡ in_patches qs c
in_same_boxes ps qs c same = in_mapped ps c ∙ ap (λ (bs : List Extent). in_boxes bs c) same ∙ sym (in_mapped qs c)

pub same_length : (ps qs : List Patch) → map box ps ≡ map box qs → length ps ≡ length qs
same_length ps qs same = sym (length-map ps box) ∙ ap (λ (bs : List Extent). length bs) same ∙ length-map qs box

pub box_at : (ps qs : List Patch) (k : ℕ) (d : Patch) → map box ps ≡ map box qs → box (get_or ps k d) ≡ box (get_or qs k d)
box_at ps qs k d same = sym (get_or-map box ps k d) ∙ ap (λ (bs : List Extent). get_or bs k (box d)) same ∙ get_or-map box qs k d

pub apart_alike : (ps qs : List Patch) → map box qs ≡ map box ps → ArePatchesApart ps → ArePatchesApart qs
apart_alike ps qs same apart i j d before there c in_i in_j =
    apart i j d before (omega (arith, there, same_length qs ps same)) c (ap (λ (b : Extent). holds b c) (sym (box_at qs ps i d same)) ∙ in_i) (ap (λ (b : Extent). holds b c) (sym (box_at qs ps j d same)) ∙ in_j)
