use Rattle.std.proofs.Common.{◌∙◌, Bool, List, cond, sym, ap, subst}
use Rattle.std.specs.List.Sorted.{IsPermutation}
use Rattle.std.specs.declared.option.Option.TheVariants.{None, Some}
use Rattle.std.proofs.lemmas.List.Sorted.{list_any-IsPermutation}
use Rattle.amr_box.specs.Cells.{Extent, holds, in_boxes}
use Rattle.amr_patch.specs.Pairwise.{Pairwise}
use Rattle.amr_patch.specs.Patches.{IsBlank}
use Rattle.amr_patch.specs.Levels.{level_of, patches_of}
use Rattle.amr_patch.proofs.Apart.{apart_in_order}
use Rattle.amr_patch.proofs.LevelLaws.{blank_apart, blank_boxes, blank_fluxes, blank_marks, blank_masses, blank_rows}
use Rattle.amr_patch.proofs.levels.Level.make.Goals as goal

pub blank_patches-requires : goal.blank_patches-requires
blank_patches-requires c =
    λ d h.
    let cells = ap (λ (bs : List Extent). in_boxes bs d) c.deref.ensures.value ∙ sym (list_any-IsPermutation (λ (b : Extent). holds b d) c.args.patch_boxes.now c.in_ok-patch_boxes.patch_boxes.items c.in_ok-patch_boxes.ensures.same) ∙ c.requires.cells d in
    c.requires.near d (sym cells ∙ h)

pub invariant_of-result-clause-apart : goal.invariant_of-result-clause-apart
invariant_of-result-clause-apart c =
    let blank = subst (λ (bs : List Extent). Pairwise IsBlank bs c.in_ok-patches.patches.items) c.deref.ensures.value c.in_ok-patches.ensures in
    blank_apart c.in_ok-patch_boxes.patch_boxes.items c.in_ok-patches.patches.items blank (apart_in_order c.args.patch_boxes.now c.in_ok-patch_boxes.patch_boxes.items c.in_ok-patch_boxes.ensures.same c.requires.apart)

pub returns-clause-masses : goal.returns-clause-masses
unfolding level_of
returns-clause-masses c =
    λ d.
    let blank = subst (λ (bs : List Extent). Pairwise IsBlank bs c.in_ok-patches.patches.items) c.deref.ensures.value c.in_ok-patches.ensures in
    let cells = sym (list_any-IsPermutation (λ (b : Extent). holds b d) c.args.patch_boxes.now c.in_ok-patch_boxes.patch_boxes.items c.in_ok-patch_boxes.ensures.same) ∙ c.requires.cells d in
    blank_masses c.in_ok-patch_boxes.patch_boxes.items c.in_ok-patches.patches.items d blank ∙ ap (λ (t : Bool). cond t (Some 0) None) cells

pub returns-clause-patches : goal.returns-clause-patches
unfolding patches_of
returns-clause-patches c =
    let blank = subst (λ (bs : List Extent). Pairwise IsBlank bs c.in_ok-patches.patches.items) c.deref.ensures.value c.in_ok-patches.ensures in
    subst (λ (bs : List Extent). IsPermutation c.args.patch_boxes.now bs) (sym (blank_boxes c.in_ok-patch_boxes.patch_boxes.items c.in_ok-patches.patches.items blank)) c.in_ok-patch_boxes.ensures.same

pub returns-clause-in_rows : goal.returns-clause-in_rows
unfolding patches_of
returns-clause-in_rows c =
    let blank = subst (λ (bs : List Extent). Pairwise IsBlank bs c.in_ok-patches.patches.items) c.deref.ensures.value c.in_ok-patches.ensures in
    blank_rows c.in_ok-patch_boxes.patch_boxes.items c.in_ok-patches.patches.items blank c.in_ok-patch_boxes.ensures.in_rows

pub returns-clause-marks : goal.returns-clause-marks
unfolding patches_of
returns-clause-marks c =
    let blank = subst (λ (bs : List Extent). Pairwise IsBlank bs c.in_ok-patches.patches.items) c.deref.ensures.value c.in_ok-patches.ensures in
    blank_marks c.in_ok-patch_boxes.patch_boxes.items c.in_ok-patches.patches.items blank

pub returns-clause-fluxes : goal.returns-clause-fluxes
unfolding patches_of
returns-clause-fluxes c =
    let blank = subst (λ (bs : List Extent). Pairwise IsBlank bs c.in_ok-patches.patches.items) c.deref.ensures.value c.in_ok-patches.ensures in
    blank_fluxes c.in_ok-patch_boxes.patch_boxes.items c.in_ok-patches.patches.items blank
