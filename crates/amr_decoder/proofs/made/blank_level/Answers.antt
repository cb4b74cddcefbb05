use Rattle.std.proofs.Common.{◌≡◌, ◌∙◌, List, cond, map, ap, sym, subst, refl}
use Rattle.std.specs.List.{flat_map}
use Rattle.std.specs.List.Sorted.{IsPermutation}
use Rattle.std.specs.declared.option.Option.TheVariants.{None, Some}
use Rattle.amr_box.specs.Cells.{Extent, in_boxes}
use Rattle.amr_boxlist.specs.Chopped.{chopped}
use Rattle.amr_boxlist.specs.Lists.{AreApart, holders}
use Rattle.amr_patch.specs.Levels.{patches_of}
use Rattle.amr_patch.specs.Patches.{AreNear, box}
use Rattle.amr_patch.proofs.Apart.{apart_from_counts}
use Rattle.amr_decoder.specs.Grids.{boxes_of}
use Rattle.amr_decoder.proofs.made.blank_level.Goals as goal

pub make-requires-clause-apart : goal.make-requires-clause-apart
make-requires-clause-apart c =
    apart_from_counts holders (λ d. refl) (λ b bs d. refl) c.list-patch_boxes.result.now (subst (λ (l : List Extent). AreApart l) (sym c.list-patch_boxes.ensures.boxes) c.list-patch_boxes.ensures.apart)

pub make-requires-clause-near : goal.make-requires-clause-near
make-requires-clause-near c =
    let items : c.in_ok-boxes.boxes.items ≡ boxes_of c.args.grids.now = c.in_ok-boxes.ensures.items ∙ c.list-whole.ensures.boxes ∙ c.in_ok-list.ensures in
    subst (λ (l : List Extent). AreNear l) (sym (c.deref.ensures.value ∙ items)) c.requires.near

pub make-requires-clause-cells : goal.make-requires-clause-cells
make-requires-clause-cells c d =
    let items : c.in_ok-boxes.boxes.items ≡ c.in_ok-list.list = c.in_ok-boxes.ensures.items ∙ c.list-whole.ensures.boxes in
    ap (λ (l : List Extent). in_boxes l d) c.list-patch_boxes.ensures.boxes
    ∙ c.in_ok-chop.ensures.cells d
    ∙ sym (ap (λ (l : List Extent). in_boxes l d) (c.deref.ensures.value ∙ items))

pub returns-clause-boxes : goal.returns-clause-boxes
returns-clause-boxes c = c.in_ok-level.ensures.boxes ∙ c.deref.ensures.value ∙ c.in_ok-boxes.ensures.items ∙ c.list-whole.ensures.boxes ∙ c.in_ok-list.ensures

pub returns-clause-masses : goal.returns-clause-masses
returns-clause-masses c d =
    c.in_ok-level.ensures.masses d
    ∙ ap (λ (l : List Extent). cond (in_boxes l d) (Some 0) None) (c.deref.ensures.value ∙ c.in_ok-boxes.ensures.items ∙ c.list-whole.ensures.boxes ∙ c.in_ok-list.ensures)

pub returns-clause-chopped : goal.returns-clause-chopped
returns-clause-chopped c =
    let max = c.args.max in
    let boxes = c.in_ok-level.ensures.boxes ∙ c.deref.ensures.value ∙ c.in_ok-boxes.ensures.items ∙ c.list-whole.ensures.boxes in
    let list = c.list-patch_boxes.ensures.boxes ∙ c.in_ok-chop.ensures.chopped ∙ ap (flat_map (chopped max)) (sym boxes) in
    record { patches = subst (λ (l : List Extent). IsPermutation l (map box (patches_of c.in_ok-level.level))) list c.in_ok-level.ensures.patches }
