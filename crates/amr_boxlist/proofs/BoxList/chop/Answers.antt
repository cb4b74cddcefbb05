use Rattle.std.proofs.Common.{◌≡◌, ◌∙◌, ap, true, List}
use Rattle.std.specs.List.{flat_map}
use Rattle.amr_box.specs.Cells.{Extent, in_boxes}
use Rattle.amr_boxlist.specs.Chopped.{chopped}
use Rattle.amr_boxlist.proofs.Sets.{parts-apart, parts-same_cells}
use Rattle.amr_boxlist.proofs.PatchBoxes.{chopped-hold}
use Rattle.amr_boxlist.proofs.BoxList.chop.Goals as goal

pub invariant_of-self : goal.invariant_of-self
invariant_of-self c =
    let e : c.in_ok-patch_boxes.patch_boxes.items ≡ flat_map (chopped c.args.max) c.self.inside.boxes.items = c.in_ok-patch_boxes.ensures ∙ ap (flat_map (chopped c.args.max)) c.as_slice.ensures.value in
    rw e (parts-apart (chopped c.args.max) (λ q. true) c.self.inside.boxes.items (chopped-hold c.args.max c.requires) c.self.invariant)

pub returns-clause-cells : goal.returns-clause-cells
returns-clause-cells c =
    let e : c.in_ok-patch_boxes.patch_boxes.items ≡ flat_map (chopped c.args.max) c.self.inside.boxes.items = c.in_ok-patch_boxes.ensures ∙ ap (flat_map (chopped c.args.max)) c.as_slice.ensures.value in
    λ q. ap (λ (l : List Extent). in_boxes l q) e ∙ parts-same_cells (chopped c.args.max) c.self.inside.boxes.items (chopped-hold c.args.max c.requires) q ∙ ap (λ (l : List Extent). in_boxes l q) c.self.view_is

pub returns-clause-apart : goal.returns-clause-apart
returns-clause-apart c =
    let e : c.in_ok-patch_boxes.patch_boxes.items ≡ flat_map (chopped c.args.max) c.self.inside.boxes.items = c.in_ok-patch_boxes.ensures ∙ ap (flat_map (chopped c.args.max)) c.as_slice.ensures.value in
    rw e (parts-apart (chopped c.args.max) (λ q. true) c.self.inside.boxes.items (chopped-hold c.args.max c.requires) c.self.invariant)
