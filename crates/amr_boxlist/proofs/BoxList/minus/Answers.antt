use Rattle.std.proofs.Common.{◌≡◌, ◌∙◌, ◌&&◌, ap, List}
use Rattle.std.specs.Prelude.{not}
use Rattle.std.specs.List.{flat_map}
use Rattle.amr_box.specs.Cells.{Extent, holds, in_boxes}
use Rattle.amr_boxlist.specs.Remnants.{remnants, whole_or_frame}
use Rattle.amr_boxlist.proofs.Sets.{parts-apart, parts-in_boxes}
use Rattle.amr_boxlist.proofs.Frame.{remnants-hold}
use Rattle.amr_boxlist.proofs.Corners.{by_corners}
use Rattle.amr_boxlist.proofs.BoxList.minus.Goals as goal

pub invariant_of-self : goal.invariant_of-self
invariant_of-self c =
    let e : c.in_ok-left.left.items ≡ flat_map (whole_or_frame c.args.b) c.self.inside.boxes.items = c.in_ok-left.ensures ∙ ap (flat_map (whole_or_frame c.args.b)) c.as_slice.ensures.value in
    rw e (parts-apart (whole_or_frame c.args.b) (λ q. not (holds c.args.b q)) c.self.inside.boxes.items (remnants-hold c.args.b) c.self.invariant)

pub returns-clause-cells : goal.returns-clause-cells
returns-clause-cells c =
    let e : c.in_ok-left.left.items ≡ flat_map (whole_or_frame c.args.b) c.self.inside.boxes.items = c.in_ok-left.ensures ∙ ap (flat_map (whole_or_frame c.args.b)) c.as_slice.ensures.value in
    λ q. ap (λ (l : List Extent). in_boxes l q) e ∙ parts-in_boxes (whole_or_frame c.args.b) (λ q. not (holds c.args.b q)) c.self.inside.boxes.items (remnants-hold c.args.b) q ∙ ap (λ (l : List Extent). in_boxes l q && not (holds c.args.b q)) c.self.view_is

pub returns-clause-apart : goal.returns-clause-apart
returns-clause-apart c =
    let e : c.in_ok-left.left.items ≡ flat_map (whole_or_frame c.args.b) c.self.inside.boxes.items = c.in_ok-left.ensures ∙ ap (flat_map (whole_or_frame c.args.b)) c.as_slice.ensures.value in
    rw e (parts-apart (whole_or_frame c.args.b) (λ q. not (holds c.args.b q)) c.self.inside.boxes.items (remnants-hold c.args.b) c.self.invariant)

pub returns-clause-remnants : goal.returns-clause-remnants
returns-clause-remnants c =
    let same : whole_or_frame c.args.b ≡ remnants c.args.b = λ i a. by_corners c.args.b a i in
    c.in_ok-left.ensures ∙ ap (flat_map (whole_or_frame c.args.b)) (c.as_slice.ensures.value ∙ c.self.view_is) ∙ ap (λ (f : Extent → List Extent). flat_map f c.args.self.now) same
