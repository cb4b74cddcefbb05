use Rattle.std.proofs.Common.{◌∙◌, ◌&&◌, ap, List}
use Rattle.amr_box.specs.Cells.{Extent, holds, in_boxes}
use Rattle.amr_boxlist.proofs.Sets.{apart-push}
use Rattle.amr_boxlist.proofs.BoxList.push_disjoint.Goals as goal

pub invariant_of-self-2 : goal.invariant_of-self-2
invariant_of-self-2 c = rw c.in_ok-push.ensures.items (apart-push _ _ c.self.invariant (λ k. ap (λ (l : List Extent). in_boxes l k && holds c.args.b k) c.self.view_is ∙ c.requires k))
