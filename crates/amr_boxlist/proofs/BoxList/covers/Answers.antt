use Rattle.std.proofs.Common.{◌∙◌, subst, sym, List, ◌↔◌, IsTrue}
use Rattle.amr_box.specs.declared.Cell.{Cell}
use Rattle.amr_box.specs.Cells.{Extent, holds, in_boxes}
use Rattle.amr_boxlist.specs.Lists.{AreApart}
use Rattle.amr_boxlist.proofs.BoxList.covers.Goals as goal

pub covers-requires-clause-apart : goal.covers-requires-clause-apart
covers-requires-clause-apart c = subst (λ (l : List Extent). AreApart l) (sym c.as_slice.ensures.value) c.self.invariant

pub returns : goal.returns
returns c =
    let P : List Extent → Type 0 = λ (l : List Extent). IsTrue c.covers.result ↔ ((q : Cell) → IsTrue (holds c.args.b.now q) → IsTrue (in_boxes l q)) in
    subst P (c.as_slice.ensures.value ∙ c.self.view_is) c.covers.ensures
