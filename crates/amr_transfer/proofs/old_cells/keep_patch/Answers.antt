use Rattle.std.proofs.Common.{◌&&◌, refl, sym, subst}
use Rattle.amr_box.specs.Cells.{Extent, IsBoxOf, IsNear, holds}
use Rattle.amr_patch.specs.Patches.{box}
use Rattle.amr_transfer.proofs.BoxRows.{near_common}
use Rattle.amr_transfer.proofs.old_cells.keep_patch.Goals as goal

pub keep_common-requires-clause-near : goal.keep_common-requires-clause-near
keep_common-requires-clause-near c =
    let near = subst (λ (b : Extent). IsNear b) (sym c.bx.ensures.value) c.bx.ensures.near in
    subst (λ (b : Extent). IsNear b) (sym c.in-Some.ensures.corners) (near_common c.bx.result c.bx-2.result near (c.in-Some.ensures.some.0 refl))

pub keep_common-requires-clause-cells : goal.keep_common-requires-clause-cells
keep_common-requires-clause-cells c =
    let first = subst (λ (a : Extent). IsBoxOf c.in-Some.common (λ d. holds a d && holds c.bx-2.result d)) c.bx.ensures.value c.in-Some.ensures.cells in
    subst (λ (a : Extent). IsBoxOf c.in-Some.common (λ d. holds (box c.args.patch.now) d && holds a d)) c.bx-2.ensures.value first
