use Rattle.std.proofs.Common.{◌∙◌, ap, arith}
use Rattle.amr_box.specs.Cells.{Extent}
use Rattle.amr_boxlist.specs.Shared.{shared}
use Rattle.amr_boxlist.proofs.SharedCells.{sum_small}
use Rattle.amr_boxlist.proofs.overlap.count_shared.Goals as goal

pub overflow_add-count : goal.overflow_add-count
overflow_add-count c =
    let e = c.shared-count.ensures ∙ ap (λ (a : Extent). shared c.args.b.now a) c.a-item.is in
    let small = sum_small c.args.boxes.now c.args.b.now c.a-item.result c.loop-a.a-index c.requires.apart c.requires.near c.loop-a-test.true in
    omega (arith, c.loop-a.invariant, e, small)
