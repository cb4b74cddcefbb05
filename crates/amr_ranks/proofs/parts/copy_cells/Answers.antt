use Rattle.std.proofs.Common.{ℕ, ◌+◌, ◌++◌, List, take, sym, ap, ◌∙◌, arith}
use Rattle.amr_ranks.specs.declared.item.Item.TheVariants.{Cell, Share}
use Rattle.amr_ranks.specs.declared.item.FrameCell.{FrameCell}
use Rattle.amr_ranks.specs.Items.{cells_in}
use Rattle.amr_ranks.proofs.Slices.{cells_more, cells_count, cells_fit, copied_more, copied_same}
use Rattle.amr_ranks.proofs.parts.copy_cells.Goals as goal
use Rattle.amr_ranks.proofs.parts.copy_cells.Goals.{in-Cell, in-Share}

pub bounds-into-end : goal.bounds-into-end
bounds-into-end c =
    let f = cells_fit c.args.items.now c.loop-item.item-index (Cell c.in-Cell.patch c.in-Cell.slot c.in-Cell.mass) _ c.loop-item-test.true c.in-Cell.is in
    let i = c.loop-item.invariant.end in omega arith

pub loop-item-preserved : goal.loop-item-preserved
loop-item-preserved c =
    let items = c.args.items.now in
    let i : ℕ = c.loop-item.item-index in
    let front : List FrameCell = take c.args.start c.args.into.now in
    let copied : List FrameCell = cells_in (take i items) in
    elim c.match-item.branch [
      | in-Cell w ↦ (
          let a = w.in-Cell in
          let y : FrameCell = record { patch = a.patch; slot = a.slot; mass = a.mass } in
          let more = cells_more items i (Cell a.patch a.slot a.mass) _ c.loop-item-test.true a.is in
          let count = cells_count items i (Cell a.patch a.slot a.mass) _ c.loop-item-test.true a.is in
          let fit = cells_fit items i (Cell a.patch a.slot a.mass) _ c.loop-item-test.true a.is in
          record {
            end = omega arith;
            cells = ap (λ n. take n c.match-item.into) w.end-is ∙ (ap (take (c.loop-item.end + 1)) w.into-is
                ∙ (copied_more c.loop-item.into front copied c.loop-item.end y (let e = c.loop-item.invariant.end in omega arith) c.loop-item.invariant.cells ∙ ap (λ (xs : List FrameCell). front ++ xs) (sym more)));
          }
          )
      | in-Share w ↦ (
          let a = w.in-Share in
          let more = cells_more items i (Share a.word a.amount) _ c.loop-item-test.true a.is in
          let count = cells_count items i (Share a.word a.amount) _ c.loop-item-test.true a.is in
          record {
            end = omega arith;
            cells = ap (λ n. take n c.match-item.into) w.end-is ∙ (ap (take c.loop-item.end) w.into-is
                ∙ (copied_same front copied (take c.loop-item.end c.loop-item.into) c.loop-item.invariant.cells ∙ ap (λ (xs : List FrameCell). front ++ xs) (sym more)));
          }
          )
    ]
