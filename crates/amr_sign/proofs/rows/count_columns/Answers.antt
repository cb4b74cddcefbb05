use Rattle.std.proofs.Common.{sym, ◌∙◌, arith}
use Rattle.amr_sign.specs.Rows.{entry}
use Rattle.amr_sign.proofs.Counts.{count_to_bound}
use Rattle.amr_sign.proofs.RowSets.{column_more, row_len}
use Rattle.amr_sign.proofs.rows.count_columns.Goals as goal

pub add_row-requires-clause-same : goal.add_row-requires-clause-same
add_row-requires-clause-same c =
    c.deref.ensures.len ∙ row_len c.args.rows.now c.loop-row.row-index c.row-item.result c.requires.even (omega arith) c.row-item.is ∙ sym c.requires.whole ∙ sym c.loop-row.auto.counts

pub add_row-requires-clause-room : goal.add_row-requires-clause-room
add_row-requires-clause-room c = λ i h.
    omega (arith, c.loop-row.invariant i h, count_to_bound (λ j. entry c.args.rows.now j i) c.loop-row.row-index)

pub loop-row-preserved : goal.loop-row-preserved
loop-row-preserved c = λ i h.
    column_more c.args.rows.now c.loop-row.row-index c.row-item.result c.deref.result.now i _ _ (omega arith) c.row-item.is c.deref.ensures.value (c.loop-row.invariant i (omega arith)) (c.add_row.ensures i h)
