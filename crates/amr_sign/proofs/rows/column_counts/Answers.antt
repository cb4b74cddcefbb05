use Rattle.std.proofs.Common.{sym, ◌∙◌, arith, length}
use Rattle.amr_sign.specs.Counts.{count_to}
use Rattle.amr_sign.specs.Rows.{entry}
use Rattle.amr_sign.proofs.RowSets.{signature-columns, written_back}
use Rattle.amr_sign.proofs.rows.column_counts.Goals as goal

pub returns : goal.returns
returns c =
    let rows = c.args.rows.now in
    written_back (λ i. count_to (λ j. entry rows j i) (length rows)) _ _ c.count_columns.new.counts _ (omega arith) (omega (arith, c.in_ok-counts.ensures.len)) (λ i h. c.count_columns.ensures i h) ∙ sym (signature-columns rows)
