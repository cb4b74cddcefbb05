use Rattle.std.proofs.Common.{sym, ◌∙◌, arith}
use Rattle.amr_sign.specs.Counts.{count_to}
use Rattle.amr_sign.specs.Rows.{columns_of, entry}
use Rattle.amr_sign.proofs.RowSets.{signature-rows, written_back}
use Rattle.amr_sign.proofs.rows.row_counts.Goals as goal

pub returns : goal.returns
returns c =
    let rows = c.args.rows.now in
    written_back (λ j. count_to (λ i. entry rows j i) (columns_of rows)) _ _ c.count_rows.new.counts _ (omega arith) (omega (arith, c.in_ok-counts.ensures.len)) (λ j h. c.count_rows.ensures j h) ∙ sym (signature-rows rows)
