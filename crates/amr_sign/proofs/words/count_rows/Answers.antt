use Rattle.std.proofs.Common.{◌+◌, ◌-◌, ◌∙◌, arith}
use Rattle.amr_sign.specs.Counts.{count_to}
use Rattle.amr_sign.specs.Words.{bit_of}
use Rattle.amr_sign.proofs.Parts.{row-count, row-counted}
use Rattle.amr_sign.proofs.words.count_rows.Goals as goal

pub loop-y-preserved : goal.loop-y-preserved
loop-y-preserved c =
    let at = c.args.at in
    row-counted (λ j. count_to (λ i. bit_of c.args.per_row c.args.words.now (at.west + i) (at.south + j)) (at.east + 1 - at.west)) c.loop-y.counts (c.loop-y.y - at.south) _ _ (omega arith) (omega arith) c.loop-y.invariant
    (c.count_in_row.ensures ∙ row-count c.args.words.now c.args.per_row at.west at.east at.south c.loop-y.y (omega arith) c.requires.columns_inside)
