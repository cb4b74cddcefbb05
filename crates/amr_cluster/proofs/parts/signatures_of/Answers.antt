use Rattle.amr_box.specs.declared.Axis.TheVariants.{X, Y}
use Rattle.amr_cluster.proofs.Tagged.{IsOffset, in_rows, signature-offset}
use Rattle.amr_cluster.proofs.parts.signatures_of.Goals as goal

pub both_signatures-requires : goal.both_signatures-requires
both_signatures-requires c =
    let is : IsOffset c.args.tags.now c.args.part c.offset-at.result = record { laid_out = c.words.ensures.laid_out; inside = c.requires.inside; corners = rw c.bx.ensures.value at c.offset-at.ensures } in
    record { inside = rw (c.per_row.ensures, c.words.ensures.words) (in_rows c.args.tags.now c.args.part c.offset-at.result is) }

pub returns-clause-columns : goal.returns-clause-columns
returns-clause-columns c =
    let is : IsOffset c.args.tags.now c.args.part c.offset-at.result = record { laid_out = c.words.ensures.laid_out; inside = c.requires.inside; corners = rw c.bx.ensures.value at c.offset-at.ensures } in
    rw (← signature-offset c.args.tags.now c.args.part c.offset-at.result is X, ← c.per_row.ensures, ← c.words.ensures.words) c.both_signatures.ensures.columns

pub returns-clause-rows : goal.returns-clause-rows
returns-clause-rows c =
    let is : IsOffset c.args.tags.now c.args.part c.offset-at.result = record { laid_out = c.words.ensures.laid_out; inside = c.requires.inside; corners = rw c.bx.ensures.value at c.offset-at.ensures } in
    rw (← signature-offset c.args.tags.now c.args.part c.offset-at.result is Y, ← c.per_row.ensures, ← c.words.ensures.words) c.both_signatures.ensures.rows
