use Rattle.std.proofs.Common.{◌*◌, ◌/◌, refl, sym, ◌∙◌, arith}
use lib.Count.{ones-le}
use Rattle.amr_sign.proofs.Counts.{count_to_bound}
use Rattle.amr_sign.proofs.Bits.{window, none-below, word-more, window-whole}
use Rattle.amr_sign.proofs.words.count_in_row.Goals as goal

pub loop-k-init : goal.loop-k-init
loop-k-init c = sym (none-below c.args.row.now c.args.low c.args.high (64 * (c.args.low / 64)) (omega arith))

pub overflow_add-count : goal.overflow_add-count
overflow_add-count c =
    omega (arith, c.loop-k.invariant, count_to_bound (window c.args.row.now c.args.low c.args.high) (64 * c.loop-k.k), ones-le 64 c.masked_word.result c.masked_word.type_inv)

pub loop-k-preserved : goal.loop-k-preserved
loop-k-preserved c =
    word-more c.args.row.now c.args.low c.args.high c.loop-k.k c.masked_word.result c.loop-k.count _ c.masked_word.type_inv (λ i h. c.masked_word.ensures i h) c.loop-k.invariant refl

pub returns : goal.returns
returns c =
    c.loop-k.invariant ∙ window-whole c.args.row.now c.args.low c.args.high (64 * c.loop-k.k) c.requires.order (omega arith)
