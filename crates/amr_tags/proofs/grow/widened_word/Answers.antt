use Rattle.std.proofs.Common.{◌∙◌, ap, arith, ◌||◌, ◌&&◌, ◌-◌, ◌%◌}
use Rattle.std.specs.Prelude.{◌==◌, nat_le}
use Rattle.amr_tags.proofs.Shifts.{inner-word, last-word, three-beside}
use Rattle.amr_tags.proofs.grow.widened_word.Goals as goal

pub returns-then-k-per_row : goal.returns-then-k-per_row
returns-then-k-per_row c = λ b below.
    c.joined-all.ensures b below
    ∙ three-beside c.args.per_row c.args.words.now c.args.wrap c.args.width c.args.k c.args.j c.up.result c.down.result c.requires.shape c.requires.some c.requires.inside (c.up.ensures.first ∙ c.bit_before-first.ensures) c.up.ensures.others (c.down.ensures.last ∙ c.bit_after-last.ensures) c.down.ensures.others b below
    ∙ inner-word c.args.per_row c.args.words.now c.args.wrap c.args.width c.args.k c.args.j b c.requires.shape c.requires.some (omega arith) below

pub returns-else-k-per_row : goal.returns-else-k-per_row
returns-else-k-per_row c = λ b below.
    c.to_bit.ensures b below
    ∙ ap (λ t. t && nat_le b ((c.args.width - 1) % 64)) (c.with_bit.ensures b below)
    ∙ ap (λ t. (t || (c.bit_around-around.result && (b == (c.args.width - 1) % 64))) && nat_le b ((c.args.width - 1) % 64))
    (c.joined-all.ensures b below
    ∙ three-beside c.args.per_row c.args.words.now c.args.wrap c.args.width c.args.k c.args.j c.up.result c.down.result c.requires.shape c.requires.some c.requires.inside (c.up.ensures.first ∙ c.bit_before-first.ensures) c.up.ensures.others (c.down.ensures.last ∙ c.bit_after-last.ensures) c.down.ensures.others b below)
    ∙ last-word c.args.per_row c.args.words.now c.args.wrap c.args.width c.args.k c.args.j b c.bit_around-around.result c.requires.shape c.requires.some (omega arith) below c.requires.unused c.bit_around-around.ensures
