use Rattle.std.proofs.Common.{◌∙◌, ap, length}
use Rattle.amr_tags.proofs.Rounds.{across-of, along-of, grown-bits, grown-rows}
use Rattle.amr_tags.proofs.grow.grow_once.Goals as goal

pub returns-clause-rows : goal.returns-clause-rows
returns-clause-rows c =
    grown-rows c.args.wrap_x c.args.wrap_y c.args.width c.args.height c.args.words.now.items c.widen.new.out.items c.heighten.new.out.items c.requires.rows
    (across-of c.args.wrap_x c.words_for-per_row.result c.args.width c.widen.new.out.items c.deref.result.now c.args.words.now.items c.words_for-per_row.ensures c.deref.ensures.value c.widen.ensures.bits)
    (along-of c.args.wrap_y c.words_for-per_row.result c.args.width c.args.height c.heighten.new.out.items c.deref-2.result.now c.widen.new.out.items c.words_for-per_row.ensures c.deref-2.ensures.value c.heighten.ensures.bits)
    (c.widen.ensures.room ∙ ap length c.deref.ensures.value)
    (c.heighten.ensures.room ∙ ap length c.deref-2.ensures.value ∙ c.widen.ensures.room ∙ ap length c.deref.ensures.value)

pub returns-clause-bits : goal.returns-clause-bits
returns-clause-bits c = grown-bits c.args.wrap_x c.args.wrap_y c.args.width c.args.height c.args.words.now.items c.widen.new.out.items c.heighten.new.out.items c.requires.rows
    (across-of c.args.wrap_x c.words_for-per_row.result c.args.width c.widen.new.out.items c.deref.result.now c.args.words.now.items c.words_for-per_row.ensures c.deref.ensures.value c.widen.ensures.bits)
    (along-of c.args.wrap_y c.words_for-per_row.result c.args.width c.args.height c.heighten.new.out.items c.deref-2.result.now c.widen.new.out.items c.words_for-per_row.ensures c.deref-2.ensures.value c.heighten.ensures.bits)
    (c.widen.ensures.room ∙ ap length c.deref.ensures.value)
