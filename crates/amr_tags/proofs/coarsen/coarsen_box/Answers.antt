use Rattle.std.proofs.Common.{◌∙◌, length}
use Rattle.amr_box.specs.Cells.{height, width}
use Rattle.amr_tags.specs.Bits.{words_for}
use Rattle.amr_tags.proofs.Coarsens.{coarse-cells, coarse-rows, sized}
use Rattle.amr_tags.proofs.coarsen.coarsen_box.Goals as goal

pub returns-clause-rows : goal.returns-clause-rows
returns-clause-rows c =
    let out = c.coarsen_rows.new.out.items in
    coarse-rows c.args.b.now c.requires.near c.args.words.now c.requires.rows c.requires.even c.args.coarse.now c.requires.parents c.requires.near_coarse out (c.coarsen_rows.ensures.room ∙ c.requires.room)
    (sized _ _ _ (words_for (width c.args.b.now)) (height c.args.b.now) (words_for (width c.args.coarse.now)) (length out) c.args.words.now out c.size_of.ensures.per_row c.size_of.ensures.height c.size_of-2.ensures.per_row c.coarsen_rows.ensures.bits)

pub returns-clause-cells : goal.returns-clause-cells
returns-clause-cells c =
    let out = c.coarsen_rows.new.out.items in
    coarse-cells c.args.b.now c.requires.near c.args.words.now c.requires.rows c.requires.even c.args.coarse.now c.requires.parents c.requires.near_coarse out (c.coarsen_rows.ensures.room ∙ c.requires.room)
    (sized _ _ _ (words_for (width c.args.b.now)) (height c.args.b.now) (words_for (width c.args.coarse.now)) (length out) c.args.words.now out c.size_of.ensures.per_row c.size_of.ensures.height c.size_of-2.ensures.per_row c.coarsen_rows.ensures.bits)
