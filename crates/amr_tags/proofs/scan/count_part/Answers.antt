use Rattle.std.proofs.Common.{◌∙◌, ◌+◌, ◌-◌, ◌/◌, ◌<◌, ap, subst, sym, ℕ}
use Rattle.amr_box.specs.Cells.{width}
use Rattle.amr_tags.specs.Bits.{words_for}
use Rattle.amr_tags.specs.Parts.{row_count, rows_from}
use Rattle.amr_tags.proofs.CellCounts.{column_there, part-count, window_there}
use Rattle.amr_tags.proofs.scan.count_part.Goals as goal

pub count_rows-requires-clause-order : goal.count_rows-requires-clause-order
count_rows-requires-clause-order c = c.window_of-window.ensures.place.wide

pub count_rows-requires-clause-inside : goal.count_rows-requires-clause-inside
count_rows-requires-clause-inside c =
    subst (λ (p : ℕ). c.window_of-window.result.east / 64 < p) (sym (c.words_for-per_row.ensures ∙ ap words_for c.width.ensures.value)) (column_there c.window_of-window.result.east (width c.args.b.now) c.window_of-window.ensures.place.columns)

pub count_rows-requires-clause-rows_order : goal.count_rows-requires-clause-rows_order
count_rows-requires-clause-rows_order c = c.window_of-window.ensures.place.high

pub count_rows-requires-clause-there : goal.count_rows-requires-clause-there
count_rows-requires-clause-there c =
    window_there c.args.b.now c.args.part.now c.args.words.now c.words_for-per_row.result c.window_of-window.result.west c.window_of-window.result.south c.window_of-window.result.east c.window_of-window.result.north c.window_of-window.ensures.place (c.words_for-per_row.ensures ∙ ap words_for c.width.ensures.value) c.requires.count

pub returns : goal.returns
returns c =
    c.count_rows.ensures
    ∙ ap (λ p. rows_from (row_count p c.args.words.now c.window_of-window.result.west c.window_of-window.result.east) c.window_of-window.result.south (c.window_of-window.result.north + 1 - c.window_of-window.result.south)) (c.words_for-per_row.ensures ∙ ap words_for c.width.ensures.value)
    ∙ part-count c.args.b.now c.args.part.now c.args.words.now c.window_of-window.result.west c.window_of-window.result.south c.window_of-window.result.east c.window_of-window.result.north c.window_of-window.ensures.place
