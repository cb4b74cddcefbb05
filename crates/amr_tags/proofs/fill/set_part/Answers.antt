use Rattle.std.proofs.Common.{◌≡◌, ◌∙◌, ◌/◌, ◌<◌, ap, subst, sym, ℕ}
use Rattle.amr_box.specs.Cells.{width}
use Rattle.amr_tags.specs.Bits.{bit_of, words_for}
use Rattle.amr_tags.specs.Parts.{with_part}
use Rattle.amr_tags.proofs.CellCounts.{column_there, window_there}
use Rattle.amr_tags.proofs.Fills.{cells_after_part, rows_after_part}
use Rattle.amr_tags.proofs.fill.set_part.Goals as goal

pub set_rows-requires-clause-order : goal.set_rows-requires-clause-order
set_rows-requires-clause-order c = c.window_of-window.ensures.place.wide

pub set_rows-requires-clause-inside : goal.set_rows-requires-clause-inside
set_rows-requires-clause-inside c =
    subst (λ (p : ℕ). c.window_of-window.result.east / 64 < p) (sym (c.words_for-per_row.ensures ∙ ap words_for c.width.ensures.value)) (column_there c.window_of-window.result.east (width c.args.b.now) c.window_of-window.ensures.place.columns)

pub set_rows-requires-clause-rows_order : goal.set_rows-requires-clause-rows_order
set_rows-requires-clause-rows_order c = c.window_of-window.ensures.place.high

pub set_rows-requires-clause-there : goal.set_rows-requires-clause-there
set_rows-requires-clause-there c =
    window_there c.args.b.now c.args.part.now c.args.words.now.items c.words_for-per_row.result c.window_of-window.result.west c.window_of-window.result.south c.window_of-window.result.east c.window_of-window.result.north c.window_of-window.ensures.place (c.words_for-per_row.ensures ∙ ap words_for c.width.ensures.value) c.requires.rows.count

pub returns-clause-rows : goal.returns-clause-rows
returns-clause-rows c =
    let P : ℕ → Type 0 = λ (p : ℕ). (i r : ℕ) → i / 64 < p → bit_of p c.set_rows.new.words.items i r ≡ with_part p c.args.words.now.items c.window_of-window.result.west c.window_of-window.result.east c.window_of-window.result.south c.window_of-window.result.north i r in
    rows_after_part c.args.b.now c.args.words.now.items c.set_rows.new.words.items c.window_of-window.result.west c.window_of-window.result.south c.window_of-window.result.east c.window_of-window.result.north c.requires.rows c.window_of-window.ensures.place.columns c.set_rows.ensures.count (subst P (c.words_for-per_row.ensures ∙ ap words_for c.width.ensures.value) c.set_rows.ensures.bits)

pub returns-clause-cells : goal.returns-clause-cells
returns-clause-cells c =
    let P : ℕ → Type 0 = λ (p : ℕ). (i r : ℕ) → i / 64 < p → bit_of p c.set_rows.new.words.items i r ≡ with_part p c.args.words.now.items c.window_of-window.result.west c.window_of-window.result.east c.window_of-window.result.south c.window_of-window.result.north i r in
    λ q. cells_after_part c.args.b.now c.args.part.now c.args.words.now.items c.set_rows.new.words.items c.window_of-window.result.west c.window_of-window.result.south c.window_of-window.result.east c.window_of-window.result.north c.window_of-window.ensures.place (subst P (c.words_for-per_row.ensures ∙ ap words_for c.width.ensures.value) c.set_rows.ensures.bits) q
