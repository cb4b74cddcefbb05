use Rattle.std.proofs.Common.{◌+◌, ◌-◌, sym, ◌∙◌, arith}
use Rattle.amr_sign.specs.Counts.{count_to}
use Rattle.amr_sign.specs.Words.{bit_of}
use Rattle.amr_sign.proofs.RowSets.{written_back}
use Rattle.amr_sign.proofs.Parts.{IsWindow, signature-columns, signature-rows}
use Rattle.amr_sign.proofs.both.both_signatures.Goals as goal

pub returns-clause-columns : goal.returns-clause-columns
returns-clause-columns c =
    let at = c.window_of-at.result in
    let e = c.window_of-at.ensures in
    let is : IsWindow c.args.part at.west at.east at.south at.north = record { west_is = e.west; east_is = e.east; south_is = e.south; north_is = e.north; wide = e.wide; high = e.high } in
    written_back (λ i. count_to (λ j. bit_of c.args.per_row c.args.words.now (at.west + i) (at.south + j)) (at.north + 1 - at.south)) _ _ c.count_window.new.columns _ (omega arith) (omega (arith, c.in_ok-columns.ensures.len)) (λ k h. c.count_window.ensures.columns k h)
    ∙ sym (signature-columns c.args.words.now c.args.per_row c.args.part at.west at.east at.south at.north is)

pub returns-clause-rows : goal.returns-clause-rows
returns-clause-rows c =
    let at = c.window_of-at.result in
    let e = c.window_of-at.ensures in
    let is : IsWindow c.args.part at.west at.east at.south at.north = record { west_is = e.west; east_is = e.east; south_is = e.south; north_is = e.north; wide = e.wide; high = e.high } in
    written_back (λ j. count_to (λ i. bit_of c.args.per_row c.args.words.now (at.west + i) (at.south + j)) (at.east + 1 - at.west)) _ _ c.count_window.new.rows _ (omega arith) (omega (arith, c.in_ok-rows.ensures.len)) (λ k h. c.count_window.ensures.rows k h)
    ∙ sym (signature-rows c.args.words.now c.args.per_row c.args.part at.west at.east at.south at.north is)
