use Rattle.std.proofs.Common.{◌+◌, ◌-◌, sym, ◌∙◌, arith}
use Rattle.amr_sign.specs.Counts.{count_to}
use Rattle.amr_sign.specs.Words.{bit_of}
use Rattle.amr_sign.proofs.RowSets.{written_back}
use Rattle.amr_sign.proofs.Parts.{IsWindow, signature-rows}
use Rattle.amr_sign.proofs.words.row_counts.Goals as goal

pub returns : goal.returns
returns c =
    let at = c.window_of-at.result in
    let e = c.window_of-at.ensures in
    let is : IsWindow c.args.part at.west at.east at.south at.north = record { west_is = e.west; east_is = e.east; south_is = e.south; north_is = e.north; wide = e.wide; high = e.high } in
    written_back (λ j. count_to (λ i. bit_of c.args.per_row c.args.words.now (at.west + i) (at.south + j)) (at.east + 1 - at.west)) _ _ c.count_rows.new.counts _ (omega arith) (omega (arith, c.in_ok-counts.ensures.len)) (λ k h. c.count_rows.ensures k h)
    ∙ sym (signature-rows c.args.words.now c.args.per_row c.args.part at.west at.east at.south at.north is)
