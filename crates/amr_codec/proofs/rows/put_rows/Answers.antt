use Rattle.std.proofs.Common.{◌≡◌, ℕ, List, ◌++◌, ap, sym, ◌∙◌, arith}
use Rattle.std.specs.List.{flat_map, range_with_len}
use Rattle.std.proofs.lemmas.Int.{ints}
use Rattle.amr_box.specs.declared.Cell.{Cell}
use Rattle.amr_box.specs.Cells.{height, width}
use Rattle.amr_def.specs.State.{mass_of}
use Rattle.amr_patch.specs.Levels.{level_of}
use Rattle.amr_payload.specs.Payload.{number_bytes}
use Rattle.amr_codec.specs.MassWidths.{width_of}
use Rattle.amr_patch.specs.BoxRows.{mass_in}
use Rattle.amr_codec.proofs.Appending.{number_more, rows_of_cells}
use Rattle.amr_codec.proofs.rows.put_rows.Goals as goal

pub put_row-requires-clause-row : goal.put_row-requires-clause-row
put_row-requires-clause-row c = omega (arith, ints, c.height-row-end.ensures.corners, c.loop-row-test.true)

pub loop-row-preserved : goal.loop-row-preserved
loop-row-preserved c =
    let l = c.loop-row in
    let b = c.args.b.now in
    let r : ℕ → List ℕ = λ j. flat_map (λ i. number_bytes (width_of c.args.mass_width) (mass_in c.args.level.now b j i)) (range_with_len 0 (width b)) in
    c.in_ok-put_row.ensures ∙ ap (λ (o : List ℕ). o ++ r l.row) l.invariant ∙ number_more r c.args.out.now.items l.row

pub returns : goal.returns
returns c =
    let l = c.loop-row in
    let b = c.args.b.now in
    let out = c.args.out.now.items in
    let r : ℕ → List ℕ = λ j. flat_map (λ i. number_bytes (width_of c.args.mass_width) (mass_in c.args.level.now b j i)) (range_with_len 0 (width b)) in
    let g : Cell → List ℕ = λ d. number_bytes (width_of c.args.mass_width) (mass_of (level_of c.args.level.now).masses d) in
    let all : l.row ≡ height b = omega (arith, l.auto.row-end, c.loop-row-test.false) in
    l.invariant ∙ ap (λ n. out ++ flat_map r (range_with_len 0 n)) all ∙ ap (λ (t : List ℕ). out ++ t) (sym (rows_of_cells g b))
