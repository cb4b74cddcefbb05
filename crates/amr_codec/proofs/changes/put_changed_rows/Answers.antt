use Rattle.std.proofs.Common.{◌≡◌, ℕ, List, ◌++◌, ap, ◌∙◌, arith}
use Rattle.std.specs.List.{flat_map, range_with_len}
use Rattle.std.proofs.lemmas.Int.{ints}
use Rattle.amr_box.specs.Cells.{height}
use Rattle.amr_patch.specs.Levels.{level_of}
use Rattle.amr_payload.specs.Payload.{changed_bytes}
use Rattle.amr_codec.specs.Forms.{cells_of_row, masses_before}
use Rattle.amr_codec.proofs.Appending.{number_more}
use Rattle.amr_codec.proofs.KeptRows.{rows_listed}
use Rattle.amr_codec.proofs.changes.put_changed_rows.Goals as goal

pub put_changed_row-requires-clause-row : goal.put_changed_row-requires-clause-row
put_changed_row-requires-clause-row c = omega (arith, ints, c.height-row-end.ensures.corners, c.loop-row-test.true)

pub loop-row-preserved : goal.loop-row-preserved
loop-row-preserved c =
    let l = c.loop-row in
    let r : ℕ → List ℕ = λ j. changed_bytes (masses_before c.args.old) (level_of c.args.level.now).masses (cells_of_row c.args.b.now j) in
    c.in_ok-put_changed_row.ensures ∙ ap (λ (o : List ℕ). o ++ r l.row) l.invariant ∙ number_more r c.args.out.now.items l.row

pub returns : goal.returns
returns c =
    let l = c.loop-row in
    let b = c.args.b.now in
    let out = c.args.out.now.items in
    let r : ℕ → List ℕ = λ j. changed_bytes (masses_before c.args.old) (level_of c.args.level.now).masses (cells_of_row b j) in
    let all : l.row ≡ height b = omega (arith, l.auto.row-end, c.loop-row-test.false) in
    l.invariant ∙ ap (λ n. out ++ flat_map r (range_with_len 0 n)) all ∙ ap (λ (t : List ℕ). out ++ t) (rows_listed (masses_before c.args.old) (level_of c.args.level.now).masses b)
