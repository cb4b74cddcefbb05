use Rattle.std.proofs.Common.{◌≡◌, ◌∙◌, ◌<◌, pos, ◌+ℤ◌, ap, arith}
use Rattle.std.proofs.lemmas.Int.{ints}
use Rattle.amr_box.specs.Cells.{Extent}
use Rattle.amr_patch.proofs.Corners.{corners}
use Rattle.amr_view.proofs.WidenedRows.{IsWidenedRow, columns_small, widened}
use Rattle.amr_view.proofs.boxes.widened_row.Goals as goal

pub overflow_cast-low : goal.overflow_cast-low
overflow_cast-low c =
    let k = columns_small c.args.p.now c.args.l c.args.b.now c.requires.fine c.lo-low.ensures.proper c.requires.inside in
    let wide = c.lo-low.ensures.proper.wide in
    (omega (arith, ints, k.0, k.1, wide, c.lo-low.ensures.x), omega (arith, ints, k.0, k.1, wide, c.lo-low.ensures.x))

pub overflow_cast-high : goal.overflow_cast-high
overflow_cast-high c =
    let k = columns_small c.args.p.now c.args.l c.args.b.now c.requires.fine c.lo-low.ensures.proper c.requires.inside in
    let wide = c.lo-low.ensures.proper.wide in
    (omega (arith, ints, k.0, k.1, wide, c.hi-high.ensures.x), omega (arith, ints, k.0, k.1, wide, c.hi-high.ensures.x))

pub whole_columns-first-requires-clause-low : goal.whole_columns-first-requires-clause-low
whole_columns-first-requires-clause-low c =
    let k = columns_small c.args.p.now c.args.l c.args.b.now c.requires.fine c.lo-low.ensures.proper c.requires.inside in
    omega (arith, ints, k.0, k.1, c.lo-low.ensures.proper.wide, c.lo-low.ensures.x)

pub whole_columns-first-requires-clause-high : goal.whole_columns-first-requires-clause-high
whole_columns-first-requires-clause-high c =
    let k = columns_small c.args.p.now c.args.l c.args.b.now c.requires.fine c.lo-low.ensures.proper c.requires.inside in
    omega (arith, ints, k.0, k.1, c.lo-low.ensures.proper.wide, c.hi-high.ensures.x)

pub overflow_cast-lo : goal.overflow_cast-lo
overflow_cast-lo c =
    let k = columns_small c.args.p.now c.args.l c.args.b.now c.requires.fine c.lo-low.ensures.proper c.requires.inside in
    omega (arith, ints, c.whole_columns-first.ensures.west, k.0, k.1, c.lo-low.ensures.proper.wide, c.lo-low.ensures.x)

pub unwrap-requires : goal.unwrap-requires
unwrap-requires c =
    let k = columns_small c.args.p.now c.args.l c.args.b.now c.requires.fine c.lo-low.ensures.proper c.requires.inside in
    let wide = c.lo-low.ensures.proper.wide in
    let first = c.whole_columns-first.result.0 in
    let after = c.whole_columns-first.result.1 in
    let some : first < after = omega (arith, ints, c.whole_columns-first.ensures.west, c.whole_columns-first.ensures.east, k.0, k.1, wide, c.lo-low.ensures.x, c.hi-high.ensures.x) in
    c.try_new.ensures.proper.1 (omega (arith, ints, some, c.whole_columns-first.ensures.room), omega (arith, ints))

pub returns : goal.returns
returns c =
    let b = c.args.b.now in
    let row = c.unwrap.result in
    let proper = c.lo-low.ensures.proper in
    let k = columns_small c.args.p.now c.args.l b c.requires.fine proper c.requires.inside in
    let near = (corners c.args.p.now c.args.l b c.requires.fine proper c.requires.inside).near in
    let columns = c.whole_columns-first.ensures in
    let first = c.whole_columns-first.result.0 in
    let after = c.whole_columns-first.result.1 in
    let is = rw c.unwrap.ensures at c.try_new.ensures.some in
    let some : first < after = omega (arith, ints, columns.west, columns.east, k.0, k.1, proper.wide, c.lo-low.ensures.x, c.hi-high.ensures.x) in
    let west : row.lo.x ≡ pos first = ap (λ (e : Extent). e.lo.x) is ∙ omega (arith, ints, some, columns.room) in
    let east : row.hi.x +ℤ pos 1 ≡ pos after = ap (λ (e : Extent). e.hi.x +ℤ pos 1) is ∙ omega (arith, ints, some, columns.room) in
    let south : row.lo.y ≡ c.args.y = ap (λ (e : Extent). e.lo.y) is ∙ omega (arith, ints) in
    let north : row.hi.y ≡ c.args.y = ap (λ (e : Extent). e.hi.y) is ∙ omega (arith, ints) in
    let over : IsWidenedRow c.args.l b row = widened c.args.l b row _ _ first after c.args.y columns.first columns.after columns.west columns.east columns.room
    (omega (arith, ints, k.0, k.1, proper.wide, c.lo-low.ensures.x)) (omega (arith, ints, k.0, k.1, proper.wide, c.hi-high.ensures.x)) proper c.requires.low c.requires.high near west east south north in
    record { columns = over.columns; near = over.near; narrow = over.narrow; row = south; west = over.west; east = over.east }
