use Rattle.std.proofs.Common.{◌≡◌, ◌∙◌, ◌+◌, ◌*◌, ◌<◌, ℕ, pos, ◌+ℤ◌, length, sym, ap, subst, arith}
use Rattle.std.specs.Prelude.{IsTrue, slice_index}
use Rattle.std.proofs.lemmas.Int.{ints}
use Rattle.amr_box.specs.declared.Cell.{Cell}
use Rattle.amr_box.specs.Cells.{cell, height, width}
use Rattle.amr_box.proofs.Numbers.{side-is}
use Rattle.amr_patch.specs.Patches.{in_patches}
use Rattle.amr_patch.proofs.Standing.{order_of_boxes}
use Rattle.amr_decoder.specs.Grids.{grid_of}
use Rattle.amr_patch.proofs.SameBoxes.{apart_alike, in_same_boxes}
use Rattle.amr_decoder.proofs.Filling.{all_rows, held_at, no_rows, row_filled}
use Rattle.amr_decoder.proofs.fill.fill_rows.Goals as goal

pub loop-j-init : goal.loop-j-init
loop-j-init c = no_rows (grid_of c.args.bytes.now c.args.grid.now) c.args.patches.now

pub read_grid_row-requires-clause-row : goal.read_grid_row-requires-clause-row
read_grid_row-requires-clause-row c = c.loop-j.auto.row ∙ c.requires.row

pub read_grid_row-requires-clause-inside : goal.read_grid_row-requires-clause-inside
read_grid_row-requires-clause-inside c = omega (arith, c.loop-j-test.true, c.height-j-end.ensures.value)

pub cell_in-requires-clause-row : goal.cell_in-requires-clause-row
cell_in-requires-clause-row c = omega (arith, ints, c.height-j-end.ensures.corners, c.loop-j-test.true)

pub cell_in-requires-clause-column : goal.cell_in-requires-clause-column
cell_in-requires-clause-column c = omega (arith, ints, c.requires.placed.near.wide)

pub set_row-requires-clause-order : goal.set_row-requires-clause-order
set_row-requires-clause-order c = order_of_boxes c.args.order c.args.patches.now c.loop-j.patches c.loop-j.invariant.boxes c.requires.order

pub set_row-requires-clause-apart : goal.set_row-requires-clause-apart
set_row-requires-clause-apart c = apart_alike c.args.patches.now c.loop-j.patches c.loop-j.invariant.boxes c.requires.apart

pub set_row-requires-clause-inside : goal.set_row-requires-clause-inside
set_row-requires-clause-inside c k h =
    let g = c.args.grid.now in
    let b = g.bx in
    let j = c.loop-j.j in
    let row : j < height b = omega (arith, c.loop-j-test.true, c.height-j-end.ensures.value) in
    let count : length c.read_grid_row.new.row ≡ width b = c.read_grid_row.auto.row ∙ c.loop-j.auto.row ∙ c.requires.row in
    let held = held_at b k j c.requires.placed.near (omega (arith, h, count)) row in
    let x : b.lo.x +ℤ pos 0 +ℤ pos k ≡ b.lo.x +ℤ pos k = omega (arith, ints) in
    let same : cell (b.lo.x +ℤ pos k) (b.lo.y +ℤ pos j) ≡ cell (c.cell_in.result.x +ℤ pos k) c.cell_in.result.y = sym ((λ i. cell ((c.cell_in.ensures.place i).x +ℤ pos k) (c.cell_in.ensures.place i).y) ∙ (λ i. cell (x i) (b.lo.y +ℤ pos j))) in
    subst (λ (d : Cell). IsTrue (in_patches c.loop-j.patches d)) same
    (in_same_boxes c.loop-j.patches c.args.patches.now (cell (b.lo.x +ℤ pos k) (b.lo.y +ℤ pos j)) c.loop-j.invariant.boxes ∙ c.requires.cells (cell (b.lo.x +ℤ pos k) (b.lo.y +ℤ pos j)) held)

pub set_row-requires-clause-west : goal.set_row-requires-clause-west
set_row-requires-clause-west c = let x = ap (λ (d : Cell). d.x) c.cell_in.ensures.place in omega (arith, ints, x, c.requires.placed.west)

pub set_row-requires-clause-east : goal.set_row-requires-clause-east
set_row-requires-clause-east c =
    let g = c.args.grid.now in
    let count : length c.read_grid_row.new.row ≡ width g.bx = c.read_grid_row.auto.row ∙ c.loop-j.auto.row ∙ c.requires.row in
    let x = ap (λ (d : Cell). d.x) c.cell_in.ensures.place in
    omega (arith, ints, x, count, side-is g.bx.lo.x g.bx.hi.x c.requires.placed.near.wide, c.requires.placed.near.east)

pub set_row-requires-clause-south : goal.set_row-requires-clause-south
set_row-requires-clause-south c = let y = ap (λ (d : Cell). d.y) c.cell_in.ensures.place in omega (arith, ints, y, c.requires.placed.south)

pub set_row-requires-clause-north : goal.set_row-requires-clause-north
set_row-requires-clause-north c = let y = ap (λ (d : Cell). d.y) c.cell_in.ensures.place in omega (arith, ints, y, c.height-j-end.ensures.corners, c.loop-j-test.true, c.requires.placed.near.north)

pub loop-j-preserved : goal.loop-j-preserved
loop-j-preserved c =
    let g = c.args.grid.now in
    let b = g.bx in
    let j = c.loop-j.j in
    let v = grid_of c.args.bytes.now g in
    let row : j < height b = omega (arith, c.loop-j-test.true, c.height-j-end.ensures.value) in
    let before : length c.loop-j.row ≡ width b = c.loop-j.auto.row ∙ c.requires.row in
    let count : length c.read_grid_row.new.row ≡ width b = c.read_grid_row.auto.row ∙ before in
    row_filled v j c.cell_in.result c.read_grid_row.new.row c.args.patches.now c.loop-j.patches c.set_row.new.patches c.requires.placed.near row c.cell_in.ensures.place count
    (λ i h. c.read_grid_row.ensures i (omega (arith, h, before)) ∙ ap (λ (n : ℕ). slice_index v.masses (j * n + i)) before)
    c.loop-j.invariant c.set_row.ensures

pub returns : goal.returns
returns c =
    all_rows (grid_of c.args.bytes.now c.args.grid.now) c.loop-j.j c.args.patches.now c.loop-j.patches c.requires.placed.near (omega (arith, c.loop-j-test.false, c.height-j-end.ensures.value)) c.loop-j.invariant
