use Rattle.std.proofs.Common.{◌≡◌, ◌∙◌, ◌+◌, ◌<◌, ◌++◌, pos, ◌+ℤ◌, length, drop, ap, arith}
use Rattle.std.proofs.lemmas.Int.{ints}
use Rattle.std.proofs.lemmas.List.{get_or_append_left, length-append, length-drop, length-take}
use Rattle.amr_box.proofs.CellEquality.{same_cell}
use Rattle.amr_box.specs.Cells.{width}
use Rattle.amr_def.specs.View.{finest_mass}
use Rattle.amr_patch.proofs.Corners.{corners}
use Rattle.amr_patch.proofs.Rows.{sides}
use Rattle.amr_patch.specs.Meshes.{state_of}
use Rattle.amr_view.proofs.boxes.find_row.Goals as goal

pub slice_bounds-fill_row-end : goal.slice_bounds-fill_row-end
slice_bounds-fill_row-end c = omega (arith, c.width-width.ensures.value, c.widened_row-row.ensures.narrow, c.requires.masses)

pub fill_row-requires-clause-width : goal.fill_row-requires-clause-width
fill_row-requires-clause-width c = length-take c.width-width.result c.args.masses.now ∙ omega (arith, c.width-width.ensures.value, c.widened_row-row.ensures.narrow, c.requires.masses)

pub fill_row-requires-clause-spare : goal.fill_row-requires-clause-spare
fill_row-requires-clause-spare c = omega (arith, length-take c.width-width.result c.args.masses.now, c.requires.masses, c.requires.spare)

pub distance-requires : goal.distance-requires
distance-requires c = omega (arith, ints, c.widened_row-row.ensures.west, c.lo.ensures.x, c.lo-2.ensures.x)

pub returns-clause-within : goal.returns-clause-within
returns-clause-within c =
    let near = (corners c.args.p.now c.args.l c.args.b.now c.requires.fine c.lo-2.ensures.proper c.requires.inside).near in
    let w = c.width-width.result in
    let masses = c.args.masses.now in
    let rest = drop w masses in
    let long : length (c.fill_row.new.masses ++ rest) ≡ 4096 = omega (arith, length-append c.fill_row.new.masses rest, c.fill_row.auto.masses, length-take w masses, length-drop w masses, c.width-width.ensures.value, c.widened_row-row.ensures.narrow, c.requires.masses) in
    omega (arith, ints, long, c.distance.ensures.value, c.lo.ensures.x, c.lo-2.ensures.x, (sides c.args.b.now near).wide, c.widened_row-row.ensures.east, c.widened_row-row.ensures.narrow, (sides c.widened_row-row.result c.widened_row-row.ensures.near).wide)

pub returns-clause-masses : goal.returns-clause-masses
returns-clause-masses c k lt =
    let s = state_of c.args.mesh.now in
    let b = c.args.b.now in
    let row = c.widened_row-row.result in
    let from = c.distance.result in
    let near = (corners c.args.p.now c.args.l b c.requires.fine c.lo-2.ensures.proper c.requires.inside).near in
    let long : length c.fill_row.new.masses ≡ width row = omega (arith, c.fill_row.auto.masses, length-take c.width-width.result c.args.masses.now, c.width-width.ensures.value, c.widened_row-row.ensures.narrow, c.requires.masses) in
    let at_y : row.lo.y ≡ c.args.y = c.widened_row-row.ensures.row ∙ omega (arith, ints) in
    let below : from + k < length c.fill_row.new.masses = omega (arith, ints, lt, long, c.distance.ensures.value, c.lo.ensures.x, c.lo-2.ensures.x, (sides b near).wide, c.widened_row-row.ensures.east, (sides row c.widened_row-row.ensures.near).wide) in
    let x : row.lo.x +ℤ pos (from + k) ≡ b.lo.x +ℤ pos k = omega (arith, ints, c.distance.ensures.value, c.lo.ensures.x, c.lo-2.ensures.x) in
    get_or_append_left c.fill_row.new.masses (drop c.width-width.result c.args.masses.now) 0 (from + k) below
    ∙ c.fill_row.ensures (from + k) below
    ∙ ap (finest_mass s c.args.l) (same_cell x at_y)
