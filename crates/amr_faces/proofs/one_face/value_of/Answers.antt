use mir.Syntax.{w32}
use mir.Val.{of_z, to_z}
use Rattle.std.proofs.Common.{◌≡◌, ◌<◌, ◌+◌, pos, ◌+ℤ◌, ◌-ℤ◌, ◌≤ℤ◌, ap, ◌∙◌, arith}
use Rattle.std.proofs.lemmas.Int.{ints}
use Rattle.amr_box.specs.Cells.{width}
use Rattle.amr_box.proofs.CellEquality.{same_cell}
use Rattle.amr_box.proofs.Numbers.{is_between}
use Rattle.amr_patch.specs.Places.{grown}
use Rattle.amr_patch.specs.Patches.{value_in}
use Rattle.amr_patch.proofs.Rows.{inside, sides}
use Rattle.amr_faces.proofs.one_face.value_of.Goals as goal

pub row_with_frame-row-requires : goal.row_with_frame-row-requires
row_with_frame-row-requires c =
    let b = c.args.patch.now.bx in
    let k = inside (grown b) c.args.c c.requires in
    let e : to_z w32 (of_z w32 c.args.c.y) ≡ c.args.c.y = omega (arith, ints) in
    rw e (is_between (b.lo.y -ℤ pos 1) (b.hi.y +ℤ pos 1) c.args.c.y k.south k.north)

pub distance-requires : goal.distance-requires
distance-requires c =
    let b = c.args.patch.now.bx in
    let k = inside (grown b) c.args.c c.requires in
    let west : (b.lo.x -ℤ pos 1) ≤ℤ c.args.c.x = k.west in
    record { order = omega (arith, ints, west, c.lo.ensures.x) }

pub bounds-row-distance : goal.bounds-row-distance
bounds-row-distance c =
    let b = c.args.patch.now.bx in
    let k = inside (grown b) c.args.c c.requires in
    let east : c.args.c.x ≤ℤ (b.hi.x +ℤ pos 1) = k.east in
    let s = sides b c.args.patch.now.near in
    omega (arith, ints, east, c.lo.ensures.x, c.distance.ensures.value, s.wide, c.row_with_frame-row.ensures.count)

pub returns : goal.returns
returns c =
    let b = c.args.patch.now.bx in
    let k = inside (grown b) c.args.c c.requires in
    let east : c.args.c.x ≤ℤ (b.hi.x +ℤ pos 1) = k.east in
    let s = sides b c.args.patch.now.near in
    let below : c.distance.result < width b + 2 = omega (arith, ints, east, c.lo.ensures.x, c.distance.ensures.value, s.wide) in
    let x : b.lo.x -ℤ pos 1 +ℤ pos c.distance.result ≡ c.args.c.x = omega (arith, ints, c.lo.ensures.x, c.distance.ensures.value) in
    let y : to_z w32 (of_z w32 c.args.c.y) ≡ c.args.c.y = omega (arith, ints) in
    c.row_with_frame-row.ensures.values c.distance.result below ∙ ap (value_in c.args.patch.now) (same_cell x y)
