use Rattle.std.proofs.Common.{◌≡◌, ◌∙◌, ℕ, ◌+◌, ◌-◌, ◌<◌, ◌≤◌, ◌&&◌, pos, ◌+ℤ◌, ◌-ℤ◌, length, drop, IsTrue, refl, sym, ap, subst, arith}
use Rattle.std.specs.Prelude.{slice_index}
use Rattle.std.proofs.lemmas.Int.{ints}
use Rattle.std.proofs.lemmas.List.{length-drop, length-take}
use Rattle.amr_box.specs.declared.Cell.{Cell}
use Rattle.amr_box.specs.Cells.{AreDisjoint, Extent, IsBoxOf, IsNear, IsProper, cell, holds}
use Rattle.amr_patch.specs.declared.patches.Patch.{Patch}
use Rattle.amr_patch.specs.Patches.{box, mass_in}
use Rattle.amr_patch.proofs.Rows.{sides}
use Rattle.amr_transfer.proofs.BoxRows.{near_common}
use Rattle.amr_view.proofs.Laying.{IsMeeting, laid_apart, laid_part, meeting}
use Rattle.amr_view.proofs.laid.lay_patch.Goals as goal

-- what the row and the patch both have
cells_of_both : (q : Patch) (row both b : Extent) → b ≡ box q → IsBoxOf both (λ d. holds row d && holds b d) → IsBoxOf both (λ d. holds row d && holds (box q) d)
cells_of_both q row both b is = subst (λ (e : Extent). IsBoxOf both (λ d. holds row d && holds e d)) is

met : (q : Patch) (row both b : Extent) → IsNear row → row.hi.y ≡ row.lo.y → b ≡ box q → IsBoxOf both (λ d. holds row d && holds b d) → IsProper both → IsMeeting q row both
met q row both b near flat is cells proper = meeting q row near flat both (cells_of_both q row both b is cells) proper

pub returns-in_default : goal.returns-in_default
returns-in_default c =
    let apart = subst (λ (b : Extent). AreDisjoint c.args.row.now b) c.bx.ensures.value (c.in_default.ensures.none.0 refl) in
    laid_apart c.args.patch.now c.args.row.now c.requires.near c.requires.flat c.args.masses.now c.requires.width apart

pub distance-from-requires : goal.distance-from-requires
distance-from-requires c =
    let m = met c.args.patch.now c.args.row.now c.in-Some.both c.bx.result c.requires.near c.requires.flat c.bx.ensures.value c.in-Some.ensures.cells c.lo-2.ensures.proper in
    omega (arith, ints, m.west, c.lo.ensures.x, c.lo-2.ensures.x)

pub width-count-requires : goal.width-count-requires
width-count-requires c = subst (λ (b : Extent). IsNear b) (sym c.in-Some.ensures.corners) (near_common c.args.row.now c.bx.result c.requires.near (c.in-Some.ensures.some.0 refl))

pub overflow_add-end : goal.overflow_add-end
overflow_add-end c =
    let row = c.args.row.now in
    let m = met c.args.patch.now row c.in-Some.both c.bx.result c.requires.near c.requires.flat c.bx.ensures.value c.in-Some.ensures.cells c.lo-2.ensures.proper in
    omega (arith, ints, m.east, m.west, c.distance-from.ensures.small, c.width-count.ensures.corners, c.requires.near.west, c.requires.near.east)

pub masses_from-span-requires : goal.masses_from-span-requires
masses_from-span-requires c =
    let m = met c.args.patch.now c.args.row.now c.in-Some.both c.bx.result c.requires.near c.requires.flat c.bx.ensures.value c.in-Some.ensures.cells c.lo-2.ensures.proper in
    subst (λ (d : Cell). IsTrue (holds (box c.args.patch.now) d)) (sym c.lo-3.ensures.value) m.held

pub slice_bounds-copy_from_slice-end : goal.slice_bounds-copy_from_slice-end
slice_bounds-copy_from_slice-end c =
    let row = c.args.row.now in
    let m = met c.args.patch.now row c.in-Some.both c.bx.result c.requires.near c.requires.flat c.bx.ensures.value c.in-Some.ensures.cells c.lo-2.ensures.proper in
    omega (arith, ints, m.east, c.distance-from.ensures.value, c.lo.ensures.x, c.lo-2.ensures.x, c.width-count.ensures.corners, (sides row c.requires.near).wide, c.requires.width)

pub slice_bounds-copy_from_slice-end-2 : goal.slice_bounds-copy_from_slice-end-2
slice_bounds-copy_from_slice-end-2 c =
    let m = met c.args.patch.now c.args.row.now c.in-Some.both c.bx.result c.requires.near c.requires.flat c.bx.ensures.value c.in-Some.ensures.cells c.lo-2.ensures.proper in
    let span = c.masses_from-span.result.now in
    let enough : c.width-count.result ≤ length span = omega (arith, ints, c.masses_from-span.ensures.count, c.width-count.ensures.corners, m.reach, c.lo-3.ensures.x) in
    omega (arith, length-take c.width-count.result span, enough)

pub copy_from_slice-requires : goal.copy_from_slice-requires
copy_from_slice-requires c =
    let row = c.args.row.now in
    let m = met c.args.patch.now row c.in-Some.both c.bx.result c.requires.near c.requires.flat c.bx.ensures.value c.in-Some.ensures.cells c.lo-2.ensures.proper in
    let span = c.masses_from-span.result.now in
    let from = c.distance-from.result in
    let count = c.width-count.result in
    let enough : count ≤ length span = omega (arith, ints, c.masses_from-span.ensures.count, c.width-count.ensures.corners, m.reach, c.lo-3.ensures.x) in
    let fits : from + count ≤ length c.args.masses.now =
    omega (arith, ints, m.east, c.distance-from.ensures.value, c.lo.ensures.x, c.lo-2.ensures.x, c.width-count.ensures.corners, (sides row c.requires.near).wide, c.requires.width) in
    omega (arith, length-take (from + count - from) (drop from c.args.masses.now), length-drop from c.args.masses.now, length-take count span, enough, fits)

pub returns : goal.returns
returns c =
    let q = c.args.patch.now in
    let row = c.args.row.now in
    let both = c.in-Some.both in
    let proper = c.lo-2.ensures.proper in
    let cells = cells_of_both q row both c.bx.result c.bx.ensures.value c.in-Some.ensures.cells in
    let m = meeting q row c.requires.near c.requires.flat both cells proper in
    let span = c.masses_from-span.result.now in
    let from = c.distance-from.result in
    let count = c.width-count.result in
    let starts : pos from ≡ both.lo.x -ℤ row.lo.x = omega (arith, ints, c.distance-from.ensures.value, c.lo.ensures.x, c.lo-2.ensures.x) in
    let enough : count ≤ length span = omega (arith, ints, c.masses_from-span.ensures.count, c.width-count.ensures.corners, m.reach, c.lo-3.ensures.x) in
    let masses : (j : ℕ) → j < length span → slice_index span j ≡ mass_in q (cell (both.lo.x +ℤ pos j) both.lo.y) =
    λ j lt. c.masses_from-span.ensures.masses j lt ∙ ap (λ (d : Cell). mass_in q (cell (d.x +ℤ pos j) d.y)) c.lo-3.ensures.value in
    laid_part q row c.requires.near c.requires.flat both cells proper from count (from + count - from) span c.args.masses.now c.copy_from_slice.new.self starts c.width-count.ensures.corners (omega arith) c.requires.width enough masses c.copy_from_slice.ensures.after
