use Rattle.std.proofs.Common.{◌≡◌, to_z, of_z, w32, pos, ◌+ℤ◌, ◌-ℤ◌, ap, sym, subst, arith}
use Rattle.std.proofs.lemmas.Int.{ints}
use Rattle.amr_box.specs.Cells.{Extent, IsNear}
use Rattle.amr_patch.specs.Patches.{box}
use Rattle.amr_start.specs.Rows.{box_of, masses_on}
use Rattle.amr_start.proofs.Placing.{lies_still, no_rows_yet, row_held, row_more, whole_patch}
use Rattle.amr_start.proofs.placed.place_patch.Goals as goal

pub height-k-end-requires : goal.height-k-end-requires
height-k-end-requires c = subst (λ (b : Extent). IsNear b) (sym c.bx-b.ensures.value) c.bx-b.ensures.near

pub loop-k-init : goal.loop-k-init
loop-k-init c = no_rows_yet (masses_on c.args.columns c.args.rows c.args.masses.now) c.args.patch.now

pub ahead-y-requires-clause-from : goal.ahead-y-requires-clause-from
ahead-y-requires-clause-from c =
    let near = subst (λ (b : Extent). IsNear b) (sym c.bx-b.ensures.value) c.bx-b.ensures.near in
    omega (arith, ints, c.lo.ensures.y, near.south)

pub ahead-y-requires-clause-to : goal.ahead-y-requires-clause-to
ahead-y-requires-clause-to c =
    let near = subst (λ (b : Extent). IsNear b) (sym c.bx-b.ensures.value) c.bx-b.ensures.near in
    omega (arith, ints, c.lo.ensures.y, near.high, near.north)

pub ahead-y-requires-clause-small : goal.ahead-y-requires-clause-small
ahead-y-requires-clause-small c =
    let near = subst (λ (b : Extent). IsNear b) (sym c.bx-b.ensures.value) c.bx-b.ensures.near in
    omega (arith, ints, c.loop-k-test.true, c.height-k-end.ensures.corners, near.south, near.north)

pub place_row-requires-clause-inside : goal.place_row-requires-clause-inside
place_row-requires-clause-inside c = lies_still (box_of c.args.columns c.args.rows) c.args.patch.now c.loop-k.patch c.loop-k.invariant.of_box c.requires.inside

pub place_row-requires-clause-of_patch : goal.place_row-requires-clause-of_patch
place_row-requires-clause-of_patch c =
    let b = box c.args.patch.now in
    let south : c.bx-b.result.lo.y ≡ b.lo.y = ap (λ (e : Extent). e.lo.y) c.bx-b.ensures.value in
    let north : c.bx-b.result.hi.y ≡ b.hi.y = ap (λ (e : Extent). e.hi.y) c.bx-b.ensures.value in
    row_held c.args.patch.now c.loop-k.patch _ c.loop-k.invariant.of_box
    (omega (arith, ints, c.ahead-y.ensures, c.lo.ensures.y, south))
    (omega (arith, ints, c.ahead-y.ensures, c.lo.ensures.y, south, north, c.height-k-end.ensures.corners, c.loop-k-test.true))

pub loop-k-preserved : goal.loop-k-preserved
loop-k-preserved c =
    let b = box c.args.patch.now in
    let south : c.bx-b.result.lo.y ≡ b.lo.y = ap (λ (e : Extent). e.lo.y) c.bx-b.ensures.value in
    row_more (masses_on c.args.columns c.args.rows c.args.masses.now) c.args.patch.now c.loop-k.patch c.place_row.new.patch (to_z w32 (of_z w32 c.ahead-y.result)) c.loop-k.k
    (omega (arith, ints, c.ahead-y.ensures, c.lo.ensures.y, south))
    c.place_row.ensures.of_box
    c.place_row.ensures.made
    c.place_row.ensures.others
    c.loop-k.invariant

pub returns-clause-of_box : goal.returns-clause-of_box
returns-clause-of_box c = record { of_box = c.loop-k.invariant.of_box }

pub returns-clause-masses : goal.returns-clause-masses
returns-clause-masses c =
    let b = box c.args.patch.now in
    let south : c.bx-b.result.lo.y ≡ b.lo.y = ap (λ (e : Extent). e.lo.y) c.bx-b.ensures.value in
    let north : c.bx-b.result.hi.y ≡ b.hi.y = ap (λ (e : Extent). e.hi.y) c.bx-b.ensures.value in
    let count : pos c.loop-k.k ≡ b.hi.y +ℤ pos 1 -ℤ b.lo.y = omega (arith, ints, south, north, c.height-k-end.ensures.corners, c.loop-k.auto.k-end, c.loop-k-test.false) in
    whole_patch (masses_on c.args.columns c.args.rows c.args.masses.now) c.args.patch.now c.loop-k.patch c.loop-k.k count c.loop-k.invariant
