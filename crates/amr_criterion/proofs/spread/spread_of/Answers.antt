use Rattle.std.proofs.Common.{◌≡◌, ◌∙◌, ◌≤◌, ℕ, pos, ◌+ℤ◌, ◌-ℤ◌, to_z, of_z, w32, ap, sym, subst, arith}
use Rattle.std.proofs.lemmas.Int.{ints}
use Rattle.amr_box.specs.Cells.{Extent, IsNear}
use Rattle.amr_box.proofs.Numbers.{is_between}
use Rattle.amr_patch.specs.Places.{grown}
use Rattle.amr_patch.specs.Patches.{box}
use Rattle.amr_patch.proofs.Rows.{inside}
use Rattle.amr_criterion.proofs.Flats.{IsFrameRow, one_row_more}
use Rattle.amr_criterion.proofs.spread.spread_of.Goals as goal

pub loop-k-init : goal.loop-k-init
loop-k-init c = record {
  low = λ d h lt. let i = inside (grown (box c.args.patch.now)) d h in absurd (omega (arith, ints, i.south, lt));
  high = λ d h lt. let i = inside (grown (box c.args.patch.now)) d h in absurd (omega (arith, ints, i.south, lt));
}

pub row_with_frame-requires : goal.row_with_frame-requires
row_with_frame-requires c =
    let b = box c.args.patch.now in
    let near = c.bx-b.ensures.near in
    let y : c.lo-low.result.y ≡ b.lo.y = c.lo-low.ensures.y ∙ ap (λ (a : Extent). a.lo.y) c.bx-b.ensures.value in
    let at : to_z w32 (of_z w32 c.above.result) ≡ b.lo.y -ℤ pos 1 +ℤ pos c.loop-k.k = omega (arith, ints, c.above.ensures, y, near.south, near.north, near.high, c.loop-k-test.true, c.height-k-end.ensures.corners) in
    let north : c.bx-b.result.hi.y ≡ b.hi.y = ap (λ (a : Extent). a.hi.y) c.bx-b.ensures.value in
    let south : c.bx-b.result.lo.y ≡ b.lo.y = ap (λ (a : Extent). a.lo.y) c.bx-b.ensures.value in
    is_between (b.lo.y -ℤ pos 1) (b.hi.y +ℤ pos 1) (to_z w32 (of_z w32 c.above.result)) (omega (arith, ints, at)) (omega (arith, ints, at, north, south, c.loop-k-test.true, c.height-k-end.ensures.corners))

pub loop-k-preserved : goal.loop-k-preserved
loop-k-preserved c =
    let q = c.args.patch.now in
    let b = box q in
    let near = c.bx-b.ensures.near in
    let row = c.row_with_frame.result.now in
    let y : c.lo-low.result.y ≡ b.lo.y = c.lo-low.ensures.y ∙ ap (λ (a : Extent). a.lo.y) c.bx-b.ensures.value in
    let at : to_z w32 (of_z w32 c.above.result) ≡ b.lo.y -ℤ pos 1 +ℤ pos c.loop-k.k = omega (arith, ints, c.above.ensures, y, near.south, near.north, near.high, c.loop-k-test.true, c.height-k-end.ensures.corners) in
    let is : IsFrameRow q (to_z w32 (of_z w32 c.above.result)) row = record { count = c.row_with_frame.ensures.count; values = c.row_with_frame.ensures.values } in
    let w = c.with_row-spread.result in
    record {
      low = one_row_more q row (b.lo.y -ℤ pos 1) (to_z w32 (of_z w32 c.above.result)) c.loop-k.k (λ (v : ℕ). w.least ≤ v) near is at (λ d h lt. omega (arith, c.loop-k.invariant.low d h lt, c.with_row-spread.ensures.least)) c.with_row-spread.ensures.low;
      high = one_row_more q row (b.lo.y -ℤ pos 1) (to_z w32 (of_z w32 c.above.result)) c.loop-k.k (λ (v : ℕ). v ≤ w.most) near is at (λ d h lt. omega (arith, c.loop-k.invariant.high d h lt, c.with_row-spread.ensures.most)) c.with_row-spread.ensures.high;
    }

pub returns-clause-low : goal.returns-clause-low
returns-clause-low c d h =
    let i = inside (grown (box c.args.patch.now)) d h in
    let north : c.bx-b.result.hi.y ≡ (box c.args.patch.now).hi.y = ap (λ (a : Extent). a.hi.y) c.bx-b.ensures.value in
    let south : c.bx-b.result.lo.y ≡ (box c.args.patch.now).lo.y = ap (λ (a : Extent). a.lo.y) c.bx-b.ensures.value in
    c.loop-k.invariant.low d h (omega (arith, ints, i.north, north, south, c.height-k-end.ensures.corners, c.loop-k.auto.k-end, c.loop-k-test.false))

pub returns-clause-high : goal.returns-clause-high
returns-clause-high c d h =
    let i = inside (grown (box c.args.patch.now)) d h in
    let north : c.bx-b.result.hi.y ≡ (box c.args.patch.now).hi.y = ap (λ (a : Extent). a.hi.y) c.bx-b.ensures.value in
    let south : c.bx-b.result.lo.y ≡ (box c.args.patch.now).lo.y = ap (λ (a : Extent). a.lo.y) c.bx-b.ensures.value in
    c.loop-k.invariant.high d h (omega (arith, ints, i.north, north, south, c.height-k-end.ensures.corners, c.loop-k.auto.k-end, c.loop-k-test.false))
