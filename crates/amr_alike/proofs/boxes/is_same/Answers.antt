use Rattle.std.proofs.Common.{arith, ◌≡◌}
use Rattle.std.proofs.lemmas.Int.{ints}
use Rattle.amr_box.proofs.CellEquality.{same_box}
use Rattle.amr_alike.proofs.boxes.is_same.Goals as goal

pub returns : goal.returns
returns c = λ h.
    let a = c.args.a.now in
    let b = c.args.b.now in
    let west : a.lo.x ≡ b.lo.x = omega (arith, ints, c.if-low-other_low.false, c.lo-low.ensures.x, c.lo-other_low.ensures.x) in
    let south : a.lo.y ≡ b.lo.y = omega (arith, ints, c.if-low-other_low-2.false, c.lo-low.ensures.y, c.lo-other_low.ensures.y) in
    let east : a.hi.x ≡ b.hi.x = omega (arith, ints, c.if-high-other_high.false, c.hi-high.ensures.x, c.hi-other_high.ensures.x) in
    let north : a.hi.y ≡ b.hi.y = omega (arith, ints, c.if-high-other_high-2.false, c.hi-high.ensures.y, c.hi-other_high.ensures.y) in
    same_box a b west south east north
