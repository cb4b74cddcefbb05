use Rattle.std.proofs.Common.{◌≡◌, ◌∙◌, ap, arith}
use mir.Val.{to_z, of_z}
use mir.Syntax.{w32}
use Rattle.std.proofs.lemmas.Int.{ints}
use Rattle.amr_box.specs.Cells.{Extent}
use Rattle.amr_boxlist.proofs.Frame.{frame_is}
use Rattle.amr_boxlist.proofs.outside.push_frame.Goals as goal

pub push_low-requires-2-clause-to_high : goal.push_low-requires-2-clause-to_high
push_low-requires-2-clause-to_high c =
    let e : c.in_ok-band.band.hi.x ≡ c.args.a.now.hi.x = ap (λ (t : Extent). t.hi.x) c.in_ok-band.ensures.rest ∙ ap (λ (t : Extent). t.hi.x) c.in_ok-above_low.ensures.rest in
    omega (arith, ints)

pub returns : goal.returns
returns c =
    frame_is c.args.left.now.items _ _ _ _ c.args.a.now c.args.m.now c.in_ok-above_low.above_low c.in_ok-band.band c.in_ok-right.right
    (to_z w32 (of_z w32 c.lo.result.y)) (to_z w32 (of_z w32 c.hi.result.y)) (to_z w32 (of_z w32 c.lo-2.result.x)) (to_z w32 (of_z w32 c.hi-2.result.x))
    (omega (arith, ints)) (omega (arith, ints)) (omega (arith, ints)) (omega (arith, ints))
    c.in_ok-above_low.ensures.rest c.in_ok-above_low.ensures.pushed c.in_ok-band.ensures.rest c.in_ok-band.ensures.pushed c.in_ok-right.ensures.rest c.in_ok-right.ensures.pushed c.in_ok-_within.ensures.pushed
