use Rattle.std.proofs.Common.{◌∙◌, ap, arith}
use Rattle.std.proofs.lemmas.Int.{ints}
use Rattle.amr_box.specs.Cells.{Extent}
use Rattle.amr_decoder.proofs.fill.room_from.Goals as goal

pub returns : goal.returns
returns c =
    let x = c.hi.ensures.x ∙ ap (λ (b : Extent). b.hi.x) c.bx.ensures.value in
    omega (arith, ints, c.distance.ensures.value, x)
