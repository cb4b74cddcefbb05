use Rattle.std.proofs.Common.{arith}
use Rattle.std.proofs.lemmas.Int.{ints, clamps}
use Rattle.amr_box.proofs.Boxes.{common_is}
use Rattle.amr_box.proofs.Bx.common.Goals as goal

pub returns : goal.returns
returns c =
    common_is c.args.self.now c.args.o.now _ _
    (omega (arith, ints, clamps, c.max.ensures.value))
    (omega (arith, ints, clamps, c.max-2.ensures.value))
    (omega (arith, ints, clamps, c.min.ensures.value))
    (omega (arith, ints, clamps, c.min-2.ensures.value))
