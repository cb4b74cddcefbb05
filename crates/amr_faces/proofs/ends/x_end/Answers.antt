use Rattle.std.proofs.Common.{arith}
use Rattle.std.proofs.lemmas.Int.{ints}
use Rattle.amr_box.specs.declared.Axis.TheVariants.{X}
use Rattle.amr_patch.proofs.Rows.{sides}
use Rattle.amr_def.proofs.Uncovered.{same_face}
use Rattle.amr_faces.proofs.ends.x_end.Goals as goal

pub returns : goal.returns
returns c =
    let s = sides c.args.b.now c.requires.near in
    same_face X (omega (arith, ints, c.hi.ensures.x, c.requires.near.east, c.requires.near.west, c.requires.near.wide)) (omega (arith, ints, c.lo.ensures.y, c.requires.inside, s.high, c.requires.near.south, c.requires.near.north))
