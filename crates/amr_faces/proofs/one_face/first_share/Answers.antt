use Rattle.std.proofs.Common.{pos, refl, arith}
use Rattle.std.proofs.lemmas.Int.{ints}
use Rattle.amr_def.specs.Flux.{face}
use Rattle.amr_def.proofs.Courants.{some_columns}
use Rattle.amr_faces.proofs.FaceSides.{courant_of_column, courant_of_row}
use Rattle.amr_faces.proofs.one_face.first_share.Goals as goal

pub returns-in-X-clause-number : goal.returns-in-X-clause-number
returns-in-X-clause-number c =
    let is = courant_of_row c.args.p.now 0 (face c.args.axis (pos 0) (pos 0)) 0 c.in-X.is refl (omega (arith, (some_columns c.args.p.now).y)) in
    omega (arith, ints, is, c.make.ensures.number, c.x_courant.ensures)

pub returns-in-Y-clause-number : goal.returns-in-Y-clause-number
returns-in-Y-clause-number c =
    let is = courant_of_column c.args.p.now 0 (face c.args.axis (pos 0) (pos 0)) 0 c.in-Y.is refl (omega (arith, (some_columns c.args.p.now).x)) in
    omega (arith, ints, is, c.make-in-Y.ensures.number, c.y_courant.ensures)
