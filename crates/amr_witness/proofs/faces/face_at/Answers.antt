use Rattle.std.proofs.Common.{◌≡◌, pos, arith}
use Rattle.std.proofs.lemmas.Int.{ints}
use mir.Val.{to_z}
use mir.Syntax.{w32}
use Rattle.amr_witness.proofs.faces.face_at.Goals as goal

pub returns : goal.returns
returns c =
    let ex : to_z w32 c.args.x ≡ pos c.args.x = omega (arith, ints) in
    let ey : to_z w32 c.args.y ≡ pos c.args.y = omega (arith, ints) in
    λ i. record { axis = c.args.axis; x = ex i; y = ey i }
