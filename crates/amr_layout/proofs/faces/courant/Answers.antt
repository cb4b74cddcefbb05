use Rattle.std.proofs.Common.{◌≡◌, ℕ, pos, ◌∙◌, to_z, of_z, w32, arith}
use Rattle.std.specs.Prelude.{unsigned_abs}
use Rattle.std.proofs.lemmas.Int.{ints}
use Rattle.amr_layout.proofs.Edges.{in_columns, in_rows, x_courant_is, y_courant_is}
use Rattle.amr_layout.proofs.faces.courant.Goals as goal

pub returns-in-X : goal.returns-in-X
returns-in-X c =
    let at = in_rows c.args.p.now c.args.l c.args.f c.in-X.is c.requires.lies in
    let row : ℕ = unsigned_abs (to_z w32 (of_z w32 c.args.f.y)) in
    let is : pos row ≡ c.args.f.y = omega (arith, ints, at.0) in
    let read : to_z w32 (of_z w32 c.x_courant.result) ≡ c.x_courant.result = omega (arith, ints) in
    read ∙ c.x_courant.ensures ∙ x_courant_is c.args.p.now c.args.l c.args.f row c.in-X.is is (omega (arith, ints, is, at.1))

pub returns-in-Y : goal.returns-in-Y
returns-in-Y c =
    let at = in_columns c.args.p.now c.args.l c.args.f c.in-Y.is c.requires.lies in
    let column : ℕ = unsigned_abs (to_z w32 (of_z w32 c.args.f.x)) in
    let is : pos column ≡ c.args.f.x = omega (arith, ints, at.0) in
    let read : to_z w32 (of_z w32 c.y_courant.result) ≡ c.y_courant.result = omega (arith, ints) in
    read ∙ c.y_courant.ensures ∙ y_courant_is c.args.p.now c.args.l c.args.f column c.in-Y.is is (omega (arith, ints, is, at.1))
