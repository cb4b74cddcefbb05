use mir.Syntax.{w32}
use mir.Val.{of_z, to_z}
use Rattle.std.proofs.Common.{◌≡◌, ap, sym, ◌∙◌, arith}
use Rattle.std.specs.Prelude.{unsigned_abs}
use Rattle.std.proofs.lemmas.Int.{ints}
use Rattle.amr_faces.proofs.FaceSides.{courant_of_column, courant_of_row, face_column, face_row}
use Rattle.amr_faces.proofs.Numbers.{x_slow, y_slow}
use Rattle.amr_faces.proofs.one_face.courant.Goals as goal

pub overflow_cast-f : goal.overflow_cast-f
overflow_cast-f c = let k = face_row c.args.p.now c.args.l c.args.b.now c.args.f c.requires.near c.requires.inside c.requires.of_box c.in-X.is in (omega (arith, ints, k.low), omega (arith, ints, k.low))

pub x_courant-requires-clause-inside : goal.x_courant-requires-clause-inside
x_courant-requires-clause-inside c = let k = face_row c.args.p.now c.args.l c.args.b.now c.args.f c.requires.near c.requires.inside c.requires.of_box c.in-X.is in omega (arith, ints, k.low, k.high)

pub overflow_cast-f-in-Y : goal.overflow_cast-f-in-Y
overflow_cast-f-in-Y c = let k = face_column c.args.p.now c.args.l c.args.b.now c.args.f c.requires.near c.requires.inside c.requires.of_box c.in-Y.is in (omega (arith, ints, k.low), omega (arith, ints, k.low))

pub y_courant-requires-clause-inside : goal.y_courant-requires-clause-inside
y_courant-requires-clause-inside c = let k = face_column c.args.p.now c.args.l c.args.b.now c.args.f c.requires.near c.requires.inside c.requires.of_box c.in-Y.is in omega (arith, ints, k.low, k.high)

pub returns-in-X : goal.returns-in-X
returns-in-X c =
    let k = face_row c.args.p.now c.args.l c.args.b.now c.args.f c.requires.near c.requires.inside c.requires.of_box c.in-X.is in
    let n = unsigned_abs (to_z w32 (of_z w32 c.args.f.y)) in
    let slow = x_slow c.args.p.now c.args.l n in
    let e : to_z w32 (of_z w32 c.x_courant.result) ≡ c.x_courant.result = omega (arith, ints) in
    record {
      value = e ∙ c.x_courant.ensures ∙ sym (courant_of_row c.args.p.now c.args.l c.args.f n c.in-X.is (omega (arith, ints, k.low)) (omega (arith, ints, k.low, k.high)));
      slow = omega (arith, slow, ap unsigned_abs (e ∙ c.x_courant.ensures));
    }

pub returns-in-Y : goal.returns-in-Y
returns-in-Y c =
    let k = face_column c.args.p.now c.args.l c.args.b.now c.args.f c.requires.near c.requires.inside c.requires.of_box c.in-Y.is in
    let n = unsigned_abs (to_z w32 (of_z w32 c.args.f.x)) in
    let slow = y_slow c.args.p.now c.args.l n in
    let e : to_z w32 (of_z w32 c.y_courant.result) ≡ c.y_courant.result = omega (arith, ints) in
    record {
      value = e ∙ c.y_courant.ensures ∙ sym (courant_of_column c.args.p.now c.args.l c.args.f n c.in-Y.is (omega (arith, ints, k.low)) (omega (arith, ints, k.low, k.high)));
      slow = omega (arith, slow, ap unsigned_abs (e ∙ c.y_courant.ensures));
    }
