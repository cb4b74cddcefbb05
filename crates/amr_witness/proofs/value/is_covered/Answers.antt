use Rattle.std.proofs.Common.{◌∙◌, ◌||◌, sym, pos, ◌+ℤ◌, arith}
use Rattle.std.proofs.lemmas.Int.{ints}
use Rattle.std.proofs.Math.Bool.{or_assoc}
use Rattle.amr_def.proofs.Children.{covered_by}
use Rattle.amr_witness.specs.Maps.{masses_of}
use Rattle.amr_witness.proofs.Values.{there_at}
use Rattle.amr_witness.proofs.value.is_covered.Goals as goal

pub returns : goal.returns
returns c =
    let m = masses_of c.args.fine.now in
    let x = c.args.c.x in
    let y = c.args.c.y in
    let e0 = there_at m c.is_there.result _ _ (x +ℤ x) (y +ℤ y) c.is_there.ensures (omega (arith, ints)) (omega (arith, ints)) in
    let e1 = there_at m c.is_there-2.result _ _ (x +ℤ x +ℤ pos 1) (y +ℤ y) c.is_there-2.ensures (omega (arith, ints)) (omega (arith, ints)) in
    let e2 = there_at m c.is_there-3.result _ _ (x +ℤ x) (y +ℤ y +ℤ pos 1) c.is_there-3.ensures (omega (arith, ints)) (omega (arith, ints)) in
    let e3 = there_at m c.is_there-4.result _ _ (x +ℤ x +ℤ pos 1) (y +ℤ y +ℤ pos 1) c.is_there-4.ensures (omega (arith, ints)) (omega (arith, ints)) in
    sym (or_assoc (c.is_there.result || c.is_there-2.result) c.is_there-3.result c.is_there-4.result) ∙ (λ i. e0 i || e1 i || e2 i || e3 i) ∙ sym (covered_by c.args.c m)
