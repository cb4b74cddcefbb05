use Rattle.std.proofs.Common.{◌≡◌, ◌∙◌, refl, to_z, of_z, w32, arith}
use Rattle.std.proofs.lemmas.Int.{ints}
use Rattle.amr_box.specs.declared.Axis.TheVariants.{X, Y}
use Rattle.amr_box.specs.Cells.{within}
use Rattle.amr_patch.specs.Places.{is_end}
use Rattle.amr_patch.proofs.Conditions.{on_edge_is}
use Rattle.amr_patch.proofs.places.on_edge.Goals as goal

pub returns-then-is_within : goal.returns-then-is_within
returns-then-is_within c =
    let b = c.args.b.now in
    let q = c.args.c in
    let low : to_z w32 (of_z w32 c.lo-lo.result.y) ≡ b.lo.y = omega (arith, ints, c.lo-lo.ensures.y) in
    let high : to_z w32 (of_z w32 c.hi-hi.result.y) ≡ b.hi.y = omega (arith, ints, c.hi-hi.ensures.y) in
    let first : to_z w32 (of_z w32 c.lo-lo.result.x) ≡ b.lo.x = omega (arith, ints, c.lo-lo.ensures.x) in
    let last : to_z w32 (of_z w32 c.hi-hi.result.x) ≡ b.hi.x = omega (arith, ints, c.hi-hi.ensures.x) in
    let z : to_z w32 (of_z w32 q.y) ≡ q.y = omega (arith, ints) in
    let across : to_z w32 (of_z w32 q.x) ≡ q.x = omega (arith, ints) in
    on_edge_is c.args.axis X b q b.lo.y b.hi.y q.y b.lo.x b.hi.x q.x c.is_end.result c.in-X.is refl (c.if-is_within.ensures ∙ (λ i. within (low i) (high i) (z i))) (c.is_end.ensures ∙ (λ i. is_end (first i) (last i) (across i)))

pub returns-then-is_within-2 : goal.returns-then-is_within-2
returns-then-is_within-2 c =
    let b = c.args.b.now in
    let q = c.args.c in
    let low : to_z w32 (of_z w32 c.lo-lo.result.x) ≡ b.lo.x = omega (arith, ints, c.lo-lo.ensures.x) in
    let high : to_z w32 (of_z w32 c.hi-hi.result.x) ≡ b.hi.x = omega (arith, ints, c.hi-hi.ensures.x) in
    let first : to_z w32 (of_z w32 c.lo-lo.result.y) ≡ b.lo.y = omega (arith, ints, c.lo-lo.ensures.y) in
    let last : to_z w32 (of_z w32 c.hi-hi.result.y) ≡ b.hi.y = omega (arith, ints, c.hi-hi.ensures.y) in
    let z : to_z w32 (of_z w32 q.x) ≡ q.x = omega (arith, ints) in
    let across : to_z w32 (of_z w32 q.y) ≡ q.y = omega (arith, ints) in
    on_edge_is c.args.axis Y b q b.lo.x b.hi.x q.x b.lo.y b.hi.y q.y c.is_end-then-is_within-2.result c.in-Y.is refl (c.if-is_within-2.ensures ∙ (λ i. within (low i) (high i) (z i))) (c.is_end-then-is_within-2.ensures ∙ (λ i. is_end (first i) (last i) (across i)))
