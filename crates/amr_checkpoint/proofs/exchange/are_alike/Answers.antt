use Rattle.std.proofs.Common.{◌≡◌, ◌∙◌, ◌<◌, length, map, sym, ap, arith}
use Rattle.std.proofs.lemmas.List.{length-map, take_all, take_more_same}
use Rattle.amr_checkpoint.specs.Exchanges.{shape_of}
use Rattle.amr_checkpoint.proofs.Exchanging.{mapped_at}
use Rattle.amr_checkpoint.proofs.exchange.are_alike.Goals as goal

pub loop-k-preserved : goal.loop-k-preserved
loop-k-preserved c =
    let a = c.args.a.now in
    let b = c.args.b.now in
    let i = c.loop-k.k in
    let q = c.index-a-k.result in
    let r = c.index-b-k.result in
    let there : i < length b = omega (arith, c.loop-k-test.true, c.if-a-b.false) in
    let wide : length (map shape_of a) ≡ length a = length-map a shape_of in
    let long : length (map shape_of b) ≡ length b = length-map b shape_of in
    take_more_same (map shape_of a) (map shape_of b) i (shape_of q) (omega (arith, c.loop-k-test.true, wide)) (omega (arith, there, long)) c.loop-k.invariant
    (mapped_at shape_of a i q (shape_of q) c.loop-k-test.true ∙ ap shape_of (sym c.index-a-k.is) ∙ c.is_alike.ensures c.if-not-is_alike.false ∙ ap shape_of c.index-b-k.is ∙ sym (mapped_at shape_of b i r (shape_of q) there))

pub returns : goal.returns
returns c = λ h.
    let a = c.args.a.now in
    let b = c.args.b.now in
    let i = c.loop-k.k in
    let wide : length (map shape_of a) ≡ length a = length-map a shape_of in
    let long : length (map shape_of b) ≡ length b = length-map b shape_of in
    sym (take_all i (map shape_of a) (omega (arith, c.loop-k-test.false, wide))) ∙ c.loop-k.invariant ∙ take_all i (map shape_of b) (omega (arith, c.loop-k-test.false, c.if-a-b.false, long))
