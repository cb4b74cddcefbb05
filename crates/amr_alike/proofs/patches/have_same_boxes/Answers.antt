use Rattle.std.proofs.Common.{◌≡◌, ◌∙◌, length, get_or, map, sym, ap, arith}
use Rattle.std.proofs.Math.ListN.{get_or-map}
use Rattle.std.proofs.lemmas.List.{length-map, take_all, take_more_same}
use Rattle.amr_box.specs.Cells.{Extent}
use Rattle.amr_patch.specs.Patches.{box}
use Rattle.amr_alike.proofs.patches.have_same_boxes.Goals as goal

pub loop-k-preserved : goal.loop-k-preserved
loop-k-preserved c =
    let a = map box c.args.a.now in
    let b = map box c.args.b.now in
    let i = c.loop-k.k in
    let q = c.index-a-k.result in
    let r = c.index-b-k.result in
    let same : box q ≡ box r = sym c.bx.ensures.value ∙ c.is_same.ensures c.if-not-is_same.false ∙ c.bx-in-loop-k.ensures.value in
    let wide : length a ≡ length c.args.a.now = length-map c.args.a.now box in
    let long : length b ≡ length c.args.b.now = length-map c.args.b.now box in
    let here : get_or a i (box q) ≡ box q = get_or-map box c.args.a.now i q ∙ ap box (sym c.index-a-k.is) in
    let there : get_or b i (box r) ≡ box r = get_or-map box c.args.b.now i r ∙ ap box (sym c.index-b-k.is) in
    take_more_same a b i (box q) (omega (arith, c.loop-k-test.true, wide)) (omega (arith, c.loop-k-test.true, c.if-a-b.false, long)) c.loop-k.invariant (here ∙ same ∙ sym there ∙ ap (λ (x : Extent). get_or b i x) (sym same))

pub returns : goal.returns
returns c = λ h.
    let a = map box c.args.a.now in
    let b = map box c.args.b.now in
    let i = c.loop-k.k in
    let wide : length a ≡ length c.args.a.now = length-map c.args.a.now box in
    let long : length b ≡ length c.args.b.now = length-map c.args.b.now box in
    sym (take_all i a (omega (arith, c.loop-k-test.false, wide))) ∙ c.loop-k.invariant ∙ take_all i b (omega (arith, c.loop-k-test.false, c.if-a-b.false, long))
