use Rattle.std.proofs.Common.{◌≡◌, ◌∙◌, ◌<◌, ◌≤◌, length, get_or, sym, ap, arith}
use Rattle.std.proofs.lemmas.List.{take_all, take_more_same}
use Rattle.amr_box.specs.Cells.{Extent}
use Rattle.amr_alike.proofs.boxes.are_same.Goals as goal

pub loop-k-preserved : goal.loop-k-preserved
loop-k-preserved c =
    let a = c.args.a.now in
    let b = c.args.b.now in
    let i = c.loop-k.k in
    let d = c.index-a-k.result in
    let same : d ≡ c.index-b-k.result = c.is_same.ensures c.if-not-is_same.false in
    let inside : i < length b = omega (arith, c.loop-k-test.true, c.if-a-b.false) in
    take_more_same a b i d c.loop-k-test.true inside c.loop-k.invariant (sym c.index-a-k.is ∙ same ∙ c.index-b-k.is ∙ ap (λ (x : Extent). get_or b i x) (sym same))

pub returns : goal.returns
returns c = λ h.
    let a = c.args.a.now in
    let b = c.args.b.now in
    let i = c.loop-k.k in
    let past : length b ≤ i = omega (arith, c.loop-k-test.false, c.if-a-b.false) in
    sym (take_all i a c.loop-k-test.false) ∙ c.loop-k.invariant ∙ take_all i b past
