use Rattle.std.proofs.Common.{◌≡◌, ◌∙◌, ◌<◌, ◌≤◌, length, get_or, map, sym, ap, arith}
use Rattle.std.proofs.Math.ListN.{get_or-map}
use Rattle.std.proofs.lemmas.List.{length-map, take_all, take_more_same}
use Rattle.amr_box.specs.Cells.{Extent}
use Rattle.amr_patch.specs.Patches.{box}
use Rattle.amr_alike.proofs.patches.have_boxes.Goals as goal

pub loop-k-preserved : goal.loop-k-preserved
loop-k-preserved c =
    let a = map box c.args.patches.now in
    let b = c.args.boxes.now in
    let i = c.loop-k.k in
    let q = c.index-patches-k.result in
    let same : box q ≡ c.index-boxes-k.result = sym c.bx.ensures.value ∙ c.is_same.ensures c.if-not-is_same.false in
    let inside : i < length b = c.loop-k-test.true in
    let count : length a ≡ length b = length-map c.args.patches.now box ∙ c.if-patches-boxes.false in
    let here : get_or a i (box q) ≡ box q = get_or-map box c.args.patches.now i q ∙ ap box (sym c.index-patches-k.is) in
    take_more_same a b i (box q) (omega (arith, inside, count)) inside c.loop-k.invariant (here ∙ same ∙ c.index-boxes-k.is ∙ ap (λ (x : Extent). get_or b i x) (sym same))

pub returns : goal.returns
returns c = λ h.
    let a = map box c.args.patches.now in
    let b = c.args.boxes.now in
    let i = c.loop-k.k in
    let past : length b ≤ i = c.loop-k-test.false in
    let count : length a ≡ length b = length-map c.args.patches.now box ∙ c.if-patches-boxes.false in
    sym (take_all i a (omega (arith, past, count))) ∙ c.loop-k.invariant ∙ take_all i b past
