use Rattle.std.proofs.Common.{◌≡◌, ◌∙◌, ◌++◌, ◌∷◌, [], get_or, map, sym, ap, arith}
use Rattle.std.proofs.Math.ListN.{get_or-map}
use Rattle.std.proofs.lemmas.List.{length-map, take_more}
use Rattle.amr_patch.specs.Patches.{box}
use Rattle.amr_alike.proofs.patches.boxes_of.Goals as goal

pub loop-patch-preserved : goal.loop-patch-preserved
loop-patch-preserved c =
    let ps = c.args.patches.now in
    let k = c.loop-patch.patch-index in
    let q = c.patch-item.result in
    let count = length-map ps box in
    let here : get_or (map box ps) k (box q) ≡ c.bx.result = get_or-map box ps k q ∙ ap box (sym c.patch-item.is) ∙ sym c.bx.ensures.value in
    c.in_ok-push.ensures.items ∙ (λ i. c.loop-patch.invariant i ++ sym here i ∷ []) ∙ sym (take_more (map box ps) k (box q) (omega (arith, count)))
