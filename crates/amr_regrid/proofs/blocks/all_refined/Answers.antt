use Rattle.std.proofs.Common.{◌≡◌, ◌∙◌, ◌++◌, [], ◌∷◌, map, get_or, sym, ap, subst}
use Rattle.std.proofs.lemmas.List.{map_more, take_all}
use Rattle.amr_def.specs.Domain.{refined}
use Rattle.amr_regrid.specs.Blocks.{IsLow}
use Rattle.amr_regrid.proofs.blocks.all_refined.Goals as goal

pub refined-requires-clause-low : goal.refined-requires-clause-low
refined-requires-clause-low c = subst IsLow (sym c.b-item.is) (c.requires.low c.loop-b.b-index c.b-item.result c.loop-b-test.true)

pub loop-b-preserved : goal.loop-b-preserved
loop-b-preserved c =
    let f = refined c.args.blocking in
    let new : c.refined.result ≡ f (get_or c.args.boxes.now c.loop-b.b-index c.b-item.result) = c.refined.ensures.value ∙ ap f c.b-item.is in
    c.in_ok-push.ensures.items ∙ (λ j. c.loop-b.invariant j ++ new j ∷ []) ∙ sym (map_more f c.args.boxes.now c.loop-b.b-index c.b-item.result c.loop-b-test.true)

pub returns : goal.returns
returns c = c.loop-b.invariant ∙ ap (map (refined c.args.blocking)) (take_all c.loop-b.b-index c.args.boxes.now c.loop-b-test.false)
