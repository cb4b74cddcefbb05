use Rattle.std.proofs.Common.{◌≡◌, ◌∙◌, ◌++◌, zero, suc, [], ◌∷◌, map, get_or, sym, ap, subst, arith}
use Rattle.std.specs.List.{All}
use Rattle.std.proofs.lemmas.List.{map_more, take_all}
use Rattle.std.proofs.lemmas.List.Elements.{All-append}
use Rattle.amr_box.specs.Cells.{Extent, IsNear}
use Rattle.amr_def.specs.Domain.{refined}
use Rattle.amr_regrid.specs.Blocks.{IsLow}
use Rattle.amr_witness_regrid.proofs.wanted.all_refined.Goals as goal

one_near : (b : Extent) → IsNear b → All IsNear (b ∷ [])
one_near b n zero d h = n
one_near b n (suc k) d h = absurd (omega (arith, h))

pub refined-requires-clause-low : goal.refined-requires-clause-low
refined-requires-clause-low c = subst IsLow (sym c.b-item.is) (c.requires.low c.loop-b.b-index c.b-item.result c.loop-b-test.true)

pub loop-b-preserved : goal.loop-b-preserved
loop-b-preserved c =
    let f = refined c.args.n in
    let new : c.refined.result ≡ f (get_or c.args.boxes.now c.loop-b.b-index c.b-item.result) = c.refined.ensures.value ∙ ap f c.b-item.is in (
      c.in_ok-push.ensures.items ∙ (λ j. c.loop-b.invariant.0 j ++ new j ∷ []) ∙ sym (map_more f c.args.boxes.now c.loop-b.b-index c.b-item.result c.loop-b-test.true),
      subst (All IsNear) (sym c.in_ok-push.ensures.items) (All-append IsNear c.loop-b.all.items (c.refined.result ∷ []) c.loop-b.invariant.1 (one_near c.refined.result c.refined.ensures.near)),
    )

pub returns-clause-boxes : goal.returns-clause-boxes
returns-clause-boxes c = c.loop-b.invariant.0 ∙ ap (map (refined c.args.n)) (take_all c.loop-b.b-index c.args.boxes.now c.loop-b-test.false)

pub returns-clause-near : goal.returns-clause-near
returns-clause-near c = c.loop-b.invariant.1
