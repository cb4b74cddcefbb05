use Rattle.std.proofs.Common.{◌≡◌, ◌∙◌, ◌<◌, ◌≤◌, List, length, rules, ap, subst, arith}
use Rattle.std.specs.Prelude.{slice_index_or}
use Rattle.std.proofs.lemmas.Fn.{always_returns_same}
use Rattle.amr_box.specs.Cells.{Extent}
use Rattle.amr_patch.specs.Levels.{level_of}
use Rattle.amr_patch.specs.Orders.{AreBoxesInRows}
use Rattle.amr_patch.proofs.Standing.{boxes_sorted}
use Rattle.amr_register.specs.Covers.{covers}
use Rattle.amr_register.proofs.BarLists.{all_covered, no_boxes_yet, one_box_more, parents_near, bars_in_order}
use Rattle.amr_register.proofs.cover.Cover.make.Goals as goal

pub loop-b-init : goal.loop-b-init
loop-b-init c = no_boxes_yet (level_of c.args.fine.now).boxes c.new-bars.result.items c.new-bars.ensures.items

pub push_rows-requires : goal.push_rows-requires
push_rows-requires c =
    let bs = (level_of c.args.fine.now).boxes in
    let there : c.loop-b.b-index < length bs = subst (λ (xs : List Extent). c.loop-b.b-index < length xs) c.boxes-b-items.ensures c.loop-b-test.true in
    let at : c.b-item.result ≡ slice_index_or bs c.loop-b.b-index c.b-item.result = c.b-item.is ∙ ap (λ (xs : List Extent). slice_index_or xs c.loop-b.b-index c.b-item.result) c.boxes-b-items.ensures in
    record { near = parents_near bs c.loop-b.b-index c.b-item.result c.coarsen2.result c.requires.near there at c.coarsen2.ensures.corners }

pub loop-b-preserved : goal.loop-b-preserved
loop-b-preserved c =
    let bs = (level_of c.args.fine.now).boxes in
    let there : c.loop-b.b-index < length bs = subst (λ (xs : List Extent). c.loop-b.b-index < length xs) c.boxes-b-items.ensures c.loop-b-test.true in
    let at : c.b-item.result ≡ slice_index_or bs c.loop-b.b-index c.b-item.result = c.b-item.is ∙ ap (λ (xs : List Extent). slice_index_or xs c.loop-b.b-index c.b-item.result) c.boxes-b-items.ensures in
    one_box_more bs c.loop-b.bars.items c.push_rows.new.bars.items c.loop-b.b-index c.b-item.result c.coarsen2.result c.requires.apart c.requires.aligned c.loop-b.invariant there at c.coarsen2.ensures.corners
    (record { each = c.in_ok-push_rows.ensures.each; cells = c.in_ok-push_rows.ensures.cells; apart = c.in_ok-push_rows.ensures.apart })

pub invariant_of-result : goal.invariant_of-result
invariant_of-result c =
    let es = c.sort_unstable_by_key.new.self.items in
    let in_rows : AreBoxesInRows es = boxes_sorted es (c.sort_unstable_by_key.ensures.sorted (λ (b : Extent). (b.lo.y, b.lo.x)) (always_returns_same _ (λ a r. r ≡ (a.0.now.lo.y, a.0.now.lo.x)) _ (λ a r q k. search rules))) in
    record { bars_in_order = bars_in_order (level_of c.args.fine.now).boxes c.loop-b.bars.items es c.loop-b.b-index c.loop-b.invariant c.sort_unstable_by_key.ensures.permutation in_rows }

pub returns : goal.returns
unfolding covers
returns c = λ q.
    let bs = (level_of c.args.fine.now).boxes in
    let all : length bs ≤ c.loop-b.b-index = omega (arith, c.loop-b-test.false, ap (λ (xs : List Extent). length xs) c.boxes-b-items.ensures) in
    all_covered (level_of c.args.fine.now).masses bs c.loop-b.bars.items c.sort_unstable_by_key.new.self.items c.loop-b.b-index all c.requires.aligned c.requires.filled c.loop-b.invariant c.sort_unstable_by_key.ensures.permutation q
