use Rattle.std.proofs.Common.{◌≡◌, ◌∙◌, length, ap, subst, sym, arith}
use Rattle.amr_def.specs.Domain.{Domain, domain_of}
use Rattle.amr_faces.specs.Faces.{IsInDomain}
use Rattle.amr_patch.specs.Levels.{level_of}
use Rattle.amr_register.specs.Covers.{covers}
use Rattle.amr_register.proofs.CollectLaws.{more_boxes, no_boxes}
use Rattle.amr_register.proofs.FineBoxes.{covered, in_the_end, is, near, near_cells, there, within}
use Rattle.amr_register.proofs.beside.register_cells.Goals as goal

pub domain-dom-requires : goal.domain-dom-requires
domain-dom-requires c = omega (arith, c.args.pair.now.few)

pub loop-b-init : goal.loop-b-init
loop-b-init c = no_boxes _ _ _ _ c.new-cells.ensures.items

pub push_beside-requires-clause-near : goal.push_beside-requires-clause-near
push_beside-requires-clause-near c =
    near c.args.pair.now.p.now c.args.pair.now.l (level_of c.args.pair.now.coarse.now) (level_of c.args.pair.now.fine.now) c.args.pair.now.coarse_level c.args.pair.now.fine_level c.args.pair.now.nested c.args.pair.now.few c.loop-b.b-index c.boxes-b-items.result.now c.b-item.result c.coarsen2.result
    c.boxes-b-items.ensures c.loop-b-test.true c.b-item.is c.coarsen2.ensures.corners c.coarsen2.ensures.cells

pub push_beside-requires-clause-inside : goal.push_beside-requires-clause-inside
push_beside-requires-clause-inside c =
    subst (λ (d : Domain). IsInDomain d c.coarsen2.result) (sym c.domain-dom.ensures)
    (within c.args.pair.now.p.now c.args.pair.now.l (level_of c.args.pair.now.coarse.now) (level_of c.args.pair.now.fine.now) c.args.pair.now.coarse_level c.args.pair.now.fine_level c.args.pair.now.nested c.args.pair.now.few c.loop-b.b-index c.boxes-b-items.result.now c.b-item.result c.coarsen2.result
    c.boxes-b-items.ensures c.loop-b-test.true c.b-item.is c.coarsen2.ensures.corners c.coarsen2.ensures.cells)

pub push_beside-requires-clause-covered : goal.push_beside-requires-clause-covered
push_beside-requires-clause-covered c = λ q h.
    c.args.pair.now.covered q
    ∙ covered c.args.pair.now.p.now c.args.pair.now.l (level_of c.args.pair.now.coarse.now) (level_of c.args.pair.now.fine.now) c.args.pair.now.coarse_level c.args.pair.now.fine_level c.args.pair.now.nested c.args.pair.now.few c.loop-b.b-index c.boxes-b-items.result.now c.b-item.result c.coarsen2.result
    c.boxes-b-items.ensures c.loop-b-test.true c.b-item.is c.coarsen2.ensures.corners c.coarsen2.ensures.cells q h

pub loop-b-preserved : goal.loop-b-preserved
loop-b-preserved c =
    let p = c.args.pair.now.p.now in
    let k = level_of c.args.pair.now.coarse.now in
    let fine = level_of c.args.pair.now.fine.now in
    let n = c.loop-b.b-index in
    let items = c.boxes-b-items.result.now in
    more_boxes _ _ fine.boxes _ _ n c.b-item.result c.coarsen2.result c.loop-b.invariant
    (there p c.args.pair.now.l k fine c.args.pair.now.coarse_level c.args.pair.now.fine_level c.args.pair.now.nested c.args.pair.now.few n items c.b-item.result c.coarsen2.result c.boxes-b-items.ensures c.loop-b-test.true c.b-item.is c.coarsen2.ensures.corners c.coarsen2.ensures.cells)
    c.in_ok-push_beside.ensures.collects
    (is p c.args.pair.now.l k fine c.args.pair.now.coarse_level c.args.pair.now.fine_level c.args.pair.now.nested c.args.pair.now.few n items c.b-item.result c.coarsen2.result c.boxes-b-items.ensures c.loop-b-test.true c.b-item.is c.coarsen2.ensures.corners c.coarsen2.ensures.cells)
    c.in_ok-push_beside.ensures.finds

pub returns-clause-cells : goal.returns-clause-cells
returns-clause-cells c =
    let fine = level_of c.args.pair.now.fine.now in
    let counted : c.loop-b.b-index ≡ length c.boxes-b-items.result.now = omega arith in
    let n : c.loop-b.b-index ≡ length fine.boxes = counted ∙ ap length c.boxes-b-items.ensures in
    in_the_end c.args.pair.now.p.now c.args.pair.now.l (level_of c.args.pair.now.coarse.now) fine c.args.pair.now.coarse_level c.args.pair.now.fine_level c.args.pair.now.nested c.args.pair.now.few c.args.belt (domain_of c.domain-dom.result) (covers c.args.pair.now.cover.now) c.loop-b.cells.items c.loop-b.b-index c.domain-dom.ensures c.args.pair.now.covered n
    c.loop-b.invariant c.put_in_order.new.cells.items c.put_in_order.ensures.rising c.put_in_order.ensures.kept c.put_in_order.ensures.none_added

pub returns-clause-near : goal.returns-clause-near
returns-clause-near c =
    let k = level_of c.args.pair.now.coarse.now in
    let fine = level_of c.args.pair.now.fine.now in
    let counted : c.loop-b.b-index ≡ length c.boxes-b-items.result.now = omega arith in
    let n : c.loop-b.b-index ≡ length fine.boxes = counted ∙ ap length c.boxes-b-items.ensures in
    near_cells c.args.pair.now.p.now c.args.pair.now.l _ c.put_in_order.new.cells.items (omega (arith, c.args.pair.now.few))
    (in_the_end c.args.pair.now.p.now c.args.pair.now.l k fine c.args.pair.now.coarse_level c.args.pair.now.fine_level c.args.pair.now.nested c.args.pair.now.few c.args.belt (domain_of c.domain-dom.result) (covers c.args.pair.now.cover.now) c.loop-b.cells.items c.loop-b.b-index c.domain-dom.ensures c.args.pair.now.covered n
    c.loop-b.invariant c.put_in_order.new.cells.items c.put_in_order.ensures.rising c.put_in_order.ensures.kept c.put_in_order.ensures.none_added)
