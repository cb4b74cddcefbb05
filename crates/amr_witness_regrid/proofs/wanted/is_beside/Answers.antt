use Rattle.std.proofs.Common.{◌∙◌, pos, sym, ap, subst, refl, arith}
use Rattle.amr_box.specs.Cells.{cell, has_child_where, in_boxes, moved, square}
use Rattle.amr_def.specs.Domain.{Domain, domain, home_cell}
use Rattle.amr_witness_regrid.specs.Places.{IsUpTo}
use Rattle.amr_witness_regrid.proofs.Loops.{found, none_more, none_at_all}
use Rattle.amr_witness_regrid.proofs.Near.{home_up, square_small}
use Rattle.amr_witness_regrid.proofs.wanted.is_beside.Goals as goal

pub loop-o-init : goal.loop-o-init
loop-o-init c = refl

pub moved-requires-clause-offset : goal.moved-requires-clause-offset
moved-requires-clause-offset c = square_small 1 8 c.args.ring.now c.loop-o.o-index _ (omega arith) c.requires.ring c.loop-o-test.true

pub has_child_in-requires : goal.has_child_in-requires
has_child_in-requires c =
    let at = c.home_cell.ensures ∙ ap (λ (d : Domain). home_cell d c.moved.result) c.domain-dom.ensures in
    subst (IsUpTo 10008) (sym at) (home_up c.args.p.now c.args.level 10008 c.moved.result c.requires.known (omega arith) c.moved.ensures.near)

pub returns-then-has_child_in : goal.returns-then-has_child_in
returns-then-has_child_in c =
    let d = domain c.args.p.now c.args.level in
    let test = has_child_where (in_boxes c.args.boxes.now) in
    let at = c.has_child_in.ensures ∙ ap test (c.home_cell.ensures ∙ (λ i. home_cell (c.domain-dom.ensures i) (c.moved.ensures.value i))) in
    found (λ o. test (home_cell d (moved c.args.c o))) c.args.ring.now (square 1) c.loop-o.o-index (cell (pos 0) (pos 0)) c.requires.ring c.loop-o-test.true (sym at ∙ c.if-has_child_in.true)

pub loop-o-preserved : goal.loop-o-preserved
loop-o-preserved c =
    let d = domain c.args.p.now c.args.level in
    let test = has_child_where (in_boxes c.args.boxes.now) in
    let at = c.has_child_in.ensures ∙ ap test (c.home_cell.ensures ∙ (λ i. home_cell (c.domain-dom.ensures i) (c.moved.ensures.value i))) in
    none_more (λ o. test (home_cell d (moved c.args.c o))) c.args.ring.now c.loop-o.o-index (cell (pos 0) (pos 0)) c.loop-o-test.true c.loop-o.invariant (sym at ∙ c.if-has_child_in.false)

pub returns : goal.returns
returns c =
    let d = domain c.args.p.now c.args.level in
    let test = has_child_where (in_boxes c.args.boxes.now) in
    none_at_all (λ o. test (home_cell d (moved c.args.c o))) c.args.ring.now (square 1) c.loop-o.o-index c.requires.ring (omega (arith, c.loop-o-test.false)) c.loop-o.invariant
