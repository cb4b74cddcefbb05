use Rattle.std.proofs.Common.{◌≡◌, ◌∙◌, ◌||◌, ◌+◌, ap, sym, arith}
use Rattle.std.proofs.Math.Bool.{or_assoc}
use Rattle.amr_box.specs.Cells.{child, has_child_where, in_boxes}
use Rattle.amr_def.specs.Domain.{domain, is_near}
use Rattle.amr_witness_regrid.proofs.Near.{up_more}
use Rattle.amr_witness_regrid.proofs.wanted.is_projected.Goals as goal

pub child-requires-clause-near : goal.child-requires-clause-near
child-requires-clause-near c = up_more 4098 10008 c.args.c (omega arith) c.requires.near

pub child-requires-2-clause-near : goal.child-requires-2-clause-near
child-requires-2-clause-near c = up_more 4098 10008 c.args.c (omega arith) c.requires.near

pub child-requires-3-clause-near : goal.child-requires-3-clause-near
child-requires-3-clause-near c = up_more 4098 10008 c.args.c (omega arith) c.requires.near

pub child-requires-4-clause-near : goal.child-requires-4-clause-near
child-requires-4-clause-near c = up_more 4098 10008 c.args.c (omega arith) c.requires.near

pub is_beside-first-requires-clause-near : goal.is_beside-first-requires-clause-near
is_beside-first-requires-clause-near c = up_more 8197 10000 c.child.result (omega arith) (c.child.ensures.near 4098 c.requires.near)

pub is_beside-second-requires-clause-near : goal.is_beside-second-requires-clause-near
is_beside-second-requires-clause-near c = up_more 8197 10000 c.child-2.result (omega arith) (c.child-2.ensures.near 4098 c.requires.near)

pub is_beside-third-requires-clause-near : goal.is_beside-third-requires-clause-near
is_beside-third-requires-clause-near c = up_more 8197 10000 c.child-3.result (omega arith) (c.child-3.ensures.near 4098 c.requires.near)

pub is_beside-fourth-requires-clause-near : goal.is_beside-fourth-requires-clause-near
is_beside-fourth-requires-clause-near c = up_more 8197 10000 c.child-4.result (omega arith) (c.child-4.ensures.near 4098 c.requires.near)

pub returns : goal.returns
returns c =
    let test = is_near (domain c.args.p.now (c.args.level + 1)) 1 (has_child_where (in_boxes c.args.boxes.now)) in
    let k = c.args.c in
    let e0 : c.is_beside-first.result ≡ test (child k 0) = c.is_beside-first.ensures ∙ ap test c.child.ensures.value in
    let e1 : c.is_beside-second.result ≡ test (child k 1) = c.is_beside-second.ensures ∙ ap test c.child-2.ensures.value in
    let e2 : c.is_beside-third.result ≡ test (child k 2) = c.is_beside-third.ensures ∙ ap test c.child-3.ensures.value in
    let e3 : c.is_beside-fourth.result ≡ test (child k 3) = c.is_beside-fourth.ensures ∙ ap test c.child-4.ensures.value in
    sym (or_assoc (c.is_beside-first.result || c.is_beside-second.result) c.is_beside-third.result c.is_beside-fourth.result) ∙ (λ i. e0 i || e1 i || e2 i || e3 i)
