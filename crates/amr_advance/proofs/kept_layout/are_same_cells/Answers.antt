use Rattle.std.proofs.Common.{◌∙◌, ◌<◌, ◌≤◌, length, pos, sym, arith}
use Rattle.std.proofs.lemmas.Bool.{eqb-true}
use Rattle.std.proofs.lemmas.List.{take_all, take_more_same}
use Rattle.amr_box.specs.Cells.{cell}
use Rattle.amr_advance.proofs.kept_layout.are_same_cells.Goals as goal

pub loop-k-preserved : goal.loop-k-preserved
loop-k-preserved c =
    let a = c.args.a.now in
    let b = c.args.b.now in
    let i = c.loop-k.k in
    let inside : i < length b = omega (arith, c.loop-k-test.true, c.if-a-b.false) in
    record {
      few = (let so_far = c.loop-k.invariant.few in let more = c.differences-count.ensures.few in omega arith);
      same = λ h. take_more_same a b i (cell (pos 0) (pos 0)) c.loop-k-test.true inside (c.loop-k.invariant.same (omega (arith, h))) (c.differences-count.ensures.none (omega (arith, h)));
    }

pub returns : goal.returns
returns c = λ h.
    let a = c.args.a.now in
    let b = c.args.b.now in
    let i = c.loop-k.k in
    let past : length b ≤ i = omega (arith, c.loop-k-test.false, c.if-a-b.false) in
    sym (take_all i a c.loop-k-test.false) ∙ c.loop-k.invariant.same (eqb-true c.loop-k.count 0 h) ∙ take_all i b past
