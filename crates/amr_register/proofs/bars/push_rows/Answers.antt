use Rattle.std.proofs.Common.{◌≡◌, arith}
use Rattle.amr_box.specs.Cells.{height}
use Rattle.amr_register.proofs.BarLists.{all_rows_added, no_rows_added, one_row_added}
use Rattle.amr_register.proofs.bars.push_rows.Goals as goal

pub loop-j-init : goal.loop-j-init
loop-j-init c = no_rows_added c.args.b.now c.args.bars.now.items

pub loop-j-preserved : goal.loop-j-preserved
loop-j-preserved c = one_row_added c.args.b.now c.args.bars.now.items c.loop-j.bars.items c.push.new.self.items c.loop-j.j c.row_of.result c.loop-j.invariant c.row_of.ensures c.requires.near.wide c.in_ok-push.ensures.items

pub returns-clause-each : goal.returns-clause-each
returns-clause-each c =
    let all : c.loop-j.j ≡ height c.args.b.now = omega (arith, c.height-j-end.ensures.value, c.loop-j-test.false, c.loop-j.auto.j-end) in
    (all_rows_added c.args.b.now c.args.bars.now.items c.loop-j.bars.items c.loop-j.j c.requires.near all c.loop-j.invariant).each

pub returns-clause-cells : goal.returns-clause-cells
returns-clause-cells c =
    let all : c.loop-j.j ≡ height c.args.b.now = omega (arith, c.height-j-end.ensures.value, c.loop-j-test.false, c.loop-j.auto.j-end) in
    (all_rows_added c.args.b.now c.args.bars.now.items c.loop-j.bars.items c.loop-j.j c.requires.near all c.loop-j.invariant).cells

pub returns-clause-apart : goal.returns-clause-apart
returns-clause-apart c =
    let all : c.loop-j.j ≡ height c.args.b.now = omega (arith, c.height-j-end.ensures.value, c.loop-j-test.false, c.loop-j.auto.j-end) in
    (all_rows_added c.args.b.now c.args.bars.now.items c.loop-j.bars.items c.loop-j.j c.requires.near all c.loop-j.invariant).apart
