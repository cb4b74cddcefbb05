use Rattle.std.proofs.Common.{arith, pos, ◌-ℤ◌, ◌∙◌}
use Rattle.std.specs.Prelude.{slice_index_or}
use Rattle.std.proofs.lemmas.Int.{ints}
use Rattle.amr_register.specs.CoarseFlows.{net_owned}
use Rattle.amr_register.proofs.OwnedFlows.{above, below}
use Rattle.amr_register.proofs.Taken.{no_cell, no_sides, none_taken, one_taken, same_at}
use Rattle.amr_register.proofs.flows.take_away.Goals as goal

pub loop-k-init : goal.loop-k-init
loop-k-init c = none_taken _ _

pub overflow_sub-entries : goal.overflow_sub-entries
overflow_sub-entries c =
    let was = c.loop-k.invariant.left c.loop-k.k (omega arith) in
    let room = c.requires.room c.loop-k.k (omega (arith, c.loop-k-test.true)) in
    let low = above (slice_index_or c.args.entries.now c.loop-k.k (pos 0)) _ room in
    let high = below (slice_index_or c.args.entries.now c.loop-k.k (pos 0)) _ room in
    omega (arith, ints, was, low, high)

pub loop-k-preserved : goal.loop-k-preserved
loop-k-preserved c =
    let was = c.loop-k.invariant.left c.loop-k.k (omega arith) in
    let room = c.requires.room c.loop-k.k (omega (arith, c.loop-k-test.true)) in
    let low = above (slice_index_or c.args.entries.now c.loop-k.k (pos 0)) _ room in
    let high = below (slice_index_or c.args.entries.now c.loop-k.k (pos 0)) _ room in
    one_taken _ c.args.entries.now c.loop-k.entries c.loop-k.k _ c.net_owned.result c.net_owned.ensures.value
    c.loop-k.invariant (omega arith) (omega (arith, ints, was, low, high))

pub returns : goal.returns
returns c = λ k q s lt. c.loop-k.invariant.done k (omega (arith, lt, c.loop-k-test.false)) ∙ (λ i. slice_index_or c.args.entries.now k (pos 0) -ℤ net_owned c.args.p.now c.args.l c.args.patch.now (same_at c.args.edge.sides.now k no_sides s (omega (arith, lt, c.requires.side_count)) i) (same_at c.args.edge.cells.now k no_cell q lt i))
