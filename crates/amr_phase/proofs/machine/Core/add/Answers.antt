use Rattle.std.proofs.Common.{arith}
use Rattle.amr_phase.proofs.Steps.{add_at, add_stays_below, add_keeps}
use Rattle.amr_phase.proofs.machine.Core.add.Goals as goal

pub index_mut-requires : goal.index_mut-requires
index_mut-requires c =
    let at = add_at _ c.self.invariant.0 c.args.worker c.args.self.now c.self.view_is c.in-Some.held c.in-Some.ensures.hold c.tasks.result.now c.tasks.ensures.tasks c.index-tasks-held.result c.as_slice-posts.result.now c.as_slice-posts.ensures c.if-held-posts.false in omega arith

pub overflow_add-index_mut : goal.overflow_add-index_mut
overflow_add-index_mut c =
    let below = add_stays_below _ c.self.invariant.0 c.args.worker c.args.self.now c.self.view_is c.in-Some.held c.in-Some.ensures.hold c.tasks.result.now c.tasks.ensures.tasks c.index-tasks-held.result c.as_slice-posts.result.now c.as_slice-posts.ensures c.if-held-posts.false c.index_mut.result.now c.index_mut.ensures.value in omega arith

pub invariant_of-self : goal.invariant_of-self
invariant_of-self c = (add_keeps _ c.self.invariant.0 c.args.worker c.args.self.now c.self.view_is c.in-Some.held c.in-Some.ensures.hold c.tasks.result.now c.tasks.ensures.tasks c.index-tasks-held.result c.as_slice-posts.result.now c.as_slice-posts.ensures c.if-held-posts.false c.index_mut.result.now c.index_mut.ensures.value, c.self.invariant.1)
