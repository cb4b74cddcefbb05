use Rattle.std.proofs.Common.{arith}
use Rattle.amr_phase.proofs.Steps.{put_at, put_keeps}
use Rattle.amr_phase.proofs.machine.Core.put.Goals as goal

pub index_mut-requires : goal.index_mut-requires
index_mut-requires c =
    let at = put_at _ c.self.invariant.0 c.args.worker c.args.self.now c.self.view_is c.in-Some.held c.in-Some.ensures.hold c.tasks.result.now c.tasks.ensures.tasks c.index-tasks-held.result c.as_slice-posts.result.now c.as_slice-posts.ensures c.if-held-posts.false in omega arith

pub invariant_of-self : goal.invariant_of-self
invariant_of-self c = (put_keeps _ c.self.invariant.0 c.args.worker c.args.self.now c.self.view_is c.in-Some.held c.in-Some.ensures.hold c.tasks.result.now c.tasks.ensures.tasks c.index-tasks-held.result c.as_slice-posts.result.now c.as_slice-posts.ensures c.if-held-posts.false, c.self.invariant.1)
