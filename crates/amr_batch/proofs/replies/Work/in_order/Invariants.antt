use Rattle.std.proofs.Common.{◌≡◌, length}
use Rattle.amr_batch.specs.Replies.{HasReplies}
use Rattle.amr_batch.proofs.replies.Work.in_order.Given as goal

-- what stands at a place is the reply of its job
abbrev pub invariant-loop-lot : goal.invariant-loop-lot
invariant-loop-lot g l = record {
  long : length l.places.items ≡ length l.self.spans.now;
  filled : HasReplies (g.S.Solve.answers l.self.solve.now) l.self.bytes.now l.self.spans.now l.places.items;
}
