use Rattle.amr_batch.specs.Replies.{HasReplies}
use Rattle.amr_batch.proofs.Placing.{AreTaken}
use Rattle.amr_batch.proofs.replies.Work.gather.Given as goal

-- the places so far are taken
abbrev pub invariant-loop-place : goal.invariant-loop-place
invariant-loop-place g l =
    HasReplies (g.S.Solve.answers l.self.solve.now) l.self.bytes.now l.self.spans.now l.yielded → AreTaken (g.S.Solve.answers l.self.solve.now) l.self.bytes.now l.self.spans.now l.yielded l.replies.items
