use Rattle.std.proofs.Common.{take}
use Rattle.amr_batch.specs.Replies.{AreRepliesTo}
use Rattle.amr_batch.proofs.replies.Work.replies.Given as goal

-- the numbers so far have their replies
abbrev pub invariant-loop-number : goal.invariant-loop-number
invariant-loop-number g l = AreRepliesTo (g.S.Solve.answers l.self.solve.now) l.self.bytes.now l.self.spans.now (take l.number-index l.numbers) l.replies.items
