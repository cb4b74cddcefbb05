use Rattle.std.proofs.Common.{◌≡◌, length}
use Rattle.amr_batch.specs.Replies.{HasReplies}
use Rattle.amr_batch.proofs.Placing.{HasSomeTo}
use Rattle.amr_batch.proofs.replies.Work.place.Given as goal

-- the replies that are left are those of the first numbers
abbrev pub invariant-loop-reply : goal.invariant-loop-reply
invariant-loop-reply g l = record {
  left : HasSomeTo (g.S.Solve.answers l.self.solve.now) l.self.bytes.now l.self.spans.now l.numbers.items l.replies.items;
  long : length l.places ≡ length l.self.spans.now;
  filled : HasReplies (g.S.Solve.answers l.self.solve.now) l.self.bytes.now l.self.spans.now l.places;
}

abbrev pub decreases-loop-reply : goal.decreases-loop-reply
decreases-loop-reply g l = length l.replies.items
