use Rattle.std.proofs.Common.{arith}
use Rattle.amr_ghost.proofs.plan.plan_frames.Goals as goal

pub returns : goal.returns
returns c = record {
  spans = c.in_ok-spans.ensures.spans;
  frames = λ i lt. c.in_ok-spans.ensures.frames i (omega arith) (omega arith) lt;
}
