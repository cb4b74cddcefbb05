use Rattle.std.proofs.Common.{◌≤◌, below_more, arith}
use Rattle.amr_ghost.specs.Plans.{HaveFrame}
use Rattle.amr_ghost.proofs.PlannedSpans.{still_whole}
use Rattle.amr_ghost.proofs.plan.plan_run.Goals as goal

pub loop-i-preserved : goal.loop-i-preserved
loop-i-preserved c =
    let ps = c.args.patches.now in
    let ts = c.plan_frame.new.spans.items in
    record {
      spans = c.in_ok-plan_frame.ensures.spans;
      frames = λ k from h. below_more (λ m. c.args.first.patch ≤ m → HaveFrame ps ts m) c.loop-i.i
          (λ m t later. still_whole ps c.loop-i.spans.items ts m c.in_ok-plan_frame.ensures.kept (c.loop-i.invariant.frames m later t))
          (λ later. c.in_ok-plan_frame.ensures.made)
          k
          h
          from;
    }

pub returns : goal.returns
returns c = record {
  spans = c.loop-i.invariant.spans;
  frames = λ i from to lt. c.loop-i.invariant.frames i from (omega arith);
}
