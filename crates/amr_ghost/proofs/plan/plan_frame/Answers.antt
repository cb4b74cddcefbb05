use Rattle.amr_ghost.specs.declared.sides.Side.TheVariants.{East, North, South, West}
use Rattle.amr_ghost.specs.Plans.{HaveFrame, KeepSpans}
use Rattle.std.proofs.lemmas.Result.{on_ok_weaker}
use Rattle.amr_causes.proofs.Results.{on_ok_both}
use Rattle.amr_ghost.proofs.PlannedSpans.{HaveSide, keep_trans, still_have, whole_spans}
use Rattle.amr_ghost.proofs.plan.plan_frame.Goals as goal

pub returns-clause-kept : goal.returns-clause-kept
returns-clause-kept c =
    let s0 = c.args.spans.now.items in
    let s1 = c.plan_side.new.spans.items in
    let s2 = c.plan_side-2.new.spans.items in
    let s3 = c.plan_side-3.new.spans.items in
    let s4 = c.plan_side-4.new.spans.items in
    let two = keep_trans s0 s1 s2 c.in_ok-plan_side.ensures.kept c.in_ok-plan_side-2.ensures.kept in
    let three = keep_trans s0 s2 s3 two c.in_ok-plan_side-3.ensures.kept in
    on_ok_weaker {P = KeepSpans s3 s4} {Q = KeepSpans s0 s4} c.plan_side-4.result (λ h. keep_trans s0 s3 s4 three h) c.plan_side-4.ensures.kept

pub returns-clause-made : goal.returns-clause-made
returns-clause-made c =
    let ps = c.args.patches.now in
    let i = c.args.target.patch in
    let s1 = c.plan_side.new.spans.items in
    let s2 = c.plan_side-2.new.spans.items in
    let s3 = c.plan_side-3.new.spans.items in
    let s4 = c.plan_side-4.new.spans.items in
    let west2 = still_have ps s1 s2 i West c.in_ok-plan_side-2.ensures.kept c.in_ok-plan_side.ensures.made in
    let west3 = still_have ps s2 s3 i West c.in_ok-plan_side-3.ensures.kept west2 in
    let east3 = still_have ps s2 s3 i East c.in_ok-plan_side-3.ensures.kept c.in_ok-plan_side-2.ensures.made in
    on_ok_both {P = KeepSpans s3 s4} {Q = HaveSide ps s4 i North} {R = HaveFrame ps s4 i} c.plan_side-4.result
    (λ kept north. whole_spans ps s4 i (still_have ps s3 s4 i West kept west3) (still_have ps s3 s4 i East kept east3) (still_have ps s3 s4 i South kept c.in_ok-plan_side-3.ensures.made) north)
    c.plan_side-4.ensures.kept c.plan_side-4.ensures.made
