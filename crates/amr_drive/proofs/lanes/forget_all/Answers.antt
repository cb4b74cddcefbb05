use Rattle.std.proofs.Common.{ℕ, subst, arith}
use Rattle.std.specs.Prelude.{slice_index_or}
use Rattle.amr_drive.specs.declared.lanes.Lane.{Lane}
use Rattle.amr_drive.specs.Lanes.{HasForgotten}
use Rattle.amr_drive.proofs.Written.{none_written, one_written, still_there}
use Rattle.amr_drive.proofs.lanes.forget_all.Goals as goal

pub loop-k-init : goal.loop-k-init
loop-k-init c = none_written (λ j e lane. HasForgotten (slice_index_or c.args.lanes.now j e) lane) c.args.lanes.now

pub loop-k-preserved : goal.loop-k-preserved
loop-k-preserved c =
    let olds = c.args.lanes.now in
    let lanes = c.loop-k.lanes in
    let k = c.loop-k.k in
    let wanted = λ (j : ℕ) (e lane : Lane). HasForgotten (slice_index_or olds j e) lane in
    one_written wanted olds lanes k c.forget.new.lane (omega arith)
    (λ d. subst (λ (x : Lane). HasForgotten x c.forget.new.lane) (still_there wanted olds lanes k c.index-lanes-k.result (omega arith) c.loop-k.invariant d) c.forget.ensures)
    c.loop-k.invariant

pub returns : goal.returns
returns c = λ k e lt. c.loop-k.invariant.done k e (omega (arith, lt))
