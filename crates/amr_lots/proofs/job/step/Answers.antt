use Rattle.std.proofs.Common.{length, refl, sym, ap, subst}
use Rattle.amr_phase.specs.Plans.{PlanOf, planned_face}
use Rattle.amr_board.specs.Views.{HasWorked}
use Rattle.amr_board.proofs.Posts.{has_worked}
use Rattle.amr_lots.specs.Works.{adds_of_work, puts_of_work}
use Rattle.amr_lots.proofs.Completing.{may_finish}
use Rattle.amr_lots.proofs.Posting.{own_adds, own_puts}
use Rattle.amr_lots.proofs.job.step.Goals as goal

pub finish_in_time-requires-clause-ready : goal.finish_in_time-requires-clause-ready
finish_in_time-requires-clause-ready c = may_finish c.args.p.now c.args.board.now.plan c.args.work c.sweep_work.new.work c.requires.ready c.sweep_work.ensures.stands (planned_face c.args.board.now.plan) (λ place lt. refl) c.sweep_work.ensures.swept

pub returns-clause-worked : goal.returns-clause-worked
returns-clause-worked c =
    let v = c.args.seat.now.me.0 in
    let plan = c.args.board.now.plan in
    let looked = c.finish_in_time.ensures.looked in
    subst (λ (q : PlanOf). HasWorked q v c.finish_in_time.new.seat.me.0) c.requires.seat.plan
    (has_worked v c.sweep_work.new.seat.me.0 (length (puts_of_work c.args.work)) (length (adds_of_work c.args.work)) c.requires.fresh c.sweep_work.ensures.posted c.finish_in_time.new.seat.me.0 looked.looks looked.looked
    (sym (ap length (own_puts v plan (puts_of_work c.args.work) c.requires.seat.plan c.requires.posts.0)))
    (sym (ap length (own_adds v plan (adds_of_work c.args.work) c.requires.seat.plan c.requires.posts.1))))

pub returns-clause-stands : goal.returns-clause-stands
returns-clause-stands c = c.finish_in_time.ensures.stands c.args.work c.sweep_work.ensures.stands
