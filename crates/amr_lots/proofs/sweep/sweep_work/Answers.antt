use Rattle.std.proofs.Common.{length, ap, subst}
use Rattle.amr_phase.specs.Plans.{puts_of}
use Rattle.amr_board.specs.Posts.{HasPosted}
use Rattle.amr_board.specs.Views.{current}
use Rattle.amr_lots.specs.Works.{adds_of_work}
use Rattle.amr_lots.proofs.SweptWork.{can_sweep, inner_for, posts_for, swept_stands}
use Rattle.amr_lots.proofs.sweep.sweep_work.Goals as goal

pub sweep_lot-requires : goal.sweep_lot-requires
sweep_lot-requires c = can_sweep c.args.p.now c.args.board.now.plan c.args.work.now c.requires.step c.requires.ready c.deref_mut.result.now c.deref_mut.ensures.value

pub make_posts-requires-clause-posts : goal.make_posts-requires-clause-posts
make_posts-requires-clause-posts c =
    posts_for c.args.p.now c.args.board.now.plan c.args.work.now c.requires.step c.requires.ready c.deref_mut.result.now c.deref_mut.ensures.value c.sweep_lot.new.lot c.sweep_lot.ensures
    c.deref.result.now c.deref.ensures _ _ c.requires.posts.0 c.requires.posts.1

pub update_inner-requires : goal.update_inner-requires
update_inner-requires c =
    inner_for c.args.p.now c.args.board.now.plan c.args.work.now c.requires.step c.requires.ready c.deref_mut.result.now c.deref_mut.ensures.value c.sweep_lot.new.lot c.sweep_lot.ensures
    c.deref_mut-2.result.now c.deref_mut-2.ensures.value

pub returns-clause-posted : goal.returns-clause-posted
returns-clause-posted c =
    let v = c.args.seat.now.me.0 in
    let u = c.make_posts.new.seat.me.0 in
    subst (λ n. HasPosted v u n (length (adds_of_work c.args.work.now))) (ap length c.requires.posts.0)
    (subst (λ n. HasPosted v u (length (puts_of c.args.board.now.plan (current v).task)) n) (ap length c.requires.posts.1) c.make_posts.ensures.posted)

pub returns-clause-stands : goal.returns-clause-stands
returns-clause-stands c =
    swept_stands c.args.p.now c.args.board.now.plan c.args.work.now c.requires.step c.requires.ready c.deref_mut.result.now c.deref_mut.ensures.value c.sweep_lot.new.lot c.sweep_lot.ensures
    c.deref_mut-2.result.now c.deref_mut-2.ensures.value c.update_inner.new.lot c.update_inner.ensures
