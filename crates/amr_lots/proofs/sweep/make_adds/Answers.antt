use Rattle.std.proofs.Common.{◌≡◌, ◌+◌, ◌∙◌, length, get_or, refl, sym, ap, subst, arith}
use Rattle.amr_phase.specs.Plans.{adds_of, no_post}
use Rattle.amr_board.specs.Posts.{HasPosted}
use Rattle.amr_board.specs.Views.{current}
use Rattle.amr_board.proofs.Posts.{posted_add, posted_none}
use Rattle.amr_lots.proofs.Posting.{next_add_on, own_adds}
use Rattle.amr_lots.proofs.sweep.make_adds.Goals as goal

pub loop-at-init : goal.loop-at-init
loop-at-init c = (c.requires.seat, posted_none c.args.seat.now.me.0)

pub add-requires-clause-next : goal.add-requires-clause-next
add-requires-clause-next c =
    let own = own_adds c.args.seat.now.me.0 c.args.board.now.plan (adds_of c.args.board.now.plan (current c.args.seat.now.me.0).task) c.requires.seat.plan refl in
    let adds = c.requires.adds in
    let first : (current c.args.seat.now.me.0).adds + c.loop-at.at ≡ c.loop-at.at = omega (arith, c.requires.none) in
    next_add_on c.args.seat.now.me.0 c.loop-at.seat.me.0 0 c.loop-at.at c.requires.holding.held c.loop-at.invariant.1 c.requires.holding _ _
    (omega (arith, ap length own, adds.count, c.requires.none, c.loop-at-test.true))
    (ap (λ posts. get_or posts ((current c.args.seat.now.me.0).adds + c.loop-at.at) no_post) own ∙ ap (λ n. get_or (adds_of c.args.board.now.plan (current c.args.seat.now.me.0).task) n no_post) first ∙ adds.are c.loop-at.at c.loop-at-test.true)

pub loop-at-preserved : goal.loop-at-preserved
loop-at-preserved c = (c.add.ensures.seat, subst (λ u. HasPosted c.args.seat.now.me.0 u 0 (c.loop-at.at + 1)) (sym c.add.ensures.view) (posted_add _ _ _ _ c.requires.holding.held c.loop-at.invariant.1))
