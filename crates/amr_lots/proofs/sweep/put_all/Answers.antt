use Rattle.std.proofs.Common.{◌≡◌, ◌+◌, length, get_or, refl, sym, ap, ◌∙◌, subst, to_z, of_z, w64, arith}
use Rattle.std.specs.Prelude.{unsigned_abs}
use Rattle.std.proofs.lemmas.Int.{ints}
use Rattle.amr_phase.specs.Plans.{no_post, puts_of}
use Rattle.amr_board.specs.Posts.{HasPosted}
use Rattle.amr_board.specs.Views.{current}
use Rattle.amr_board.proofs.Posts.{posted_none, posted_put}
use Rattle.amr_lots.proofs.Posting.{next_put_on, own_puts}
use Rattle.amr_lots.proofs.Posts.{no_put}
use Rattle.amr_lots.proofs.sweep.put_all.Goals as goal

pub loop-put-init : goal.loop-put-init
loop-put-init c = (c.requires.seat, posted_none c.args.seat.now.me.0)

pub flux-requires : goal.flux-requires
flux-requires c = c.requires.edges c.loop-put.put-index no_put c.loop-put-test.true

pub put-requires-clause-next : goal.put-requires-clause-next
put-requires-clause-next c =
    let v = c.args.seat.now.me.0 in
    let z : to_z w64 (of_z w64 c.flux.result) ≡ c.flux.result = omega (arith, ints) in
    let size = c.unsigned_abs.ensures.value ∙ ap unsigned_abs z ∙ ap unsigned_abs c.flux.ensures in
    let own = own_puts v c.args.board.now.plan (puts_of c.args.board.now.plan (current v).task) c.requires.seat.plan refl in
    next_put_on v c.loop-put.seat.me.0 c.loop-put.put-index 0 c.requires.holding.held c.loop-put.invariant.1 c.requires.holding _ _
    (omega (arith, ap length own, c.requires.next.within, c.loop-put-test.true))
    (ap (λ posts. get_or posts ((current v).puts + c.loop-put.put-index) no_post) own
    ∙ c.requires.next.at c.loop-put.put-index no_put c.loop-put-test.true
    ∙ ap (λ n. record { at = (get_or c.args.puts.now c.loop-put.put-index no_put).place; amount = n }) (sym size))

pub loop-put-preserved : goal.loop-put-preserved
loop-put-preserved c = (c.put.ensures.seat, subst (λ u. HasPosted c.args.seat.now.me.0 u (c.loop-put.put-index + 1) 0) (sym c.put.ensures.view) (posted_put _ _ _ _ c.requires.holding.held c.loop-put.invariant.1 _))
