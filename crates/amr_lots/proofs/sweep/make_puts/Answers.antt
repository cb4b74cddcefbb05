use Rattle.std.proofs.Common.{◌≡◌, true, length, take, sym, ap, subst, arith}
use Rattle.std.specs.Prelude.{unsigned_abs}
use Rattle.std.specs.List.{All}
use Rattle.amr_box.specs.declared.Face.{Face}
use Rattle.amr_patch.specs.declared.patches.Patch.{Patch}
use Rattle.amr_patch.specs.Places.{is_edge_face}
use Rattle.amr_patch.specs.Patches.{box, flux_in}
use Rattle.amr_phase.specs.Plans.{puts_of}
use Rattle.amr_board.specs.Posts.{HasPosted}
use Rattle.amr_board.specs.Views.{current}
use Rattle.amr_board.proofs.Posts.{posted_none}
use Rattle.amr_layout.specs.declared.PutAt.{PutAt}
use Rattle.amr_lots.specs.LotSteps.{PutsAreNext}
use Rattle.amr_lots.specs.Works.{puts_listed}
use Rattle.amr_lots.proofs.Posting.{holds_on, posted_on, same_task, so_many_puts}
use Rattle.amr_lots.proofs.Posts.{edges_here, held_fresh, next_here, puts_all, puts_more}
use Rattle.amr_lots.proofs.sweep.make_puts.Goals as goal

pub loop-k-init : goal.loop-k-init
loop-k-init c = (c.requires.seat, posted_none c.args.seat.now.me.0)

pub put_all-requires-clause-holding : goal.put_all-requires-clause-holding
put_all-requires-clause-holding c = holds_on c.args.seat.now.me.0 c.loop-k.seat.me.0 (length (puts_listed (take c.loop-k.k c.args.layouts.now))) 0 c.requires.fresh.held c.loop-k.invariant.1 (held_fresh c.args.seat.now.me.0 c.requires.fresh)

pub put_all-requires-clause-edges : goal.put_all-requires-clause-edges
put_all-requires-clause-edges c = subst (λ (q : Patch). All (λ (x : PutAt). is_edge_face (box q) x.face ≡ true) c.as_slice.result.now) (sym c.index-patches-k.is) (edges_here c.args.patches.now c.args.layouts.now (puts_of c.args.board.now.plan (current c.args.seat.now.me.0).task) c.requires.puts c.loop-k.k c.index-patches-k.result c.index-layouts-k.result c.loop-k-test.true c.as_slice.result.now c.as_slice.ensures.value)

pub put_all-requires-clause-next : goal.put_all-requires-clause-next
put_all-requires-clause-next c =
    let many = so_many_puts c.args.seat.now.me.0 c.loop-k.seat.me.0 (length (puts_listed (take c.loop-k.k c.args.layouts.now))) 0 c.requires.fresh.held c.loop-k.invariant.1 (held_fresh c.args.seat.now.me.0 c.requires.fresh) in
    let none = c.requires.fresh.no_puts in
    subst (λ (q : Patch). PutsAreNext (λ (f : Face). unsigned_abs (flux_in q f)) (puts_of c.args.board.now.plan (current c.loop-k.seat.me.0).task) (current c.loop-k.seat.me.0).puts c.as_slice.result.now) (sym c.index-patches-k.is) (next_here c.args.patches.now c.args.layouts.now (puts_of c.args.board.now.plan (current c.args.seat.now.me.0).task) c.requires.puts c.loop-k.k c.index-patches-k.result c.index-layouts-k.result c.loop-k-test.true c.as_slice.result.now c.as_slice.ensures.value _ (ap (puts_of c.args.board.now.plan) (same_task c.args.seat.now.me.0 c.loop-k.seat.me.0 (length (puts_listed (take c.loop-k.k c.args.layouts.now))) 0 c.requires.fresh.held c.loop-k.invariant.1 (held_fresh c.args.seat.now.me.0 c.requires.fresh))) _ (omega (arith, many, none)))

pub loop-k-preserved : goal.loop-k-preserved
loop-k-preserved c = (
  c.put_all.ensures.seat,
  subst (λ n. HasPosted c.args.seat.now.me.0 c.put_all.new.seat.me.0 n 0) (puts_more c.args.patches.now c.args.layouts.now (puts_of c.args.board.now.plan (current c.args.seat.now.me.0).task) c.requires.puts c.loop-k.k c.index-patches-k.result c.index-layouts-k.result c.loop-k-test.true c.as_slice.result.now c.as_slice.ensures.value)
      (posted_on c.args.seat.now.me.0 c.loop-k.seat.me.0 (length (puts_listed (take c.loop-k.k c.args.layouts.now))) 0 c.requires.fresh.held c.loop-k.invariant.1 c.put_all.new.seat.me.0 (length c.as_slice.result.now) 0 c.put_all.ensures.posted),
)

pub returns-clause-posted : goal.returns-clause-posted
returns-clause-posted c = subst (λ n. HasPosted c.args.seat.now.me.0 c.loop-k.seat.me.0 n 0) (puts_all c.args.patches.now c.args.layouts.now (puts_of c.args.board.now.plan (current c.args.seat.now.me.0).task) c.requires.puts c.loop-k.k (omega (arith, c.loop-k-test.false))) c.loop-k.invariant.1
