use Rattle.std.proofs.Common.{◌≡◌, ◌+◌, List, length, sym, ap, subst, arith}
use Rattle.amr_patch.specs.declared.patches.Patch.{Patch}
use Rattle.amr_phase.specs.Plans.{adds_of, puts_of}
use Rattle.amr_board.specs.Posts.{HasPosted}
use Rattle.amr_board.specs.Views.{current}
use Rattle.amr_layout.specs.declared.PatchLayout.{PatchLayout}
use Rattle.amr_lots.specs.LotSteps.{AreAdds, ArePuts}
use Rattle.amr_lots.specs.Works.{puts_listed}
use Rattle.amr_lots.proofs.Posting.{holds_on, posted_on, same_task, so_many_adds}
use Rattle.amr_lots.proofs.Posts.{held_fresh, puts_count}
use Rattle.amr_lots.proofs.sweep.make_posts.Goals as goal

pub make_puts-requires-clause-puts : goal.make_puts-requires-clause-puts
make_puts-requires-clause-puts c =
    let puts = puts_of c.args.board.now.plan (current c.args.seat.now.me.0).task in
    subst (λ (qs : List Patch). ArePuts qs c.as_slice-2.result.now puts) (sym c.as_slice.ensures.value)
    (subst (λ (ts : List PatchLayout). ArePuts c.args.lot.now.patches.items ts puts) (sym c.as_slice-2.ensures.value) c.requires.posts.has_puts)

pub make_adds-requires-clause-holding : goal.make_adds-requires-clause-holding
make_adds-requires-clause-holding c = holds_on c.args.seat.now.me.0 c.make_puts.new.seat.me.0 (length (puts_listed c.as_slice-2.result.now)) 0 c.requires.fresh.held c.make_puts.ensures.posted (held_fresh c.args.seat.now.me.0 c.requires.fresh)

pub make_adds-requires-clause-none : goal.make_adds-requires-clause-none
make_adds-requires-clause-none c =
    let many = so_many_adds c.args.seat.now.me.0 c.make_puts.new.seat.me.0 (length (puts_listed c.as_slice-2.result.now)) 0 c.requires.fresh.held c.make_puts.ensures.posted (held_fresh c.args.seat.now.me.0 c.requires.fresh) in
    omega (arith, many, c.requires.fresh.no_adds)

pub make_adds-requires-clause-adds : goal.make_adds-requires-clause-adds
make_adds-requires-clause-adds c =
    let plan = c.args.board.now.plan in
    subst (λ ws. AreAdds ws c.as_slice-4.result.now (adds_of plan (current c.make_puts.new.seat.me.0).task)) (sym c.as_slice-3.ensures.value)
    (subst (λ ns. AreAdds c.args.lot.now.workspace.words.items ns (adds_of plan (current c.make_puts.new.seat.me.0).task)) (sym c.as_slice-4.ensures.value)
    (subst (AreAdds c.args.lot.now.workspace.words.items c.args.lot.now.workspace.totals.items) (sym (ap (adds_of plan) (same_task c.args.seat.now.me.0 c.make_puts.new.seat.me.0 (length (puts_listed c.as_slice-2.result.now)) 0 c.requires.fresh.held c.make_puts.ensures.posted (held_fresh c.args.seat.now.me.0 c.requires.fresh)))) c.requires.posts.has_adds))

pub returns-clause-posted : goal.returns-clause-posted
returns-clause-posted c =
    let u = c.make_adds.new.seat.me.0 in
    let posts = c.requires.posts in
    let puts : length (puts_listed c.as_slice-2.result.now) + 0 ≡ length (puts_of c.args.board.now.plan (current c.args.seat.now.me.0).task) =
    omega (arith, puts_count c.args.lot.now.patches.items c.args.lot.now.workspace.layouts.items (puts_of c.args.board.now.plan (current c.args.seat.now.me.0).task) posts.has_puts, ap (λ (ts : List PatchLayout). length (puts_listed ts)) c.as_slice-2.ensures.value) in
    let adds : 0 + length c.as_slice-3.result.now ≡ length (adds_of c.args.board.now.plan (current c.args.seat.now.me.0).task) = omega (arith, posts.has_adds.count, ap length c.as_slice-3.ensures.value) in
    subst (λ n. HasPosted c.args.seat.now.me.0 u n (length (adds_of c.args.board.now.plan (current c.args.seat.now.me.0).task))) puts
    (subst (λ n. HasPosted c.args.seat.now.me.0 u (length (puts_listed c.as_slice-2.result.now) + 0) n) adds (posted_on c.args.seat.now.me.0 c.make_puts.new.seat.me.0 (length (puts_listed c.as_slice-2.result.now)) 0 c.requires.fresh.held c.make_puts.ensures.posted u 0 (length c.as_slice-3.result.now) c.make_adds.ensures.posted))
