use Rattle.std.proofs.Common.{◌≡◌, ◌∙◌, arith, pos, sym}
use Rattle.std.specs.Prelude.{slice_index_or}
use Rattle.std.proofs.lemmas.Int.{ints}
use Rattle.std.proofs.lemmas.List.{get_or-set_other, get_or-set_same}
use Rattle.amr_register.specs.declared.edges.EdgeCell.{EdgeCell}
use Rattle.amr_register.specs.EdgeCells.{number_of}
use Rattle.amr_register.specs.Written.{by_number, without_net}
use Rattle.amr_register.proofs.OwnedFlows.{above, below}
use Rattle.amr_register.proofs.Taken.{no_edge}
use Rattle.amr_register.proofs.Writes.{none_written, not_yet, one_written}
use Rattle.amr_register.proofs.edge_lists.take_list.Goals as goal

pub loop-k-init : goal.loop-k-init
loop-k-init c = none_written number_of without_net _ _

pub overflow_sub-entries : goal.overflow_sub-entries
overflow_sub-entries c =
    let k = c.loop-k.k in
    let e : EdgeCell = slice_index_or c.args.list.now k no_edge in
    let was : by_number c.loop-k.entries e.number ≡ by_number c.args.entries.now e.number = not_yet number_of without_net c.args.list.now _ _ k no_edge c.requires.once c.loop-k.invariant c.loop-k-test.true in
    let room = c.requires.room k no_edge c.loop-k-test.true in
    let small = c.requires.small k no_edge c.loop-k-test.true in
    let low = above (by_number c.args.entries.now e.number) _ room in
    let high = below (by_number c.args.entries.now e.number) _ room in
    let net_low = above e.net _ small in
    let net_high = below e.net _ small in
    omega (arith, ints, was, low, high, net_low, net_high)

pub loop-k-preserved : goal.loop-k-preserved
loop-k-preserved c =
    let k = c.loop-k.k in
    let es = c.loop-k.entries in
    let e : EdgeCell = slice_index_or c.args.list.now k no_edge in
    let was : by_number es e.number ≡ by_number c.args.entries.now e.number = not_yet number_of without_net c.args.list.now _ _ k no_edge c.requires.once c.loop-k.invariant c.loop-k-test.true in
    let inside = c.requires.numbers k no_edge c.loop-k-test.true in
    let room = c.requires.room k no_edge c.loop-k-test.true in
    let small = c.requires.small k no_edge c.loop-k-test.true in
    let low = above (by_number c.args.entries.now e.number) _ room in
    let high = below (by_number c.args.entries.now e.number) _ room in
    let net_low = above e.net _ small in
    let net_high = below e.net _ small in
    one_written number_of without_net c.args.list.now _ _ _ k no_edge c.requires.once c.loop-k.invariant c.loop-k-test.true
    (get_or-set_same es e.number _ (pos 0) (omega (arith, inside, c.loop-k.auto.entries)) ∙ omega (arith, ints, was, low, high, net_low, net_high)) (λ j ne. get_or-set_other es e.number j _ (pos 0) (λ s. ne (sym s)))
