use Rattle.std.proofs.Common.{◌∙◌, ◌<◌, ◌^◌, ℤ, [], List, arith, length, refl, subst, sym}
use Rattle.std.specs.Prelude.{slice_index_or, unsigned_abs}
use Rattle.std.specs.List.{All}
use Rattle.amr_register.specs.declared.edges.EdgeCell.{EdgeCell}
use Rattle.amr_register.specs.EdgeCells.{IsSmallNet, lists_of, number_of}
use Rattle.amr_register.specs.Written.{AreKeysApart, AreWritten, by_number, without_net}
use Rattle.amr_register.proofs.NetLists.{list_of, lists_number}
use Rattle.amr_register.proofs.Writes.{keys_apart, none_all_written, not_yet_in, one_list}
use Rattle.amr_register.proofs.edge_lists.take_nets.Goals as goal

pub loop-k-init : goal.loop-k-init
loop-k-init c = none_all_written number_of without_net _ _

pub take_list-requires-clause-numbers : goal.take_list-requires-clause-numbers
take_list-requires-clause-numbers c =
    let k = c.loop-k.k in
    let vs = c.args.lists.now in
    let list = c.deref.ensures.value ∙ list_of vs k c.index-lists-k.result c.loop-k-test.true c.index-lists-k.is in
    subst (All (λ (e : EdgeCell). e.number < length c.loop-k.entries)) (sym list) (λ i e below. let n = c.requires.numbers k [] (lists_number vs k c.loop-k-test.true) i e below in omega (arith, n, c.loop-k.auto.entries))

pub take_list-requires-clause-once : goal.take_list-requires-clause-once
take_list-requires-clause-once c =
    let k = c.loop-k.k in
    let vs = c.args.lists.now in
    let list = c.deref.ensures.value ∙ list_of vs k c.index-lists-k.result c.loop-k-test.true c.index-lists-k.is in
    subst (AreKeysApart number_of) (sym list) (keys_apart number_of (lists_of vs) k c.requires.once (lists_number vs k c.loop-k-test.true))

pub take_list-requires-clause-small : goal.take_list-requires-clause-small
take_list-requires-clause-small c =
    let k = c.loop-k.k in
    let vs = c.args.lists.now in
    let list = c.deref.ensures.value ∙ list_of vs k c.index-lists-k.result c.loop-k-test.true c.index-lists-k.is in
    subst (All IsSmallNet) (sym list) (c.requires.small k [] (lists_number vs k c.loop-k-test.true))

pub take_list-requires-clause-room : goal.take_list-requires-clause-room
take_list-requires-clause-room c =
    let k = c.loop-k.k in
    let vs = c.args.lists.now in
    let lt = lists_number vs k c.loop-k-test.true in
    let list = c.deref.ensures.value ∙ list_of vs k c.index-lists-k.result c.loop-k-test.true c.index-lists-k.is in
    subst (All (λ (e : EdgeCell). unsigned_abs (by_number c.loop-k.entries e.number) < 2 ^ 62)) (sym list) (λ i e below.
    subst (λ (z : ℤ). unsigned_abs z < 2 ^ 62)
    (sym (not_yet_in number_of without_net (lists_of vs) (by_number c.args.entries.now) (by_number c.loop-k.entries) k c.requires.once c.loop-k.invariant (record { list = k; at = i }) e (record { list = lt; at = below }) refl))
    (c.requires.room (slice_index_or (slice_index_or (lists_of vs) k []) i e).number (c.requires.numbers k [] lt i e below)))

pub loop-k-preserved : goal.loop-k-preserved
loop-k-preserved c =
    let k = c.loop-k.k in
    let vs = c.args.lists.now in
    let list = c.deref.ensures.value ∙ list_of vs k c.index-lists-k.result c.loop-k-test.true c.index-lists-k.is in
    one_list number_of without_net (lists_of vs) (by_number c.args.entries.now) (by_number c.loop-k.entries) k c.requires.once c.loop-k.invariant (by_number c.take_list.new.entries) (lists_number vs k c.loop-k-test.true)
    (subst (λ (es : List EdgeCell). AreWritten number_of without_net es (by_number c.loop-k.entries) (by_number c.take_list.new.entries) (length es)) list c.take_list.ensures)
