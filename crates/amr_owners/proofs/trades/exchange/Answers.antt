use Rattle.std.proofs.Common.{ℕ, ◌+◌, ◌<◌, ◌∙◌, List, [], length, get_or, sym, ap, subst, arith}
use Rattle.std.specs.List.{All}
use Rattle.std.specs.Vec.{with_items}
use Rattle.amr_balance.specs.Shares.{lists_in}
use Rattle.amr_owners.specs.Owners.{AreOwners, HaveTraded, Rises}
use Rattle.amr_owners.proofs.Order.{in_order}
use Rattle.amr_owners.proofs.Exchanging.{HaveExchangedTo, as_long, list_at, list_count, list_is, list_set, one_exchanged, put_back}
use Rattle.amr_owners.proofs.Members.{within_all}
use Rattle.amr_owners.proofs.trades.exchange.Goals as goal

pub trade-requires-clause-rises : goal.trade-requires-clause-rises
trade-requires-clause-rises g c =
    let ns = c.args.numbers.now in
    let r = c.loop-rank.rank in
    let below : r < length ns = c.loop-rank-test.true in
    let there : r < length c.args.lists.now = omega (arith, below, c.requires.owners.lists, list_count ns) in
    subst Rises (list_is ns r c.index-numbers-rank.result c.index-numbers-rank.is below ∙ sym c.deref.ensures.value)
    (in_order (lists_in ns) (length c.args.lists.now) (length c.args.items.now) c.requires.owners r there)

pub trade-requires-clause-within : goal.trade-requires-clause-within
trade-requires-clause-within g c =
    let ns = c.args.numbers.now in
    let r = c.loop-rank.rank in
    let below : r < length ns = c.loop-rank-test.true in
    let there : r < length c.args.lists.now = omega (arith, below, c.requires.owners.lists, list_count ns) in
    subst (All (λ n. n < length c.loop-rank.items)) (list_is ns r c.index-numbers-rank.result c.index-numbers-rank.is below ∙ sym c.deref.ensures.value)
    (subst (λ (m : ℕ). All (λ n. n < m) (get_or (lists_in ns) r [])) (sym c.loop-rank.invariant.item_count)
    (within_all (lists_in ns) (length c.args.lists.now) (length c.args.items.now) c.requires.owners r there))

pub trade-requires-clause-places : goal.trade-requires-clause-places
trade-requires-clause-places g c =
    let ns = c.args.numbers.now in
    let vs = c.loop-rank.lists in
    let r = c.loop-rank.rank in
    let below : r < length ns = c.loop-rank-test.true in
    let there : r < length c.args.lists.now = omega (arith, below, c.requires.owners.lists, list_count ns) in
    let inside : r < length vs = omega (arith, there, c.loop-rank.auto.lists) in
    ap length (c.deref_mut.ensures.value ∙ sym (list_at vs r c.index-lists-rank.result inside))
    ∙ as_long (lists_in vs) (lists_in c.args.lists.now) r c.loop-rank.invariant.list_counts (omega (arith, inside, list_count vs))
    ∙ as_long (lists_in c.args.lists.now) (lists_in ns) r c.requires.places (omega (arith, there, list_count c.args.lists.now))
    ∙ ap length (list_is ns r c.index-numbers-rank.result c.index-numbers-rank.is below ∙ sym c.deref.ensures.value)

pub loop-rank-preserved : goal.loop-rank-preserved
loop-rank-preserved g c =
    let ns = c.args.numbers.now in
    let olds = c.args.lists.now in
    let vs = c.loop-rank.lists in
    let r = c.loop-rank.rank in
    let its = c.loop-rank.items in
    let new_its = c.trade.new.items in
    let v = get_or vs r c.index-lists-rank.result in
    let part = c.trade.new.list in
    let below : r < length ns = c.loop-rank-test.true in
    let there : r < length olds = omega (arith, below, c.requires.owners.lists, list_count ns) in
    let inside : r < length vs = omega (arith, there, c.loop-rank.auto.lists) in
    let traded : HaveTraded (get_or (lists_in ns) r []) its (get_or (lists_in vs) r []) new_its part =
    subst (λ (l : List ℕ). HaveTraded l its (get_or (lists_in vs) r []) new_its part)
    (c.deref.ensures.value ∙ sym (list_is ns r c.index-numbers-rank.result c.index-numbers-rank.is below))
    (subst (λ l. HaveTraded c.deref.result.now its l new_its part)
    (c.deref_mut.ensures.value ∙ sym (list_at vs r c.index-lists-rank.result inside)) c.trade.ensures) in
    subst (λ ls. HaveExchangedTo (lists_in ns) (r + 1) c.args.items.now (lists_in olds) new_its ls)
    (sym (list_set vs r (with_items v part) part (put_back v c.deref_mut.result.now part c.deref_mut.ensures.value c.trade.ensures.part_count)))
    (one_exchanged (lists_in ns) c.args.items.now its new_its (lists_in olds) (lists_in vs) part r
    (subst (λ (n : ℕ). AreOwners (lists_in ns) n (length c.args.items.now)) (sym (list_count olds)) c.requires.owners)
    c.requires.places (omega (arith, there, list_count olds)) traded c.loop-rank.invariant)
