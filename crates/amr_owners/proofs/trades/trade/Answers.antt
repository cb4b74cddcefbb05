use Rattle.std.proofs.Common.{◌<◌, ◌∙◌, length, get_or, arith}
use Rattle.std.proofs.lemmas.List.{get_or_default}
use Rattle.std.proofs.lemmas.List.Elements.{All-get_or}
use Rattle.amr_owners.proofs.Trading.{none_traded, one_traded, all_traded}
use Rattle.amr_owners.proofs.trades.trade.Goals as goal

pub loop-k-init : goal.loop-k-init
loop-k-init g c = none_traded c.args.numbers.now c.args.items.now c.args.list.now

pub loop-k-preserved : goal.loop-k-preserved
loop-k-preserved g c =
    let ns = c.args.numbers.now in
    let k = c.loop-k.k in
    let its = c.loop-k.items in
    let ps = c.loop-k.list in
    let below : k < length ns = c.loop-k-test.true in
    let there : k < length ps = omega (arith, below, c.loop-k.auto.list, c.requires.places) in
    let of_old : get_or ns k 0 < length c.args.items.now = All-get_or (λ n. n < length c.args.items.now) ns k 0 below c.requires.within in
    let inside : get_or ns k 0 < length its = omega (arith, of_old, c.loop-k.auto.items) in
    one_traded ns c.args.items.now c.args.list.now its ps k c.swap.new.x c.swap.new.y c.requires.rises below inside there
    (λ x. c.swap.ensures.x_after ∙ get_or_default ps k c.index-list-k.result x there)
    (λ x. c.swap.ensures.y_after ∙ get_or_default its (get_or ns k 0) c.index-items-numbers.result x inside) c.loop-k.invariant

pub returns : goal.returns
returns g c = all_traded c.args.numbers.now c.loop-k.k c.args.items.now c.args.list.now c.loop-k.items c.loop-k.list c.loop-k-test.false c.loop-k.auto.k-end c.loop-k.invariant
