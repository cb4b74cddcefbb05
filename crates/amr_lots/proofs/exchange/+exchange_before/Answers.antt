use Rattle.std.proofs.Common.{arith}
use Rattle.std.specs.Global.{Box as boxed}
use Rattle.amr_lots.specs.declared.lot.Lot.{Lot as lot}
use Rattle.amr_lots.proofs.HandedRuns.{handed_on, rest_counts, taken_back}
use Rattle.amr_lots.proofs.exchange.+exchange_before.Goals as goal

pub exchange_before-requires : goal.exchange_before-requires
exchange_before-requires t c = (
  omega (arith, c.decreases, c.in-Some.ensures.cases.1),
  rest_counts (λ (b : boxed lot). b.value.before.items) c.args.size c.min-count.result c.args.patches.now c.split_at_mut-first.result.0.now c.split_at_mut-first.result.1.now c.min-count.ensures c.split_at_mut-first.ensures.front c.split_at_mut-first.ensures.back c.args.lots.now c.in-Some.rest.now c.in-Some.lot.now c.in-Some.ensures.cases.0 c.requires.counts,
)

pub returns-clause-handed : goal.returns-clause-handed
returns-clause-handed t c =
    handed_on (λ (b : boxed lot). b.value.before.items) c.args.size c.min-count.result c.args.patches.now c.split_at_mut-first.result.0.now c.split_at_mut-first.result.1.now c.min-count.ensures c.split_at_mut-first.ensures.front c.split_at_mut-first.ensures.back c.args.lots.now c.in-Some.rest.now c.in-Some.lot.now c.in-Some.ensures.cases.0 c.requires.counts
    c.trade_before.new.lot c.exchange_before.new.lots c.trade_before.ensures.handed c.exchange_before.ensures.handed

pub returns-clause-back : goal.returns-clause-back
returns-clause-back t c =
    taken_back (λ (b : boxed lot). b.value.before.items) c.args.size c.min-count.result c.args.patches.now c.split_at_mut-first.result.0.now c.split_at_mut-first.result.1.now c.min-count.ensures c.split_at_mut-first.ensures.front c.split_at_mut-first.ensures.back c.args.lots.now c.in-Some.rest.now c.in-Some.lot.now c.in-Some.ensures.cases.0 c.requires.counts
    c.trade_before.new.patches c.exchange_before.new.patches c.trade_before.ensures.back c.exchange_before.ensures.count c.exchange_before.ensures.back
