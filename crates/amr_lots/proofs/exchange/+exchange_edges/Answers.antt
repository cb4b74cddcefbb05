use Rattle.std.proofs.Common.{arith}
use Rattle.std.specs.Global.{Box as boxed}
use Rattle.amr_lots.specs.declared.lot.Lot.{Lot as lot}
use Rattle.amr_lots.proofs.HandedRuns.{handed_on, rest_counts, taken_back}
use Rattle.amr_lots.proofs.exchange.+exchange_edges.Goals as goal

pub exchange_edges-requires : goal.exchange_edges-requires
exchange_edges-requires t c = (
  omega (arith, c.decreases, c.in-Some.ensures.cases.1),
  rest_counts (λ (b : boxed lot). b.value.edges.items) c.args.size c.min-count.result c.args.edges.now c.split_at_mut-first.result.0.now c.split_at_mut-first.result.1.now c.min-count.ensures c.split_at_mut-first.ensures.front c.split_at_mut-first.ensures.back c.args.lots.now c.in-Some.rest.now c.in-Some.lot.now c.in-Some.ensures.cases.0 c.requires.counts,
)

pub returns-clause-handed : goal.returns-clause-handed
returns-clause-handed t c =
    handed_on (λ (b : boxed lot). b.value.edges.items) c.args.size c.min-count.result c.args.edges.now c.split_at_mut-first.result.0.now c.split_at_mut-first.result.1.now c.min-count.ensures c.split_at_mut-first.ensures.front c.split_at_mut-first.ensures.back c.args.lots.now c.in-Some.rest.now c.in-Some.lot.now c.in-Some.ensures.cases.0 c.requires.counts
    c.trade_edges.new.lot c.exchange_edges.new.lots c.trade_edges.ensures.handed c.exchange_edges.ensures.handed

pub returns-clause-back : goal.returns-clause-back
returns-clause-back t c =
    taken_back (λ (b : boxed lot). b.value.edges.items) c.args.size c.min-count.result c.args.edges.now c.split_at_mut-first.result.0.now c.split_at_mut-first.result.1.now c.min-count.ensures c.split_at_mut-first.ensures.front c.split_at_mut-first.ensures.back c.args.lots.now c.in-Some.rest.now c.in-Some.lot.now c.in-Some.ensures.cases.0 c.requires.counts
    c.trade_edges.new.edges c.exchange_edges.new.edges c.trade_edges.ensures.back c.exchange_edges.ensures.count c.exchange_edges.ensures.back
