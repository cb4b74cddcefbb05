use Rattle.std.proofs.Common.{◌≡◌, ℕ, ◌<◌, true, false, sym, subst, arith}
use Rattle.amr_store.proofs.Chains.{IsChain, chain_counts, linked}
use Rattle.amr_store.specs.Table.{latest_base}
use Rattle.amr_store.proofs.slot.chain_of.Goals as goal

pub returns-then-not-stands_on-clause-chain : goal.returns-then-not-stands_on-clause-chain
returns-then-not-stands_on-clause-chain c =
    let slots = c.args.slots.now in
    let base = latest_base c.args.deltas slots in
    let count = c.loop-count.count in
    let chain : IsChain slots c.args.deltas base count = record {
      within = omega (arith, c.loop-count.auto.count-end);
      links = c.loop-count.invariant;
      stops = λ lt. subst (λ (k : ℕ). linked slots k count ≡ false) c.latest_base-base.ensures.base (sym c.if-not-stands_on.ensures);
    } in
    sym (chain_counts slots c.args.deltas base count chain)

pub returns-clause-chain : goal.returns-clause-chain
returns-clause-chain c =
    let slots = c.args.slots.now in
    let all : c.loop-count.count ≡ c.args.deltas = omega (arith, c.loop-count.auto.count-end, c.loop-count-test.false) in
    let base = latest_base c.args.deltas slots in
    let chain : IsChain slots c.args.deltas base c.args.deltas = record {
      within = omega arith;
      links = subst (λ (m : ℕ). (j : ℕ) → j < m → linked slots base j ≡ true) all c.loop-count.invariant;
      stops = λ lt. absurd (omega arith);
    } in
    sym (chain_counts slots c.args.deltas base c.args.deltas chain)
