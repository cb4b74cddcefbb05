use Rattle.std.proofs.Common.{◌≡◌, ℕ, ◌<◌, ◌*◌, ◌+◌, List, length, get_or, subst, sym, ap, ◌∙◌, rules, arith}
use Rattle.std.proofs.lemmas.List.{with_items_is}
use Rattle.std.specs.Prelude.{replicate}
use Rattle.amr_def.specs.declared.problem.Block.{Block}
use Rattle.amr_start.specs.Rows.{IsBlockIn, FillsBlock}
use Rattle.amr_start.proofs.Filling.{HasMore, none_yet, block_at, more_blocks}
use Rattle.amr_start.proofs.blocks.start_masses.Goals as goal

no_block : Block
no_block = record { x0 = 0; y0 = 0; x1 = 0; y1 = 0; mass = 0; species = 0 }

pub loop-b-init : goal.loop-b-init
loop-b-init c =
    let p = c.args.p.now in
    let zeros : c.in_ok-masses.masses.items ≡ replicate (p.ny * p.nx) 0 = search rules in
    none_yet p.nx p.ny p.blocks c.in_ok-masses.masses.items zeros

pub fill_block-requires-clause-block : goal.fill_block-requires-clause-block
unfolding no_block
fill_block-requires-clause-block c =
    let p = c.args.p.now in
    let here = block_at p.nx p.ny p.blocks c.loop-b.b-index no_block (subst (λ (bs : List Block). c.loop-b.b-index < length bs) c.entries-b-items.ensures c.loop-b-test.true) p.limits.blocks_inside in
    subst (λ (bs : List Block). IsBlockIn p.nx p.ny (get_or bs c.loop-b.b-index no_block)) (sym c.entries-b-items.ensures) here

pub loop-b-preserved : goal.loop-b-preserved
unfolding no_block
loop-b-preserved c =
    let p = c.args.p.now in
    let i = c.loop-b.b-index in
    let inside = subst (λ (bs : List Block). i < length bs) c.entries-b-items.ensures c.loop-b-test.true in
    let block = block_at p.nx p.ny p.blocks i no_block inside p.limits.blocks_inside in
    let filled = subst (λ (bs : List Block). FillsBlock p.nx p.ny (get_or bs i no_block) c.deref_mut.result.now c.fill_block.new.masses) c.entries-b-items.ensures c.fill_block.ensures in
    let from = subst (λ (ms : List ℕ). FillsBlock p.nx p.ny (get_or p.blocks i no_block) ms c.fill_block.new.masses) c.deref_mut.ensures.value filled in
    let count : length c.fill_block.new.masses ≡ p.ny * p.nx = c.fill_block.auto.masses ∙ ap length c.deref_mut.ensures.value ∙ c.loop-b.invariant.count in
    let items = with_items_is c.loop-b.masses c.fill_block.new.masses (c.fill_block.auto.masses ∙ c.deref_mut.ensures.len) in
    subst (λ (ms : List ℕ). HasMore p.nx p.ny p.blocks (i + 1) ms) (sym items)
    (more_blocks p.nx p.ny p.blocks i no_block c.loop-b.masses.items c.fill_block.new.masses (omega (arith, p.limits.least_nx)) inside count block.mass from c.loop-b.invariant)
