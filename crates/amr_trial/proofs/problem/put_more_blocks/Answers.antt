use Rattle.std.proofs.Common.{◌≡◌, ◌++◌, ap, ◌∙◌, arith}
use Rattle.amr_trial.specs.Trial.{block_from, block_text}
use Rattle.amr_trial.specs.Parts.{more_blocks}
use Rattle.amr_trial.proofs.TextParts.{one_more_block, one_more_entry}
use Rattle.amr_trial.proofs.problem.put_more_blocks.Goals as goal

pub loop-k-preserved : goal.loop-k-preserved
loop-k-preserved c =
    let l = c.loop-k in
    let start = c.args.generator.now in
    let size = c.args.size in
    record {
      drawn = one_more_block l._k start l.generator c.draw_block-block.new.generator l.invariant.drawn c.draw_block-block.ensures.state;
      put = one_more_entry size l._k start c.args.out.now.items l.out.items c.put.new.out.items c.put_block.new.out.items (block_text c.draw_block-block.result) l.invariant.put c.in_ok-put.ensures c.in_ok-put_block.ensures
          (ap block_text (c.draw_block-block.ensures.block ∙ ap (block_from size) l.invariant.drawn));
    }

pub returns : goal.returns
returns c =
    let l = c.loop-k in
    let all : l._k ≡ 7 = omega (arith, l.auto._k-end, c.loop-k-test.false) in
    l.invariant.put ∙ ap (λ n. c.args.out.now.items ++ more_blocks n c.args.size c.args.generator.now) all
