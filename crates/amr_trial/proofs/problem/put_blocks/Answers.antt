use Rattle.std.proofs.Common.{◌≡◌, List, ℕ, OnOk, subst}
use Rattle.amr_trial.proofs.TextParts.{blocks_put}
use Rattle.amr_trial.proofs.problem.put_blocks.Goals as goal

pub returns : goal.returns
returns c =
    subst (λ (l : List ℕ). OnOk c.put-2.result (c.put-2.new.out.items ≡ l))
    (blocks_put c.args.size c.args.generator.now c.draw_block-first.new.generator c.draw_block-first.result c.args.out.now.items c.put.new.out.items c.put_block.new.out.items c.put_more_blocks.new.out.items
    c.draw_block-first.ensures.state c.draw_block-first.ensures.block c.in_ok-put.ensures c.in_ok-put_block.ensures c.in_ok-put_more_blocks.ensures)
    c.put-2.ensures
