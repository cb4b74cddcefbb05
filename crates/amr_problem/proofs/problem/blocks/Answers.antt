use Rattle.std.proofs.Common.{[], is_none}
use Rattle.std.proofs.lemmas.List.{take_more, map-append}
use Rattle.amr_problem.specs.declared.key.Key.TheVariants.{Blocks}
use Rattle.amr_problem.specs.Keys.{ranges_of, first_outside}
use Rattle.amr_problem.proofs.Shapes.{none_from_test, list_all-get}
use Rattle.amr_problem.proofs.problem.blocks.Goals as goal

pub block_of-requires : goal.block_of-requires
block_of-requires c =
    none_from_test _ (list_all-get (λ row. is_none (first_outside (ranges_of Blocks) row)) c.args.rows.now c.loop-row.row-index [] c.loop-row-test.true c.requires)

pub loop-row-preserved : goal.loop-row-preserved
loop-row-preserved c =
    rw (c.in_ok-push.ensures.items, map-append, c.loop-row.invariant, c.block_of.ensures, take_more c.args.rows.now c.loop-row.row-index [] c.loop-row-test.true)
