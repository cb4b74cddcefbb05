use Rattle.std.proofs.Common.{rules}
use Rattle.std.proofs.lemmas.List.Sorted.{IsPartitionPoint-from_clause}
use Rattle.amr_box.specs.Cells.{Extent}
use Rattle.amr_patch.specs.Orders.{comes_first}
use Rattle.amr_register.proofs.BarLookups.{parted}
use Rattle.amr_register.proofs.bars.count_up_to.Goals as goal

pub returns-clause-parts : goal.returns-clause-parts
returns-clause-parts c =
    IsPartitionPoint-from_clause (λ (r : Extent). comes_first r.lo c.args.c) c.args.bars.now c.partition_point.result c.partition_point.ensures.partitioned (parted c.args.bars.now c.args.c c.requires.in_rows) (λ a r f' k. search rules)
