use Rattle.std.proofs.Common.{rules}
use Rattle.std.proofs.lemmas.List.Sorted.{IsPartitionPoint-from_clause}
use Rattle.amr_box.specs.declared.Cell.{Cell}
use Rattle.amr_patch.specs.Orders.{comes_first}
use Rattle.amr_layout.proofs.Numbers.{parted}
use Rattle.amr_layout.proofs.registers.count_up_to.Goals as goal

pub returns-clause-parts : goal.returns-clause-parts
returns-clause-parts c =
    IsPartitionPoint-from_clause (λ (a : Cell). comes_first a c.args.c) c.args.cells.now c.partition_point.result c.partition_point.ensures.partitioned (parted c.args.cells.now c.args.c c.requires) (λ a r f' k. search rules)
