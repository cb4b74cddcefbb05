use Rattle.std.proofs.Common.{rules}
use Rattle.std.proofs.lemmas.List.Sorted.{IsPartitionPoint-from_clause}
use Rattle.amr_box.specs.Cells.{cell}
use Rattle.amr_patch.specs.declared.patches.Patch.{Patch}
use Rattle.amr_patch.specs.Patches.{box}
use Rattle.amr_patch.specs.Orders.{comes_first}
use Rattle.amr_patch.proofs.Lookups.{parted}
use Rattle.amr_patch.proofs.lookup.count_up_to.Goals as goal

pub returns-clause-parts : goal.returns-clause-parts
returns-clause-parts c =
    IsPartitionPoint-from_clause (λ (p : Patch). comes_first (box p).lo (cell c.args.x c.args.y)) c.args.patches.now c.partition_point.result c.partition_point.ensures.partitioned (parted c.args.patches.now (cell c.args.x c.args.y) c.requires) (λ a r f' k. search rules)
