use Rattle.std.proofs.Common.{ℤ, rules}
use Rattle.std.specs.Prelude.{int_le}
use Rattle.std.proofs.lemmas.List.Sorted.{IsPartitionPoint-from_clause}
use Rattle.amr_patch.proofs.GapLaws.{parted}
use Rattle.amr_patch.proofs.gaps.count_up_to.Goals as goal

pub returns-clause-parts : goal.returns-clause-parts
returns-clause-parts c =
    IsPartitionPoint-from_clause (λ (s : ℤ). int_le s c.args.z) c.args.starts.now c.partition_point.result c.partition_point.ensures.partitioned (parted c.args.starts.now c.args.z c.requires) (λ a r f' k. search rules)
