use Rattle.std.proofs.Common.{◌&&◌}
use Rattle.amr_box.specs.Cells.{holds}
use Rattle.amr_patch.specs.Patches.{box, value_in}
use Rattle.amr_criterion.specs.Pairs.{IsJoined, in_steep_pair, region}
use Rattle.amr_criterion.proofs.patches.tag_rows.Given as goal

abbrev pub invariant-loop-k : goal.invariant-loop-k
invariant-loop-k l = IsJoined (λ c. holds (box l.patch) c && in_steep_pair l.threshold (value_in l.patch) l.firsts.axis (region l.firsts.from l.firsts.columns l.k) c) l.initial.tags l.tags
