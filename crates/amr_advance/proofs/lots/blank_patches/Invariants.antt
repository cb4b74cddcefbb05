use Rattle.std.proofs.Common.{◌-◌, ◌≤◌, length}
use Rattle.amr_advance.proofs.lots.blank_patches.Given as goal

abbrev pub invariant-more : goal.invariant-more
invariant-more l = length l.patches.items ≤ l.count

abbrev pub decreases-more : goal.decreases-more
decreases-more l = l.count - length l.patches.items
