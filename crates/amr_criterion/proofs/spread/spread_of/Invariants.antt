use Rattle.std.proofs.Common.{◌≡◌, ◌≤◌, true, pos, ◌+ℤ◌, ◌-ℤ◌, ◌<ℤ◌}
use Rattle.amr_box.specs.declared.Cell.{Cell}
use Rattle.amr_box.specs.Cells.{holds}
use Rattle.amr_patch.specs.Places.{grown}
use Rattle.amr_patch.specs.Patches.{box, value_in}
use Rattle.amr_criterion.proofs.spread.spread_of.Given as goal

-- the values of the first rows lie between
abbrev pub invariant-loop-k : goal.invariant-loop-k
invariant-loop-k l = record {
  low : (c : Cell) → holds (grown (box l.patch)) c ≡ true → c.y <ℤ ((box l.patch).lo.y -ℤ pos 1 +ℤ pos l.k) → l.spread.least ≤ value_in l.patch c;
  high : (c : Cell) → holds (grown (box l.patch)) c ≡ true → c.y <ℤ ((box l.patch).lo.y -ℤ pos 1 +ℤ pos l.k) → value_in l.patch c ≤ l.spread.most;
}
