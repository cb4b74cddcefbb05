use Rattle.std.proofs.Common.{ℕ, ◌-◌, ◌≤◌, ◌&&◌, length}
use Rattle.amr_box.specs.declared.Cell.{Cell}
use Rattle.amr_box.specs.Cells.{holds}
use Rattle.amr_criterion.specs.Pairs.{AreAlong, IsJoined, in_steep_pair, region}
use Rattle.amr_criterion.proofs.pair_rows.tag_pairs.Given as goal

abbrev pub invariant-loop-done : goal.invariant-loop-done
invariant-loop-done l = record {
  within : l.done ≤ length l.first;
  joined : (value : Cell → ℕ) → AreAlong value l.fn.pairs.axis l.fn.pairs.from l.first l.second → IsJoined (λ c. holds l.fn.pairs.part c && in_steep_pair l.fn.pairs.threshold value l.fn.pairs.axis (region l.fn.pairs.from l.done 1) c) l.initial.tags l.tags;
}

abbrev pub decreases-loop-done : goal.decreases-loop-done
decreases-loop-done l = length l.first - l.done
