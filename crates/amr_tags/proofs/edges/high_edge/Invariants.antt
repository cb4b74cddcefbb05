use Rattle.std.proofs.Common.{◌-ℤ◌, ◌≤ℤ◌}
use Rattle.std.specs.Prelude.{unsigned_abs}
use Rattle.amr_box.specs.Cells.{along}
use Rattle.amr_tags.specs.Edges.{HasNoneAbove, HasOneFrom, in_part}
use Rattle.amr_tags.proofs.edges.high_edge.Given as goal

abbrev pub invariant-loop-low : goal.invariant-loop-low
invariant-loop-low l =
    (along l.axis l.part.lo ≤ℤ l.low)
    × (l.low ≤ℤ l.high)
    × (l.high ≤ℤ along l.axis l.part.hi)
    × HasNoneAbove (in_part l.b l.words l.part) l.axis l.high
    × HasOneFrom (in_part l.b l.words l.part) l.axis l.low

abbrev pub decreases-loop-low : goal.decreases-loop-low
decreases-loop-low l = unsigned_abs (l.high -ℤ l.low)
