use Rattle.std.proofs.Common.{ℕ, ◌-◌, ◌<◌, ◌≤◌, length, get_or}
use Rattle.amr_ranks.specs.Items.{place_of}
use Rattle.amr_ranks.specs.Stored.{no_cell}
use Rattle.amr_ranks.proofs.parts.find.Given as goal

abbrev pub invariant-loop-low : goal.invariant-loop-low
invariant-loop-low l = record {
  order : l.low ≤ l.high;
  inside : l.high ≤ length l.run;
  below : (k : ℕ) → k < l.low → place_of (get_or l.run k no_cell) < l.place;
  above : (k : ℕ) → l.high ≤ k → k < length l.run → l.place ≤ place_of (get_or l.run k no_cell);
}

abbrev pub decreases-loop-low : goal.decreases-loop-low
decreases-loop-low l = l.high - l.low
