use Rattle.std.proofs.Common.{◌≡◌, ℕ, ◌<◌, ◌≤◌, length}
use Rattle.std.specs.Prelude.{slice_index}
use Rattle.amr_cluster.proofs.cut_boxes.ends_of.Given as goal

abbrev pub invariant-loop-i : goal.invariant-loop-i
invariant-loop-i l = record {
  below : (k : ℕ) → k < l.i → k < l.first → slice_index l.counts k ≡ 0;
  above : (k : ℕ) → k < l.i → l.last < k → slice_index l.counts k ≡ 0;
  order : l.first < length l.counts → l.first ≤ l.last;
  inside : l.first < length l.counts → l.last < l.i;
  first_some : l.first < length l.counts → 1 ≤ slice_index l.counts l.first;
  last_some : l.first < length l.counts → 1 ≤ slice_index l.counts l.last;
}
