use Rattle.std.proofs.Common.{◌≡◌, ℕ, ◌*◌, ◌≤◌, take}
use Rattle.std.specs.List.{sum_by}
use Rattle.amr_cluster.proofs.parts.total.Given as goal

abbrev pub invariant-loop-count : goal.invariant-loop-count
invariant-loop-count l = record {
  is : l.sum ≡ sum_by (λ (n : ℕ). n) (take l.count-index l.counts);
  small : l.sum ≤ l.count-index * 4294967295;
}
