use Rattle.std.proofs.Common.{◌≡◌, ◌≤◌, [], length}
use Rattle.std.specs.Prelude.{vec_capacity}
use Rattle.std.specs.List.{All}
use Rattle.amr_advance.proofs.lots.blank_edges.Given as goal

abbrev pub invariant-loop-place : goal.invariant-loop-place
invariant-loop-place l = record {
  count : length l.lists.items ≡ l._place;
  room : l.count ≤ vec_capacity l.lists;
  empty : All (λ v. v.items ≡ []) l.lists.items;
}
