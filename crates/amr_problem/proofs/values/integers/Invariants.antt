use Rattle.std.proofs.Common.{◌≡◌, option_map, ◌++◌, length, take, drop}
use Rattle.toml.specs.View.{items_view}
use Rattle.amr_problem.specs.Values.{integers}
use Rattle.amr_problem.proofs.values.integers.Given as goal

abbrev pub invariant-loop-place : goal.invariant-loop-place
invariant-loop-place g l = record {
  read : integers (items_view l.items) ≡ option_map (λ zs. take l.place l.numbers ++ zs) (integers (items_view (drop l.place l.items)));
  room : length l.numbers ≡ length l.items;
}
