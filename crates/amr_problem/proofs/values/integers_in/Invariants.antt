use Rattle.std.proofs.Common.{◌≡◌, option_map, ◌++◌, drop}
use Rattle.toml.specs.View.{items_view}
use Rattle.amr_problem.specs.Values.{integers}
use Rattle.amr_problem.proofs.values.integers_in.Given as goal

abbrev pub invariant-loop-item : goal.invariant-loop-item
invariant-loop-item l = integers (items_view l.items) ≡ option_map (λ rest. l.numbers.items ++ rest) (integers (items_view (drop l.item-index l.items)))
