use Rattle.std.proofs.Common.{◌≡◌, option_map, ◌++◌, drop}
use Rattle.toml.specs.View.{items_view}
use Rattle.amr_problem.specs.Values.{rows_in}
use Rattle.amr_problem.proofs.values.rows_in.Given as goal

abbrev pub invariant-loop-item : goal.invariant-loop-item
invariant-loop-item l =
    rows_in l.version (items_view l.items) ≡ option_map (λ rest. l.rows.items ++ rest) (rows_in l.version (items_view (drop l.item-index l.items)))
