use Rattle.std.proofs.Common.{◌≡◌, ◌++◌, map}
use Rattle.std.specs.List.{range_with_len}
use Rattle.amr_witness_regrid.specs.Places.{cell_in}
use Rattle.amr_witness_regrid.proofs.cells.push_row.Given as goal

abbrev pub invariant-loop-i : goal.invariant-loop-i
invariant-loop-i l = l.cells.items ≡ l.initial.cells.items ++ map (λ i. cell_in l.b i l.j) (range_with_len 0 l.i)
