use Rattle.std.proofs.Common.{◌≡◌}
use Rattle.std.specs.List.{flat_map, range_with_len}
use Rattle.amr_witness_regrid.specs.Places.{row_of}
use Rattle.amr_witness_regrid.proofs.cells.cells_of.Given as goal

abbrev pub invariant-loop-j : goal.invariant-loop-j
invariant-loop-j l = l.cells.items ≡ flat_map (row_of l.b) (range_with_len 0 l.j)
