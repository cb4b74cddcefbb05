use Rattle.amr_witness_regrid.specs.Places.{row_of}
use Rattle.amr_witness_regrid.proofs.CellRows.{row_more}
use Rattle.amr_witness_regrid.proofs.cells.cells_of.Goals as goal

pub loop-j-preserved : goal.loop-j-preserved
loop-j-preserved c = row_more (row_of c.args.b.now) c.loop-j.j c.loop-j.cells.items _ c.loop-j.invariant c.in_ok-push_row.ensures
