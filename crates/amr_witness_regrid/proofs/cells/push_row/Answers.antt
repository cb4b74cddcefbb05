use Rattle.std.proofs.Common.{◌∙◌}
use Rattle.amr_witness_regrid.specs.Places.{cell_in}
use Rattle.amr_witness_regrid.proofs.CellRows.{cell_more}
use Rattle.amr_witness_regrid.proofs.cells.push_row.Goals as goal

pub loop-i-preserved : goal.loop-i-preserved
loop-i-preserved c =
    c.in_ok-push.ensures.items ∙ cell_more (λ i. cell_in c.args.b.now i c.args.j) c.loop-i.i c.args.cells.now.items c.loop-i.cells.items c.cell_in.result c.loop-i.invariant c.cell_in.ensures
