use Rattle.std.proofs.Common.{◌∙◌, sym}
use Rattle.std.specs.Map.{lookup}
use Rattle.std.specs.BTreeMap.{is_at}
use Rattle.amr_box.specs.Cells.{cell_cmp}
use Rattle.amr_witness_regrid.proofs.SameLists.{entry_same, pointwise_same}
use Rattle.amr_witness_regrid.proofs.same.same_masses.Goals as goal

pub returns : goal.returns
returns c = λ h i q. lookup (is_at (cell_cmp q)) (pointwise_same _ entry_same c.args.a.now.entries c.args.b.now.entries (sym c.eq.ensures ∙ h) i)
