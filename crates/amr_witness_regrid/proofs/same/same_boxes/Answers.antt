use Rattle.std.proofs.Common.{◌∙◌, sym}
use Rattle.amr_witness_regrid.proofs.SameLists.{box_same, pointwise_same}
use Rattle.amr_witness_regrid.proofs.same.same_boxes.Goals as goal

pub returns : goal.returns
returns c = λ h. pointwise_same _ box_same c.args.a.now c.args.b.now (sym c.eq.ensures ∙ h)
