use Rattle.amr_witness_regrid.proofs.regrid.+new_boxes.Given as goal

abbrev pub decreases-new_boxes : goal.decreases-new_boxes
decreases-new_boxes l = l.n
