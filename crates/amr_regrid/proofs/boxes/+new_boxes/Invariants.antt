use Rattle.amr_regrid.proofs.boxes.+new_boxes.Given as goal

abbrev pub decreases-new_boxes : goal.decreases-new_boxes
decreases-new_boxes l = l.n
