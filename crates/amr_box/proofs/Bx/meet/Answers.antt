use Rattle.amr_box.proofs.Boxes.{meet_cells, meet_corners, meet_none, meet_some}
use Rattle.amr_box.proofs.Bx.meet.Goals as goal

pub returns-clause-corners : goal.returns-clause-corners
returns-clause-corners c = meet_corners c.try_new.result _ _ _ c.common.ensures c.try_new.ensures.some

pub returns-clause-cells : goal.returns-clause-cells
returns-clause-cells c = meet_cells c.try_new.result c.args.self.now c.args.o.now _ _ c.common.ensures c.try_new.ensures.some

pub returns-clause-some : goal.returns-clause-some
returns-clause-some c = meet_some c.try_new.result _ _ _ c.common.ensures c.try_new.ensures.proper

pub returns-clause-none : goal.returns-clause-none
returns-clause-none c = meet_none c.try_new.result c.args.self.now c.args.o.now _ _ c.common.ensures c.try_new.ensures.proper
