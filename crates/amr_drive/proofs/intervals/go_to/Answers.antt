use Rattle.std.proofs.Common.{arith}
use Rattle.amr_drive.proofs.LaneChanges.{all_gone, all_ready}
use Rattle.amr_drive.proofs.intervals.go_to.Goals as goal

pub go_side_by_side-requires-clause-ready : goal.go_side_by_side-requires-clause-ready
go_side_by_side-requires-clause-ready g c κs within =
    all_ready g.G.Gate.admits c.args.gate.now c.args.end c.args.meshes.now c.args.lanes.now c.change_all.new.meshes c.change_all.new.lanes (omega arith) c.change_all.ensures c.requires.ready

pub returns : goal.returns
returns g c =
    all_gone c.args.end c.args.meshes.now c.args.lanes.now c.change_all.new.meshes c.change_all.new.lanes c.go_side_by_side.new.lanes c.change_all-2.new.meshes c.change_all-2.new.lanes
    (omega arith) (omega arith) c.change_all.ensures c.go_side_by_side.ensures (omega arith) c.in_ok-all_done.ensures c.change_all-2.ensures
