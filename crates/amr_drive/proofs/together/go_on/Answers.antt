use Rattle.std.proofs.Common.{◌+◌, arith}
use Rattle.amr_drive.proofs.GoneOn.{stands_on, states_on}
use Rattle.amr_drive.proofs.LaneLists.{may_go}
use Rattle.amr_drive.proofs.together.go_on.Goals as goal

pub go_to-requires-clause-some : goal.go_to-requires-clause-some
go_to-requires-clause-some g c κs within = omega (arith, (c.requires.crew 0).some_workers)

pub go_to-requires-clause-one_each : goal.go_to-requires-clause-one_each
go_to-requires-clause-one_each g c κs within = c.in_ok-regrid_all_if_due.ensures.stands.one_each

pub go_to-requires-clause-ready : goal.go_to-requires-clause-ready
go_to-requires-clause-ready g c κs within =
    may_go c.args.p.now c.args.workers.now.count c.args.step c.regrid_all_if_due.new.meshes c.regrid_all_if_due.new.lanes c.in_ok-regrid_all_if_due.ensures.stands g.G.Gate.admits
    c.args.workers.now.gate.now c.interval_end-end.result (omega (arith, c.interval_end-end.ensures.later)) (omega (arith, c.interval_end-end.ensures.within, c.requires.within))
    (c.requires.crew 0).few_workers (λ worker task below. (c.requires.crew (task + 1)).gate worker task below (omega arith))

pub returns-clause-value : goal.returns-clause-value
returns-clause-value g c =
    states_on c.args.p.now c.args.workers.now.count c.args.step c.interval_end-end.result c.args.meshes.now c.regrid_all_if_due.new.meshes c.go_to.new.meshes c.args.lanes.now
    c.regrid_all_if_due.new.lanes c.go_to.new.lanes c.requires.stands c.in_ok-regrid_all_if_due.ensures.stands c.in_ok-regrid_all_if_due.ensures.value (omega arith) (omega arith)
    c.in_ok-go_to.ensures c.interval_end-end.ensures.later (omega (arith, c.interval_end-end.ensures.within, c.requires.within)) c.interval_end-end.ensures.none_due

pub returns-clause-stands : goal.returns-clause-stands
returns-clause-stands g c =
    stands_on c.args.p.now c.args.workers.now.count c.args.step c.interval_end-end.result c.args.meshes.now c.regrid_all_if_due.new.meshes c.go_to.new.meshes c.args.lanes.now
    c.regrid_all_if_due.new.lanes c.go_to.new.lanes c.requires.stands c.in_ok-regrid_all_if_due.ensures.stands c.in_ok-regrid_all_if_due.ensures.value (omega arith) (omega arith)
    c.in_ok-go_to.ensures c.interval_end-end.ensures.later (omega (arith, c.interval_end-end.ensures.within, c.requires.within)) c.interval_end-end.ensures.none_due
