use Rattle.amr_checkpoint.proofs.Folded.{IsApplied}
use Rattle.amr_checkpoint.proofs.latest.read_state.Given as goal

abbrev pub invariant-loop-before : goal.invariant-loop-before
invariant-loop-before g l = IsApplied g.D.Disk.seen g.D.Disk.moment g.D.Disk.leaves g.D.Disk.faults l.fn.p l.fn.bytes l.fn.store l.store l.fn.disk l.disk l.before l.mesh
