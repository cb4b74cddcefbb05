use Rattle.std.proofs.Common.{length}
use Rattle.amr_regrid.proofs.Planned.{AreInstalledFrom}
use Rattle.amr_regrid.proofs.plans.install_all.Given as goal

abbrev pub invariant-loop-plan : goal.invariant-loop-plan
invariant-loop-plan l = AreInstalledFrom l.fn.plans.items l.fn.meshes l.plans.items l.meshes

abbrev pub decreases-loop-plan : goal.decreases-loop-plan
decreases-loop-plan l = length l.plans.items
