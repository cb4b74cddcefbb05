use Rattle.std.proofs.Common.{take}
use Rattle.std.specs.List.{AllZip}
use Rattle.amr_regrid.specs.Outlines.{lists_in}
use Rattle.amr_regrid.specs.Plans.{IsPlanFor}
use Rattle.amr_regrid.proofs.regrids.plans.Given as goal

abbrev pub invariant-loop-mesh : goal.invariant-loop-mesh
invariant-loop-mesh g l = AllZip (IsPlanFor l.p (lists_in l.boxes)) (take l.mesh-index l.meshes) l.plans.items
