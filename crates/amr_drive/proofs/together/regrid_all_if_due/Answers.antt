use Rattle.std.proofs.Common.{map}
use Rattle.amr_patch.specs.Meshes.{state_of}
use Rattle.amr_drive.proofs.DueRegrids.{all_alone}
use Rattle.amr_drive.proofs.together.regrid_all_if_due.Goals as goal

pub returns-then-p-eq0-clause-value : goal.returns-then-p-eq0-clause-value
returns-then-p-eq0-clause-value g c = all_alone c.args.p.now (map state_of c.args.meshes.now) c.if-p-eq0.true c.requires.meshes.states.alike
