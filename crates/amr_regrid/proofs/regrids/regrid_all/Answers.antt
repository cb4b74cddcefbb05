use Rattle.std.proofs.lemmas.Result.{on_err_weaker}
use Rattle.amr_regrid.proofs.MeshOutlines.{same_patches, same_states}
use Rattle.amr_regrid.proofs.regrids.regrid_all.Goals as goal

pub regrid_by-requires-clause-meshes : goal.regrid_by-requires-clause-meshes
regrid_by-requires-clause-meshes c = record { some = c.requires.some; whole = c.requires.whole; alike = c.requires.alike }

pub returns-clause-refused : goal.returns-clause-refused
returns-clause-refused c = on_err_weaker c.regrid_by.result (same_states c.regrid_by.new.meshes c.args.meshes.now) c.regrid_by.ensures.refused

pub returns-clause-refused_patches : goal.returns-clause-refused_patches
returns-clause-refused_patches c = on_err_weaker c.regrid_by.result (same_patches c.regrid_by.new.meshes c.args.meshes.now) c.regrid_by.ensures.refused
