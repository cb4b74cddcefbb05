use Rattle.std.proofs.Common.{List, sym, subst}
use Rattle.std.specs.List.{All}
use Rattle.amr_def.specs.State as defined
use Rattle.amr_patch.specs.Meshes.{state_of}
use Rattle.amr_witness_regrid.specs.Places.{HasBoxes}
use Rattle.amr_witness_regrid.proofs.Regridded.{sound_boxes}
use Rattle.amr_witness_regrid.proofs.mesh.plain_of.Goals as goal

pub plain_levels-requires : goal.plain_levels-requires
plain_levels-requires c =
    subst (λ (ks : List defined.Level). All HasBoxes ks) (sym c.levels.ensures.levels) (sound_boxes c.args.p.now (state_of c.args.mesh.now) c.requires.sound)
