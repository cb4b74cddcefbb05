use Rattle.std.proofs.Common.{◌≡◌, ◌∙◌}
use Rattle.amr_patch.specs.Levels.{level_of}
use Rattle.amr_witness.specs.Maps.{masses_of}
use Rattle.amr_witness_regrid.proofs.mesh.plain_level.Goals as goal

pub returns : goal.returns
returns c =
    let boxes = c.in_ok-from_slice.ensures.items ∙ c.boxes.ensures in
    let masses : masses_of c.in_ok-masses_of.field-0 ≡ (level_of c.args.level.now).masses = λ i q. c.in_ok-masses_of.ensures.at q i in
    λ i. record { boxes = boxes i; masses = masses i }
