use Rattle.std.proofs.Common.{◌∙◌, ap}
use Rattle.std.specs.Prelude.{is_some}
use Rattle.std.specs.Option.{option_copied}
use Rattle.amr_layout.specs.Surroundings.{finer_masses}
use Rattle.amr_patch.specs.Levels.{level_of}
use Rattle.amr_alike.proofs.SameBoxes.{some_in_boxes}
use Rattle.amr_advance.proofs.kept_layout.has_finer_boxes.Goals as goal

pub returns-in-Some : goal.returns-in-Some
returns-in-Some c = λ yes k.
    ap (λ o. is_some (finer_masses (option_copied o) k)) c.in-Some.is
    ∙ some_in_boxes (level_of c.in-Some.level.now).masses c.patches.result.now c.args.boxes.now c.patches.ensures.masses (c.have_boxes.ensures yes) k
