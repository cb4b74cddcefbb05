use Rattle.std.proofs.Common.{◌≡◌, ◌∙◌, map, sym, ap}
use Rattle.std.proofs.lemmas.Result.{IfOk-weaker}
use Rattle.std.specs.Prelude.{is_some}
use Rattle.std.specs.Option.{option_copied}
use Rattle.amr_box.specs.declared.Cell.{Cell}
use Rattle.amr_box.specs.Cells.{in_boxes}
use Rattle.amr_layout.specs.Surroundings.{finer_masses}
use Rattle.amr_patch.specs.Levels.{level_of}
use Rattle.amr_patch.specs.Patches.{box}
use Rattle.amr_alike.proofs.SameBoxes.{some_in_boxes}
use Rattle.amr_advance.proofs.kept_layout.finer_boxes.Goals as goal

pub returns-in-Some : goal.returns-in-Some
returns-in-Some c =
    IfOk-weaker c.boxes_of.result (λ bs. bs.items ≡ map box c.patches.result.now) (λ bs. (k : Cell) → is_some (finer_masses (option_copied c.args.finer) k) ≡ in_boxes bs.items k)
    (λ bs e k.
    ap (λ o. is_some (finer_masses (option_copied o) k)) c.in-Some.is
    ∙ some_in_boxes (level_of c.in-Some.level.now).masses c.patches.result.now bs.items c.patches.ensures.masses (sym e) k)
    c.boxes_of.ensures
