use Rattle.std.proofs.Common.{ℕ, ◌∙◌, is_some, ap}
use Rattle.std.specs.declared.option.Option.{Option}
use Rattle.amr_box.specs.Cells.{in_boxes}
use Rattle.amr_tests_levels.proofs.OneBoxLevels.{some_in}
use Rattle.amr_tests_levels.proofs.transfer.empty_level.Goals as goal

pub returns-clause-cells : goal.returns-clause-cells
returns-clause-cells c d = ap (λ (o : Option ℕ). is_some o) (c.in_ok-level.ensures.masses d) ∙ some_in (in_boxes c.args.boxes.now d)
