use Rattle.std.proofs.Common.{◌∙◌, sym}
use Rattle.amr_box.specs.Cells.{parent}
use Rattle.amr_tests_levels.proofs.CoveredCells.{parents_there}
use Rattle.amr_tests_levels.proofs.transfer.children_share_their_parents_mass.Goals as goal

pub split_into-requires-clause-parents : goal.split_into-requires-clause-parents
split_into-requires-clause-parents g c d h = c.in_ok-coarse.ensures (parent d) ∙ parents_there d (sym (c.in_ok-fine.ensures.cells d) ∙ h)
