use Rattle.amr_tests_levels.proofs.OneBoxLevels.{two_near}
use Rattle.amr_tests_levels.proofs.boxes.side_by_side.Goals as goal

pub returns-clause-near : goal.returns-clause-near
returns-clause-near c = two_near c.columns-left.result c.columns-right.result c.columns-left.ensures.near c.columns-right.ensures.near
