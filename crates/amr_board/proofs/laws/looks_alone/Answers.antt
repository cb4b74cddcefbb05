use Rattle.amr_board.proofs.Posts.{looked_none, looked_once, looked_on}
use Rattle.amr_board.proofs.laws.looks_alone.Goals as goal

pub returns-clause-none : goal.returns-clause-none
returns-clause-none g c = looked_none

pub returns-clause-once : goal.returns-clause-once
returns-clause-once g c = looked_once

pub returns-clause-more : goal.returns-clause-more
returns-clause-more g c = looked_on
