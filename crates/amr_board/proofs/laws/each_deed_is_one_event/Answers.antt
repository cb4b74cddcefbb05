use Rattle.std.proofs.Common.{◌∙◌}
use Rattle.atomic_table.proofs.Lists.{set_else}
use Rattle.amr_board.proofs.Stepping.{board_keeps_rule, board_grows, join_is_no_event}
use Rattle.amr_board.proofs.Running.{core_splits}
use Rattle.amr_board.specs.Views.{joined}
use Rattle.amr_board.proofs.laws.each_deed_is_one_event.Goals as goal

pub returns-clause-rule : goal.returns-clause-rule
returns-clause-rule g c = λ plan pieces s t seat v deed rule seen left. board_keeps_rule g.P.Piece.becomes plan pieces s seat v rule seen deed t left

pub returns-clause-event : goal.returns-clause-event
returns-clause-event g c = λ plan pieces s t seat v deed rule seen left. board_grows g.P.Piece.becomes plan pieces s seat v rule seen deed t left

pub returns-clause-split : goal.returns-clause-split
returns-clause-split g c = λ plan pieces s seat v rule seen events core. core_splits plan rule.sentences.is_plan s events core seat v seen.0 seen.1

pub returns-clause-join : goal.returns-clause-join
returns-clause-join g c =
    λ plan pieces s seat other v w rule seen there apart none.
    join_is_no_event g.P.Piece.becomes s rule seat other v w seen.0 apart seen.1 there.1 (set_else s.views seat other (joined v w) apart ∙ there.0) none
