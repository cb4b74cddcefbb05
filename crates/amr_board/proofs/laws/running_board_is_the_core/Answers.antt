use Rattle.std.proofs.Common.{refl}
use Rattle.amr_phase.specs.Machine.{fresh, after}
use Rattle.amr_board.proofs.laws.running_board_is_the_core.Goals as goal

pub returns-clause-kept : goal.returns-clause-kept
returns-clause-kept g c = λ about s kept. kept

pub returns-clause-reached : goal.returns-clause-reached
returns-clause-reached g c =
    λ plan pieces s workers rule enough.
    let events = rule.core.events in
    (after (fresh plan workers) events, record { plan = plan; workers = workers; is_plan = rule.sentences.is_plan; events = events; reached = refl }, rule.core.is_core.shown workers enough)
