use Rattle.std.proofs.Common.{None, ap, ◌∙◌, arith}
use lib.ListN.{get_elem?}
use Rattle.amr_board.specs.Ended.{EndedOf}
use Rattle.amr_lots.specs.declared.lot.Work.{Work}
use Rattle.amr_advance.proofs.Pieces.{other_piece}
use Rattle.amr_tests_steps.proofs.board.stages.Goals as goal

pub loop-task-init : goal.loop-task-init
loop-task-init c = λ t from lt. c.requires t lt

pub hand-work-requires : goal.hand-work-requires
hand-work-requires c = c.loop-task.invariant c.loop-task.task (omega arith) c.loop-task-test.true

pub loop-task-preserved : goal.loop-task-preserved
loop-task-preserved c = λ t from lt.
    let later = c.loop-task.invariant t (omega (arith, from)) lt in
    (later.0, ap (λ (o : EndedOf Work). get_elem? o.pieces t) c.hand-work.ensures.gone ∙ other_piece c.loop-task.ended.pieces c.loop-task.task t None (omega (arith, from)) ∙ later.1)
