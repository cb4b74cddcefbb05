use Rattle.std.proofs.Common.{◌∙◌, sym, subst, arith}
use Rattle.amr_advance.specs.Lots.{AreLots}
use Rattle.amr_advance.proofs.AllPatches.{around_is, whole_is}
use Rattle.amr_tests_steps.proofs.board.open_patches.Goals as goal

pub ready_lots-requires-clause-lots : goal.ready_lots-requires-clause-lots
ready_lots-requires-clause-lots g c =
    subst (λ s. AreLots s c.in_ok-layout.layout.lots) (sym (around_is c.args.given c.args.patches.now (whole_is c.args.given c.args.patches.now c.requires.step c.requires.unfilled) c.requires.unfilled)) c.in_ok-layout.ensures.layout.laid_out.lots

pub open_step-requires-clause-several : goal.open_step-requires-clause-several
open_step-requires-clause-several g c κs within = sym c.is_one.ensures ∙ c.if-is_one.false

pub open_step-requires-clause-crew : goal.open_step-requires-clause-crew
open_step-requires-clause-crew g c κs within = record { some_workers = omega arith; few_workers = omega arith; gate = λ worker task below lt. tt; team = tt }

pub returns : goal.returns
returns g c = let opened = c.in_ok-opened.ensures.opened in (_, opened.0, opened.2)
