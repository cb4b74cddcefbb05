use Rattle.std.proofs.Common.{◌∙◌, ◌++◌, ap, arith}
use Rattle.std.proofs.lemmas.Int.{ints}
use Rattle.amr_box.specs.Cells.{below_cut}
use Rattle.amr_boxlist.proofs.Frame.{high_is}
use Rattle.amr_boxlist.proofs.outside.push_high.Goals as goal

pub returns-in_ok-push-clause-rest : goal.returns-in_ok-push-clause-rest
returns-in_ok-push-clause-rest c = c.cut_at-rest.ensures.low ∙ ap (λ t. below_cut c.args.axis t c.args.a.now) (omega (arith, ints, c.next.ensures))

pub returns-in_ok-push-clause-pushed : goal.returns-in_ok-push-clause-pushed
returns-in_ok-push-clause-pushed c =
    c.in_ok-push.ensures.items
    ∙ ap (λ t. c.args.left.now.items ++ t) (high_is c.args.axis c.args.i _ c.args.a.now c.cut_at-rest.result.1 (omega (arith, ints, c.high_of.ensures)) (omega (arith, ints, c.next.ensures)) c.cut_at-rest.ensures.high)
