use Rattle.std.proofs.Common.{get_or, pos, rules, w32, w64}
use Rattle.std.proofs.lemmas.Int.{to_z-of_z}
use Rattle.std.proofs.lemmas.List.{take_more}
use Rattle.amr_problem.specs.Keys.{holds, courant_number}
use Rattle.amr_problem.proofs.Shapes.{list_all-get}
use Rattle.amr_problem.proofs.problem.numerators.Goals as goal

pub numerator-requires : goal.numerator-requires
numerator-requires c =
    let numbers = c.args.numbers.now in
    let i = c.loop-number.number-index in
    rw (to_z-of_z w64 (get_or numbers i (pos 0)) (search rules)) (list_all-get (holds courant_number) numbers i (pos 0) c.loop-number-test.true c.requires)

pub loop-number-preserved : goal.loop-number-preserved
loop-number-preserved c =
    let numbers = c.args.numbers.now in
    let i = c.loop-number.number-index in
    rw (c.in_ok-push.ensures.items, c.loop-number.invariant, take_more numbers i (pos 0) c.loop-number-test.true, to_z-of_z w32 c.numerator.result (search rules), c.numerator.ensures, to_z-of_z w64 (get_or numbers i (pos 0)) (search rules))
