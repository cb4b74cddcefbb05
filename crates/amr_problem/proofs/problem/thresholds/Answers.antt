use Rattle.std.proofs.Common.{get_or, pos, rules, w64}
use Rattle.std.proofs.lemmas.Int.{to_z-of_z}
use Rattle.std.proofs.lemmas.List.{take_more, map-append}
use Rattle.amr_problem.specs.Keys.{holds, threshold}
use Rattle.amr_problem.proofs.Shapes.{list_all-get}
use Rattle.amr_problem.proofs.problem.thresholds.Goals as goal

pub whole-requires : goal.whole-requires
whole-requires c =
    let numbers = c.args.numbers.now in
    let i = c.loop-number.number-index in
    rw (to_z-of_z w64 (get_or numbers i (pos 0)) (search rules)) (list_all-get (holds threshold) numbers i (pos 0) c.loop-number-test.true c.requires)

pub loop-number-preserved : goal.loop-number-preserved
loop-number-preserved c =
    let numbers = c.args.numbers.now in
    let i = c.loop-number.number-index in
    rw (c.in_ok-push.ensures.items, map-append, c.loop-number.invariant, c.whole.ensures, take_more numbers i (pos 0) c.loop-number-test.true, to_z-of_z w64 (get_or numbers i (pos 0)) (search rules))
