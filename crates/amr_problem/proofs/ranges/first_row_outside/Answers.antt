use Rattle.std.proofs.Common.{◌≡◌, ◌∙◌, sym, get_or, Some, rules, [], SFits, w64}
use Rattle.std.proofs.lemmas.Int.{to_z-of_z}
use Rattle.amr_problem.specs.declared.key.Key.TheVariants.{Blocks}
use Rattle.amr_problem.specs.Keys.{ranges_of, first_outside}
use Rattle.amr_problem.proofs.FirstSome.{first_some-at}
use Rattle.amr_problem.proofs.ranges.first_row_outside.Goals as goal

pub returns-in-Some : goal.returns-in-Some
returns-in-Some c =
    let rows = c.args.rows.now in
    let i = c.loop-row.row-index in
    let z = c.in-Some.number in
    let fits : SFits w64 z = search rules in
    let here : first_outside (ranges_of Blocks) (get_or rows i []) ≡ Some z = sym (rw c.ranges-in-loop-row.ensures at c.in-Some.ensures) in
    rw (to_z-of_z w64 z fits) (sym (c.loop-row.invariant ∙ first_some-at (first_outside (ranges_of Blocks)) rows i [] z c.loop-row-test.true here))
