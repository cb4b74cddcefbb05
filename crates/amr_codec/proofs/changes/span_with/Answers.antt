use Rattle.std.proofs.Common.{◌≤◌, length, take, refl, sym, arith}
use Rattle.std.specs.Prelude.{slice_index}
use Rattle.std.proofs.lemmas.Bool.{both_ways}
use Rattle.amr_patch.specs.Levels.{level_of}
use Rattle.amr_codec.proofs.KeptRows.{none_from, not_there, span_equal, span_same}
use Rattle.amr_codec.proofs.changes.span_with.Goals as goal

pub returns-in-None-clause-none : goal.returns-in-None-clause-none
returns-in-None-clause-none c zero all =
    let m = (level_of c.args.level.now).masses in
    not_there m c.args.b.now c.args.row c.args.first c.cell_in.result (slice_index c.args.masses.now 0) c.cell_in.ensures.place (none_from (m c.cell_in.result) (sym c.in-None.ensures.there)) (all 0 c.requires.some)

pub returns-then-are_equal-clause-same : goal.returns-then-are_equal-clause-same
returns-then-are_equal-clause-same c =
    let n = c.min-count.result in
    let span = c.in-Some.span.now in
    let masses = c.args.masses.now in
    let inside : n ≤ length span = omega (arith, c.min-count.ensures) in
    let within : n ≤ length masses = omega (arith, c.min-count.ensures) in
    span_same (level_of c.args.level.now).masses c.args.b.now c.args.row c.args.first c.cell_in.result c.cell_in.ensures.place span masses (take n span) (take n masses) n inside within refl refl
    c.in-Some.ensures.masses (c.are_equal.ensures.0 c.if-are_equal.true)

pub returns-else-are_equal-clause-none : goal.returns-else-are_equal-clause-none
returns-else-are_equal-clause-none c zero all =
    let n = c.min-count.result in
    let span = c.in-Some.span.now in
    let masses = c.args.masses.now in
    let inside : n ≤ length span = omega (arith, c.min-count.ensures) in
    let within : n ≤ length masses = omega (arith, c.min-count.ensures) in
    both_ways c.are_equal.result c.if-are_equal.false (c.are_equal.ensures.1
    (span_equal (level_of c.args.level.now).masses c.args.b.now c.args.row c.args.first c.cell_in.result c.cell_in.ensures.place span masses (take n span) (take n masses) n inside within refl refl
    c.in-Some.ensures.masses all))
