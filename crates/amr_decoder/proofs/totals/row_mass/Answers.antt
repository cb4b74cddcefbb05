use Rattle.std.proofs.Common.{◌≡◌, ◌∙◌, ap, arith}
use Rattle.std.proofs.lemmas.Int.{ints}
use Rattle.amr_box.specs.Cells.{width}
use Rattle.amr_patch.specs.BoxRows.{mass_in}
use Rattle.amr_def.specs.Ledger.{sum_to}
use Rattle.amr_decoder.proofs.MassSums.{span_more}
use Rattle.amr_decoder.proofs.totals.row_mass.Goals as goal

pub masses_from-masses-requires-clause-column : goal.masses_from-masses-requires-clause-column
masses_from-masses-requires-clause-column c = omega (arith, ints, c.width-columns.ensures.corners, c.loop-first-test.true)

pub loop-first-preserved : goal.loop-first-preserved
loop-first-preserved c =
    let l = c.loop-first in
    let masses = c.masses_from-masses.result.now in
    record {
      value = span_more (mass_in c.args.level.now c.args.b.now c.args.row) l.first l.sum c.span_mass-sum.result masses l.invariant.value c.span_mass-sum.ensures.value c.masses_from-masses.ensures.masses;
      small = omega (arith, l.invariant.small, c.span_mass-sum.ensures.small);
      within = c.masses_from-masses.ensures.inside;
    }

pub returns-clause-value : goal.returns-clause-value
returns-clause-value c =
    let l = c.loop-first in
    let all : l.first ≡ width c.args.b.now = omega (arith, c.loop-first-test.false, l.invariant.within, c.width-columns.ensures.value) in
    l.invariant.value ∙ ap (sum_to (mass_in c.args.level.now c.args.b.now c.args.row)) all
