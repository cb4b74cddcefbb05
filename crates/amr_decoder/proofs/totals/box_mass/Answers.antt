use Rattle.std.proofs.Common.{◌≡◌, ◌∙◌, ap, arith}
use Rattle.std.proofs.lemmas.Int.{ints}
use Rattle.amr_box.specs.Cells.{height, width}
use Rattle.amr_patch.specs.BoxRows.{mass_in}
use Rattle.amr_def.specs.Ledger.{sum_to}
use Rattle.amr_def.proofs.Conservation.{sum_next}
use Rattle.amr_decoder.proofs.totals.box_mass.Goals as goal

pub row_mass-sum-requires-clause-row : goal.row_mass-sum-requires-clause-row
row_mass-sum-requires-clause-row c = omega (arith, ints, c.height-row-end.ensures.corners, c.loop-row-test.true)

pub loop-row-preserved : goal.loop-row-preserved
loop-row-preserved c =
    let l = c.loop-row in
    record {
      value = sum_next (λ j. sum_to (mass_in c.args.level.now c.args.b.now j) (width c.args.b.now)) l.row l.sum c.row_mass-sum.result l.invariant.value c.row_mass-sum.ensures.value;
      small = omega (arith, l.invariant.small, c.row_mass-sum.ensures.small);
    }

pub returns : goal.returns
returns c =
    let l = c.loop-row in
    let b = c.args.b.now in
    let all : l.row ≡ height b = omega (arith, l.auto.row-end, c.loop-row-test.false, c.height-row-end.ensures.value) in
    l.invariant.value ∙ ap (sum_to (λ j. sum_to (mass_in c.args.level.now b j) (width b))) all
