use Rattle.std.proofs.Common.{◌+◌, ℕ, length, subst, arith}
use Rattle.std.proofs.lemmas.Int.{ints}
use Rattle.amr_patch.specs.BoxRows.{mass_in}
use Rattle.amr_codec.specs.Forms.{HasMassAt, masses_before}
use Rattle.amr_codec.proofs.KeptRows.{more_columns}
use Rattle.amr_codec.proofs.changes.keeps_row.Goals as goal

pub masses_near-masses-requires-clause-column : goal.masses_near-masses-requires-clause-column
masses_near-masses-requires-clause-column c = omega (arith, ints, c.width-columns.ensures.corners, c.loop-first-test.true)

pub loop-first-preserved : goal.loop-first-preserved
loop-first-preserved c =
    let l = c.loop-first in
    let m = masses_before c.args.old in
    let b = c.args.b.now in
    let masses = c.masses_near-masses in
    record {
      same = more_columns (λ i. HasMassAt m b c.args.row i (mass_in c.args.level.now b c.args.row i)) l.first (length masses.result.now) l.invariant.same
          (λ k below. subst (λ (n : ℕ). HasMassAt m b c.args.row (l.first + k) n) (masses.ensures.masses k below) (c.has_masses_near-kept.ensures.0 c.if-not-kept.false k below));
      within = masses.ensures.inside;
    }
