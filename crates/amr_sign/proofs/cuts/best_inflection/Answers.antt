use Rattle.std.proofs.Common.{◌≡◌, ◌+◌, ◌-◌, length, sym, ◌∙◌, arith}
use Rattle.amr_sign.specs.Scan.{inflection_of, is_inflection, is_legal, is_sharper}
use Rattle.amr_sign.proofs.Places.{seen_barred, seen_legal}
use Rattle.amr_sign.proofs.cuts.best_inflection.Goals as goal
use Rattle.amr_sign.proofs.cuts.best_inflection.Goals.{then-is_legal, else-is_legal}

pub loop-i-preserved : goal.loop-i-preserved
loop-i-preserved c =
    let s = c.args.s.now in
    let legal = is_legal c.args.w s in
    let from : (c.loop-i.i - 1) + 1 ≡ c.loop-i.i = omega arith in
    let to : c.loop-i.i + 1 - 1 ≡ c.loop-i.i = omega arith in
    elim c.if-is_legal.branch [
      | then-is_legal w ↦
          let inside = sym c.is_legal.ensures ∙ w.if-is_legal.true in
          record {
            inside = omega arith;
            inflection = seen_legal (inflection_of s) (is_sharper s) legal (is_inflection s) _ _ _ _ _ from to inside (w.best-is ∙ w.inflection_after-best.ensures) c.loop-i.invariant.inflection;
          }
      | else-is_legal w ↦
          let barred = sym c.is_legal.ensures ∙ w.if-is_legal.false in
          record {
            inside = omega arith;
            inflection = seen_barred (inflection_of s) (is_sharper s) legal (is_inflection s) _ _ _ _ _ from to barred w.best-is c.loop-i.invariant.inflection;
          }
    ]

pub returns : goal.returns
returns c =
    let n : c.loop-i.i - 1 ≡ length c.args.s.now - 1 = omega arith in
    rw n at c.loop-i.invariant.inflection
