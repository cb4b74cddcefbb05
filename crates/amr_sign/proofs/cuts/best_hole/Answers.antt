use Rattle.std.proofs.Common.{◌≡◌, ℕ, ◌+◌, ◌-◌, ◌==◌, Bool, length, slice_index, sym, ◌∙◌, arith}
use Rattle.amr_def.specs.Cut.{nearer}
use Rattle.amr_sign.specs.Scan.{is_legal}
use Rattle.amr_sign.proofs.Places.{turn_barred, turn_legal}
use Rattle.amr_sign.proofs.cuts.best_hole.Goals as goal
use Rattle.amr_sign.proofs.cuts.best_hole.Goals.{then-is_legal, else-is_legal}

pub loop-i-preserved : goal.loop-i-preserved
loop-i-preserved c =
    let s = c.args.s.now in
    let legal = is_legal c.args.w s in
    let hole : ℕ → Bool = λ i. slice_index s i == 0 in
    let from : (c.loop-i.i - 1) + 1 ≡ c.loop-i.i = omega arith in
    let to : c.loop-i.i + 1 - 1 ≡ c.loop-i.i = omega arith in
    elim c.if-is_legal.branch [
      | then-is_legal w ↦
          let inside = sym c.is_legal.ensures ∙ w.if-is_legal.true in
          record {
            inside = omega arith;
            hole = turn_legal (nearer s) legal hole _ _ _ _ _ from to inside (w.best-is ∙ w.hole_after-best.ensures) c.loop-i.invariant.hole;
          }
      | else-is_legal w ↦
          let barred = sym c.is_legal.ensures ∙ w.if-is_legal.false in
          record {
            inside = omega arith;
            hole = turn_barred (nearer s) legal hole _ _ _ _ _ from to barred w.best-is c.loop-i.invariant.hole;
          }
    ]

pub returns : goal.returns
returns c =
    let n : c.loop-i.i - 1 ≡ length c.args.s.now - 1 = omega arith in
    rw n at c.loop-i.invariant.hole
