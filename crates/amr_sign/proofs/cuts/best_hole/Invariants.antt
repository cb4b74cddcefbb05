use Rattle.std.proofs.Common.{◌≡◌, ◌-◌, ◌≤◌, ◌==◌, length, slice_index}
use Rattle.amr_def.specs.Cut.{nearer}
use Rattle.amr_sign.specs.Scan.{is_legal}
use Rattle.amr_sign.proofs.Places.{best_to}
use Rattle.amr_sign.proofs.cuts.best_hole.Given as goal

abbrev pub invariant-loop-i : goal.invariant-loop-i
invariant-loop-i l = record {
  inside : l.i - 1 ≤ length l.s - 1;
  hole : l.best ≡ best_to (nearer l.s) (is_legal l.w l.s) (λ i. slice_index l.s i == 0) (l.i - 1);
}
