use Rattle.std.proofs.Common.{◌≡◌, ◌-◌, ◌≤◌, length}
use Rattle.std.specs.Option.{option_map}
use Rattle.amr_def.specs.Cut.{sharper}
use Rattle.amr_sign.specs.Scan.{inflection_of, is_inflection, is_legal}
use Rattle.amr_sign.proofs.Places.{best_to}
use Rattle.amr_sign.proofs.cuts.best_inflection.Given as goal

abbrev pub invariant-loop-i : goal.invariant-loop-i
invariant-loop-i l = record {
  inside : l.i - 1 ≤ length l.s - 1;
  inflection : l.best ≡ option_map (inflection_of l.s) (best_to (sharper l.s) (is_legal l.w l.s) (is_inflection l.s) (l.i - 1));
}
