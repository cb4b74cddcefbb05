use Rattle.std.proofs.Common.{ℕ, ◌*◌, pos, ◌-ℤ◌}
use Rattle.amr_def.specs.declared.problem.Problem.{Problem}
use Rattle.amr_def.specs.State.{Masses}
use Rattle.amr_register.specs.Bands.{AreBandsOf, IsBandOf}
use Rattle.amr_register.proofs.bands.put_together.Given as goal

abbrev pub invariant-loop-k : goal.invariant-loop-k
invariant-loop-k l = (p : Problem) (d : ℕ) (m fine : Masses) (size : ℕ) → AreBandsOf p d m fine size l.bands → IsBandOf p d m fine (pos 0) (pos (l.k * size) -ℤ pos 1) l.all
