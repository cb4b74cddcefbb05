use Rattle.std.proofs.Common.{◌<◌, ℕ, get_or}
use Rattle.amr_box.specs.Cells.{Extent}
use Rattle.amr_def.specs.Facts.{IsAligned}
use Rattle.amr_nest.proofs.containment.are_aligned.Given as goal

abbrev pub invariant-loop-b : goal.invariant-loop-b
invariant-loop-b l = (m : ℕ) (e : Extent) → m < l.b-index → IsAligned l.blocking (get_or l.boxes m e)
