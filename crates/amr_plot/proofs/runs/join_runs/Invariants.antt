use Rattle.std.proofs.Common.{◌≡◌, ℕ, ◌*◌, List, length, take}
use Rattle.std.specs.List.{flat_map}
use Rattle.amr_plot.specs.declared.parts.Part.{Part}
use Rattle.amr_plot.specs.Texts.{AreTextsOfRuns, joined}
use Rattle.amr_plot.proofs.runs.join_runs.Given as goal

abbrev pub invariant-loop-run : goal.invariant-loop-run
invariant-loop-run l = (f : Part → List ℕ) (bs : List Part) (size : ℕ) → AreTextsOfRuns f bs size l.yielded → joined l.texts.items ≡ flat_map f (take (length l.yielded * size) bs)
