-- A step of all patches of a level.
use Rattle.std.proofs.Common.{◌≡◌, false, List, subst}
use Rattle.amr_patch.specs.declared.patches.Patch.{Patch}
use Rattle.amr_advance.specs.declared.level.StepInput.{StepInput}
use Rattle.amr_advance.specs.Steps.{AreFramed, MayMakeStep, all_around, around_of, coarser_masses, whole_of}

pub whole_is : (g : StepInput) (qs : List Patch) → MayMakeStep g qs → g.filled ≡ false → whole_of g ≡ qs
whole_is g qs step unfilled = subst (λ b. AreFramed b (around_of g qs) (coarser_masses g)) unfilled step.level.framed

pub around_is : (g : StepInput) (qs : List Patch) → whole_of g ≡ qs → g.filled ≡ false → around_of g qs ≡ all_around g qs
around_is g qs whole unfilled = λ i. record { problem = g.problem.now; level = g.level; patches = qs; whole = whole i; filled = unfilled i; cells = g.cells.now; finer = (all_around g qs).finer }
