-- The patches of a level while their frames are filled: they stay a level, and the values of its cells stay.
use Rattle.std.proofs.Common.{ℕ, ◌<◌, ◌≤◌, List, [], ◌∷◌, length, arith}
use Rattle.amr_box.specs.declared.Axis.{Axis}
use Rattle.amr_box.specs.declared.Axis.TheVariants.{X, Y}
use Rattle.amr_def.specs.declared.problem.Problem.{Problem}
use Rattle.amr_def.specs.Domain.{domain}
use Rattle.amr_def.proofs.Sizes.{doubled_small}
use Rattle.amr_patch.specs.declared.patches.Patch.{Patch}
use Rattle.amr_ghost.specs.GhostCells.{size_along}

-- a list that has a place has a patch
pub some_patch : (ps : List Patch) (i : ℕ) → i < length ps → Patch
some_patch [] i h = absurd (omega arith)
some_patch (p ∷ ps) i h = p

-- an axis of a level has at most 4096 cells
pub few_along : (p : Problem) (l : ℕ) (axis : Axis) → l ≤ 4 → size_along axis (domain p l) ≤ 4096
few_along p l X h = doubled_small p.nx l p.limits.greatest_nx h
few_along p l Y h = doubled_small p.ny l p.limits.greatest_ny h
