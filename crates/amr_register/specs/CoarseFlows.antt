-- The part of a patch in a register: its plain flows through coarse-fine edges.
use Rattle.std.specs.Prelude.{ℕ, Bool, ◌&&◌, cond, ℤ, pos, ◌+ℤ◌, ◌-ℤ◌, List, [], ◌∷◌}
use Rattle.amr_box.specs.declared.Cell.{Cell}
use Rattle.amr_box.specs.declared.Face.{Face}
use Rattle.amr_box.specs.declared.Axis.{Axis}
use Rattle.amr_box.specs.declared.Axis.TheVariants.{X, Y}
use Rattle.amr_box.specs.Cells.{Extent, holds}
use Rattle.amr_def.specs.declared.problem.Problem.{Problem}
use Rattle.amr_def.specs.Domain.{Domain, domain, home_cell}
use Rattle.amr_def.specs.State.{Masses}
use Rattle.amr_def.specs.Flux.{Fluxes, face, flux_at, high_cell}
use Rattle.amr_patch.specs.declared.patches.Patch.{Patch}
use Rattle.amr_patch.specs.Patches.{box}
use Rattle.amr_faces.specs.Faces.{flux_beside}
use Rattle.amr_register.specs.declared.sides.CoveredSides.{CoveredSides}
use Rattle.amr_register.specs.RegisterCells.{is_coarse_fine}

-- the face at the low side of a cell
abbrev pub low_face : Axis → Cell → Face
low_face a c = face a c.x c.y

-- and at its high side
abbrev pub high_face : Axis → Cell → Face
high_face X c = face X (c.x +ℤ pos 1) c.y
high_face Y c = face Y c.x (c.y +ℤ pos 1)

-- the face that a face stands for: the one past the last cell of a periodic axis is the one before the first
abbrev pub home_face : Domain → Face → Face
home_face d f = low_face f.axis (home_cell d (high_cell f))

-- whether a box has the cell at the high side of a face. Of a face between two cells of a level, the patch with that box is
-- the owner. (profile)
abbrev pub has_high_cell : Domain → Extent → Face → Bool
has_high_cell d b f = holds b (home_cell d (high_cell f))

-- the flow through a face that a patch owns, by its values, if it counts; 0 through any other
abbrev pub owned_flow : Problem → ℕ → Patch → Bool → Face → ℤ
owned_flow p l q counts f = cond (counts && has_high_cell (domain p l) (box q) f) (flux_beside p l q (home_face (domain p l) f)) (pos 0)

-- the plain flows through the coarse-fine edges that a patch owns, and 0 through all other faces
unfoldable pub coarse_flows : Problem → ℕ → Masses → Patch → Fluxes
coarse_flows p l fine q f = owned_flow p l q (is_coarse_fine (domain p l) fine f) f

-- what comes into a cell by those through its edges on these sides
abbrev pub net_owned : Problem → ℕ → Patch → CoveredSides → Cell → ℤ
net_owned p l q s c =
    (owned_flow p l q s.west (low_face X c) -ℤ owned_flow p l q s.east (high_face X c))
    +ℤ (owned_flow p l q s.south (low_face Y c) -ℤ owned_flow p l q s.north (high_face Y c))

-- what patches give together
abbrev pub sum_over : (Patch → ℤ) → List Patch → ℤ
sum_over g [] = pos 0
sum_over g (q ∷ qs) = g q +ℤ sum_over g qs

-- the plain flows through all coarse-fine edges of a level with masses m, and 0 through all other faces
unfoldable pub edge_flows : Problem → ℕ → Masses → Masses → Masses → Fluxes
edge_flows p l m old fine f = cond (is_coarse_fine (domain p l) fine f) (flux_at p l m old f) (pos 0)
