-- The faces of a patch, what flows through them by its values, and in which order fluxes that are handed in stand.
use Rattle.std.specs.Prelude.{◌≡◌, ℕ, zero, suc, ◌+◌, Bool, false, ◌&&◌, ◌||◌, not, cond, ℤ, pos, ◌+ℤ◌, ◌-ℤ◌}
use Rattle.std.specs.Prelude.{List, [], ◌∷◌, ◌++◌, length, slice_index, slice_index_or, IsTrue}
use Rattle.amr_box.specs.declared.Cell.{Cell}
use Rattle.amr_box.specs.declared.Face.{Face}
use Rattle.amr_box.specs.declared.Axis.{Axis}
use Rattle.amr_box.specs.declared.Axis.TheVariants.{X, Y}
use Rattle.amr_box.specs.Cells.{Extent, at_least_zero, height, holds, width, within}
use Rattle.amr_def.specs.declared.problem.Problem.{Problem}
use Rattle.amr_def.specs.Domain.{Domain, in_domain}
use Rattle.amr_def.specs.State.{Masses}
use Rattle.amr_def.specs.Value.{value_at}
use Rattle.amr_def.specs.Flux.{Fluxes, courant, face, flow, high_cell, low_cell}
use Rattle.amr_patch.specs.declared.patches.Patch.{Patch}
use Rattle.amr_patch.specs.Places.{grown, is_face_of, place}
use Rattle.amr_patch.specs.Patches.{box, value_in}
use Rattle.amr_faces.specs.Shares.{signed}

-- all cells of a box are cells of a domain
pub record IsInDomain (d : Domain) (b : Extent) : Type 0 where
  pub at : (c : Cell) → IsTrue (holds b c) → IsTrue (in_domain d c)

-- whether a cell is of the box, or of the frame beside it: not a corner of the frame
abbrev pub in_reach : Extent → Cell → Bool
in_reach b c = holds (grown b) c && (within b.lo.x b.hi.x c.x || within b.lo.y b.hi.y c.y)

-- ---- fluxes

-- what flows through a face by the values that the patch has on its two sides
unfoldable pub flux_beside : Problem → ℕ → Patch → Face → ℤ
flux_beside p l q f = flow (courant p l f) p.d (value_in q (low_cell f)) (value_in q (high_cell f))

-- the patch has the value of each cell of a level in reach: of masses m, with the coarser masses `old`
pub record ShowsValues (p : Problem) (l : ℕ) (m old : Masses) (q : Patch) : Type 0 where
  pub at : (c : Cell) → IsTrue (in_reach (box q) c) → value_in q c ≡ value_at p l m old c

-- ---- faces at the high side that a mask tells

-- the x face beyond the last cell of row j of a box, and the y face beyond the last cell of column i
abbrev pub x_end : Extent → ℕ → Face
x_end b j = face X (b.hi.x +ℤ pos 1) (b.lo.y +ℤ pos j)

abbrev pub y_end : Extent → ℕ → Face
y_end b i = face Y (b.lo.x +ℤ pos i) (b.hi.y +ℤ pos 1)

-- those of the faces f 0 to f (n - 1) that pass a test
abbrev pub passing : (Face → Bool) → (ℕ → Face) → ℕ → List Face
passing test f zero = []
passing test f (suc n) = passing test f n ++ cond (test (f n)) (f n ∷ []) []

-- whether a face is one at the high side of a box's cells where a mask tells the cell beyond it. The mask has an entry for each cell of the
-- grown box, as the marks of a patch; past its end it tells none.
unfoldable pub is_masked : Extent → List Bool → Face → Bool
is_masked b mask f = is_face_of b f && not (holds b (high_cell f)) && slice_index_or mask (place b (high_cell f)) false

-- these faces: first the x faces by y, then the y faces by x
unfoldable pub masked_faces : Extent → List Bool → List Face
masked_faces b mask = passing (is_masked b mask) (x_end b) (height b) ++ passing (is_masked b mask) (y_end b) (width b)

-- how many of them come before a face
abbrev pub masked_along : Axis → Extent → List Bool → Face → ℕ
masked_along X b mask f = length (passing (is_masked b mask) (x_end b) (at_least_zero (f.y -ℤ b.lo.y)))
masked_along Y b mask f =
    length (passing (is_masked b mask) (x_end b) (height b)) + length (passing (is_masked b mask) (y_end b) (at_least_zero (f.x -ℤ b.lo.x)))

unfoldable pub masked_place : Extent → List Bool → Face → ℕ
masked_place b mask f = masked_along f.axis b mask f

-- the fluxes through the faces of a patch's cells: those of masked faces by the sizes handed in, all others by the values
unfoldable pub fluxes_by : Problem → ℕ → Patch → List Bool → List ℕ → Fluxes
fluxes_by p l q mask border f =
    cond (is_masked (box q) mask f) (signed (courant p l f) (slice_index border (masked_place (box q) mask f))) (flux_beside p l q f)
