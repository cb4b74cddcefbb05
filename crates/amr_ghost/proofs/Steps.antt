-- Cells of a box, of its frame and of its corners: which are apart.
use Rattle.std.proofs.Common.{◌≡◌, ◌≢◌, ℕ, Bool, true, false, ◌&&◌, ◌||◌, IsTrue, refl, ap, subst}
use Rattle.std.specs.Prelude.{not, ◌⊎◌}
use Rattle.std.proofs.Common.{inl, inr}
use Rattle.std.proofs.Math.IntN.{ℤ_discrete}
use Rattle.amr_box.specs.declared.Cell.{Cell}
use Rattle.amr_box.specs.Cells.{Extent, holds, within}
use Rattle.amr_box.proofs.CellEquality.{same_cells}
use Rattle.amr_patch.specs.declared.patches.Patch.{Patch}
use Rattle.amr_patch.specs.Places.{grown, in_frame}
use Rattle.amr_ghost.specs.Frames.{is_beside, is_corner}
use Rattle.amr_ghost.specs.GhostCells.{KeepsGhosts}

not_both : (a b : Bool) → IsTrue (a && not b) → IsTrue b → ⊥
not_both true true h k = cc
not_both true false h k = cc
not_both false b h k = cc

first_of_both : (a b : Bool) → IsTrue (a && not b) → IsTrue a
first_of_both true b h = refl
first_of_both false b h = h

-- a cell of the box is none of the frame
pub apart_cells : (b : Extent) (c d : Cell) → IsTrue (in_frame b c) → IsTrue (holds b d) → d ≢ c
apart_cells b c d ghost inside e = not_both (holds (grown b) c) (holds b c) ghost (subst (λ (t : Cell). IsTrue (holds b t)) e inside)

pub frame_grown : (b : Extent) (c : Cell) → IsTrue (in_frame b c) → IsTrue (holds (grown b) c)
frame_grown b c h = first_of_both (holds (grown b) c) (holds b c) h

-- a corner of the frame is no cell beside the box
pub corner_apart : (b : Extent) (c d : Cell) → IsTrue (is_beside b c) → IsTrue (is_corner b d) → d ≢ c
corner_apart b c d beside corner e = neither (in_frame b c) (within b.lo.x b.hi.x c.x || within b.lo.y b.hi.y c.y) beside (subst (λ (t : Cell). IsTrue (is_corner b t)) e corner)
  where
    neither : (f r : Bool) → IsTrue (f && r) → IsTrue (f && not r) → ⊥
    neither true true h k = cc
    neither true false h k = cc
    neither false r h k = cc

pub corner_grown : (b : Extent) (d : Cell) → IsTrue (is_corner b d) → IsTrue (holds (grown b) d)
corner_grown b d h = frame_grown b d (first_of_both (in_frame b d) (within b.lo.x b.hi.x d.x || within b.lo.y b.hi.y d.y) h)

-- a cell is another or it isn't
cell_parts : (c d : Cell) → Dec (d.x ≡ c.x) → Dec (d.y ≡ c.y) → (d ≡ c) ⊎ (d ≢ c)
cell_parts c d (yes e) (yes f) = inl (same_cells d c e f)
cell_parts c d (yes e) (no f) = inr (λ g. f (ap (λ (t : Cell). t.y) g))
cell_parts c d (no e) f = inr (λ g. e (ap (λ (t : Cell). t.x) g))

pub same_or_other : (c d : Cell) → (d ≡ c) ⊎ (d ≢ c)
same_or_other c d = cell_parts c d (ℤ_discrete d.x c.x) (ℤ_discrete d.y c.y)

pub ghosts_refl : (value : Cell → ℕ) (mark : Cell → Bool) (q : Patch) → KeepsGhosts value mark q q
ghosts_refl value mark q = record { at = λ c t h. h }
