-- Masked faces, and what flows through the faces of a patch where sizes are handed in for those.
use Rattle.std.proofs.Common.{◌≡◌, ℕ, ◌<◌, Bool, true, false, ◌&&◌, ℤ, List, refl, ap, arith}
use Rattle.std.specs.Prelude.{not, cond, slice_index, slice_index_or}
use Rattle.std.proofs.lemmas.Int.{ints}
use Rattle.amr_box.specs.declared.Face.{Face}
use Rattle.amr_box.specs.declared.Axis.TheVariants.{X, Y}
use Rattle.amr_box.specs.Cells.{Extent, IsNear, cell, height, holds, width}
use Rattle.amr_def.specs.declared.problem.Problem.{Problem}
use Rattle.amr_def.specs.Flux.{face, courant, high_cell}
use Rattle.amr_patch.specs.declared.patches.Patch.{Patch}
use Rattle.amr_patch.specs.Places.{is_face_of, place}
use Rattle.amr_patch.specs.Patches.{box}
use Rattle.amr_patch.proofs.Rows.{is_inside, sides}
use Rattle.amr_faces.specs.Faces.{flux_beside, fluxes_by, is_masked, masked_place}
use Rattle.amr_faces.specs.Shares.{signed}
use Rattle.amr_faces.proofs.Places.{IsXFace, IsYFace}

-- ---- which faces are masked

pub beyond : (a b m : Bool) → a ≡ true → b ≡ false → (a && not b && m) ≡ m
beyond a b m e h = rw (e, h) refl

within_box : (a b m : Bool) → b ≡ true → (a && not b && m) ≡ false
within_box true b m h = rw h refl
within_box false b m h = refl

face_of : (a b m : Bool) → (a && not b && m) ≡ true → a ≡ true
face_of true b m e = refl
face_of false b m e = cc

module _ (b : Extent) (mask : List Bool) where
  pub masked_of_box : (f : Face) → is_masked b mask f ≡ true → is_face_of b f ≡ true
  unfolding is_masked
  masked_of_box f e = face_of (is_face_of b f) (holds b (high_cell f)) _ e

  -- no face with a cell of the box at its high side is
  pub held_unmasked : (f : Face) → holds b (high_cell f) ≡ true → is_masked b mask f ≡ false
  unfolding is_masked
  held_unmasked f e = within_box (is_face_of b f) (holds b (high_cell f)) _ e

  pub x_inner : (x y : ℤ) (i j : ℕ) → IsNear b → IsXFace b x y i j → i < width b → is_masked b mask (face X x y) ≡ false
  x_inner x y i j near f below =
      let s = sides b near in
      held_unmasked (face X x y)
      (is_inside b (cell x y) (record { west = omega (arith, ints, f.at.column); east = omega (arith, ints, f.at.column, s.wide, below); south = omega (arith, ints, f.at.row); north = omega (arith, ints, f.at.row, s.high, f.row) }))

  pub y_inner : (x y : ℤ) (i j : ℕ) → IsNear b → IsYFace b x y i j → j < height b → is_masked b mask (face Y x y) ≡ false
  y_inner x y i j near f below =
      let s = sides b near in
      held_unmasked (face Y x y)
      (is_inside b (cell x y) (record { west = omega (arith, ints, f.at.column); east = omega (arith, ints, f.at.column, s.wide, f.column); south = omega (arith, ints, f.at.row); north = omega (arith, ints, f.at.row, s.high, below) }))

-- ---- what flows through them

module _ (p : Problem) (l : ℕ) (q : Patch) (mask : List Bool) (border : List ℕ) (f : Face) where
  pub by_size : is_masked (box q) mask f ≡ true → fluxes_by p l q mask border f ≡ signed (courant p l f) (slice_index border (masked_place (box q) mask f))
  unfolding fluxes_by
  by_size e = ap (λ b. cond b (signed (courant p l f) (slice_index border (masked_place (box q) mask f))) (flux_beside p l q f)) e

  pub by_values : is_masked (box q) mask f ≡ false → fluxes_by p l q mask border f ≡ flux_beside p l q f
  unfolding fluxes_by
  by_values e = ap (λ b. cond b (signed (courant p l f) (slice_index border (masked_place (box q) mask f))) (flux_beside p l q f)) e
