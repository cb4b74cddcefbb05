-- The row or column of a face of a box in a domain, and its Courant number.
use Rattle.std.proofs.Common.{◌≡◌, ℕ, ◌*◌, ◌<◌, ◌≤◌, true, ℤ, pos, ◌≤ℤ◌, ◌<ℤ◌, sym, ap, ◌∙◌, arith}
use Rattle.std.specs.Prelude.{unsigned_abs}
use Rattle.std.proofs.lemmas.Int.{ints}
use Rattle.std.proofs.Math.Nat.{mul-le-mul_right}
use Rattle.amr_box.specs.declared.Face.{Face}
use Rattle.amr_box.specs.declared.Axis.{Axis}
use Rattle.amr_box.specs.declared.Axis.TheVariants.{X, Y}
use Rattle.amr_box.specs.Cells.{Extent, IsNear, cell}
use Rattle.amr_def.specs.declared.problem.Problem.{Problem}
use Rattle.amr_def.specs.Domain.{columns, domain, home_cell, is_periodic, rows, wrapped}
use Rattle.amr_def.specs.Flux.{at_base, courant, courant_in, high_cell, number_for}
use Rattle.amr_def.proofs.Flows.{wrapped_inside}
use Rattle.amr_patch.specs.Places.{is_face_of, on_box}
use Rattle.amr_faces.specs.Faces.{IsInDomain}
use Rattle.amr_faces.specs.Numbers.{x_number, y_number}
use Rattle.amr_faces.proofs.Places.{around, corner}

pub product_fits : (c : ℤ) (d v : ℕ) → d ≤ 1024 → unsigned_abs c ≤ d → unsigned_abs c * v ≤ 1024 * v
product_fits c d v few slow = mul-le-mul_right v (omega (arith, few, slow))

-- a coordinate counts rows or columns from 0
pub record IsCounted (z : ℤ) (count : ℕ) : Type 0 where
  pub low : pos 0 ≤ℤ z
  pub high : z <ℤ pos count

module _ (p : Problem) (l : ℕ) (b : Extent) (f : Face) (near : IsNear b) (lies : IsInDomain (domain p l) b) (face : is_face_of b f ≡ true) where
  pub face_row : f.axis ≡ X → IsCounted f.y (rows p l)
  face_row e =
      let k = around X b (cell f.x f.y) (ap (λ (a : Axis). on_box a b (cell f.x f.y)) (sym e) ∙ face) in
      let d = corner p l b near lies in
      let south : b.lo.y ≤ℤ f.y = k.south in
      let north : f.y ≤ℤ b.hi.y = k.north in
      record { low = omega (arith, ints, south, d.south); high = omega (arith, ints, north, d.north) }

  pub face_column : f.axis ≡ Y → IsCounted f.x (columns p l)
  face_column e =
      let k = around Y b (cell f.x f.y) (ap (λ (a : Axis). on_box a b (cell f.x f.y)) (sym e) ∙ face) in
      let d = corner p l b near lies in
      let west : b.lo.x ≤ℤ f.x = k.west in
      let east : f.x ≤ℤ b.hi.x = k.east in
      record { low = omega (arith, ints, west, d.west); high = omega (arith, ints, east, d.east) }

module _ (p : Problem) (l : ℕ) (f : Face) (n : ℕ) where
  pub courant_of_row : f.axis ≡ X → f.y ≡ pos n → n < rows p l → courant p l f ≡ x_number p l n
  unfolding courant
  courant_of_row ea ey below =
      ap (λ (a : Axis). courant_in p l a (home_cell (domain p l) (high_cell f))) ea
      ∙ ap (λ z. number_for p.cx p.shear_x (at_base l (wrapped (is_periodic p.y_sides) (rows p l) z))) ey
      ∙ ap (λ z. number_for p.cx p.shear_x (at_base l z)) (wrapped_inside (is_periodic p.y_sides) (rows p l) n below)

  pub courant_of_column : f.axis ≡ Y → f.x ≡ pos n → n < columns p l → courant p l f ≡ y_number p l n
  unfolding courant
  courant_of_column ea ex below =
      ap (λ (a : Axis). courant_in p l a (home_cell (domain p l) (high_cell f))) ea
      ∙ ap (λ z. number_for p.cy p.shear_y (at_base l (wrapped (is_periodic p.x_sides) (columns p l) z))) ex
      ∙ ap (λ z. number_for p.cy p.shear_y (at_base l z)) (wrapped_inside (is_periodic p.x_sides) (columns p l) n below)
