-- What a sweep's lists say of the faces on a patch's edges.
use Rattle.std.proofs.Common.{◌≡◌, ℕ, ◌<◌, Bool, true, false, ℤ, pos, ◌+ℤ◌, List, refl, sym, ap, subst, ◌∙◌, arith}
use Rattle.std.specs.Prelude.{IsTrue, cond, slice_index_or}
use Rattle.std.specs.Ordering.{int_eq}
use Rattle.std.proofs.lemmas.Int.{ints}
use Rattle.amr_box.specs.declared.Face.{Face}
use Rattle.amr_box.specs.declared.Axis.{Axis}
use Rattle.amr_box.specs.declared.Axis.TheVariants.{X, Y}
use Rattle.amr_box.specs.Cells.{Extent, cell, height, width}
use Rattle.amr_box.proofs.CellEquality.{same_number}
use Rattle.amr_def.specs.declared.problem.Problem.{Problem}
use Rattle.amr_def.specs.Flux.{face}
use Rattle.amr_patch.specs.declared.patches.Patch.{Patch}
use Rattle.amr_patch.specs.Places.{is_edge_face}
use Rattle.amr_patch.specs.Patches.{box, flux_in}
use Rattle.amr_patch.proofs.Edges.{at_high, x_edge, y_edge}
use Rattle.amr_patch.proofs.Rows.{sides}
use Rattle.amr_faces.specs.Faces.{flux_beside}
use Rattle.amr_flux.specs.declared.fluxes.PatchSides.{PatchSides}
use Rattle.amr_flux.specs.PatchSides.{east, includes, north, side_along, side_of, south, west}
use Rattle.amr_flux.specs.Tables.{Stands, x_flux, y_flux}
use Rattle.amr_faces.proofs.EdgeFaces.{edge_face}
use Rattle.amr_faces.proofs.Places.{IsFaceAt, IsXFace, IsYFace, offset, x_face_at, y_face_at}
use Rattle.amr_flux.proofs.Entries.{x_high_here, x_low_here, y_high_here, y_low_here}
use Rattle.amr_flux.proofs.Owned.{x_beside, y_beside}

-- a face at an end of a row or a column has the entry of its edge
module _ (p : Problem) (l : ℕ) (q new : Patch) (column row : ℕ) (s : Stands p l q.bx column row) (same : new.bx ≡ q.bx) where
  there : (x y : ℤ) (i j : ℕ) → IsFaceAt q.bx x y i j → IsFaceAt new.bx x y i j
  there x y i j at = let P : Extent → Type 0 = λ b. IsFaceAt b x y i j in subst P (sym same) at

  x_low_is : (x y : ℤ) (i j : ℕ) → IsXFace q.bx x y i j → x ≡ q.bx.lo.x → slice_index_or new.data.value.x_low.items j (pos 0) ≡ x_flux p l row (width q.bx) q.data.value.values.items 0 j → flux_in new (face X x y) ≡ flux_beside p l q (face X x y)
  x_low_is x y i j f e is =
      let first : i ≡ 0 = omega (arith, ints, f.at.column, e) in
      x_low_here new x y i j (there x y i j f.at) (e ∙ ap (λ (b : Extent). b.lo.x) (sym same)) ∙ is ∙ ap (λ n. x_flux p l row (width q.bx) q.data.value.values.items n j) (sym first) ∙ x_beside p l q column row s x y i j f.at f.row

  x_high_is : (x y : ℤ) (i j : ℕ) → IsXFace q.bx x y i j → x ≡ q.bx.hi.x +ℤ pos 1 → slice_index_or new.data.value.x_high.items j (pos 0) ≡ x_flux p l row (width q.bx) q.data.value.values.items (width q.bx) j → flux_in new (face X x y) ≡ flux_beside p l q (face X x y)
  x_high_is x y i j f e is =
      let wide = (sides q.bx q.near).wide in
      let last : i ≡ width q.bx = omega (arith, ints, f.at.column, e, wide) in
      x_high_here new x y i j (there x y i j f.at) (e ∙ ap (λ (b : Extent). b.hi.x +ℤ pos 1) (sym same)) ∙ is ∙ ap (λ n. x_flux p l row (width q.bx) q.data.value.values.items n j) (sym last) ∙ x_beside p l q column row s x y i j f.at f.row

  y_low_is : (x y : ℤ) (i j : ℕ) → IsYFace q.bx x y i j → y ≡ q.bx.lo.y → slice_index_or new.data.value.y_low.items i (pos 0) ≡ y_flux p l column (width q.bx) q.data.value.values.items i 0 → flux_in new (face Y x y) ≡ flux_beside p l q (face Y x y)
  y_low_is x y i j f e is =
      let first : j ≡ 0 = omega (arith, ints, f.at.row, e) in
      y_low_here new x y i j (there x y i j f.at) (e ∙ ap (λ (b : Extent). b.lo.y) (sym same)) ∙ is ∙ ap (λ n. y_flux p l column (width q.bx) q.data.value.values.items i n) (sym first) ∙ y_beside p l q column row s x y i j f.at f.column

  y_high_is : (x y : ℤ) (i j : ℕ) → IsYFace q.bx x y i j → y ≡ q.bx.hi.y +ℤ pos 1 → slice_index_or new.data.value.y_high.items i (pos 0) ≡ y_flux p l column (width q.bx) q.data.value.values.items i (height q.bx) → flux_in new (face Y x y) ≡ flux_beside p l q (face Y x y)
  y_high_is x y i j f e is =
      let high = (sides q.bx q.near).high in
      let last : j ≡ height q.bx = omega (arith, ints, f.at.row, e, high) in
      y_high_here new x y i j (there x y i j f.at) (e ∙ ap (λ (b : Extent). b.hi.y +ℤ pos 1) (sym same)) ∙ is ∙ ap (λ n. y_flux p l column (width q.bx) q.data.value.values.items i n) (sym last) ∙ y_beside p l q column row s x y i j f.at f.column

-- the lists of a patch's edges after a sweep: those of the sides that are wanted have the fluxes by the values, the others are as before
pub record AreSwept (p : Problem) (l : ℕ) (q : Patch) (column row : ℕ) (sides : PatchSides) (west_list east_list south_list north_list : List ℤ) : Type 0 where
  pub x_low : sides.x_low ≡ true → (j : ℕ) → j < height q.bx → slice_index_or west_list j (pos 0) ≡ x_flux p l row (width q.bx) q.data.value.values.items 0 j
  pub x_high : sides.x_high ≡ true → (j : ℕ) → j < height q.bx → slice_index_or east_list j (pos 0) ≡ x_flux p l row (width q.bx) q.data.value.values.items (width q.bx) j
  pub y_low : sides.y_low ≡ true → (i : ℕ) → i < width q.bx → slice_index_or south_list i (pos 0) ≡ y_flux p l column (width q.bx) q.data.value.values.items i 0
  pub y_high : sides.y_high ≡ true → (i : ℕ) → i < width q.bx → slice_index_or north_list i (pos 0) ≡ y_flux p l column (width q.bx) q.data.value.values.items i (height q.bx)
  pub x_low_stays : sides.x_low ≡ false → west_list ≡ q.data.value.x_low.items
  pub x_high_stays : sides.x_high ≡ false → east_list ≡ q.data.value.x_high.items
  pub y_low_stays : sides.y_low ≡ false → south_list ≡ q.data.value.y_low.items
  pub y_high_stays : sides.y_high ≡ false → north_list ≡ q.data.value.y_high.items

pub swept_lists : (p : Problem) (l : ℕ) (q : Patch) (column row : ℕ) (wanted : PatchSides) {w w' e e' s s' n n' : List ℤ} → w' ≡ w → e' ≡ e → s' ≡ s → n' ≡ n → AreSwept p l q column row wanted w e s n → AreSwept p l q column row wanted w' e' s' n'
swept_lists p l q column row wanted is_w is_e is_s is_n lists = record {
  x_low = λ has j h. ap (λ es. slice_index_or es j (pos 0)) is_w ∙ lists.x_low has j h;
  x_high = λ has j h. ap (λ es. slice_index_or es j (pos 0)) is_e ∙ lists.x_high has j h;
  y_low = λ has i h. ap (λ es. slice_index_or es i (pos 0)) is_s ∙ lists.y_low has i h;
  y_high = λ has i h. ap (λ es. slice_index_or es i (pos 0)) is_n ∙ lists.y_high has i h;
  x_low_stays = λ unwanted. is_w ∙ lists.x_low_stays unwanted;
  x_high_stays = λ unwanted. is_e ∙ lists.x_high_stays unwanted;
  y_low_stays = λ unwanted. is_s ∙ lists.y_low_stays unwanted;
  y_high_stays = λ unwanted. is_n ∙ lists.y_high_stays unwanted;
}

module _ (p : Problem) (l : ℕ) (q new : Patch) (column row : ℕ) (s : Stands p l q.bx column row) (same : new.bx ≡ q.bx) (wanted : PatchSides)
    (lists : AreSwept p l q column row wanted new.data.value.x_low.items new.data.value.x_high.items new.data.value.y_low.items new.data.value.y_high.items) where
  -- faces at the low side (at is true) or at the high side
  x_swept : (x y : ℤ) → is_edge_face q.bx (face X x y) ≡ true → (at : Bool) → int_eq x q.bx.lo.x ≡ at → includes wanted (cond at west east) ≡ true → flux_in new (face X x y) ≡ flux_beside p l q (face X x y)
  x_swept x y e true is has =
      let f = x_face_at q.bx x y q.near (edge_face q.bx X x y q.near e) in
      x_low_is p l q new column row s same x y _ _ f (same_number x q.bx.lo.x is) (lists.x_low has _ f.row)
  x_swept x y e false is has =
      let f = x_face_at q.bx x y q.near (edge_face q.bx X x y q.near e) in
      x_high_is p l q new column row s same x y _ _ f (at_high q.bx.lo.x q.bx.hi.x x (x_edge q.bx (cell x y) e).ends is) (lists.x_high has _ f.row)

  y_swept : (x y : ℤ) → is_edge_face q.bx (face Y x y) ≡ true → (at : Bool) → int_eq y q.bx.lo.y ≡ at → includes wanted (cond at south north) ≡ true → flux_in new (face Y x y) ≡ flux_beside p l q (face Y x y)
  y_swept x y e true is has =
      let f = y_face_at q.bx x y q.near (edge_face q.bx Y x y q.near e) in
      y_low_is p l q new column row s same x y _ _ f (same_number y q.bx.lo.y is) (lists.y_low has _ f.column)
  y_swept x y e false is has =
      let f = y_face_at q.bx x y q.near (edge_face q.bx Y x y q.near e) in
      y_high_is p l q new column row s same x y _ _ f (at_high q.bx.lo.y q.bx.hi.y y (y_edge q.bx (cell x y) e).ends is) (lists.y_high has _ f.column)

  swept_by : (a : Axis) (x y : ℤ) → is_edge_face q.bx (face a x y) ≡ true → includes wanted (side_along a q.bx (face a x y)) ≡ true → flux_in new (face a x y) ≡ flux_beside p l q (face a x y)
  swept_by X x y e has = x_swept x y e (int_eq x q.bx.lo.x) refl has
  swept_by Y x y e has = y_swept x y e (int_eq y q.bx.lo.y) refl has

  pub swept : (f : Face) → IsTrue (is_edge_face (box q) f) → includes wanted (side_of (box q) f) ≡ true → flux_in new f ≡ flux_beside p l q f
  swept f e has = swept_by f.axis f.x f.y e has

  x_stays : (x y : ℤ) → is_edge_face q.bx (face X x y) ≡ true → (at : Bool) → int_eq x q.bx.lo.x ≡ at → includes wanted (cond at west east) ≡ false → flux_in new (face X x y) ≡ flux_in q (face X x y)
  x_stays x y e true is unwanted =
      let f = x_face_at q.bx x y q.near (edge_face q.bx X x y q.near e) in
      let low = same_number x q.bx.lo.x is in
      x_low_here new x y _ _ (there p l q new column row s same x y _ _ f.at) (low ∙ ap (λ (b : Extent). b.lo.x) (sym same))
      ∙ ap (λ es. slice_index_or es (offset q.bx.lo.y y) (pos 0)) (lists.x_low_stays unwanted) ∙ sym (x_low_here q x y _ _ f.at low)
  x_stays x y e false is unwanted =
      let f = x_face_at q.bx x y q.near (edge_face q.bx X x y q.near e) in
      let high = at_high q.bx.lo.x q.bx.hi.x x (x_edge q.bx (cell x y) e).ends is in
      x_high_here new x y _ _ (there p l q new column row s same x y _ _ f.at) (high ∙ ap (λ (b : Extent). b.hi.x +ℤ pos 1) (sym same))
      ∙ ap (λ es. slice_index_or es (offset q.bx.lo.y y) (pos 0)) (lists.x_high_stays unwanted) ∙ sym (x_high_here q x y _ _ f.at high)

  y_stays : (x y : ℤ) → is_edge_face q.bx (face Y x y) ≡ true → (at : Bool) → int_eq y q.bx.lo.y ≡ at → includes wanted (cond at south north) ≡ false → flux_in new (face Y x y) ≡ flux_in q (face Y x y)
  y_stays x y e true is unwanted =
      let f = y_face_at q.bx x y q.near (edge_face q.bx Y x y q.near e) in
      let low = same_number y q.bx.lo.y is in
      y_low_here new x y _ _ (there p l q new column row s same x y _ _ f.at) (low ∙ ap (λ (b : Extent). b.lo.y) (sym same))
      ∙ ap (λ es. slice_index_or es (offset q.bx.lo.x x) (pos 0)) (lists.y_low_stays unwanted) ∙ sym (y_low_here q x y _ _ f.at low)
  y_stays x y e false is unwanted =
      let f = y_face_at q.bx x y q.near (edge_face q.bx Y x y q.near e) in
      let high = at_high q.bx.lo.y q.bx.hi.y y (y_edge q.bx (cell x y) e).ends is in
      y_high_here new x y _ _ (there p l q new column row s same x y _ _ f.at) (high ∙ ap (λ (b : Extent). b.hi.y +ℤ pos 1) (sym same))
      ∙ ap (λ es. slice_index_or es (offset q.bx.lo.x x) (pos 0)) (lists.y_high_stays unwanted) ∙ sym (y_high_here q x y _ _ f.at high)

  stays_by : (a : Axis) (x y : ℤ) → is_edge_face q.bx (face a x y) ≡ true → includes wanted (side_along a q.bx (face a x y)) ≡ false → flux_in new (face a x y) ≡ flux_in q (face a x y)
  stays_by X x y e unwanted = x_stays x y e (int_eq x q.bx.lo.x) refl unwanted
  stays_by Y x y e unwanted = y_stays x y e (int_eq y q.bx.lo.y) refl unwanted

  pub others_stay : (f : Face) → IsTrue (is_edge_face (box q) f) → includes wanted (side_of (box q) f) ≡ false → flux_in new f ≡ flux_in q f
  others_stay f e unwanted = stays_by f.axis f.x f.y e unwanted
