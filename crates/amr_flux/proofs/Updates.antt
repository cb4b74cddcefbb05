-- What an update needs and gives, by the cells and faces of the patch.
use Rattle.std.proofs.Common.{◌≡◌, ℕ, ◌+◌, ◌*◌, ◌<◌, ◌≤◌, Bool, true, false, ℤ, pos, negsuc, ◌+ℤ◌, ◌-ℤ◌, ◌≤ℤ◌, List, length, refl, sym, ap, subst, ◌∙◌, arith}
use Rattle.std.specs.Prelude.{IsTrue, cond, not, slice_index, slice_index_or}
use Rattle.std.specs.Ordering.{int_eq}
use Rattle.std.proofs.lemmas.Bool.{and_parts, not-true}
use Rattle.std.proofs.lemmas.Int.{ints}
use Rattle.std.proofs.lemmas.Nat.{same_from_place}
use Rattle.amr_box.specs.declared.Cell.{Cell}
use Rattle.amr_box.specs.declared.Axis.{Axis}
use Rattle.amr_box.specs.declared.Axis.TheVariants.{X, Y}
use Rattle.amr_box.specs.Cells.{Extent, IsNear, at_least_zero, cell, extent, height, holds, width}
use Rattle.amr_def.specs.declared.problem.Problem.{Problem}
use Rattle.amr_def.specs.Flux.{Fluxes, face, net}
use Rattle.amr_patch.specs.declared.patches.Patch.{Patch}
use Rattle.amr_patch.specs.Places.{column_of, grown, in_frame, is_face_of, row_of}
use Rattle.amr_patch.specs.Patches.{flux_along, mass_in, value_in}
use Rattle.amr_patch.proofs.Rows.{inside, is_inside, sides, zero-cut}
use Rattle.amr_faces.specs.Faces.{fluxes_by, masked_faces}
use Rattle.amr_flux.specs.Tables.{IsOtherPlace, Stands, count_below, net_inflow, value, x_marked, x_through, y_marked, y_through}
use Rattle.amr_faces.proofs.Places.{IsFaceAt, offset}
use Rattle.amr_flux.proofs.Entries.{IsAt, high_at, value_here}
use Rattle.amr_flux.proofs.Given.{masked_count, x_given, y_given}

-- ---- faces by column and row

pub x_is_face : (b : Extent) (x y : ℤ) (i j : ℕ) → IsNear b → IsFaceAt b x y i j → i ≤ width b → j < height b → is_face_of b (face X x y) ≡ true
x_is_face b x y i j near at hi hj =
    let s = sides b near in
    is_inside (extent b.lo (cell (b.hi.x +ℤ pos 1) b.hi.y)) (cell x y) (record { west = omega (arith, ints, at.column); east = omega (arith, ints, at.column, s.wide, hi); south = omega (arith, ints, at.row); north = omega (arith, ints, at.row, s.high, hj) })

pub y_is_face : (b : Extent) (x y : ℤ) (i j : ℕ) → IsNear b → IsFaceAt b x y i j → i < width b → j ≤ height b → is_face_of b (face Y x y) ≡ true
y_is_face b x y i j near at hi hj =
    let s = sides b near in
    is_inside (extent b.lo (cell b.hi.x (b.hi.y +ℤ pos 1))) (cell x y) (record { west = omega (arith, ints, at.column); east = omega (arith, ints, at.column, s.wide, hi); south = omega (arith, ints, at.row); north = omega (arith, ints, at.row, s.high, hj) })

offset_is : (low z : ℤ) (i : ℕ) → pos i ≡ z -ℤ low → offset low z ≡ i
unfolding offset
offset_is low z i e = zero-cut (z -ℤ low) i e

face_at : (b : Extent) (i j : ℕ) → IsFaceAt b (b.lo.x +ℤ pos i) (b.lo.y +ℤ pos j) i j
face_at b i j = record { column = omega (arith, ints); row = omega (arith, ints) }

pub cell_face_at : (b : Extent) (c : Cell) → IsNear b → holds b c ≡ true → IsFaceAt b c.x c.y (offset b.lo.x c.x) (offset b.lo.y c.y)
unfolding offset
cell_face_at b c near e =
    let k = inside b c e in
    record { column = whole (c.x -ℤ b.lo.x) (omega (arith, ints, k.west)); row = whole (c.y -ℤ b.lo.y) (omega (arith, ints, k.south)) }
  where
    whole : (z : ℤ) → pos 0 ≤ℤ z → pos (at_least_zero z) ≡ z
    whole (pos n) p = refl
    whole (negsuc n) p = absurd (omega (arith, ints))

pub record IsCellOf (b : Extent) (c : Cell) (i j : ℕ) : Type 0 where
  pub at : IsFaceAt b c.x c.y i j
  pub column : i < width b
  pub row : j < height b

pub cell_of : (b : Extent) (c : Cell) → IsNear b → holds b c ≡ true → IsCellOf b c (offset b.lo.x c.x) (offset b.lo.y c.y)
cell_of b c near e =
    let at = cell_face_at b c near e in
    let k = inside b c e in
    let s = sides b near in
    record { at = at; column = omega (arith, ints, at.column, k.east, s.wide); row = omega (arith, ints, at.row, k.north, s.high) }

of_cell : (b : Extent) (i j : ℕ) → IsNear b → i < width b → j < height b → holds b (cell (b.lo.x +ℤ pos i) (b.lo.y +ℤ pos j)) ≡ true
of_cell b i j near hi hj =
    let s = sides b near in
    is_inside b (cell (b.lo.x +ℤ pos i) (b.lo.y +ℤ pos j)) (record { west = omega (arith, ints); east = omega (arith, ints, s.wide, hi); south = omega (arith, ints); north = omega (arith, ints, s.high, hj) })

mass_at : (q : Patch) (c : Cell) (i j : ℕ) → IsFaceAt q.bx c.x c.y i j → mass_in q c ≡ value (width q.bx) q.data.value.values.items (i + 1) (j + 1)
mass_at q c i j at = value_here q c (i + 1) (j + 1) (high_at q.bx c.x c.y i j at)

-- ---- the fluxes that an update uses

-- fluxes of the faces of a patch's cells, by column and row
pub record AreFluxes (q : Patch) (e : Fluxes) (xs ys : ℕ → ℕ → ℤ) : Type 0 where
  pub x : (x y : ℤ) (i j : ℕ) → IsFaceAt q.bx x y i j → i ≤ width q.bx → j < height q.bx → xs i j ≡ e (face X x y)
  pub y : (x y : ℤ) (i j : ℕ) → IsFaceAt q.bx x y i j → i < width q.bx → j ≤ height q.bx → ys i j ≡ e (face Y x y)

module _ (p : Problem) (l : ℕ) (q : Patch) (column row : ℕ) (s : Stands p l q.bx column row) where
  -- those of marked faces by the sizes handed in
  pub given_fluxes : (marks : List Bool) (border : List ℕ) → AreFluxes q (fluxes_by p l q marks border) (x_through p l row (width q.bx) marks border q.data.value.values.items) (y_through p l column (width q.bx) (height q.bx) marks border q.data.value.values.items)
  given_fluxes marks border = record {
    x = λ x y i j at hi hj.
        (λ t. x_through p l row (width q.bx) marks border q.data.value.values.items (sym (offset_is q.bx.lo.x x i at.column) t) (sym (offset_is q.bx.lo.y y j at.row) t))
        ∙ x_given p l q column row s marks border x y (x_is_face q.bx x y i j q.near at hi hj);
    y = λ x y i j at hi hj.
        (λ t. y_through p l column (width q.bx) (height q.bx) marks border q.data.value.values.items (sym (offset_is q.bx.lo.x x i at.column) t) (sym (offset_is q.bx.lo.y y j at.row) t))
        ∙ y_given p l q column row s marks border x y (y_is_face q.bx x y i j q.near at hi hj);
  }

module _ (q : Patch) (e : Fluxes) (xs ys : ℕ → ℕ → ℤ) (are : AreFluxes q e xs ys) where
  pub net_at : (c : Cell) (i j : ℕ) → IsFaceAt q.bx c.x c.y i j → i < width q.bx → j < height q.bx → net_inflow xs ys i j ≡ net e c
  unfolding net
  net_at c i j at hi hj =
      let west = are.x c.x c.y i j at (omega arith) hj in
      let east = are.x (c.x +ℤ pos 1) c.y (i + 1) j (record { column = omega (arith, ints, at.column); row = at.row }) (omega arith) hj in
      let south = are.y c.x c.y i j at hi (omega arith) in
      let north = are.y c.x (c.y +ℤ pos 1) i (j + 1) (record { column = at.column; row = omega (arith, ints, at.row) }) hi (omega arith) in
      λ t. (west t -ℤ east t) +ℤ (south t -ℤ north t)

  -- a fact on the new mass of each cell, by column and row
  pub each_at : (P : ℤ → Type 0) → ((c : Cell) → IsTrue (holds q.bx c) → P (pos (mass_in q c) +ℤ net e c)) → (i j : ℕ) → i < width q.bx → j < height q.bx → P (pos (value (width q.bx) q.data.value.values.items (i + 1) (j + 1)) +ℤ net_inflow xs ys i j)
  each_at P each i j hi hj =
      let c = cell (q.bx.lo.x +ℤ pos i) (q.bx.lo.y +ℤ pos j) in
      let f = face_at q.bx i j in
      subst P (λ t. pos (mass_at q c i j f t) +ℤ sym (net_at c i j f hi hj) t) (each c (of_cell q.bx i j q.near hi hj))

  -- the new values
  module _ (new : Patch) (same : new.bx ≡ q.bx) (vs : List ℕ) (vs_is : new.data.value.values.items ≡ vs) where
    new_value : (c : Cell) (i j : ℕ) → IsAt q.bx c i j → value_in new c ≡ value (width q.bx) vs i j
    new_value c i j at =
        let P : Extent → Type 0 = λ b. IsAt b c i j in
        value_here new c i j (subst P (sym same) at) ∙ (λ t. value (width (same t)) (vs_is t) i j)

    pub masses_are : ((i j : ℕ) → i < width q.bx → j < height q.bx → pos (value (width q.bx) vs (i + 1) (j + 1)) ≡ pos (value (width q.bx) q.data.value.values.items (i + 1) (j + 1)) +ℤ net_inflow xs ys i j) → (c : Cell) → IsTrue (holds q.bx c) → pos (mass_in new c) ≡ pos (mass_in q c) +ℤ net e c
    masses_are made c h =
        let k = cell_of q.bx c q.near h in
        let i = offset q.bx.lo.x c.x in
        let j = offset q.bx.lo.y c.y in
        ap pos (new_value c (i + 1) (j + 1) (high_at q.bx c.x c.y i j k.at)) ∙ made i j k.column k.row
        ∙ (λ t. pos (sym (mass_at q c i j k.at) t) +ℤ net_at c i j k.at k.column k.row t)

-- ---- what stays

other_place : (b : Extent) (c : Cell) (i j : ℕ) → IsNear b → IsAt b c i j → i < width b + 2 → holds b c ≡ false → IsOtherPlace (width b) (height b) (j * (width b + 2) + i)
other_place b c i j near at narrow out i' j' hi hj e =
    let same = same_from_place j i (j' + 1) (i' + 1) (width b + 2) narrow (omega arith) e in
    let s = sides b near in
    let x : pos (i' + 1) ≡ c.x -ℤ (b.lo.x -ℤ pos 1) = ap pos (sym same.1) ∙ at.x in
    let y : pos (j' + 1) ≡ c.y -ℤ (b.lo.y -ℤ pos 1) = ap pos (sym same.0) ∙ at.y in
    let in_box : holds b c ≡ true = is_inside b c (record { west = omega (arith, ints, x); east = omega (arith, ints, x, s.wide, hi); south = omega (arith, ints, y); north = omega (arith, ints, y, s.high, hj) }) in
    let wrong : true ≡ false = sym in_box ∙ out in
    cc

pub whole : (z : ℤ) → pos 0 ≤ℤ z → pos (at_least_zero z) ≡ z
whole (pos n) p = refl
whole (negsuc n) p = absurd (omega (arith, ints))

-- where a cell of the grown box stands
grown_at : (b : Extent) (c : Cell) → holds (grown b) c ≡ true → IsAt b c (at_least_zero (c.x -ℤ (b.lo.x -ℤ pos 1))) (at_least_zero (c.y -ℤ (b.lo.y -ℤ pos 1)))
grown_at b c e =
    let k = inside (grown b) c e in
    let west : (b.lo.x -ℤ pos 1) ≤ℤ c.x = k.west in
    let south : (b.lo.y -ℤ pos 1) ≤ℤ c.y = k.south in
    record { x = whole (c.x -ℤ (b.lo.x -ℤ pos 1)) (omega (arith, ints, west)); y = whole (c.y -ℤ (b.lo.y -ℤ pos 1)) (omega (arith, ints, south)) }

pub frame_stays : (q new : Patch) (vs : List ℕ) → new.bx ≡ q.bx → new.data.value.values.items ≡ vs → ((k : ℕ) → IsOtherPlace (width q.bx) (height q.bx) k → slice_index vs k ≡ slice_index q.data.value.values.items k) → (c : Cell) → IsTrue (in_frame q.bx c) → value_in new c ≡ value_in q c
frame_stays q new vs same vs_is others c e =
    let parts = and_parts (holds (grown q.bx) c) (not (holds q.bx c)) e in
    let i = at_least_zero (c.x -ℤ (q.bx.lo.x -ℤ pos 1)) in
    let j = at_least_zero (c.y -ℤ (q.bx.lo.y -ℤ pos 1)) in
    let at = grown_at q.bx c parts.0 in
    let k = inside (grown q.bx) c parts.0 in
    let east : c.x ≤ℤ (q.bx.hi.x +ℤ pos 1) = k.east in
    let s = sides q.bx q.near in
    let narrow : i < width q.bx + 2 = omega (arith, ints, at.x, east, s.wide) in
    let P : Extent → Type 0 = λ b. IsAt b c i j in
    value_here new c i j (subst P (sym same) at) ∙ (λ t. value (width (same t)) (vs_is t) i j)
    ∙ others (j * (width q.bx + 2) + i) (other_place q.bx c i j q.near at narrow (not-true (holds q.bx c) parts.1)) ∙ sym (value_here q c i j at)

-- ---- by what calls were handed

pub moved : (P : ℕ → ℕ → ℕ → List ℕ → List Bool → Type 0) {l l' w w' h h' : ℕ} {v v' : List ℕ} {m m' : List Bool} → l ≡ l' → w ≡ w' → h ≡ h' → v ≡ v' → m ≡ m' → P l w h v m → P l' w' h' v' m'
moved P {l = l} {l' = l'} {w = w} {w' = w'} {h = h} {h' = h'} {v = v} {v' = v'} {m = m} {m' = m'} el ew eh ev em has =
    let A : ℕ → Type 0 = λ n. P n w h v m in
    let B : ℕ → Type 0 = λ n. P l' n h v m in
    let C : ℕ → Type 0 = λ n. P l' w' n v m in
    let D : List ℕ → Type 0 = λ n. P l' w' h' n m in
    let E : List Bool → Type 0 = λ n. P l' w' h' v' n in
    subst E em (subst D ev (subst C eh (subst B ew (subst A el has))))

pub enough : (q : Patch) (marks : List Bool) (border : List ℕ) → length border ≡ length (masked_faces q.bx marks) → count_below (x_marked (width q.bx) marks) (height q.bx) + count_below (y_marked (width q.bx) (height q.bx) marks) (width q.bx) ≤ length border
enough q marks border count = omega (arith, count, masked_count q marks)

-- a patch that keeps its box and the lists of its edges has the fluxes of before
pub same_along : (q r : Patch) (a : Axis) (c : Cell) → r.bx ≡ q.bx → r.data.value.x_low.items ≡ q.data.value.x_low.items → r.data.value.x_high.items ≡ q.data.value.x_high.items → r.data.value.y_low.items ≡ q.data.value.y_low.items → r.data.value.y_high.items ≡ q.data.value.y_high.items → flux_along a r c ≡ flux_along a q c
same_along q r X c eb west east south north = λ i. cond (int_eq c.x (eb i).lo.x) (slice_index_or (west i) (row_of (eb i) c) (pos 0)) (slice_index_or (east i) (row_of (eb i) c) (pos 0))
same_along q r Y c eb west east south north = λ i. cond (int_eq c.y (eb i).lo.y) (slice_index_or (south i) (column_of (eb i) c) (pos 0)) (slice_index_or (north i) (column_of (eb i) c) (pos 0))
