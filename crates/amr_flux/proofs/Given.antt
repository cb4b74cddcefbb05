-- The fluxes through the faces of a patch, where sizes are handed in for those that marks tell.
use Rattle.std.proofs.Common.{◌≡◌, ℕ, zero, suc, ◌+◌, ◌<◌, ◌≤◌, ◌⊎◌, inl, inr, Bool, true, false, ℤ, pos, ◌+ℤ◌, List, [], ◌∷◌, length, length-append, refl, sym, ap, ◌∙◌, arith}
use Rattle.std.specs.Prelude.{cond, slice_index, slice_index_or}
use Rattle.std.proofs.lemmas.Bool.{cases_lt}
use Rattle.amr_box.specs.declared.Face.{Face}
use Rattle.amr_box.specs.declared.Axis.TheVariants.{X, Y}
use Rattle.amr_box.specs.Cells.{cell, height, holds, width}
use Rattle.amr_def.specs.declared.problem.Problem.{Problem}
use Rattle.amr_def.specs.Flux.{face}
use Rattle.amr_patch.specs.declared.patches.Patch.{Patch}
use Rattle.amr_patch.specs.Places.{is_face_of, place}
use Rattle.amr_faces.specs.Faces.{fluxes_by, is_masked, masked_faces, masked_place, passing, x_end, y_end}
use Rattle.amr_faces.specs.Shares.{signed}
use Rattle.amr_flux.specs.Tables.{Stands, count_below, mark, x_flux, x_marked, x_through, y_flux, y_marked, y_through}
use Rattle.amr_faces.proofs.MaskedEnds.{x_end_at, x_end_face, y_end_at, y_end_face}
use Rattle.amr_faces.proofs.Masked.{beyond, by_size, by_values, x_inner, y_inner}
use Rattle.amr_flux.proofs.Owned.{x_beside, y_beside}
use Rattle.amr_flux.proofs.Throughs.{x_flux_inner, x_flux_last, y_flux_inner, y_flux_last}
use Rattle.amr_faces.proofs.Places.{IsXFace, IsYFace, offset, x_beyond, x_face_at, y_beyond, y_face_at}
use Rattle.amr_flux.proofs.Entries.{high_at, mark_at, x_courant_here, y_courant_here}

-- ---- which faces are masked

module _ (q : Patch) (marks : List Bool) where
  pub x_masked : (x y : ℤ) (i j : ℕ) → is_face_of q.bx (face X x y) ≡ true → IsXFace q.bx x y i j → i ≡ width q.bx → is_masked q.bx marks (face X x y) ≡ x_marked (width q.bx) marks j
  unfolding is_masked
  x_masked x y i j e f last =
      beyond (is_face_of q.bx (face X x y)) (holds q.bx (cell x y)) (slice_index_or marks (place q.bx (cell x y)) false) e (x_beyond q.bx x y i j q.near f last)
      ∙ mark_at q marks (cell x y) (i + 1) (j + 1) (high_at q.bx x y i j f.at) ∙ ap (λ n. mark (width q.bx) marks (n + 1) (j + 1)) last

  pub y_masked : (x y : ℤ) (i j : ℕ) → is_face_of q.bx (face Y x y) ≡ true → IsYFace q.bx x y i j → j ≡ height q.bx → is_masked q.bx marks (face Y x y) ≡ y_marked (width q.bx) (height q.bx) marks i
  unfolding is_masked
  y_masked x y i j e f last =
      beyond (is_face_of q.bx (face Y x y)) (holds q.bx (cell x y)) (slice_index_or marks (place q.bx (cell x y)) false) e (y_beyond q.bx x y i j q.near f last)
      ∙ mark_at q marks (cell x y) (i + 1) (j + 1) (high_at q.bx x y i j f.at) ∙ ap (λ n. mark (width q.bx) marks (i + 1) (n + 1)) last

  -- ---- their order

  x_end_masked : (k : ℕ) → k < height q.bx → is_masked q.bx marks (x_end q.bx k) ≡ x_marked (width q.bx) marks k
  x_end_masked k below = x_masked (q.bx.hi.x +ℤ pos 1) (q.bx.lo.y +ℤ pos k) (width q.bx) k (x_end_face q.bx q.near k below) (x_end_at q.bx q.near k below) refl

  y_end_masked : (k : ℕ) → k < width q.bx → is_masked q.bx marks (y_end q.bx k) ≡ y_marked (width q.bx) (height q.bx) marks k
  y_end_masked k below = y_masked (q.bx.lo.x +ℤ pos k) (q.bx.hi.y +ℤ pos 1) k (height q.bx) (y_end_face q.bx q.near k below) (y_end_at q.bx q.near k below) refl

length_cond : (b : Bool) (f : Face) → length (cond b (f ∷ []) []) ≡ cond b 1 0
length_cond true f = refl
length_cond false f = refl

length_passing : (test : Face → Bool) (g : ℕ → Face) (same : ℕ → Bool) (n : ℕ) → ((k : ℕ) → k < n → test (g k) ≡ same k) → length (passing test g n) ≡ count_below same n
length_passing test g same zero e = refl
length_passing test g same (suc n) e =
    let before : length (passing test g n) ≡ count_below same n = length_passing test g same n (λ k h. e k (omega arith)) in
    let here : test (g n) ≡ same n = e n (omega arith) in
    length-append (passing test g n) (cond (test (g n)) (g n ∷ []) []) ∙ (λ i. before i + (length_cond (test (g n)) (g n) ∙ ap (λ b. cond b 1 0) here) i)

module _ (q : Patch) (marks : List Bool) where
  x_count : (n : ℕ) → n ≤ height q.bx → length (passing (is_masked q.bx marks) (x_end q.bx) n) ≡ count_below (x_marked (width q.bx) marks) n
  x_count n h = length_passing (is_masked q.bx marks) (x_end q.bx) (x_marked (width q.bx) marks) n (λ k below. x_end_masked q marks k (omega arith))

  y_count : (n : ℕ) → n ≤ width q.bx → length (passing (is_masked q.bx marks) (y_end q.bx) n) ≡ count_below (y_marked (width q.bx) (height q.bx) marks) n
  y_count n h = length_passing (is_masked q.bx marks) (y_end q.bx) (y_marked (width q.bx) (height q.bx) marks) n (λ k below. y_end_masked q marks k (omega arith))

  pub masked_count : length (masked_faces q.bx marks) ≡ count_below (x_marked (width q.bx) marks) (height q.bx) + count_below (y_marked (width q.bx) (height q.bx) marks) (width q.bx)
  unfolding masked_faces
  masked_count =
      length-append (passing (is_masked q.bx marks) (x_end q.bx) (height q.bx)) (passing (is_masked q.bx marks) (y_end q.bx) (width q.bx))
      ∙ (λ i. x_count (height q.bx) (omega arith) i + y_count (width q.bx) (omega arith) i)

  pub x_masked_place : (x y : ℤ) → offset q.bx.lo.y y < height q.bx → masked_place q.bx marks (face X x y) ≡ count_below (x_marked (width q.bx) marks) (offset q.bx.lo.y y)
  unfolding masked_place offset
  x_masked_place x y below = x_count (offset q.bx.lo.y y) (omega arith)

  pub y_masked_place : (x y : ℤ) → offset q.bx.lo.x x < width q.bx → masked_place q.bx marks (face Y x y) ≡ count_below (x_marked (width q.bx) marks) (height q.bx) + count_below (y_marked (width q.bx) (height q.bx) marks) (offset q.bx.lo.x x)
  unfolding masked_place offset
  y_masked_place x y below = λ i. x_count (height q.bx) (omega arith) i + y_count (offset q.bx.lo.x x) (omega arith) i

-- ---- the written lists

pub signed_of : {c c' : ℤ} {n n' : ℕ} → c ≡ c' → n ≡ n' → signed c n ≡ signed c' n'
signed_of ec en i = signed (ec i) (en i)

module _ (p : Problem) (l : ℕ) (q : Patch) (column row : ℕ) (s : Stands p l q.bx column row) (marks : List Bool) (border : List ℕ) where
  pub x_given : (x y : ℤ) → is_face_of q.bx (face X x y) ≡ true → x_through p l row (width q.bx) marks border q.data.value.values.items (offset q.bx.lo.x x) (offset q.bx.lo.y y) ≡ fluxes_by p l q marks border (face X x y)
  x_given x y e = at_each (x_face_at q.bx x y q.near e) _ refl (cases_lt (offset q.bx.lo.x x) (width q.bx))
    where
      at_each : IsXFace q.bx x y (offset q.bx.lo.x x) (offset q.bx.lo.y y) → (b : Bool) → x_marked (width q.bx) marks (offset q.bx.lo.y y) ≡ b → (offset q.bx.lo.x x < width q.bx) ⊎ (width q.bx ≤ offset q.bx.lo.x x) → x_through p l row (width q.bx) marks border q.data.value.values.items (offset q.bx.lo.x x) (offset q.bx.lo.y y) ≡ fluxes_by p l q marks border (face X x y)
      at_each f b m (inl below) =
          sym (x_flux_inner p l row (width q.bx) marks border q.data.value.values.items (offset q.bx.lo.y y) (offset q.bx.lo.x x) below)
          ∙ x_beside p l q column row s x y (offset q.bx.lo.x x) (offset q.bx.lo.y y) f.at f.row
          ∙ sym (by_values p l q marks border (face X x y) (x_inner q.bx marks x y (offset q.bx.lo.x x) (offset q.bx.lo.y y) q.near f below))
      at_each f true m (inr past) =
          let last : offset q.bx.lo.x x ≡ width q.bx = omega (arith, f.column, past) in
          ap (λ n. x_through p l row (width q.bx) marks border q.data.value.values.items n (offset q.bx.lo.y y)) last
          ∙ sym (x_flux_last p l row (width q.bx) marks border q.data.value.values.items (offset q.bx.lo.y y) {m = true} refl (sym m) refl refl)
          ∙ signed_of (sym (x_courant_here p l q.bx column row x y (offset q.bx.lo.x x) (offset q.bx.lo.y y) s f.at f.row)) (ap (slice_index border) (sym (x_masked_place q marks x y f.row)))
          ∙ sym (by_size p l q marks border (face X x y) (x_masked q marks x y (offset q.bx.lo.x x) (offset q.bx.lo.y y) e f last ∙ m))
      at_each f false m (inr past) =
          let last : offset q.bx.lo.x x ≡ width q.bx = omega (arith, f.column, past) in
          ap (λ n. x_through p l row (width q.bx) marks border q.data.value.values.items n (offset q.bx.lo.y y)) last
          ∙ sym (x_flux_last p l row (width q.bx) marks border q.data.value.values.items (offset q.bx.lo.y y) {m = false} refl (sym m) refl refl)
          ∙ ap (λ n. x_flux p l row (width q.bx) q.data.value.values.items n (offset q.bx.lo.y y)) (sym last)
          ∙ x_beside p l q column row s x y (offset q.bx.lo.x x) (offset q.bx.lo.y y) f.at f.row
          ∙ sym (by_values p l q marks border (face X x y) (x_masked q marks x y (offset q.bx.lo.x x) (offset q.bx.lo.y y) e f last ∙ m))

  pub y_given : (x y : ℤ) → is_face_of q.bx (face Y x y) ≡ true → y_through p l column (width q.bx) (height q.bx) marks border q.data.value.values.items (offset q.bx.lo.x x) (offset q.bx.lo.y y) ≡ fluxes_by p l q marks border (face Y x y)
  y_given x y e = at_each (y_face_at q.bx x y q.near e) _ refl (cases_lt (offset q.bx.lo.y y) (height q.bx))
    where
      at_each : IsYFace q.bx x y (offset q.bx.lo.x x) (offset q.bx.lo.y y) → (b : Bool) → y_marked (width q.bx) (height q.bx) marks (offset q.bx.lo.x x) ≡ b → (offset q.bx.lo.y y < height q.bx) ⊎ (height q.bx ≤ offset q.bx.lo.y y) → y_through p l column (width q.bx) (height q.bx) marks border q.data.value.values.items (offset q.bx.lo.x x) (offset q.bx.lo.y y) ≡ fluxes_by p l q marks border (face Y x y)
      at_each f b m (inl below) =
          sym (y_flux_inner p l column (width q.bx) (height q.bx) marks border q.data.value.values.items (offset q.bx.lo.x x) (offset q.bx.lo.y y) below)
          ∙ y_beside p l q column row s x y (offset q.bx.lo.x x) (offset q.bx.lo.y y) f.at f.column
          ∙ sym (by_values p l q marks border (face Y x y) (y_inner q.bx marks x y (offset q.bx.lo.x x) (offset q.bx.lo.y y) q.near f below))
      at_each f true m (inr past) =
          let last : offset q.bx.lo.y y ≡ height q.bx = omega (arith, f.row, past) in
          ap (λ n. y_through p l column (width q.bx) (height q.bx) marks border q.data.value.values.items (offset q.bx.lo.x x) n) last
          ∙ sym (y_flux_last p l column (width q.bx) (height q.bx) marks border q.data.value.values.items (offset q.bx.lo.x x) {m = true} (sym m))
          ∙ signed_of (sym (y_courant_here p l q.bx column row x y (offset q.bx.lo.x x) (offset q.bx.lo.y y) s f.at f.column)) (ap (slice_index border) (sym (y_masked_place q marks x y f.column)))
          ∙ sym (by_size p l q marks border (face Y x y) (y_masked q marks x y (offset q.bx.lo.x x) (offset q.bx.lo.y y) e f last ∙ m))
      at_each f false m (inr past) =
          let last : offset q.bx.lo.y y ≡ height q.bx = omega (arith, f.row, past) in
          ap (λ n. y_through p l column (width q.bx) (height q.bx) marks border q.data.value.values.items (offset q.bx.lo.x x) n) last
          ∙ sym (y_flux_last p l column (width q.bx) (height q.bx) marks border q.data.value.values.items (offset q.bx.lo.x x) {m = false} (sym m))
          ∙ ap (λ n. y_flux p l column (width q.bx) q.data.value.values.items (offset q.bx.lo.x x) n) (sym last)
          ∙ y_beside p l q column row s x y (offset q.bx.lo.x x) (offset q.bx.lo.y y) f.at f.column
          ∙ sym (by_values p l q marks border (face Y x y) (y_masked q marks x y (offset q.bx.lo.x x) (offset q.bx.lo.y y) e f last ∙ m))
