-- The faces at the high side of a box, and masks that tell some of them.
use Rattle.std.proofs.Common.{◌≡◌, ℕ, zero, suc, ◌+◌, ◌*◌, ◌<◌, Bool, true, false, ℤ, pos, ◌+ℤ◌, ◌-ℤ◌, List, [], ◌∷◌, ◌++◌, refl, sym, ap, ◌∙◌, arith}
use Rattle.std.specs.Prelude.{cond, slice_index_or}
use Rattle.std.proofs.lemmas.Int.{ints}
use Rattle.amr_box.specs.declared.Face.{Face}
use Rattle.amr_box.specs.declared.Axis.TheVariants.{X, Y}
use Rattle.amr_box.specs.Cells.{Extent, IsNear, cell, extent, height, holds, width}
use Rattle.amr_def.specs.Flux.{high_cell}
use Rattle.amr_patch.specs.Places.{is_face_of, place}
use Rattle.amr_patch.proofs.Rows.{is_inside, place_is, sides}
use Rattle.amr_faces.specs.Faces.{is_masked, masked_faces, passing, x_end, y_end}
use Rattle.amr_faces.proofs.Masked.{beyond}
use Rattle.amr_faces.proofs.Places.{IsXFace, IsYFace, x_beyond, y_beyond}

pub passing_same : (test other : Face → Bool) (g : ℕ → Face) (n : ℕ) → ((k : ℕ) → k < n → test (g k) ≡ other (g k)) → passing test g n ≡ passing other g n
passing_same test other g zero same = refl
passing_same test other g (suc n) same =
    let before = passing_same test other g n (λ k h. same k (omega arith)) in
    let here = same n (omega arith) in
    λ i. before i ++ cond (here i) (g n ∷ []) []

pub passing_none : (test : Face → Bool) (g : ℕ → Face) (n : ℕ) → ((k : ℕ) → k < n → test (g k) ≡ false) → passing test g n ≡ []
passing_none test g zero none = refl
passing_none test g (suc n) none =
    let before = passing_none test g n (λ k h. none k (omega arith)) in
    let here = none n (omega arith) in
    λ i. before i ++ cond (here i) (g n ∷ []) []

module _ (b : Extent) (near : IsNear b) where
  pub x_end_face : (k : ℕ) → k < height b → is_face_of b (x_end b k) ≡ true
  x_end_face k below =
      let s = sides b near in
      is_inside (extent b.lo (cell (b.hi.x +ℤ pos 1) b.hi.y)) (cell (b.hi.x +ℤ pos 1) (b.lo.y +ℤ pos k)) (record { west = omega (arith, ints, near.wide); east = omega (arith, ints); south = omega (arith, ints); north = omega (arith, ints, s.high, below) })

  pub y_end_face : (k : ℕ) → k < width b → is_face_of b (y_end b k) ≡ true
  y_end_face k below =
      let s = sides b near in
      is_inside (extent b.lo (cell b.hi.x (b.hi.y +ℤ pos 1))) (cell (b.lo.x +ℤ pos k) (b.hi.y +ℤ pos 1)) (record { west = omega (arith, ints); east = omega (arith, ints, s.wide, below); south = omega (arith, ints, near.high); north = omega (arith, ints) })

  pub x_end_at : (k : ℕ) → k < height b → IsXFace b (b.hi.x +ℤ pos 1) (b.lo.y +ℤ pos k) (width b) k
  x_end_at k below = let s = sides b near in record { at = record { column = omega (arith, ints, s.wide); row = omega (arith, ints) }; column = omega arith; row = below }

  pub y_end_at : (k : ℕ) → k < width b → IsYFace b (b.lo.x +ℤ pos k) (b.hi.y +ℤ pos 1) k (height b)
  y_end_at k below = let s = sides b near in record { at = record { column = omega (arith, ints); row = omega (arith, ints, s.high) }; column = below; row = omega arith }

  -- ---- where a mask tells them

  x_end_place : (k : ℕ) → k < height b → (k + 1) * (width b + 2) + (width b + 1) ≡ place b (cell (b.hi.x +ℤ pos 1) (b.lo.y +ℤ pos k))
  x_end_place k below = let s = sides b near in place_is b (cell (b.hi.x +ℤ pos 1) (b.lo.y +ℤ pos k)) (k + 1) (width b + 1) (width b) (omega (arith, ints)) (omega (arith, ints, s.wide)) refl

  y_end_place : (k : ℕ) → k < width b → (height b + 1) * (width b + 2) + (k + 1) ≡ place b (cell (b.lo.x +ℤ pos k) (b.hi.y +ℤ pos 1))
  y_end_place k below = let s = sides b near in place_is b (cell (b.lo.x +ℤ pos k) (b.hi.y +ℤ pos 1)) (height b + 1) (k + 1) (width b) (omega (arith, ints, s.high)) (omega (arith, ints)) refl

  module _ (mask : List Bool) where
    pub x_end_masked : (k : ℕ) → k < height b → is_masked b mask (x_end b k) ≡ slice_index_or mask ((k + 1) * (width b + 2) + (width b + 1)) false
    unfolding is_masked
    x_end_masked k below =
        let f = x_end_at k below in
        beyond (is_face_of b (x_end b k)) (holds b (high_cell (x_end b k))) _ (x_end_face k below) (x_beyond b (b.hi.x +ℤ pos 1) (b.lo.y +ℤ pos k) (width b) k near f refl)
        ∙ ap (λ n. slice_index_or mask n false) (sym (x_end_place k below))

    pub y_end_masked : (k : ℕ) → k < width b → is_masked b mask (y_end b k) ≡ slice_index_or mask ((height b + 1) * (width b + 2) + (k + 1)) false
    unfolding is_masked
    y_end_masked k below =
        let f = y_end_at k below in
        beyond (is_face_of b (y_end b k)) (holds b (high_cell (y_end b k))) _ (y_end_face k below) (y_beyond b (b.lo.x +ℤ pos k) (b.hi.y +ℤ pos 1) k (height b) near f refl)
        ∙ ap (λ n. slice_index_or mask n false) (sym (y_end_place k below))

    -- a mask that tells just those that pass a test
    pub masked_by : (test : Face → Bool) → ((k : ℕ) → k < height b → slice_index_or mask ((k + 1) * (width b + 2) + (width b + 1)) false ≡ test (x_end b k))
        → ((k : ℕ) → k < width b → slice_index_or mask ((height b + 1) * (width b + 2) + (k + 1)) false ≡ test (y_end b k))
        → masked_faces b mask ≡ passing test (x_end b) (height b) ++ passing test (y_end b) (width b)
    unfolding masked_faces
    masked_by test ends tops =
        let xs = passing_same (is_masked b mask) test (x_end b) (height b) (λ k h. x_end_masked k h ∙ ends k h) in
        let ys = passing_same (is_masked b mask) test (y_end b) (width b) (λ k h. y_end_masked k h ∙ tops k h) in
        λ i. xs i ++ ys i

  -- the empty mask tells none
  pub none_masked : masked_faces b [] ≡ []
  unfolding masked_faces
  none_masked =
      let xs = passing_none (is_masked b []) (x_end b) (height b) (λ k h. x_end_masked [] k h) in
      let ys = passing_none (is_masked b []) (y_end b) (width b) (λ k h. y_end_masked [] k h) in
      λ i. xs i ++ ys i
