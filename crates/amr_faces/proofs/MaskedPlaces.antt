-- Where the sizes stand that are handed in for masked faces, and sizes that are those of the flows by the values.
use Rattle.std.proofs.Common.{◌≡◌, ℕ, zero, suc, ◌+◌, ◌-◌, ◌*◌, ◌/◌, ◌<◌, ◌≤◌, ◌⊎◌, inl, inr, Bool, true, false, ℤ, pos, negsuc, ◌-ℤ◌, List, [], ◌∷◌, ◌++◌, length, length-append, get_or, refl, sym, ap, ◌∙◌, arith}
use Rattle.std.specs.Prelude.{cond, neg_ℤ, slice_index, unsigned_abs}
use Rattle.std.specs.List.{All}
use Rattle.std.proofs.lemmas.Int.{ints}
use Rattle.std.proofs.lemmas.Bool.{cases_lt}
use Rattle.std.proofs.Math.ListN.{get_or-append}
use Rattle.std.proofs.lemmas.List.{get_or-append_right, get_or-append-add}
use Rattle.std.proofs.lemmas.List.Elements.{All-append}
use Rattle.amr_box.specs.declared.Cell.{Cell}
use Rattle.amr_box.specs.declared.Face.{Face}
use Rattle.amr_box.specs.declared.Axis.{Axis}
use Rattle.amr_box.specs.declared.Axis.TheVariants.{X, Y}
use Rattle.amr_box.specs.Cells.{Extent, IsNear, at_least_zero, height, width}
use Rattle.amr_box.proofs.Tests.{opposite}
use Rattle.amr_def.specs.declared.problem.Problem.{Problem}
use Rattle.amr_def.specs.Flux.{courant, face, flow, high_cell, low_cell, net}
use Rattle.amr_def.proofs.Subcycle.{bool_cases}
use Rattle.amr_def.proofs.Uncovered.{same_face}
use Rattle.amr_patch.specs.declared.patches.Patch.{Patch}
use Rattle.amr_patch.specs.Places.{is_face_of}
use Rattle.amr_patch.specs.Patches.{box, value_in}
use Rattle.amr_patch.proofs.Rows.{sides}
use Rattle.amr_faces.specs.Faces.{flux_beside, fluxes_by, is_masked, masked_faces, masked_place, passing, x_end, y_end}
use Rattle.amr_faces.specs.Shares.{signed}
use Rattle.amr_faces.proofs.Masked.{by_size, by_values, masked_of_box, x_inner, y_inner}
use Rattle.amr_faces.proofs.Places.{IsXFace, IsYFace, offset, x_face_at, y_face_at}

-- ---- the place of a border face

module _ (test : Face → Bool) (g : ℕ → Face) where
  one : (n : ℕ) → test (g n) ≡ true → passing test g (suc n) ≡ passing test g n ++ (g n ∷ [])
  one n e = ap (λ b. passing test g n ++ cond b (g n ∷ []) []) e

  grows : (k n : ℕ) → k ≤ n → length (passing test g k) ≤ length (passing test g n)
  grows zero n h = omega arith
  grows (suc k) zero h = absurd (omega arith)
  grows (suc k) (suc n) h =
      elim (cases_lt k n) [
        | inl below ↦
            let earlier : length (passing test g (suc k)) ≤ length (passing test g n) = grows (suc k) n (omega arith) in
            omega (arith, earlier, length-append (passing test g n) (cond (test (g n)) (g n ∷ []) []))
        | inr past ↦ let same : suc k ≡ suc n = omega arith in omega (arith, ap (λ j. length (passing test g j)) same)
      ]

  before : (k n : ℕ) → k < n → test (g k) ≡ true → length (passing test g k) < length (passing test g n)
  before k n h e =
      let next : length (passing test g (suc k)) ≤ length (passing test g n) = grows (suc k) n (omega arith) in
      omega (arith, next, ap length (one k e), length-append (passing test g k) (g k ∷ []))

  first : (d : Face) (j n : ℕ) → j ≡ 0 → get_or (g n ∷ []) j d ≡ g n
  first d zero n e = refl
  first d (suc j) n e = absurd (omega arith)

  pub at_place : (d : Face) (k n : ℕ) → k < n → test (g k) ≡ true → get_or (passing test g n) (length (passing test g k)) d ≡ g k
  at_place d k zero h e = absurd (omega arith)
  at_place d k (suc n) h e =
      elim (cases_lt k n) [
        | inl below ↦ get_or-append (passing test g n) (cond (test (g n)) (g n ∷ []) []) d (length (passing test g k)) (before k n below e) ∙ at_place d k n below e
        | inr past ↦
            let same : k ≡ n = omega arith in
            let last : length (passing test g k) ≡ length (passing test g n) = ap (λ j. length (passing test g j)) same in
            ap (λ es. get_or es (length (passing test g k)) d) (one n (ap (λ j. test (g j)) (sym same) ∙ e))
            ∙ get_or-append_right (passing test g n) (g n ∷ []) (length (passing test g n)) (length (passing test g k)) d refl (omega (arith, last))
            ∙ first d (length (passing test g k) - length (passing test g n)) n (omega (arith, last)) ∙ ap g (sym same)
      ]

-- the size that is handed in for a masked face stands where the list of these faces has the face
pub record HasPlace (b : Extent) (mask : List Bool) (f : Face) : Type 0 where
  pub inside : masked_place b mask f < length (masked_faces b mask)
  pub at : (d : Face) → get_or (masked_faces b mask) (masked_place b mask f) d ≡ f

module _ (b : Extent) (near : IsNear b) (mask : List Bool) where
  -- the row of a masked face among the x faces, and the column of one among the y faces
  x_row : (x y : ℤ) → is_masked b mask (face X x y) ≡ true → (x_end b (offset b.lo.y y) ≡ face X x y) × (offset b.lo.y y < height b)
  x_row x y e = at_each (x_face_at b x y near (masked_of_box b mask (face X x y) e)) (cases_lt (offset b.lo.x x) (width b))
    where
      at_each : IsXFace b x y (offset b.lo.x x) (offset b.lo.y y) → (offset b.lo.x x < width b) ⊎ (width b ≤ offset b.lo.x x) → (x_end b (offset b.lo.y y) ≡ face X x y) × (offset b.lo.y y < height b)
      at_each f (inl below) = absurd (opposite e (x_inner b mask x y (offset b.lo.x x) (offset b.lo.y y) near f below))
      at_each f (inr past) = let s = sides b near in (same_face X (omega (arith, ints, f.at.column, f.column, past, s.wide)) (omega (arith, ints, f.at.row)), f.row)

  y_column : (x y : ℤ) → is_masked b mask (face Y x y) ≡ true → (y_end b (offset b.lo.x x) ≡ face Y x y) × (offset b.lo.x x < width b)
  y_column x y e = at_each (y_face_at b x y near (masked_of_box b mask (face Y x y) e)) (cases_lt (offset b.lo.y y) (height b))
    where
      at_each : IsYFace b x y (offset b.lo.x x) (offset b.lo.y y) → (offset b.lo.y y < height b) ⊎ (height b ≤ offset b.lo.y y) → (y_end b (offset b.lo.x x) ≡ face Y x y) × (offset b.lo.x x < width b)
      at_each f (inl below) = absurd (opposite e (y_inner b mask x y (offset b.lo.x x) (offset b.lo.y y) near f below))
      at_each f (inr past) = let s = sides b near in (same_face Y (omega (arith, ints, f.at.column)) (omega (arith, ints, f.at.row, f.row, past, s.high)), f.column)

  x_placed : (x y : ℤ) → is_masked b mask (face X x y) ≡ true → HasPlace b mask (face X x y)
  unfolding masked_place masked_faces offset
  x_placed x y e =
      let r = x_row x y e in
      let j = at_least_zero (y -ℤ b.lo.y) in
      let xs = passing (is_masked b mask) (x_end b) (height b) in
      let ys = passing (is_masked b mask) (y_end b) (width b) in
      let marked : is_masked b mask (x_end b j) ≡ true = ap (is_masked b mask) r.0 ∙ e in
      let below = before (is_masked b mask) (x_end b) j (height b) r.1 marked in
      record {
        inside = omega (arith, below, length-append xs ys);
        at = λ d. get_or-append xs ys d (length (passing (is_masked b mask) (x_end b) j)) below ∙ at_place (is_masked b mask) (x_end b) d j (height b) r.1 marked ∙ r.0;
      }

  y_placed : (x y : ℤ) → is_masked b mask (face Y x y) ≡ true → HasPlace b mask (face Y x y)
  unfolding masked_place masked_faces offset
  y_placed x y e =
      let r = y_column x y e in
      let i = at_least_zero (x -ℤ b.lo.x) in
      let xs = passing (is_masked b mask) (x_end b) (height b) in
      let ys = passing (is_masked b mask) (y_end b) (width b) in
      let marked : is_masked b mask (y_end b i) ≡ true = ap (is_masked b mask) r.0 ∙ e in
      let below = before (is_masked b mask) (y_end b) i (width b) r.1 marked in
      record {
        inside = omega (arith, below, length-append xs ys);
        at = λ d. get_or-append-add xs ys (length (passing (is_masked b mask) (y_end b) i)) d ∙ at_place (is_masked b mask) (y_end b) d i (width b) r.1 marked ∙ r.0;
      }

  by_axis : (a : Axis) (x y : ℤ) → is_masked b mask (face a x y) ≡ true → HasPlace b mask (face a x y)
  by_axis X x y e = x_placed x y e
  by_axis Y x y e = y_placed x y e

  pub masked_placed : (f : Face) → is_masked b mask f ≡ true → HasPlace b mask f
  masked_placed f e = by_axis f.axis f.x f.y e

-- ---- sizes that are those of the flows by the values

single : (test : Face → Bool) (x : Face) → test x ≡ true → All (λ f. test f ≡ true) (x ∷ [])
single test x e zero d lt = e
single test x e (suc k) d lt = absurd (omega arith)

none : (test : Face → Bool) → All (λ f. test f ≡ true) []
none test k d lt = absurd (omega arith)

passing_all : (test : Face → Bool) (g : ℕ → Face) (n : ℕ) → All (λ f. test f ≡ true) (passing test g n)
passing_all test g zero = none test
passing_all test g (suc n) = All-append (λ f. test f ≡ true) (passing test g n) _ (passing_all test g n) (last (test (g n)) refl)
  where
    last : (b : Bool) → test (g n) ≡ b → All (λ f. test f ≡ true) (cond b (g n ∷ []) [])
    last true e = single test (g n) e
    last false e = none test

pub masked_all : (b : Extent) (mask : List Bool) → All (λ f. is_masked b mask f ≡ true) (masked_faces b mask)
unfolding masked_faces
masked_all b mask = All-append (λ f. is_masked b mask f ≡ true) (passing (is_masked b mask) (x_end b) (height b)) _ (passing_all (is_masked b mask) (x_end b) (height b)) (passing_all (is_masked b mask) (y_end b) (width b))

size_of_negative : (n : ℕ) → unsigned_abs (neg_ℤ (pos n)) ≡ n
size_of_negative zero = refl
size_of_negative (suc n) = refl

signed_size : (c : ℤ) (d low high : ℕ) → signed c (unsigned_abs (flow c d low high)) ≡ flow c d low high
signed_size (pos c) d low high = refl
signed_size (negsuc c) d low high = ap (λ n. neg_ℤ (pos n)) (size_of_negative (suc c * high / d))

module _ (p : Problem) (l : ℕ) (q : Patch) (mask : List Bool) (border : List ℕ)
    (count : length border ≡ length (masked_faces (box q) mask))
    (sizes : (k : ℕ) (f : Face) → k < length border → slice_index border k ≡ unsigned_abs (flux_beside p l q (get_or (masked_faces (box q) mask) k f))) where
  of_size : (f : Face) → is_masked (box q) mask f ≡ true → slice_index border (masked_place (box q) mask f) ≡ unsigned_abs (flux_beside p l q f) → fluxes_by p l q mask border f ≡ flux_beside p l q f
  unfolding flux_beside
  of_size f e is = by_size p l q mask border f e ∙ ap (signed (courant p l f)) is ∙ signed_size (courant p l f) p.d (value_in q (low_cell f)) (value_in q (high_cell f))

  -- then all fluxes are those by the values
  pub all_by_values : (f : Face) → fluxes_by p l q mask border f ≡ flux_beside p l q f
  all_by_values f = bool_cases (is_masked (box q) mask f)
      (λ e.
      let place = masked_placed (box q) q.near mask f e in
      of_size f e (sizes (masked_place (box q) mask f) f (omega (arith, place.inside, count)) ∙ ap (λ g. unsigned_abs (flux_beside p l q g)) (place.at f)))
      (λ e. by_values p l q mask border f e)

  pub by_beside : (c : Cell) → net (fluxes_by p l q mask border) c ≡ net (flux_beside p l q) c
  by_beside c = λ i. net (λ f. all_by_values f i) c

pub masked_face_of_box : (b : Extent) (mask : List Bool) (k : ℕ) (f : Face) → k < length (masked_faces b mask) → is_face_of b (get_or (masked_faces b mask) k f) ≡ true
masked_face_of_box b mask k f lt = masked_of_box b mask (get_or (masked_faces b mask) k f) (masked_all b mask k f lt)
