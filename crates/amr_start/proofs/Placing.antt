-- Cells of a patch in the list of all masses, and patches that have them.
use Rattle.std.proofs.Common.{◌≡◌, ◌≢◌, ℕ, zero, suc, ◌+◌, ◌-◌, ◌*◌, ◌<◌, ◌≤◌, Bool, true, false, cond, ◌||◌, ℤ, pos, negsuc, ◌+ℤ◌, ◌-ℤ◌, ◌≤ℤ◌, ◌<ℤ◌, List, [], ◌∷◌, length, map, set, get_or, get_or-set_same, get_or-set_other, below_more, IsTrue, refl, sym, ap, subst, ◌∙◌, arith}
use Rattle.std.specs.Prelude.{int_lt, is_some, slice_index, unsigned_abs}
use Rattle.std.specs.List.{All, AllZip}
use Rattle.std.specs.declared.option.Option.{Option}
use Rattle.std.specs.declared.option.Option.TheVariants.{None, Some}
use Rattle.std.proofs.lemmas.Int.{ints}
use Rattle.std.proofs.lemmas.List.Elements.{AllZip-get_or, length_all_zip}
use Rattle.std.proofs.Math.Nat.{mul-le-mul_right}
use Rattle.std.proofs.lemmas.Bool.{and_from, or_right}
use Rattle.std.proofs.Math.Bool.{or-false}
use Rattle.amr_box.specs.declared.Cell.{Cell}
use Rattle.amr_box.specs.Cells.{Extent, IsNear, cell, holds, in_boxes, within}
use Rattle.amr_box.proofs.Numbers.{below_from, is_between, not_below_from}
use Rattle.amr_def.specs.State.{Masses}
use Rattle.amr_patch.proofs.Lookups.{some_mass}
use Rattle.amr_patch.specs.declared.patches.Patch.{Patch}
use Rattle.amr_patch.specs.Patches.{AreNear, ArePatchesApart, box, in_patches, mass_in, masses_in}
use Rattle.amr_patch.proofs.Rows.{inside}
use Rattle.amr_start.specs.Placed.{HasBoxOf, HasMassesOf, LiesInBox}
use Rattle.amr_start.specs.Rows.{box_of, masses_on}

-- ---- a cell's place in the list

pub record IsPlaced (columns rows : ℕ) (c : Cell) : Type 0 where
  pub x : pos 0 ≤ℤ c.x
  pub y : pos 0 ≤ℤ c.y
  pub column : unsigned_abs c.x < columns
  pub row : unsigned_abs c.y < rows
  pub across : pos (unsigned_abs c.x) ≡ c.x
  pub up : pos (unsigned_abs c.y) ≡ c.y

pub placed : (columns rows : ℕ) (c : Cell) → holds (box_of columns rows) c ≡ true → IsPlaced columns rows c
placed columns rows c h =
    let b = inside (box_of columns rows) c h in
    at c.x c.y b.west b.east b.south b.north
  where
    at : (x y : ℤ) → pos 0 ≤ℤ x → x ≤ℤ (pos columns -ℤ pos 1) → pos 0 ≤ℤ y → y ≤ℤ (pos rows -ℤ pos 1) → IsPlaced columns rows (cell x y)
    at (pos x) (pos y) w e s n = record { x = w; y = s; column = omega (arith, ints, e); row = omega (arith, ints, n); across = refl; up = refl }
    at (negsuc x) y w e s n = absurd (omega (arith, ints, w))
    at (pos x) (negsuc y) w e s n = absurd (omega (arith, ints, s))

pub place_within : (columns rows x y n : ℕ) → x < columns → y < rows → n ≡ rows * columns → y * columns + x < n
place_within columns rows x y n hx hy e =
    let next : (y + 1) * columns ≤ rows * columns = mul-le-mul_right columns (omega (arith, hy)) in
    omega (arith, next, e, hx)

pub mass_here : (columns rows : ℕ) (ms : List ℕ) (c : Cell) (m : ℕ) → holds (box_of columns rows) c ≡ true → m ≡ slice_index ms (unsigned_abs c.y * columns + unsigned_abs c.x) → masses_on columns rows ms c ≡ Some m
mass_here columns rows ms c m h is =
    ap (λ (t : Bool). cond t (Some (slice_index ms (unsigned_abs c.y * columns + unsigned_abs c.x))) None) h ∙ ap Some (sym is)

-- ---- a row at once

-- what holds before a number and at it holds before the next
pub before_next : (P : ℤ → Type 0) (e x : ℤ) → (x <ℤ e → P x) → (x ≡ e → P x) → x <ℤ (e +ℤ pos 1) → P x
before_next P e x old here h = cases (int_lt x e) refl
  where
    cases : (t : Bool) → int_lt x e ≡ t → P x
    cases true l = old (below_from x e l)
    cases false l = let g = not_below_from x e l in here (omega (arith, ints, g, h))

-- a row of a patch stands whole in the list
pub row_inside : (columns rows n : ℕ) (first last : Cell) (count : ℕ) → holds (box_of columns rows) first ≡ true → holds (box_of columns rows) last ≡ true → first.y ≡ last.y
    → pos count ≡ last.x +ℤ pos 1 -ℤ first.x → n ≡ rows * columns → unsigned_abs first.y * columns + unsigned_abs first.x + count ≤ n
row_inside columns rows n first last count f l same width e =
    let a = placed columns rows first f in
    let b = placed columns rows last l in
    let end : unsigned_abs first.x + count ≡ unsigned_abs last.x + 1 = omega (arith, ints, a.across, b.across, width) in
    let there : unsigned_abs first.y * columns + unsigned_abs last.x < n = place_within columns rows (unsigned_abs last.x) (unsigned_abs first.y) n b.column a.row e in
    omega (arith, there, end)

-- and its cells get what stands there
pub row_placed : (columns rows : ℕ) (ms row : List ℕ) (q : Patch) (first c : Cell) (count : ℕ) → holds (box_of columns rows) first ≡ true → holds (box_of columns rows) c ≡ true
    → first.y ≡ c.y → first.x ≤ℤ c.x → c.x <ℤ (first.x +ℤ pos count)
    → ((k : ℕ) → k < count → mass_in q (cell (first.x +ℤ pos k) first.y) ≡ slice_index row k)
    → ((k : ℕ) → k < count → slice_index row k ≡ slice_index ms (unsigned_abs first.y * columns + unsigned_abs first.x + k))
    → masses_on columns rows ms c ≡ Some (mass_in q c)
row_placed columns rows ms row q first c count f h same west east made read =
    let a = placed columns rows first f in
    let b = placed columns rows c h in
    let k = unsigned_abs c.x - unsigned_abs first.x in
    let ahead : unsigned_abs first.x + k ≡ unsigned_abs c.x = omega (arith, ints, a.across, b.across, west) in
    let x : first.x +ℤ pos k ≡ c.x = omega (arith, ints, a.across, b.across, ahead) in
    let few : k < count = omega (arith, ints, x, east) in
    let at : cell (first.x +ℤ pos k) first.y ≡ c = λ i. cell (x i) (same i) in
    let place : unsigned_abs first.y * columns + unsigned_abs first.x + k ≡ unsigned_abs c.y * columns + unsigned_abs c.x =
    omega (arith, ahead) ∙ ap (λ (z : ℤ). unsigned_abs z * columns + unsigned_abs c.x) same in
    mass_here columns rows ms c (mass_in q c) h (ap (mass_in q) (sym at) ∙ made k few ∙ read k few ∙ ap (slice_index ms) place)

-- ---- a patch, row by row

pub record HasRowsTo (m : Masses) (p q : Patch) (k : ℕ) : Type 0 where
  pub of_box : box q ≡ box p
  pub made : (c : Cell) → IsTrue (holds (box p) c) → c.y <ℤ ((box p).lo.y +ℤ pos k) → m c ≡ Some (mass_in q c)

pub no_rows_yet : (m : Masses) (p : Patch) → HasRowsTo m p p 0
no_rows_yet m p = record { of_box = refl; made = λ c h lt. let b = inside (box p) c h in absurd (omega (arith, ints, b.south, lt)) }

pub row_more : (m : Masses) (p q r : Patch) (y : ℤ) (k : ℕ) → y ≡ (box p).lo.y +ℤ pos k → box r ≡ box q → ((c : Cell) → IsTrue (holds (box q) c) → c.y ≡ y → m c ≡ Some (mass_in r c)) → ((c : Cell) → IsTrue (holds (box q) c) → c.y ≢ y → mass_in r c ≡ mass_in q c) → HasRowsTo m p q k → HasRowsTo m p r (k + 1)
row_more m p q r y k is of_box here others had = record {
  of_box = of_box ∙ had.of_box;
  made = λ c h lt. before_next (λ z. c.y ≡ z → m c ≡ Some (mass_in r c)) ((box p).lo.y +ℤ pos k) c.y
      (λ less same. had.made c h less ∙ ap Some (sym (others c (held c h) (λ f. omega (arith, ints, less, f, is)))))
      (λ at_k same. here c (held c h) (at_k ∙ sym is))
      (omega (arith, ints, lt))
      refl;
}
  where
    held : (c : Cell) → IsTrue (holds (box p) c) → IsTrue (holds (box q) c)
    held c h = subst (λ (b : Extent). IsTrue (holds b c)) (sym had.of_box) h

pub whole_patch : (m : Masses) (p q : Patch) (k : ℕ) → pos k ≡ (box p).hi.y +ℤ pos 1 -ℤ (box p).lo.y → HasRowsTo m p q k → HasMassesOf m q
whole_patch m p q k count had = record {
  at = λ c h.
      let here = subst (λ (b : Extent). IsTrue (holds b c)) had.of_box h in
      let b = inside (box p) c here in
      had.made c here (omega (arith, ints, b.north, count));
}

-- ---- a list of patches

pub zip_refl : (ps : List Patch) → AllZip HasBoxOf ps ps
zip_refl [] = tt
zip_refl (p ∷ ps) = (record { of_box = refl }, zip_refl ps)

pub zip_set : (ps qs : List Patch) (i : ℕ) (d r : Patch) → i < length qs → HasBoxOf (get_or qs i d) r → AllZip HasBoxOf ps qs → AllZip HasBoxOf ps (set qs i r)
zip_set [] [] i d r lt b h = tt
zip_set [] (q ∷ qs) i d r lt b h = absurd h
zip_set (p ∷ ps) [] i d r lt b h = absurd h
zip_set (p ∷ ps) (q ∷ qs) zero d r lt b h = (record { of_box = b.of_box ∙ h.0.of_box }, h.1)
zip_set (p ∷ ps) (q ∷ qs) (suc i) d r lt b h = (h.0, zip_set ps qs i d r (omega arith) b h.1)

pub zip_box : (ps qs : List Patch) (i : ℕ) (d e : Patch) → AllZip HasBoxOf ps qs → i < length ps → box (get_or qs i e) ≡ box (get_or ps i d)
zip_box ps qs i d e h t = (AllZip-get_or HasBoxOf ps qs i d e h t).of_box

pub zip_length : (ps qs : List Patch) → AllZip HasBoxOf ps qs → length ps ≡ length qs
zip_length ps qs h = length_all_zip HasBoxOf ps qs h

pub zip_boxes : (ps qs : List Patch) → AllZip HasBoxOf ps qs → map box qs ≡ map box ps
zip_boxes [] [] h = refl
zip_boxes [] (q ∷ qs) h = absurd h
zip_boxes (p ∷ ps) [] h = absurd h
zip_boxes (p ∷ ps) (q ∷ qs) h = λ i. h.0.of_box i ∷ zip_boxes ps qs h.1 i

pub zip_apart : (ps qs : List Patch) → AllZip HasBoxOf ps qs → ArePatchesApart ps → ArePatchesApart qs
zip_apart ps qs h apart = λ i j d below_from there c a b.
    let n = zip_length ps qs h in
    let low : i < length ps = omega (arith, n, below_from, there) in
    let high : j < length ps = omega (arith, n, there) in
    apart i j d below_from high c (subst (λ (t : Extent). IsTrue (holds t c)) (zip_box ps qs i d d h low) a) (subst (λ (t : Extent). IsTrue (holds t c)) (zip_box ps qs j d d h high) b)

zip_in : (ps qs : List Patch) (c : Cell) → AllZip HasBoxOf ps qs → in_patches qs c ≡ in_patches ps c
zip_in [] [] c h = refl
zip_in [] (q ∷ qs) c h = absurd h
zip_in (p ∷ ps) [] c h = absurd h
zip_in (p ∷ ps) (q ∷ qs) c h = λ i. holds (h.0.of_box i) c || zip_in ps qs c h.1 i

-- ---- a list of patches, one by one

pub record HasAllTo (m : Masses) (ps qs : List Patch) (k : ℕ) : Type 0 where
  pub boxes : AllZip HasBoxOf ps qs
  pub made : (j : ℕ) (d : Patch) → j < k → HasMassesOf m (get_or qs j d)

pub patch_more : (m : Masses) (ps qs : List Patch) (i : ℕ) (d r : Patch) → i < length qs → HasBoxOf (get_or qs i d) r → HasMassesOf m r → HasAllTo m ps qs i → HasAllTo m ps (set qs i r) (i + 1)
patch_more m ps qs i d r lt b has had = record {
  boxes = zip_set ps qs i d r lt b had.boxes;
  made = λ j e less. below_more (λ n. HasMassesOf m (get_or (set qs i r) n e)) i
      (λ n t. subst (λ (p : Patch). HasMassesOf m p) (sym (get_or-set_other qs i n r e (λ f. omega (arith, t, f)))) (had.made n e t))
      (subst (λ (p : Patch). HasMassesOf m p) (sym (get_or-set_same qs i r e lt)) has)
      j
      less;
}

-- patches whose cells are those of a box
module _ (b : Extent) (ps : List Patch) (blank : (c : Cell) → masses_in ps c ≡ cond (holds b c) (Some 0) None) where
  in_all : (c : Cell) → in_patches ps c ≡ holds b c
  in_all c = sym (some_mass ps c) ∙ ap is_some (blank c) ∙ either (holds b c)
    where
      either : (t : Bool) → is_some (cond {A = Option ℕ} t (Some 0) None) ≡ t
      either true = refl
      either false = refl

  in_at : (ps : List Patch) (c : Cell) (i : ℕ) (d : Patch) → i < length ps → holds (box (get_or ps i d)) c ≡ true → in_patches ps c ≡ true
  in_at [] c i d lt h = absurd (omega arith)
  in_at (p ∷ ps) c zero d lt h = rw h refl
  in_at (p ∷ ps) c (suc i) d lt h = or_right (holds (box p) c) (in_patches ps c) (in_at ps c i d (omega arith) h)

  pub all_lie_in : All (LiesInBox b) ps
  all_lie_in = λ i d lt. record { at = λ c h. sym (in_all c) ∙ in_at ps c i d lt h }

  masses_of : (m : Masses) (qs : List Patch) (c : Cell) → All (HasMassesOf m) qs → masses_in qs c ≡ cond (in_patches qs c) (m c) None
  masses_of m [] c h = refl
  masses_of m (q ∷ qs) c h = cases (holds (box q) c) refl (masses_of m qs c (λ k d lt. h (suc k) d (omega arith)))
    where
      cases : (t : Bool) → holds (box q) c ≡ t → masses_in qs c ≡ cond (in_patches qs c) (m c) None → cond t (Some (mass_in q c)) (masses_in qs c) ≡ cond (t || in_patches qs c) (m c) None
      cases true e rest = sym ((h 0 q (omega arith)).at c e)
      cases false e rest = rest

  -- patches of the same boxes that have the masses of such a function
  pub all_masses : (m : Masses) (qs : List Patch) → AllZip HasBoxOf ps qs → All (HasMassesOf m) qs → ((c : Cell) → holds b c ≡ false → m c ≡ None) → masses_in qs ≡ m
  all_masses m qs zip has off = λ i c. at c i
    where
      at : (c : Cell) → masses_in qs c ≡ m c
      at c = masses_of m qs c has ∙ ap (λ (t : Bool). cond t (m c) None) (zip_in ps qs c zip ∙ in_all c) ∙ cases (holds b c) refl
        where
          cases : (t : Bool) → holds b c ≡ t → cond t (m c) None ≡ m c
          cases true e = refl
          cases false e = sym (off c e)

-- ---- a level of one box

pub in_one_box : (b : Extent) (c : Cell) → in_boxes (b ∷ []) c ≡ holds b c
in_one_box b c = or-false (holds b c)

pub near_alone : (b : Extent) → IsNear b → AreNear (b ∷ [])
near_alone b near c h =
    let t = inside b c (sym (in_one_box b c) ∙ h) in
    record { west = omega (arith, ints, t.west, near.west); east = omega (arith, ints, t.east, near.east); south = omega (arith, ints, t.south, near.south); north = omega (arith, ints, t.north, near.north) }

-- ---- what the calls require

pub lies_still : (b : Extent) (p q : Patch) → box q ≡ box p → LiesInBox b p → LiesInBox b q
lies_still b p q e h = record { at = λ c t. h.at c (subst (λ (a : Extent). IsTrue (holds a c)) e t) }

pub cell_held : (p q : Patch) (x y : ℤ) → box q ≡ box p → (box p).lo.x ≤ℤ x → x ≤ℤ (box p).hi.x → within (box p).lo.y (box p).hi.y y ≡ true → IsTrue (holds (box q) (cell x y))
cell_held p q x y e west east rows = subst (λ (b : Extent). IsTrue (holds b (cell x y))) (sym e) (and_from _ _ (is_between (box p).lo.x (box p).hi.x x west east) rows)

pub row_held : (p q : Patch) (y : ℤ) → box q ≡ box p → (box p).lo.y ≤ℤ y → y ≤ℤ (box p).hi.y → within (box q).lo.y (box q).hi.y y ≡ true
row_held p q y e south north = ap (λ (b : Extent). within b.lo.y b.hi.y y) e ∙ is_between (box p).lo.y (box p).hi.y y south north

pub off_box : (columns rows : ℕ) (ms : List ℕ) (c : Cell) → holds (box_of columns rows) c ≡ false → masses_on columns rows ms c ≡ None
off_box columns rows ms c h = rw h refl
