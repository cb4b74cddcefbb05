-- What a layout has a patch put flows through faces on the patch's edges.
use Rattle.std.proofs.Common.{◌≡◌, ◌∙◌, ℕ, zero, suc, ◌+◌, ◌<◌, ◌≤◌, Bool, true, false, ◌⊎◌, inl, inr, ℤ, pos, negsuc, ◌+ℤ◌, ◌≤ℤ◌, ◌<ℤ◌, List, [], ◌∷◌, length, map, refl, ap, subst, arith}
use Rattle.std.specs.Prelude.{IsTrue, slice_index_or}
use Rattle.std.specs.List.{All, filter, flat_map}
use Rattle.std.proofs.lemmas.Int.{ints}
use Rattle.std.proofs.lemmas.Bool.{and_from, cases_lt, or_left}
use Rattle.std.proofs.lemmas.List.Elements.{All-append, All-filter, filter_passes}
use Rattle.amr_box.specs.declared.Cell.{Cell}
use Rattle.amr_box.specs.declared.Face.{Face}
use Rattle.amr_box.specs.declared.Axis.TheVariants.{X, Y}
use Rattle.amr_box.specs.Cells.{Extent, IsNear, cell, height, holds, width, within}
use Rattle.amr_box.proofs.CellLists.{int_eq-itself}
use Rattle.amr_box.proofs.Numbers.{is_between}
use Rattle.amr_def.specs.declared.problem.Problem.{Problem}
use Rattle.amr_def.specs.Domain.{Domain, columns, domain, is_periodic, rows, wrapped}
use Rattle.amr_def.specs.Flux.{face, high_cell}
use Rattle.amr_def.proofs.Flows.{wrapped_end, wrapped_inside}
use Rattle.amr_def.proofs.Uncovered.{wrapped_at}
use Rattle.amr_patch.specs.declared.patches.Patch.{Patch}
use Rattle.amr_patch.specs.Patches.{ArePatchesApart, box}
use Rattle.amr_patch.specs.Places.{is_edge_face, is_end}
use Rattle.amr_patch.proofs.Lookups.{one_patch, same_default}
use Rattle.amr_patch.proofs.Rows.{inside, is_inside}
use Rattle.amr_faces.specs.Faces.{IsInDomain, passing, x_end, y_end}
use Rattle.amr_register.proofs.CollectLaws.{column_high, row_high}
use Rattle.amr_register.proofs.Homes.{HasSize, size_at, within_domain}
use Rattle.amr_layout.specs.declared.PutAt.{PutAt}
use Rattle.amr_layout.proofs.Planned.{all_images, all_parts, all_passing}
use Rattle.amr_layout.specs.Places.{borders_of, holder_of, home_face, leads_on, level_borders, placed, puts_of}

-- ---- lists

pub all_filtered : {A : Type 0} (test : A → Bool) (P : A → Type 0) (xs : List A) → All (λ x. test x ≡ true → P x) xs → All P (filter test xs)
all_filtered test P xs h k d lt = All-filter test (λ x. test x ≡ true → P x) xs h k d lt (filter_passes test xs k d lt)

all_placed : (P : Face → Type 0) (n : ℕ) (fs : List Face) → All P fs → All (λ (u : PutAt). P u.face) (placed n fs)
all_placed P n [] h k d lt = absurd (omega arith)
all_placed P n (f ∷ fs) h zero d lt = h 0 f (omega arith)
all_placed P n (f ∷ fs) h (suc k) d lt = all_placed P (suc n) fs (λ j e l. h (suc j) e (omega arith)) k d (omega arith)

-- ---- a face that stands for one at the high side of a patch lies on the low edge of the patch that owns it

-- a coordinate one past the high end of a range, which stands for one of a range apart from it, stands for that range's first
first_of : (s : Bool) (n : ℕ) (high low high' : ℤ) → 0 < n → pos 0 ≤ℤ high → high <ℤ pos n → pos 0 ≤ℤ low → high' <ℤ pos n → (low ≤ℤ high → high ≤ℤ high' → high' ≡ high)
    → low ≤ℤ wrapped s n (high +ℤ pos 1) → wrapped s n (high +ℤ pos 1) ≤ℤ high' → wrapped s n (high +ℤ pos 1) ≡ low
first_of s n (negsuc a) low high' some from to lo hi out h k = absurd (omega (arith, ints, from))
first_of s n (pos a) (negsuc c) high' some from to lo hi out h k = absurd (omega (arith, ints, lo))
first_of s n (pos a) (pos c) high' some from to lo hi out h k = by_size (cases_lt (a + 1) n)
  where
    next : pos a +ℤ pos 1 ≡ pos (a + 1)
    next = omega (arith, ints)

    by_place : wrapped s n (pos a +ℤ pos 1) ≡ pos (a + 1) → (c < a + 1) ⊎ (a + 1 ≤ c) → wrapped s n (pos a +ℤ pos 1) ≡ pos c
    by_place e (inl lt) =
        let top : pos (a + 1) ≤ℤ high' = subst (λ (z : ℤ). z ≤ℤ high') e k in
        let same : high' ≡ pos a = out (omega (arith, ints, lt)) (omega (arith, ints, top)) in
        absurd (omega (arith, ints, top, same))
    by_place e (inr le) =
        let low : pos c ≤ℤ pos (a + 1) = subst (λ (z : ℤ). pos c ≤ℤ z) e h in
        e ∙ ap pos (omega (arith, ints, low, le))

    by_wrap : (t : Bool) → s ≡ t → a + 1 ≡ n → wrapped s n (pos a +ℤ pos 1) ≡ pos c
    by_wrap true e last =
        let at : pos a +ℤ pos 1 ≡ pos n = next ∙ ap pos last in
        let none : wrapped s n (pos a +ℤ pos 1) ≡ pos 0 = ap (λ (t : Bool). wrapped t n (pos a +ℤ pos 1)) e ∙ ap (wrapped true n) at ∙ wrapped_end n ∙ wrapped_inside true n 0 some in
        let low : pos c ≤ℤ pos 0 = subst (λ (z : ℤ). pos c ≤ℤ z) none h in
        none ∙ ap pos (omega (arith, ints, low))
    by_wrap false e last =
        let same : wrapped s n (pos a +ℤ pos 1) ≡ pos a +ℤ pos 1 = ap (λ (t : Bool). wrapped t n (pos a +ℤ pos 1)) e in
        let top : (pos a +ℤ pos 1) ≤ℤ high' = subst (λ (z : ℤ). z ≤ℤ high') same k in
        absurd (omega (arith, ints, top, last, hi))

    by_size : (a + 1 < n) ⊎ (n ≤ a + 1) → wrapped s n (pos a +ℤ pos 1) ≡ pos c
    by_size (inl lt) = by_place (ap (wrapped s n) next ∙ wrapped_inside s n (a + 1) lt) (cases_lt c (a + 1))
    by_size (inr le) = by_wrap s refl (omega (arith, ints, to, le))

on_low_x : (b : Extent) (x y : ℤ) → holds b (cell x y) ≡ true → x ≡ b.lo.x → is_edge_face b (face X x y) ≡ true
on_low_x b x y held e =
    let k = inside b (cell x y) held in
    and_from (within b.lo.y b.hi.y y) (is_end b.lo.x b.hi.x x) (is_between b.lo.y b.hi.y y k.south k.north) (or_left _ _ (int_eq-itself x b.lo.x e))

on_low_y : (b : Extent) (x y : ℤ) → holds b (cell x y) ≡ true → y ≡ b.lo.y → is_edge_face b (face Y x y) ≡ true
on_low_y b x y held e =
    let k = inside b (cell x y) held in
    and_from (within b.lo.x b.hi.x x) (is_end b.lo.y b.hi.y y) (is_between b.lo.x b.hi.x x k.west k.east) (or_left _ _ (int_eq-itself y b.lo.y e))

pub record LiesWithin (d : Domain) (b : Extent) : Type 0 where
  pub west : pos 0 ≤ℤ b.lo.x
  pub south : pos 0 ≤ℤ b.lo.y
  pub east : b.hi.x <ℤ pos d.columns
  pub north : b.hi.y <ℤ pos d.rows

lies_within : (d : Domain) (b : Extent) → IsNear b → IsInDomain d b → LiesWithin d b
lies_within d b near lies =
    let low = within_domain d b.lo (lies.at b.lo (is_inside b b.lo (record { west = omega (arith, ints); east = near.wide; south = omega (arith, ints); north = near.high }))) in
    let high = within_domain d b.hi (lies.at b.hi (is_inside b b.hi (record { west = near.wide; east = omega (arith, ints); south = near.high; north = omega (arith, ints) }))) in
    record { west = low.west; south = low.south; east = high.east; north = high.north }

module _ (p : Problem) (l : ℕ) (few : l ≤ 4) (ps : List Patch) (apart : ArePatchesApart ps) (lies : All (λ q. IsInDomain (domain p l) (box q)) ps) (i m : ℕ) (e : Patch) (i_in : i < length ps) (m_in : m < length ps) where
  abbrev r : Extent
  r = box (slice_index_or ps i e)

  abbrev b : Extent
  b = box (slice_index_or ps m e)

  near_r : IsNear r
  near_r = (slice_index_or ps i e).near

  corner_r : LiesWithin (domain p l) r
  corner_r = lies_within (domain p l) r near_r (lies i e i_in)

  corner_b : LiesWithin (domain p l) b
  corner_b = lies_within (domain p l) b (slice_index_or ps m e).near (lies m e m_in)

  size : HasSize (domain p l)
  size = size_at p l few

  one_box : (c : Cell) → holds r c ≡ true → holds b c ≡ true → b ≡ r
  one_box c h k = let same : m ≡ i = one_patch ps c m i e apart m_in i_in k h in ap (λ (n : ℕ). box (slice_index_or ps n e)) same

  abbrev Owned : Face → Type 0
  Owned f = holds b (high_cell (home_face (domain p l) f)) ≡ true → is_edge_face b (home_face (domain p l) f) ≡ true

  pub x_owned : (j : ℕ) → j < height r → Owned (x_end r j)
  x_owned j below held =
      let y = r.lo.y +ℤ pos j in
      let in_row = inside r (cell r.hi.x y) (row_high r j near_r below) in
      let still : wrapped (is_periodic p.y_sides) (rows p l) y ≡ y = wrapped_at (is_periodic p.y_sides) (rows p l) y (omega (arith, ints, in_row.south, corner_r.south)) (omega (arith, ints, in_row.north, corner_r.north)) in
      let k = inside b (high_cell (home_face (domain p l) (x_end r j))) held in
      on_low_x b _ _ held
      (first_of (is_periodic p.x_sides) (columns p l) r.hi.x b.lo.x b.hi.x size.some_columns (omega (arith, ints, corner_r.west, near_r.wide)) corner_r.east corner_b.west corner_b.east
      (λ from to. ap (λ (t : Extent). t.hi.x) (one_box (cell r.hi.x y) (row_high r j near_r below)
      (is_inside b (cell r.hi.x y) (record { west = from; east = to; south = subst (λ (z : ℤ). b.lo.y ≤ℤ z) still k.south; north = subst (λ (z : ℤ). z ≤ℤ b.hi.y) still k.north }))))
      k.west k.east)

  pub y_owned : (j : ℕ) → j < width r → Owned (y_end r j)
  y_owned j below held =
      let x = r.lo.x +ℤ pos j in
      let in_column = inside r (cell x r.hi.y) (column_high r j near_r below) in
      let still : wrapped (is_periodic p.x_sides) (columns p l) x ≡ x = wrapped_at (is_periodic p.x_sides) (columns p l) x (omega (arith, ints, in_column.west, corner_r.west)) (omega (arith, ints, in_column.east, corner_r.east)) in
      let k = inside b (high_cell (home_face (domain p l) (y_end r j))) held in
      on_low_y b _ _ held
      (first_of (is_periodic p.y_sides) (rows p l) r.hi.y b.lo.y b.hi.y size.some_rows (omega (arith, ints, corner_r.south, near_r.high)) corner_r.north corner_b.south corner_b.north
      (λ from to. ap (λ (t : Extent). t.hi.y) (one_box (cell x r.hi.y) (column_high r j near_r below)
      (is_inside b (cell x r.hi.y) (record { west = subst (λ (z : ℤ). b.lo.x ≤ℤ z) still k.west; east = subst (λ (z : ℤ). z ≤ℤ b.hi.x) still k.east; south = from; north = to }))))
      k.south k.north)

  pub borders_owned : (each : ℕ) → All Owned (borders_of (domain p l) ps each r)
  unfolding borders_of
  borders_owned each =
      let leads = leads_on (domain p l) ps each (holder_of ps r.lo) in
      All-append Owned (passing leads (x_end r) (height r)) (passing leads (y_end r) (width r))
      (all_passing Owned leads (x_end r) (height r) (λ j lt t. x_owned j lt))
      (all_passing Owned leads (y_end r) (width r) (λ j lt t. y_owned j lt))

pub puts_on_edges : (p : Problem) (l : ℕ) (ps : List Patch) (each : ℕ) → l ≤ 4 → ArePatchesApart ps → All (λ q. IsInDomain (domain p l) (box q)) ps → All (λ q. All (λ (u : PutAt). IsTrue (is_edge_face (box q) u.face)) (puts_of (domain p l) ps each (box q))) ps
unfolding puts_of level_borders
puts_on_edges p l ps each few apart lies m e lt = all_filtered (λ (u : PutAt). holds (box q) (high_cell u.face)) (λ (u : PutAt). IsTrue (is_edge_face (box q) u.face)) (placed 0 (map (home_face d) fs)) (all_placed P 0 (map (home_face d) fs) faces)
  where
    d : Domain
    d = domain p l

    q : Patch
    q = slice_index_or ps m e

    fs : List Face
    fs = flat_map (λ (r : Patch). borders_of d ps each (box r)) ps

    P : Face → Type 0
    P f = holds (box q) (high_cell f) ≡ true → is_edge_face (box q) f ≡ true

    of_patch : (i : ℕ) (r : Patch) → i < length ps → All (λ f. P (home_face d f)) (borders_of d ps each (box (slice_index_or ps i r)))
    of_patch i r below =
        subst (λ (t : Patch). All (λ f. P (home_face d f)) (borders_of d ps each (box t))) (same_default ps i e r below)
        (λ k g within held. borders_owned p l few ps apart lies i m e below lt each k g within held)

    faces : All P (map (home_face d) fs)
    faces = all_images (home_face d) P fs (all_parts (λ (r : Patch). borders_of d ps each (box r)) (λ f. P (home_face d f)) ps of_patch)
