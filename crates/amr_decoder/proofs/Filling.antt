-- Masses placed in patches, span by span, row by row and box by box.
use Rattle.std.proofs.Common.{◌≡◌, ℕ, zero, suc, ◌+◌, ◌-◌, ◌*◌, ◌<◌, ◌≤◌, Bool, true, false, ◌||◌, pos, ◌+ℤ◌, ◌≤ℤ◌, ◌<ℤ◌, List, [], ◌∷◌, ◌++◌, length, map, drop, take, cond, if◌then◌else◌, refl, sym, ap, ◌∙◌, arith, ◌⊎◌, inl, inr, length-take}
use Rattle.std.proofs.Math.Bool.{or-false, or_assoc}
use Rattle.std.specs.Prelude.{IsTrue, slice_index, slice_index_or, slice_set}
use Rattle.std.specs.declared.option.Option.{Option}
use Rattle.std.specs.declared.option.Option.TheVariants.{None, Some}
use Rattle.std.proofs.lemmas.Int.{ints}
use Rattle.std.proofs.lemmas.Bool.{both_ways, cases_lt, false_from_ne_true, or_parts}
use Rattle.std.proofs.lemmas.List.{get_or-drop, get_or-take}
use Rattle.amr_box.specs.declared.Cell.{Cell}
use Rattle.amr_box.specs.Cells.{Extent, IsNear, cell, holds, height, width, in_boxes}
use Rattle.amr_patch.specs.declared.patches.Patch.{Patch}
use Rattle.amr_patch.specs.Patches.{ArePatchesApart, SameBeside, box, mass_in, masses_in}
use Rattle.amr_patch.proofs.Entries.{in_grown}
use Rattle.amr_patch.proofs.LevelLaws.{boxes_set, masses_set_same}
use Rattle.amr_patch.proofs.Lookups.{same_default}
use Rattle.amr_patch.proofs.Rows.{inside, is_inside, sides}
use Rattle.amr_payload.specs.Tests.{Grid, place_in}
use Rattle.amr_payload.specs.Tests as tests
use Rattle.amr_payload.proofs.Places.{IsCellOf, cell_of, place_of}
use Rattle.amr_decoder.specs.Filled.{AreGridsSet, IsGridSet, IsSpanSet}

-- ---- spans

pub span_more : (c e : Cell) (ms : List ℕ) (a b : ℕ) (ps qs rs : List Patch) → e ≡ cell (c.x +ℤ pos a) c.y → IsSpanSet c ms a ps qs → IsSpanSet e (drop a ms) b qs rs → IsSpanSet c ms (a + b) ps rs
span_more c e ms a b ps qs rs is first second = record {
  boxes = second.boxes ∙ first.boxes;
  set = λ k h. by_side k h (cases_lt k a);
  others = λ d h. second.others d (λ k lt same. let more : a + k < a + b = omega arith in h (a + k) more (same ∙ (λ i. cell ((is i).x +ℤ pos k) (is i).y) ∙ along k)) ∙ first.others d (λ k lt. h k (omega arith));
}
  where
    along : (k : ℕ) → cell (c.x +ℤ pos a +ℤ pos k) c.y ≡ cell (c.x +ℤ pos (a + k)) c.y
    along k = let x : c.x +ℤ pos a +ℤ pos k ≡ c.x +ℤ pos (a + k) = omega (arith, ints) in λ i. cell (x i) c.y

    by_side : (k : ℕ) → k < a + b → (k < a) ⊎ (a ≤ k) → masses_in rs (cell (c.x +ℤ pos k) c.y) ≡ Some (slice_index ms k)
    by_side k h (inl lt) = second.others (cell (c.x +ℤ pos k) c.y) (λ j inside same. apart j (ap (λ (d : Cell). d.x) same ∙ (λ i. (is i).x +ℤ pos j))) ∙ first.set k lt
      where
        apart : (j : ℕ) → c.x +ℤ pos k ≡ c.x +ℤ pos a +ℤ pos j → ⊥
        apart j same = absurd (omega (arith, ints, same, lt))
    by_side k h (inr le) =
        let back : a + (k - a) ≡ k = omega arith in
        ap (λ n. masses_in rs (cell (c.x +ℤ pos n) c.y)) (sym back) ∙ ap (masses_in rs) (sym ((λ i. cell ((is i).x +ℤ pos (k - a)) (is i).y) ∙ along (k - a)))
        ∙ second.set (k - a) (omega arith)
        ∙ ap Some (get_or-drop a ms (k - a) 0 ∙ ap (slice_index ms) back)

-- a span that is set in one patch
masses_kept : (ps : List Patch) (k : ℕ) (e : Cell) (d p : Patch) → k < length ps → box p ≡ box (slice_index_or ps k d) → (holds (box (slice_index_or ps k d)) e ≡ true → mass_in p e ≡ mass_in (slice_index_or ps k d) e) → masses_in (slice_set ps k p) e ≡ masses_in ps e
masses_kept [] k e d p lt same h = absurd (omega arith)
masses_kept (q ∷ ps) zero e d p lt same h = head (holds (box q) e) refl
  where
    head : (t : Bool) → holds (box q) e ≡ t → cond (holds (box p) e) (Some (mass_in p e)) (masses_in ps e) ≡ cond (holds (box q) e) (Some (mass_in q e)) (masses_in ps e)
    head true f = λ i. cond (holds (same i) e) (Some (h f i)) (masses_in ps e)
    head false f = ap (λ (b : Extent). cond (holds b e) (Some (mass_in p e)) (masses_in ps e)) same ∙ ap (λ (t : Bool). cond t (Some (mass_in p e)) (masses_in ps e)) f ∙ ap (λ (t : Bool). cond t (Some (mass_in q e)) (masses_in ps e)) (sym f)
masses_kept (q ∷ ps) (suc k) e d p lt same h = ap (λ (m : Option ℕ). cond (holds (box q) e) (Some (mass_in q e)) m) (masses_kept ps k e d p (omega arith) same h)

pub span_set : (ps : List Patch) (k : ℕ) (d p : Patch) (c : Cell) (ms : List ℕ) (n : ℕ) → k < length ps → box p ≡ box (slice_index_or ps k d) → ArePatchesApart ps → holds (box (slice_index_or ps k d)) c ≡ true → (c.x +ℤ pos n) ≤ℤ ((box (slice_index_or ps k d)).hi.x +ℤ pos 1) → n ≤ length ms
    → ((j : ℕ) → j < length (take n ms) → mass_in p (cell (c.x +ℤ pos j) c.y) ≡ slice_index (take n ms) j) → SameBeside c (length (take n ms)) (slice_index_or ps k d) p → IsSpanSet c ms n ps (slice_set ps k p)
span_set ps k d p c ms n lt of_box apart held room few made beside = record {
  boxes = boxes_set ps k p lt here;
  set = λ j h. masses_set_same ps k (cell (c.x +ℤ pos j) c.y) p lt here apart (ap (λ (b : Extent). holds b (cell (c.x +ℤ pos j) c.y)) of_box ∙ in_patch j h)
      ∙ ap Some (made j (omega (arith, h, count)) ∙ get_or-take n ms j 0 h);
  others = λ e h. masses_kept ps k e d p lt of_box (λ inside. beside e (in_grown (box (slice_index_or ps k d)) e inside) (λ j less. h j (omega (arith, less, count))));
}
  where
    here : box p ≡ box (slice_index_or ps k p)
    here = of_box ∙ ap (λ (q : Patch). box q) (same_default ps k d p lt)

    count : length (take n ms) ≡ n
    count = omega (arith, length-take {A = ℕ} n ms, few)

    in_patch : (j : ℕ) → j < n → holds (box (slice_index_or ps k d)) (cell (c.x +ℤ pos j) c.y) ≡ true
    in_patch j h =
        let b = box (slice_index_or ps k d) in
        let i = inside b c held in
        is_inside b (cell (c.x +ℤ pos j) c.y) (record { west = omega (arith, ints, i.west); east = omega (arith, ints, room, h); south = i.south; north = i.north })

-- ---- rows of a box

pub record IsFilledTo (g : Grid) (j : ℕ) (ps qs : List Patch) : Type 0 where
  pub boxes : map box qs ≡ map box ps
  pub set : (d : Cell) → IsTrue (holds g.box d) → d.y <ℤ (g.box.lo.y +ℤ pos j) → masses_in qs d ≡ Some (slice_index g.masses (place_in g.box d))
  pub others : (d : Cell) → holds g.box d ≡ false → masses_in qs d ≡ masses_in ps d

pub no_rows : (g : Grid) (ps : List Patch) → IsFilledTo g 0 ps ps
no_rows g ps = record { boxes = refl; set = λ d held low. absurd (let i = inside g.box d held in omega (arith, ints, i.south, low)); others = λ d h. refl }

-- the cells of a row of a box
pub held_at : (b : Extent) (i j : ℕ) → IsNear b → i < width b → j < height b → holds b (cell (b.lo.x +ℤ pos i) (b.lo.y +ℤ pos j)) ≡ true
held_at b i j near hi hj =
    let s = sides b near in
    is_inside b (cell (b.lo.x +ℤ pos i) (b.lo.y +ℤ pos j)) (record { west = omega (arith, ints); east = omega (arith, ints, s.wide, hi); south = omega (arith, ints); north = omega (arith, ints, s.high, hj) })

pub row_filled : (g : Grid) (j : ℕ) (c : Cell) (row : List ℕ) (ps qs rs : List Patch) → IsNear g.box → j < height g.box → c ≡ cell (g.box.lo.x +ℤ pos 0) (g.box.lo.y +ℤ pos j) → length row ≡ width g.box
    → ((i : ℕ) → i < width g.box → slice_index row i ≡ slice_index g.masses (j * width g.box + i)) → IsFilledTo g j ps qs → IsSpanSet c row (length row) qs rs → IsFilledTo g (j + 1) ps rs
row_filled g j c row ps qs rs near inside_rows is count at filled set = record {
  boxes = set.boxes ∙ filled.boxes;
  set = λ d held low. by_row d held (cell_of g.box d held) low;
  others = λ d h. set.others d (λ k lt same. clash d k h lt same) ∙ filled.others d h;
}
  where
    along : (k : ℕ) → cell (c.x +ℤ pos k) c.y ≡ cell (g.box.lo.x +ℤ pos k) (g.box.lo.y +ℤ pos j)
    along k = let x : g.box.lo.x +ℤ pos 0 +ℤ pos k ≡ g.box.lo.x +ℤ pos k = omega (arith, ints) in (λ i. cell ((is i).x +ℤ pos k) (is i).y) ∙ (λ i. cell (x i) (g.box.lo.y +ℤ pos j))

    clash : (d : Cell) (k : ℕ) → holds g.box d ≡ false → k < length row → d ≡ cell (c.x +ℤ pos k) c.y → ⊥
    clash d k h lt same = both_ways (holds g.box d) h (ap (holds g.box) (same ∙ along k) ∙ held_at g.box k j near (omega (arith, lt, count)) inside_rows)

    by_row : (d : Cell) → holds g.box d ≡ true → IsCellOf g.box d → d.y <ℤ (g.box.lo.y +ℤ pos (j + 1)) → masses_in rs d ≡ Some (slice_index g.masses (place_in g.box d))
    by_row d held at_d low = choose (cases_lt at_d.j j)
      where
        y_is : d.y ≡ g.box.lo.y +ℤ pos at_d.j
        y_is = ap (λ (e : Cell). e.y) at_d.is

        choose : (at_d.j < j) ⊎ (j ≤ at_d.j) → masses_in rs d ≡ Some (slice_index g.masses (place_in g.box d))
        choose (inl lt) =
            set.others d (λ k less same. absurd (let other : d.y ≡ g.box.lo.y +ℤ pos j = ap (λ (e : Cell). e.y) (same ∙ along k) in omega (arith, ints, other, y_is, lt)))
            ∙ filled.set d held (omega (arith, ints, y_is, lt))
        choose (inr le) =
            let same_row : at_d.j ≡ j = omega (arith, ints, y_is, low, le) in
            let here : d ≡ cell (g.box.lo.x +ℤ pos at_d.i) (g.box.lo.y +ℤ pos j) = at_d.is ∙ ap (λ n. cell (g.box.lo.x +ℤ pos at_d.i) (g.box.lo.y +ℤ pos n)) same_row in
            let place : place_in g.box d ≡ j * width g.box + at_d.i = ap (place_in g.box) here ∙ place_of g.box at_d.i j in
            ap (masses_in rs) (here ∙ sym (along at_d.i)) ∙ set.set at_d.i (omega (arith, at_d.column, count)) ∙ ap Some (at at_d.i at_d.column ∙ ap (slice_index g.masses) (sym place))

pub all_rows : (g : Grid) (j : ℕ) (ps qs : List Patch) → IsNear g.box → height g.box ≤ j → IsFilledTo g j ps qs → IsGridSet g ps qs
all_rows g j ps qs near all filled = record {
  boxes = filled.boxes;
  set = λ d held. let i = inside g.box d held in let s = sides g.box near in filled.set d held (omega (arith, ints, i.north, s.high, all));
  others = filled.others;
}

-- ---- boxes

in_more : (gs : List Grid) (g : Grid) (d : Cell) → in_boxes (map (λ g. g.box) (gs ++ g ∷ [])) d ≡ (in_boxes (map (λ g. g.box) gs) d || holds g.box d)
in_more [] g d = or-false (holds g.box d)
in_more (h ∷ gs) g d = ap (λ r. holds h.box d || r) (in_more gs g d) ∙ sym (or_assoc (holds h.box d) (in_boxes (map (λ g. g.box) gs) d) (holds g.box d))

first_has : (gs hs : List Grid) (d : Cell) → in_boxes (map (λ g. g.box) gs) d ≡ true → tests.masses_in (gs ++ hs) d ≡ tests.masses_in gs d
first_has [] hs d h = absurd (cc)
first_has (g ∷ gs) hs d h = by_test (holds g.box d) h (first_has gs hs d)
  where
    by_test : (t : Bool) → (t || in_boxes (map (λ g. g.box) gs) d) ≡ true → (in_boxes (map (λ g. g.box) gs) d ≡ true → tests.masses_in (gs ++ hs) d ≡ tests.masses_in gs d)
        → (if t then Some (slice_index g.masses (place_in g.box d)) else tests.masses_in (gs ++ hs) d) ≡ (if t then Some (slice_index g.masses (place_in g.box d)) else tests.masses_in gs d)
    by_test true e more = refl
    by_test false e more = more e

last_has : (gs : List Grid) (g : Grid) (d : Cell) → in_boxes (map (λ g. g.box) gs) d ≡ false → holds g.box d ≡ true → tests.masses_in (gs ++ g ∷ []) d ≡ Some (slice_index g.masses (place_in g.box d))
last_has [] g d h held = ap (λ (t : Bool). if t then Some (slice_index g.masses (place_in g.box d)) else None) held
last_has (h ∷ gs) g d none held =
    let parts = or_parts (holds h.box d) (in_boxes (map (λ g. g.box) gs) d) none in
    ap (λ (t : Bool). if t then Some (slice_index h.masses (place_in h.box d)) else tests.masses_in (gs ++ g ∷ []) d) parts.0 ∙ last_has gs g d parts.1 held

pub box_filled : (gs : List Grid) (g : Grid) (ps qs rs : List Patch) → ((d : Cell) → in_boxes (map (λ g. g.box) gs) d ≡ true → holds g.box d ≡ true → ⊥) → AreGridsSet gs ps qs → IsGridSet g qs rs → AreGridsSet (gs ++ g ∷ []) ps rs
box_filled gs g ps qs rs apart so_far filled = record {
  boxes = filled.boxes ∙ so_far.boxes;
  set = λ d h. by_test d (in_boxes (map (λ g. g.box) gs) d) refl (sym (in_more gs g d) ∙ h);
}
  where
    by_test : (d : Cell) (t : Bool) → in_boxes (map (λ g. g.box) gs) d ≡ t → (in_boxes (map (λ g. g.box) gs) d || holds g.box d) ≡ true → masses_in rs d ≡ tests.masses_in (gs ++ g ∷ []) d
    by_test d true e h = filled.others d (false_from_ne_true (holds g.box d) (apart d e)) ∙ so_far.set d e ∙ sym (first_has gs (g ∷ []) d e)
    by_test d false e h =
        let held : holds g.box d ≡ true = ap (λ t. t || holds g.box d) (sym e) ∙ h in
        filled.set d held ∙ sym (last_has gs g d e held)
