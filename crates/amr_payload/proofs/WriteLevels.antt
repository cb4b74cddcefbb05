-- The levels of a sound state are read back from their bytes.
use Rattle.std.proofs.Common.{◌≡◌, ℕ, suc, ◌+◌, ◌*◌, ◌^◌, ◌<◌, ◌≤◌, Bool, true, false, not, ◌&&◌, ◌||◌, ℤ, pos, negsuc, ◌+ℤ◌, ◌≤ℤ◌, ◌<ℤ◌, List, [], ◌∷◌, ◌++◌, length, map, refl, sym, ap, subst, ◌∙◌, arith, All, AllPairs, if◌then◌else◌, is_some, unwrap_or, nat_le, ◌==◌, mul-le-mul_right, mul-le-mul, append_assoc, ◌/◌, ◌%◌, Option, Some, None}
use Rattle.std.specs.Prelude.{slice_index}
use Rattle.std.specs.List.{list_any}
use Rattle.std.specs.Int.{int_rem_euclid}
use Rattle.std.specs.Ordering.{int_eq}
use Rattle.std.proofs.lemmas.Int.{ints}
use Rattle.std.proofs.lemmas.Bool.{and_from, or_left, or_right, or_from, false_from_ne_true, le-leb, eq-eqb, not_from_false}
use Rattle.std.proofs.lemmas.Nat.{div-mul-add, mod-mul-add}
use Rattle.std.proofs.lemmas.List.{length-map}
use Rattle.std.proofs.lemmas.List.FromFn.{get_or-map-range_with_len}
use Rattle.amr_box.specs.declared.Cell.{Cell}
use Rattle.amr_box.specs.Cells.{Extent, extent, IsProper, cell, cells_of, common, holds, width, height, is_same_cell, is_proper, in_boxes}
use Rattle.amr_box.proofs.CellEquality.{number_itself, same_cell}
use Rattle.amr_box.proofs.Parts.{length-cells_of}
use Rattle.amr_def.specs.declared.problem.Problem.{Problem}
use Rattle.amr_def.specs.Domain.{Domain, columns, rows, domain, domain_box, in_domain, is_near}
use Rattle.amr_def.specs.State.{Masses, Level, mass_of, is_covered, is_covered_by, children_mass}
use Rattle.amr_def.specs.Facts.{IsAligned, IsNestedLevel}
use Rattle.amr_def.proofs.Nesting.{in_domain-inside}
use Rattle.amr_def.proofs.Sizes.{doubled_small}
use Rattle.amr_def.proofs.Uncovered.{domain_box_cells}
use Rattle.amr_def.proofs.Courants.{weighs}
use Rattle.amr_payload.specs.Payload.{Form, level_bytes, levels_bytes, level_cells}
use Rattle.amr_payload.specs.Tests.{tested, read_also, Grid, is_same_box, lies_in, is_multiple, is_aligned, meets, is_box_of, is_mass, is_box_count, place_in, masses_in, level_of, surrounds, is_in_sync, read_level, read_finer, read_all_finer}
use Rattle.amr_payload.proofs.Readings.{left, Gives, gives, gives_then, gives_tested, gives_also, gives_at}
use Rattle.amr_payload.proofs.Forms.{IsForm}
use Rattle.amr_payload.proofs.Fields.{Each}
use Rattle.amr_payload.proofs.Grids.{IsWritable, IsGrid, AreGrids, IsFit, grids_bytes, level_gives}
use Rattle.amr_payload.proofs.Places.{all_cells, by_places, place_of, cell_of}
use Rattle.amr_payload.proofs.GridLevels.{HaveNoCommonCell, low_held, high_held, is_proper_from, meeting_cell, level_written}
use Rattle.amr_payload.proofs.Counting.{few_boxes, domain_cells}
use Rattle.amr_payload.proofs.ReadStates.{bound, IsGood, IsOver, IsTower}

-- ---- the boxes of a level with the masses of their cells

abbrev pub grid : Masses → Extent → Grid
grid m b = record { box = b; masses = map (mass_of m) (cells_of b) }

abbrev pub grids_of : Level → List Grid
grids_of k = map (grid k.masses) k.boxes

-- a mass, looked up by the place of its cell
pub mass_at_place : (m : Masses) (b : Extent) (c : Cell) → holds b c ≡ true → slice_index (map (mass_of m) (cells_of b)) (place_in b c) ≡ mass_of m c
mass_at_place m b c held =
    let k = cell_of b c held in
    let n = height b * width b in
    let g : ℕ → ℕ = λ i. mass_of m (cell (b.lo.x +ℤ pos (i % width b)) (b.lo.y +ℤ pos (i / width b))) in
    let place : place_in b c ≡ k.j * width b + k.i = ap (place_in b) k.is ∙ place_of b k.i k.j in
    let inside : k.j * width b + k.i < n = below k.i k.j (width b) (height b) k.column k.row in
    ap (λ (ms : List ℕ). slice_index ms (place_in b c)) (by_places (mass_of m) g b (λ i j column. at_numbers m b i j column))
    ∙ get_or-map-range_with_len g 0 n (place_in b c) (k.j * width b + k.i) 0 (subst (λ (q : ℕ). q < n) (sym place) inside) (zero_and (place_in b c) (k.j * width b + k.i) place)
    ∙ sym (at_numbers m b k.i k.j k.column) ∙ ap (mass_of m) (sym k.is)
  where
    zero_and : (a b : ℕ) → a ≡ b → 0 + a ≡ b
    zero_and a b e = omega arith

    below : (i j w h : ℕ) → i < w → j < h → j * w + i < h * w
    below i j w h column row = let most : (j + 1) * w ≤ h * w = mul-le-mul_right w (row_next j h row) in let one : (j + 1) * w ≡ j * w + w = omega arith in omega arith
      where
        row_next : (j h : ℕ) → j < h → j + 1 ≤ h
        row_next j h r = omega arith

    quotient : (i j w : ℕ) → i < w → (j * w + i) / w ≡ j
    quotient i j w h = div-mul-add j w i h

    remainder : (i j w : ℕ) → i < w → (j * w + i) % w ≡ i
    remainder i j w h = mod-mul-add j w i h

    at_numbers : (m : Masses) (b : Extent) (i j : ℕ) → i < width b → mass_of m (cell (b.lo.x +ℤ pos i) (b.lo.y +ℤ pos j)) ≡ mass_of m (cell (b.lo.x +ℤ pos ((j * width b + i) % width b)) (b.lo.y +ℤ pos ((j * width b + i) / width b)))
    at_numbers m b i j column =
        let q = quotient i j (width b) column in
        let r = remainder i j (width b) column in
        λ t. mass_of m (cell (b.lo.x +ℤ pos (sym r t)) (b.lo.y +ℤ pos (sym q t)))

boxes_kept : (m : Masses) (bs : List Extent) → map (λ (g : Grid). g.box) (map (grid m) bs) ≡ bs
boxes_kept m [] = refl
boxes_kept m (b ∷ bs) = ap (λ (es : List Extent). b ∷ es) (boxes_kept m bs)

-- a cell of the boxes has its mass, and no other cell has one
masses_kept : (m : Masses) (bs : List Extent) (c : Cell) → masses_in (map (grid m) bs) c ≡ (if in_boxes bs c then Some (mass_of m c) else None)
masses_kept m [] c = refl
masses_kept m (b ∷ bs) c = by_test (holds b c) refl (masses_kept m bs c)
  where
    by_test : (t : Bool) → holds b c ≡ t → masses_in (map (grid m) bs) c ≡ (if in_boxes bs c then Some (mass_of m c) else None)
        → (if t then Some (slice_index (map (mass_of m) (cells_of b)) (place_in b c)) else masses_in (map (grid m) bs) c) ≡ (if (t || in_boxes bs c) then Some (mass_of m c) else None)
    by_test true held rest = ap Some (mass_at_place m b c held)
    by_test false held rest = rest

is_its_mass : (o : Option ℕ) (t : Bool) → is_some o ≡ t → (if t then Some (unwrap_or o 0) else None) ≡ o
is_its_mass (Some m) true h = refl
is_its_mass (Some m) false h = absurd (cc)
is_its_mass None true h = absurd (cc)
is_its_mass None false h = refl

pub level_kept : (k : Level) → ((c : Cell) → is_some (k.masses c) ≡ in_boxes k.boxes c) → level_of (grids_of k) ≡ k
unfolding level_of
level_kept k filled =
    let each : (c : Cell) → masses_in (grids_of k) c ≡ k.masses c = λ c. masses_kept k.masses k.boxes c ∙ is_its_mass (k.masses c) (in_boxes k.boxes c) (filled c) in
    λ i. record { boxes = boxes_kept k.masses k.boxes i; masses = λ c. each c i }

-- ---- they pass the tests

domain_itself : (b : Extent) → is_same_box b b ≡ true
domain_itself b =
    let cell_itself : (c : Cell) → is_same_cell c c ≡ true = λ c. and_from (int_eq c.x c.x) (int_eq c.y c.y) (number_itself c.x) (number_itself c.y) in
    and_from (is_same_cell b.lo b.lo) (is_same_cell b.hi b.hi) (cell_itself b.lo) (cell_itself b.hi)

same_multiple : (n : ℕ) (z : ℤ) → int_rem_euclid z (pos n) ≡ pos 0 → is_multiple n z ≡ true
same_multiple n z h = subst (λ (r : ℤ). int_eq r (pos 0) ≡ true) (sym h) (number_itself (pos 0))

is_aligned_from : (n : ℕ) (b : Extent) → IsAligned n b → is_aligned n b ≡ true
is_aligned_from n b h =
    and_from (is_multiple n b.lo.x && is_multiple n b.lo.y && is_multiple n (b.hi.x +ℤ pos 1)) (is_multiple n (b.hi.y +ℤ pos 1))
    (and_from (is_multiple n b.lo.x && is_multiple n b.lo.y) (is_multiple n (b.hi.x +ℤ pos 1))
    (and_from (is_multiple n b.lo.x) (is_multiple n b.lo.y) (same_multiple n b.lo.x h.west) (same_multiple n b.lo.y h.south)) (same_multiple n (b.hi.x +ℤ pos 1) h.east)) (same_multiple n (b.hi.y +ℤ pos 1) h.north)

none_meets : (b : Extent) (earlier : List Extent) → Each (λ e. HaveNoCommonCell e b) earlier → list_any (meets b) earlier ≡ false
none_meets b [] h = refl
none_meets b (e ∷ es) h =
    or_from (meets b e) (list_any (meets b) es) (false_from_ne_true (meets b e) (λ meet. let at = meeting_cell b e meet in h.0 (common b e).lo at.1 at.0)) (none_meets b es h.1)

-- what is known of a box of a level
record IsOf (p : Problem) (l : ℕ) (b : Extent) : Type 0 where
  proper : IsProper b
  inside : (c : Cell) → holds b c ≡ true → in_domain (domain p l) c ≡ true

each_of : (p : Problem) (l : ℕ) (bs : List Extent) → All IsProper bs → ((c : Cell) → in_boxes bs c ≡ true → in_domain (domain p l) c ≡ true) → Each (IsOf p l) bs
each_of p l [] proper inside = tt
each_of p l (b ∷ bs) proper inside = (
  record { proper = proper 0 b (omega arith); inside = λ c held. inside c (or_left (holds b c) (in_boxes bs c) held) },
  each_of p l bs (λ k d before. proper (suc k) d (omega arith)) (λ c held. inside c (or_right (holds b c) (in_boxes bs c) held)),
)

lies : (p : Problem) (l : ℕ) (b : Extent) → IsOf p l b → lies_in (domain p l) b ≡ true
lies p l b h =
    let proper = is_proper_from b h.proper in
    and_from (in_domain (domain p l) b.lo) (in_domain (domain p l) b.hi) (h.inside b.lo (low_held b proper)) (h.inside b.hi (high_held b proper))

record IsNumber (z : ℤ) : Type 0 where
  number : ℕ
  is : z ≡ pos number
  fits : number < 2 ^ 32

number_in : (z : ℤ) (n : ℕ) → pos 0 ≤ℤ z → z <ℤ pos n → n ≤ 4096 → IsNumber z
number_in (pos m) n low high small = record { number = m; is = refl; fits = omega (arith, ints) }
number_in (negsuc m) n low high small = absurd (omega (arith, ints))

writable : (p : Problem) (l : ℕ) (b : Extent) → l ≤ 4 → IsOf p l b → IsWritable b
writable p l b deep h =
    let proper = is_proper_from b h.proper in
    let low = in_domain-inside p l b.lo (h.inside b.lo (low_held b proper)) in
    let high = in_domain-inside p l b.hi (h.inside b.hi (high_held b proper)) in
    let wide = doubled_small p.nx l p.limits.greatest_nx deep in
    let tall = doubled_small p.ny l p.limits.greatest_ny deep in
    let x0 = number_in b.lo.x (columns p l) low.west low.east wide in
    let y0 = number_in b.lo.y (rows p l) low.south low.north tall in
    let x1 = number_in b.hi.x (columns p l) high.west high.east wide in
    let y1 = number_in b.hi.y (rows p l) high.south high.north tall in
    record {
      x0 = x0.number;
      y0 = y0.number;
      x1 = x1.number;
      y1 = y1.number;
      is = λ i. extent (same_cell x0.is y0.is i) (same_cell x1.is y1.is i);
      west = x0.fits;
      south = y0.fits;
      east = x1.fits;
      north = y1.fits;
    }

each_mass : (P : ℕ → Type 0) (m : Masses) (cs : List Cell) → ((c : Cell) → P (mass_of m c)) → Each P (map (mass_of m) cs)
each_mass P m [] h = tt
each_mass P m (c ∷ cs) h = (h c, each_mass P m cs h)

module _ (p : Problem) (n l : ℕ) where
  grid_fits : (m : Masses) (b : Extent) → l ≤ 4 → bound p n < 2 ^ 31 → ((c : Cell) → 4 ^ l * mass_of m c ≤ bound p n) → IsOf p l b → IsFit (grid m b)
  grid_fits m b deep small bounded h = record {
    box = writable p l b deep h;
    masses = each_mass (λ k. k < 2 ^ 32) m (cells_of b) (λ c. let most = weighs l (mass_of m c) (bound p n) (bounded c) in omega arith);
  }

  grids_fit : (m : Masses) (bs : List Extent) → l ≤ 4 → bound p n < 2 ^ 31 → ((c : Cell) → 4 ^ l * mass_of m c ≤ bound p n) → Each (IsOf p l) bs → Each (IsFit) (map (grid m) bs)
  grids_fit m [] deep small bounded h = tt
  grids_fit m (b ∷ bs) deep small bounded h = (grid_fits m b deep small bounded h.0, grids_fit m bs deep small bounded h.1)

  one_grid : (m : Masses) (earlier : List Extent) (b : Extent) → is_box_of p l earlier b ≡ true → ((c : Cell) → 4 ^ l * mass_of m c ≤ bound p n) → IsGrid p n l earlier (grid m b)
  one_grid m earlier b box bounded = record {
    box = box;
    count = length-map (cells_of b) (mass_of m) ∙ length-cells_of b;
    each = each_mass (λ k. is_mass p n l k ≡ true) m (cells_of b) (λ c. le-leb (4 ^ l * mass_of m c) (bound p n) (bounded c));
  }

fine_box_from : (p : Problem) (l : ℕ) (earlier : List Extent) (b : Extent) → IsOf p (suc l) b → IsAligned p.blocking b → Each (λ e. HaveNoCommonCell e b) earlier → is_box_of p (suc l) earlier b ≡ true
unfolding is_box_of
fine_box_from p l earlier b h aligned apart =
    and_from (lies_in (domain p (suc l)) b && is_proper b && is_aligned p.blocking b) (not (list_any (meets b) earlier))
    (and_from (lies_in (domain p (suc l)) b && is_proper b) (is_aligned p.blocking b)
    (and_from (lies_in (domain p (suc l)) b) (is_proper b) (lies p (suc l) b h) (is_proper_from b h.proper)) (is_aligned_from p.blocking b aligned))
    (not_from_false (list_any (meets b) earlier) (none_meets b earlier apart))

pub each_from : {A : Type 0} (P : A → Type 0) (xs : List A) → All P xs → Each P xs
each_from P [] h = tt
each_from P (x ∷ xs) h = (h 0 x (omega arith), each_from P xs (λ k d inside. h (suc k) d (omega arith)))

also_apart : (b : Extent) (earlier bs : List Extent) → Each (HaveNoCommonCell b) bs → Each (λ c. Each (λ e. HaveNoCommonCell e c) earlier) bs → Each (λ c. Each (λ e. HaveNoCommonCell e c) (b ∷ earlier)) bs
also_apart b earlier [] one others = tt
also_apart b earlier (c ∷ bs) one others = ((one.0, others.0), also_apart b earlier bs one.1 others.1)

fine_grids : (p : Problem) (n l : ℕ) (m : Masses) (earlier bs : List Extent) → ((c : Cell) → 4 ^ suc l * mass_of m c ≤ bound p n) → Each (IsOf p (suc l)) bs → Each (IsAligned p.blocking) bs
    → AllPairs HaveNoCommonCell bs → Each (λ b. Each (λ e. HaveNoCommonCell e b) earlier) bs → AreGrids p n (suc l) earlier (map (grid m) bs)
fine_grids p n l m earlier [] bounded h aligned pairs apart = tt
fine_grids p n l m earlier (b ∷ bs) bounded h aligned pairs apart = (
  one_grid p n (suc l) m earlier b (fine_box_from p l earlier b h.0 aligned.0 apart.0) bounded,
  fine_grids p n l m (b ∷ earlier) bs bounded h.1 aligned.1 (λ i j d before inside. pairs (suc i) (suc j) d (omega arith) (omega arith))
      (also_apart b earlier bs (each_from (HaveNoCommonCell b) bs (λ k d inside. pairs 0 (suc k) d (omega arith) (omega arith))) apart.1),
)

none_earlier : (bs : List Extent) → Each (λ b. Each (λ e. HaveNoCommonCell e b) []) bs
none_earlier [] = tt
none_earlier (b ∷ bs) = (tt, none_earlier bs)

-- ---- levels are read back

module _ (fs : ℕ → Form) (p : Problem) (n : ℕ) (forms : (l : ℕ) → IsForm (fs l) p n l) (small : bound p n < 2 ^ 31) where
  level_back : (l : ℕ) (k : Level) (j : ℕ) (bs : List ℕ) → l ≤ 4 → IsGood p n l k → is_box_count p l (length k.boxes) ≡ true → length k.boxes < 2 ^ 32 → AreGrids p n l [] (grids_of k) → Gives (read_level (fs l) p n l (left j (level_bytes (fs l) k ++ bs))) k bs
  level_back l k j bs deep good count few each =
      let kept = level_kept k good.level.filled in
      let sizes : length k.boxes ≡ length (grids_of k) = sym (length-map k.boxes (grid k.masses)) in
      let count_of : is_box_count p l (length (grids_of k)) ≡ true = subst (λ (c : ℕ). is_box_count p l c ≡ true) sizes count in
      let fit = grids_fit p n l k.masses k.boxes deep small good.bounded (each_of p l k.boxes good.level.proper good.level.inside) in
      let bytes : level_bytes (fs l) k ≡ grids_bytes (fs l) (grids_of k) = sym (ap (λ (e : Level). level_bytes (fs l) e) kept) ∙ level_written (fs l) p n l (grids_of k) count_of each in
      let given = level_gives (fs l) p n l (forms l) (grids_of k) j bs count_of (subst (λ (c : ℕ). c < 2 ^ 32) sizes few) each fit in
      subst (λ (e : Level). Gives (read_level (fs l) p n l (left j (level_bytes (fs l) k ++ bs))) e bs) kept
      (gives_at (λ r. read_level (fs l) p n l r) j (level_of (grids_of k)) (level_bytes (fs l) k ++ bs) (grids_bytes (fs l) (grids_of k) ++ bs) bs (ap (λ (xs : List ℕ). xs ++ bs) bytes) given)

  base_grids : (k : Level) (es : List Extent) → es ≡ domain_box (domain p 0) ∷ [] → ((c : Cell) → 4 ^ 0 * mass_of k.masses c ≤ bound p n) → AreGrids p n 0 [] (map (grid k.masses) es)
  unfolding is_box_of
  base_grids k es is bounded = subst (λ (es : List Extent). AreGrids p n 0 [] (map (grid k.masses) es)) (sym is) (one_grid p n 0 k.masses [] (domain_box (domain p 0)) (domain_itself (domain_box (domain p 0))) bounded, tt)

  pub base_back : (k : Level) (j : ℕ) (bs : List ℕ) → IsGood p n 0 k → k.boxes ≡ domain_box (domain p 0) ∷ [] → Gives (read_level (fs 0) p n 0 (left j (level_bytes (fs 0) k ++ bs))) k bs
  base_back k j bs good boxes =
      let one : length k.boxes ≡ 1 = ap (λ (es : List Extent). length es) boxes in
      level_back 0 k j bs (omega arith) good (eq-eqb (length k.boxes) 1 one) (omega arith) (base_grids k k.boxes boxes good.bounded)

  cells_small : (l : ℕ) → l ≤ 4 → level_cells p l < 2 ^ 32
  cells_small l deep =
      let wide = doubled_small p.nx l p.limits.greatest_nx deep in
      let tall = doubled_small p.ny l p.limits.greatest_ny deep in
      let most : p.nx * 2 ^ l * (p.ny * 2 ^ l) ≤ 4096 * 4096 = mul-le-mul wide tall in
      omega (arith, domain_cells p l, most)

  pub fine_back : (l : ℕ) (k : Level) (j : ℕ) (bs : List ℕ) → suc l ≤ 4 → IsGood p n (suc l) k → All (IsAligned p.blocking) k.boxes → Gives (read_level (fs (suc l)) p n (suc l) (left j (level_bytes (fs (suc l)) k ++ bs))) k bs
  fine_back l k j bs deep good aligned =
      let few = few_boxes p l k good.level aligned in
      let most = cells_small l (omega arith) in
      let some : 1 ≤ length k.boxes = omega (arith, good.level.some) in
      level_back (suc l) k j bs deep good (and_from (nat_le 1 (length k.boxes)) (nat_le (length k.boxes) (level_cells p l)) (le-leb 1 (length k.boxes) some) (le-leb (length k.boxes) (level_cells p l) few)) (omega arith)
      (fine_grids p n l k.masses [] k.boxes good.bounded (each_of p (suc l) k.boxes good.level.proper good.level.inside) (each_from (IsAligned p.blocking) k.boxes aligned) good.level.disjoint (none_earlier k.boxes))

  pub finer_back : (l : ℕ) (below k : Level) (j : ℕ) (bs : List ℕ) → suc l ≤ 4 → IsOver p n l below k → Gives (read_finer (fs (suc l)) p n l below (left j (level_bytes (fs (suc l)) k ++ bs))) k bs
  unfolding read_finer
  finer_back l below k j bs deep over =
      gives_then (read_level (fs (suc l)) p n (suc l) (left j (level_bytes (fs (suc l)) k ++ bs))) (λ k a. tested (surrounds (domain p l) below.boxes k.boxes && is_in_sync (domain p l) below.masses k.masses) j k a) k k bs bs
      (fine_back l k j bs deep over.good over.aligned)
      (λ i. gives_tested (surrounds (domain p l) below.boxes k.boxes && is_in_sync (domain p l) below.masses k.masses) j i k bs
      (and_from (surrounds (domain p l) below.boxes k.boxes) (is_in_sync (domain p l) below.masses k.masses) over.around over.sync))

  pub all_finer_back : (l : ℕ) (below : Level) (ks : List Level) (j : ℕ) (bs : List ℕ) → l + length ks ≤ 4 → IsTower p n l below ks → Gives (read_all_finer fs p n (length ks) l below (left j (levels_bytes fs (suc l) ks ++ bs))) ks bs
  all_finer_back l below [] j bs deep tower = gives j [] bs
  all_finer_back l below (k ∷ ks) j bs deep tower =
      let rest = levels_bytes fs (suc (suc l)) ks ++ bs in
      gives_at (λ r. read_all_finer fs p n (suc (length ks)) l below r) j (k ∷ ks) (level_bytes (fs (suc l)) k ++ levels_bytes fs (suc (suc l)) ks ++ bs) (level_bytes (fs (suc l)) k ++ rest) bs (append_assoc (level_bytes (fs (suc l)) k) (levels_bytes fs (suc (suc l)) ks) bs)
      (gives_then (read_finer (fs (suc l)) p n l below (left j (level_bytes (fs (suc l)) k ++ rest))) (λ k a. read_also k (read_all_finer fs p n (length ks) (suc l) k a)) k (k ∷ ks) rest bs
      (finer_back l below k j rest (omega arith) tower.0)
      (λ i. gives_also (read_all_finer fs p n (length ks) (suc l) k (left i rest)) k ks bs (all_finer_back (suc l) k ks i bs (omega arith) tower.1)))

-- ---- two levels of a sound state

if_on : (a b : Bool) → (a ≡ true → b ≡ true) → (not a || b) ≡ true
if_on true b h = h refl
if_on false b h = refl

pub surrounds_from : (d : Domain) (coarse fine : List Extent) → ((c : Cell) → in_domain d c ≡ true → is_near d 1 (is_covered_by fine) c ≡ true → in_boxes coarse c ≡ true) → surrounds d coarse fine ≡ true
surrounds_from d coarse fine h =
    all_cells (λ c. not (is_near d 1 (is_covered_by fine) c) || in_boxes coarse c) (domain_box d)
    (λ c held. if_on (is_near d 1 (is_covered_by fine) c) (in_boxes coarse c) (h c (sym (domain_box_cells d c) ∙ held)))

pub in_sync_from : (d : Domain) (coarse fine : Masses) → ((c : Cell) → is_covered fine c ≡ true → mass_of coarse c ≡ children_mass fine c) → is_in_sync d coarse fine ≡ true
in_sync_from d coarse fine h =
    all_cells (λ c. not (is_covered fine c) || (mass_of coarse c == children_mass fine c)) (domain_box d)
    (λ c held. if_on (is_covered fine c) (mass_of coarse c == children_mass fine c) (λ covered. eq-eqb (mass_of coarse c) (children_mass fine c) (h c covered)))

pub over_from : (p : Problem) (n l : ℕ) (below k : Level) → IsGood p n (suc l) k → IsNestedLevel p l below k → ((c : Cell) → is_covered k.masses c ≡ true → mass_of below.masses c ≡ children_mass k.masses c) → IsOver p n l below k
over_from p n l below k good nested synced = record {
  good = good;
  aligned = nested.aligned;
  around = surrounds_from (domain p l) below.boxes k.boxes nested.around;
  sync = in_sync_from (domain p l) below.masses k.masses synced;
}
