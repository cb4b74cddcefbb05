-- Disjoint boxes in a domain have no more cells than the domain: so there are few of them, and their masses have room.
use Rattle.std.proofs.Common.{◌≡◌, ℕ, zero, suc, ◌+◌, ◌*◌, ◌^◌, ◌<◌, ◌≤◌, Bool, true, false, ◌||◌, ℤ, pos, negsuc, ◌+ℤ◌, ◌-ℤ◌, ◌≤ℤ◌, List, [], ◌∷◌, ◌++◌, length, map, refl, sym, ap, subst, ◌∙◌, arith, flat_map, ◌⊎◌, inl, inr, All, AllPairs, if◌then◌else◌, length-append, pow-suc, mul-le-mul, mul_comm, mul_assoc}
use Rattle.std.specs.List.{list_any, range_with_len}
use Rattle.std.proofs.lemmas.Int.{ints}
use Rattle.std.proofs.lemmas.Bool.{or_left, or_right, or_cases, or_parts, or_from, false_from_ne_true, both_ways}
use Rattle.std.proofs.lemmas.List.Folds.{list_any-append}
use Rattle.amr_box.specs.declared.Cell.{Cell}
use Rattle.amr_box.specs.Cells.{Extent, IsProper, at_least_zero, cells_of, holds, width, height, in_boxes}
use Rattle.amr_box.proofs.CellEquality.{is_cell, cell_same, cell_itself, cell_apart}
use Rattle.amr_box.proofs.CellLists.{among_cells_of}
use Rattle.amr_box.proofs.Parts.{length-cells_of}
use Rattle.amr_def.specs.declared.problem.Problem.{Problem}
use Rattle.amr_def.specs.Domain.{columns, rows, domain, domain_box}
use Rattle.amr_def.specs.State.{Level}
use Rattle.amr_def.specs.Facts.{IsAligned, IsLevel}
use Rattle.amr_def.proofs.Nesting.{aligned_even}
use Rattle.amr_def.specs.Regrid.{odd}
use Rattle.amr_def.specs.Limits.{is_blocking}
use Rattle.amr_def.proofs.Nests.{IsEven, even_is, odd_is}
use Rattle.amr_def.proofs.Courants.{power_positive}
use Rattle.amr_def.proofs.Uncovered.{domain_box_cells}
use Rattle.amr_payload.specs.Payload.{level_cells}
use Rattle.amr_payload.specs.Tests.{place_in}
use Rattle.amr_payload.proofs.Fields.{Each}
use Rattle.amr_payload.proofs.Places.{each_cell, by_places, place_of}
use Rattle.amr_payload.proofs.GridLevels.{HaveNoCommonCell}

-- ---- lists of distinct cells

abbrev pub AreDistinct : List Cell → Type 0
AreDistinct [] = Unit {0}
AreDistinct (c ∷ cs) = (list_any (is_cell c) cs ≡ false) × AreDistinct cs

-- the list without the first place of a cell
without : Cell → List Cell → List Cell
without c [] = []
without c (d ∷ ds) = if is_cell c d then ds else d ∷ without c ds

length-without : (c : Cell) (ds : List Cell) → list_any (is_cell c) ds ≡ true → suc (length (without c ds)) ≡ length ds
unfolding without
length-without c [] h = absurd (cc)
length-without c (d ∷ ds) h = by_test (is_cell c d) h (length-without c ds)
  where
    by_test : (t : Bool) → (t || list_any (is_cell c) ds) ≡ true → (list_any (is_cell c) ds ≡ true → suc (length (without c ds)) ≡ length ds) → suc (length (if t then ds else d ∷ without c ds)) ≡ suc (length ds)
    by_test true h more = refl
    by_test false h more = ap (λ n. suc n) (more h)

among_without : (c e : Cell) (ds : List Cell) → is_cell e c ≡ false → list_any (is_cell e) ds ≡ true → list_any (is_cell e) (without c ds) ≡ true
unfolding without
among_without c e [] other h = h
among_without c e (d ∷ ds) other h = by_test (is_cell c d) refl h (among_without c e ds other)
  where
    by_test : (t : Bool) → is_cell c d ≡ t → (is_cell e d || list_any (is_cell e) ds) ≡ true → (list_any (is_cell e) ds ≡ true → list_any (is_cell e) (without c ds) ≡ true) → list_any (is_cell e) (if t then ds else d ∷ without c ds) ≡ true
    by_test true same h more = apart (or_cases (is_cell e d) (list_any (is_cell e) ds) h)
      where
        apart : (is_cell e d ≡ true) ⊎ (list_any (is_cell e) ds ≡ true) → list_any (is_cell e) ds ≡ true
        apart (inl here) = absurd (both_ways (is_cell e c) other (subst (λ (k : Cell). is_cell e k ≡ true) (sym (cell_same c d same)) here))
        apart (inr there) = there
    by_test false differ h more = choose (or_cases (is_cell e d) (list_any (is_cell e) ds) h)
      where
        choose : (is_cell e d ≡ true) ⊎ (list_any (is_cell e) ds ≡ true) → (is_cell e d || list_any (is_cell e) (without c ds)) ≡ true
        choose (inl here) = or_left (is_cell e d) (list_any (is_cell e) (without c ds)) here
        choose (inr there) = or_right (is_cell e d) (list_any (is_cell e) (without c ds)) (more there)

others_stay : (c : Cell) (cs ds : List Cell) → list_any (is_cell c) cs ≡ false → Each (λ e. list_any (is_cell e) ds ≡ true) cs → Each (λ e. list_any (is_cell e) (without c ds) ≡ true) cs
others_stay c [] ds other h = tt
others_stay c (e ∷ cs) ds other h =
    let parts = or_parts (is_cell c e) (list_any (is_cell c) cs) other in
    let differ : is_cell e c ≡ false = cell_apart e c (λ same. both_ways (is_cell c e) parts.0 (subst (λ (k : Cell). is_cell c k ≡ true) (sym same) (cell_itself c))) in
    (among_without c e ds differ h.0, others_stay c cs ds parts.1 h.1)

-- distinct cells that are all among others are no more than those
pub no_more : (cs ds : List Cell) → AreDistinct cs → Each (λ c. list_any (is_cell c) ds ≡ true) cs → length cs ≤ length ds
no_more [] ds distinct h = omega arith
no_more (c ∷ cs) ds distinct h =
    let rest = no_more cs (without c ds) distinct.1 (others_stay c cs ds distinct.0 h.1) in
    omega (arith, length-without c ds h.0, rest)

-- ---- the cells of boxes

numbered_after : (f : Cell → ℕ) (c : Cell) (cs : List Cell) (a b n : ℕ) → f c ≡ a → a < b → map f cs ≡ map (λ k. k) (range_with_len b n) → list_any (is_cell c) cs ≡ false
numbered_after f c [] a b n at before h = refl
numbered_after f c (d ∷ cs) a b zero at before h = absurd (cc)
numbered_after f c (d ∷ cs) a b (suc n) at before h =
    let here : f d ≡ b = cc in
    let rest : map f cs ≡ map (λ k. k) (range_with_len (b + 1) n) = cc in
    or_from (is_cell c d) (list_any (is_cell c) cs) (cell_apart c d (λ same. let equal : f c ≡ f d = ap f same in absurd (omega arith)))
    (numbered_after f c cs a (b + 1) n at (omega arith) rest)

numbered_distinct : (f : Cell → ℕ) (cs : List Cell) (a n : ℕ) → map f cs ≡ map (λ k. k) (range_with_len a n) → AreDistinct cs
numbered_distinct f [] a n h = tt
numbered_distinct f (c ∷ cs) a zero h = absurd (cc)
numbered_distinct f (c ∷ cs) a (suc n) h =
    let here : f c ≡ a = cc in
    let rest : map f cs ≡ map (λ k. k) (range_with_len (a + 1) n) = cc in
    (numbered_after f c cs a (a + 1) n here (omega arith) rest, numbered_distinct f cs (a + 1) n rest)

pub cells_distinct : (b : Extent) → AreDistinct (cells_of b)
cells_distinct b = numbered_distinct (place_in b) (cells_of b) 0 (height b * width b) (by_places (place_in b) (λ k. k) b (λ i j inside. place_of b i j))

joined_distinct : (cs ds : List Cell) → AreDistinct cs → AreDistinct ds → Each (λ c. list_any (is_cell c) ds ≡ false) cs → AreDistinct (cs ++ ds)
joined_distinct [] ds one other apart = other
joined_distinct (c ∷ cs) ds one other apart = (list_any-append (is_cell c) cs ds ∙ or_from (list_any (is_cell c) cs) (list_any (is_cell c) ds) one.0 apart.0, joined_distinct cs ds one.1 other apart.1)

among_boxes : (bs : List Extent) (c : Cell) → list_any (is_cell c) (flat_map cells_of bs) ≡ in_boxes bs c
among_boxes [] c = refl
among_boxes (b ∷ bs) c = list_any-append (is_cell c) (cells_of b) (flat_map cells_of bs) ∙ (λ i. among_cells_of b c i || among_boxes bs c i)

in_none : (c : Cell) (a : Extent) (bs : List Extent) → holds a c ≡ true → All (HaveNoCommonCell a) bs → in_boxes bs c ≡ false
in_none c a [] held h = refl
in_none c a (b ∷ bs) held h = or_from (holds b c) (in_boxes bs c) (false_from_ne_true (holds b c) (λ in_b. h 0 b (omega arith) c held in_b)) (in_none c a bs held (λ k d inside. h (suc k) d (omega arith)))

pub boxes_distinct : (bs : List Extent) → AllPairs HaveNoCommonCell bs → AreDistinct (flat_map cells_of bs)
boxes_distinct [] h = tt
boxes_distinct (b ∷ bs) h =
    joined_distinct (cells_of b) (flat_map cells_of bs) (cells_distinct b) (boxes_distinct bs (λ i j d before inside. h (suc i) (suc j) d (omega arith) (omega arith)))
    (each_cell (λ c. list_any (is_cell c) (flat_map cells_of bs) ≡ false) b (λ c held. among_boxes bs c ∙ in_none c b bs held (λ k d inside. h 0 (suc k) d (omega arith) (omega arith))))

each_append : (P : Cell → Type 0) (cs ds : List Cell) → Each P cs → Each P ds → Each P (cs ++ ds)
each_append P [] ds one other = other
each_append P (c ∷ cs) ds one other = (one.0, each_append P cs ds one.1 other)

each_of_boxes : (P : Cell → Type 0) (bs : List Extent) → ((c : Cell) → in_boxes bs c ≡ true → P c) → Each P (flat_map cells_of bs)
each_of_boxes P [] h = tt
each_of_boxes P (b ∷ bs) h =
    each_append P (cells_of b) (flat_map cells_of bs) (each_cell P b (λ c held. h c (or_left (holds b c) (in_boxes bs c) held)))
    (each_of_boxes P bs (λ c held. h c (or_right (holds b c) (in_boxes bs c) held)))

-- ---- the cells of a level

gap_of : (n : ℕ) → 0 < n → at_least_zero (pos n -ℤ pos 1 +ℤ pos 1 -ℤ pos 0) ≡ n
gap_of n h = known (pos n -ℤ pos 1 +ℤ pos 1 -ℤ pos 0) n (omega (arith, ints))
  where
    known : (y : ℤ) (n : ℕ) → y ≡ pos n → at_least_zero y ≡ n
    known y n e = ap at_least_zero e

squares : (l : ℕ) → 2 ^ l * 2 ^ l ≡ 4 ^ l
squares zero = refl
squares (suc l) = let more = squares l in
    let a : 2 ^ suc l ≡ 2 ^ l * 2 = pow-suc 2 l in
    let b : 4 ^ suc l ≡ 4 ^ l * 4 = pow-suc 4 l in
    rw (a, b) (four (2 ^ l) (4 ^ l) more)
  where
    four : (x y : ℕ) → x * x ≡ y → x * 2 * (x * 2) ≡ y * 4
    four x y e = let same : x * 2 * (x * 2) ≡ x * x * 4 = omega arith in omega (arith, same, e)

product_of : (a b c d : ℕ) → a * c * (b * d) ≡ a * b * (c * d)
product_of a b c d = mul_assoc a c (b * d) ∙ ap (λ k. a * k) (sym (mul_assoc c b d) ∙ ap (λ k. k * d) (mul_comm c b) ∙ mul_assoc b c d) ∙ sym (mul_assoc a b (c * d))

pub domain_cells : (p : Problem) (l : ℕ) → columns p l * rows p l ≡ level_cells p l
domain_cells p l = product_of p.nx p.ny (2 ^ l) (2 ^ l) ∙ ap (λ k. p.nx * p.ny * k) (squares l)

module _ (p : Problem) (l : ℕ) (k : Level) (level : IsLevel p l k) where
  in_domain_box : (c : Cell) → in_boxes k.boxes c ≡ true → list_any (is_cell c) (cells_of (domain_box (domain p l))) ≡ true
  in_domain_box c held = among_cells_of (domain_box (domain p l)) c ∙ domain_box_cells (domain p l) c ∙ level.inside c held

  -- its boxes have at most as many cells as its domain
  pub few_cells : 0 < p.nx * 2 ^ l → 0 < p.ny * 2 ^ l → length (flat_map cells_of k.boxes) ≤ level_cells p l
  few_cells some_x some_y =
      let most = no_more (flat_map cells_of k.boxes) (cells_of (domain_box (domain p l))) (boxes_distinct k.boxes level.disjoint)
      (each_of_boxes (λ c. list_any (is_cell c) (cells_of (domain_box (domain p l))) ≡ true) k.boxes in_domain_box) in
      let size : length (cells_of (domain_box (domain p l))) ≡ columns p l * rows p l = length-cells_of (domain_box (domain p l)) ∙ (λ i. gap_of (columns p l) some_x i * gap_of (rows p l) some_y i) in
      omega (arith, most, size, domain_cells p l)

-- ---- an aligned box has four cells

wide_two : (lo hi : ℤ) → lo ≤ℤ hi → odd lo ≡ 0 → odd hi ≡ 1 → 2 ≤ at_least_zero (hi +ℤ pos 1 -ℤ lo)
wide_two lo hi order even is_odd = known (hi +ℤ pos 1 -ℤ lo) refl
  where
    known : (z : ℤ) → hi +ℤ pos 1 -ℤ lo ≡ z → 2 ≤ at_least_zero z
    known (pos n) e = omega (arith, ints, even_is lo even, odd_is hi is_odd)
    known (negsuc n) e = absurd (omega (arith, ints))

four_cells : (b : Extent) → IsProper b → IsEven b → 4 ≤ length (cells_of b)
four_cells b proper even =
    let w : 2 ≤ width b = wide_two b.lo.x b.hi.x proper.wide even.0 even.2 in
    let h : 2 ≤ height b = wide_two b.lo.y b.hi.y proper.high even.1 even.3 in
    let area : 2 * 2 ≤ width b * height b = mul-le-mul w h in
    omega (arith, length-cells_of b, area)

four_each : (blocking : ℕ) (bs : List Extent) → is_blocking blocking ≡ true → All IsProper bs → All (IsAligned blocking) bs → 4 * length bs ≤ length (flat_map cells_of bs)
four_each blocking [] factor proper aligned = omega arith
four_each blocking (b ∷ bs) factor proper aligned =
    let one = four_cells b (proper 0 b (omega arith)) (aligned_even blocking b factor (aligned 0 b (omega arith))) in
    let more = four_each blocking bs factor (λ k d inside. proper (suc k) d (omega arith)) (λ k d inside. aligned (suc k) d (omega arith)) in
    omega (arith, length-append (cells_of b) (flat_map cells_of bs), one, more)

-- a level's boxes have at most as many cells as its domain
pub level_few : (p : Problem) (l : ℕ) (k : Level) → IsLevel p l k → length (flat_map cells_of k.boxes) ≤ level_cells p l
level_few p l k level = few_cells p l k level (power_positive p.nx l (omega (arith, p.limits.least_nx))) (power_positive p.ny l (omega (arith, p.limits.least_ny)))

pub next_cells : (p : Problem) (l : ℕ) → level_cells p (suc l) ≡ 4 * level_cells p l
next_cells p l =
    let power : 4 ^ suc l ≡ 4 ^ l * 4 = pow-suc 4 l in
    ap (λ k. p.nx * p.ny * k) power ∙ sym (mul_assoc (p.nx * p.ny) (4 ^ l) 4) ∙ mul_comm (p.nx * p.ny * 4 ^ l) 4

-- and above level 0 at most one box for each four cells
pub few_boxes : (p : Problem) (l : ℕ) (k : Level) → IsLevel p (suc l) k → All (IsAligned p.blocking) k.boxes → length k.boxes ≤ level_cells p l
few_boxes p l k level aligned =
    let most = level_few p (suc l) k level in
    let each = four_each p.blocking k.boxes p.limits.blocking_factor level.proper aligned in
    omega (arith, most, each, next_cells p l)
