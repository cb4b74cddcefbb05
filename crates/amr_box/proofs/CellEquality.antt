-- When two cells are one: by their coordinates, and by the order of the type `Cell`.
use Rattle.std.proofs.Common.{◌≡◌, Bool, true, false, ◌&&◌, ℤ, refl, sym, ◌∙◌}
use Rattle.std.specs.declared.cmp.Ordering.{Ordering}
use Rattle.std.specs.Ordering.{int_cmp, int_eq, is_eq, ordering_then, eq_by_cmp}
use Rattle.std.specs.Cmp.{tied_then}
use Rattle.std.proofs.lemmas.Bool.{and_parts, and_from, false_from_ne_true}
use Rattle.std.proofs.lemmas.Bool.Decides.{Decides-int_eq}
use Rattle.amr_box.specs.declared.Cell.{Cell}
use Rattle.amr_box.specs.Cells.{Extent, cell, cell_cmp, is_same_cell}

-- ---- by coordinates

pub same_cell : {x x' y y' : ℤ} → x ≡ x' → y ≡ y' → cell x y ≡ cell x' y'
same_cell ex ey i = record { x = ex i; y = ey i }

pub same_cells : (c d : Cell) → c.x ≡ d.x → c.y ≡ d.y → c ≡ d
same_cells c d ex ey i = record { x = ex i; y = ey i }

pub same_number : (a b : ℤ) → int_eq a b ≡ true → a ≡ b
same_number a b h = (Decides-int_eq a b).0 h

pub number_itself : (a : ℤ) → int_eq a a ≡ true
number_itself a = (Decides-int_eq a a).1 refl

pub coordinates_same : (c d : Cell) → is_same_cell c d ≡ true → c ≡ d
coordinates_same c d h =
    let parts = and_parts (int_eq c.x d.x) (int_eq c.y d.y) h in
    same_cells c d (same_number c.x d.x parts.0) (same_number c.y d.y parts.1)

pub coordinates_itself : (c : Cell) → is_same_cell c c ≡ true
coordinates_itself c = and_from (int_eq c.x c.x) (int_eq c.y c.y) (number_itself c.x) (number_itself c.y)

-- ---- by the order

abbrev pub is_cell : Cell → Cell → Bool
is_cell q c = eq_by_cmp cell_cmp q c

pub eq_then : (r s : Ordering) → is_eq (ordering_then r s) ≡ (is_eq r && is_eq s)
eq_then r s = sym (tied_then r s)

pub by_coordinates : (q c : Cell) → is_cell q c ≡ is_same_cell q c
by_coordinates q c = eq_then (int_cmp q.x c.x) (int_cmp q.y c.y)

pub cell_same : (q c : Cell) → is_cell q c ≡ true → q ≡ c
cell_same q c h = coordinates_same q c (sym (by_coordinates q c) ∙ h)

pub cell_itself : (q : Cell) → is_cell q q ≡ true
cell_itself q = by_coordinates q q ∙ coordinates_itself q

pub cell_apart : (q c : Cell) → (q ≡ c → ⊥) → is_cell q c ≡ false
cell_apart q c n = false_from_ne_true (is_cell q c) (λ h. n (cell_same q c h))

pub same_box : (a b : Extent) → a.lo.x ≡ b.lo.x → a.lo.y ≡ b.lo.y → a.hi.x ≡ b.hi.x → a.hi.y ≡ b.hi.y → a ≡ b
same_box a b w s e n = λ i. record { lo = same_cells a.lo b.lo w s i; hi = same_cells a.hi b.hi e n i }
