-- The list of register cells, from a list in order that has just these cells.
use Rattle.std.proofs.Common.{◌≡◌, ◌∙◌, ℕ, Bool, ◌⊎◌, inl, inr, true, false, ◌&&◌, ℤ, pos, ◌-ℤ◌, List, refl, sym, ap, subst, arith}
use Rattle.std.specs.Prelude.{is_some}
use Rattle.std.specs.List.{Contains, list_any}
use Rattle.std.specs.List.Sorted.{IsStrictlySortedBy}
use Rattle.std.specs.Ordering.{eq_by_cmp, int_cmp}
use Rattle.std.specs.Cmp.{IsEquivalence, IsTotalOrder, eq_by_cmp_equiv, int_cmp_total, on_total, then_total}
use Rattle.std.proofs.lemmas.Int.{ints}
use Rattle.std.proofs.lemmas.Bool.{and_from, and_parts}
use Rattle.std.proofs.lemmas.List.Kept.{IsStrictlySortedBy-filter}
use Rattle.std.proofs.lemmas.Map.Views.{Contains-from_any, any-filter_same, list_any-from_Contains}
use Rattle.amr_box.specs.declared.Cell.{Cell}
use Rattle.amr_box.specs.Cells.{cell_cmp, cells_of, holds, is_same_cell, within}
use Rattle.amr_box.proofs.CellEquality.{by_coordinates, cell_same, is_cell}
use Rattle.amr_box.proofs.CellLists.{among_cells_of}
use Rattle.amr_def.specs.Domain.{Domain, cells_where, domain_box, in_domain, is_inside}
use Rattle.amr_def.specs.State.{Masses}
use Rattle.amr_register.specs.RegisterCells.{is_register_cell}
use Rattle.amr_register.specs.Entries.{row_cmp}
use Rattle.amr_register.proofs.RowOrder.{cells_sorted, same_sorted}

cell_cmp_total : IsTotalOrder cell_cmp
cell_cmp_total = then_total (on_total {K = Cell} (λ c. c.x) {R = int_cmp} int_cmp_total) (on_total {K = Cell} (λ c. c.y) {R = int_cmp} int_cmp_total)

same_cells : IsEquivalence (eq_by_cmp cell_cmp)
same_cells = eq_by_cmp_equiv cell_cmp_total

pub among_by_test : (q : Cell) (cs : List Cell) → Contains cs q → list_any (is_cell q) cs ≡ true
among_by_test q cs h = list_any-from_Contains {eq = eq_by_cmp cell_cmp} same_cells q cs h

pub among_from_test : (q : Cell) (cs : List Cell) → list_any (is_cell q) cs ≡ true → Contains cs q
among_from_test q cs h = Contains-from_any {eq = eq_by_cmp cell_cmp} cell_same q cs h

-- ---- the cells of a domain that pass a test

in_box : (n : ℕ) (z : ℤ) → is_inside n z ≡ within (pos 0) (pos n -ℤ pos 1) z
in_box n z = grind (arith, ints)

pub in_domain-box : (d : Domain) (q : Cell) → in_domain d q ≡ holds (domain_box d) q
unfolding in_domain
in_domain-box d q = λ i. in_box d.columns q.x i && in_box d.rows q.y i

passing : (d : Domain) (test : Cell → Bool) (q : Cell) → list_any (is_cell q) (cells_where d test) ≡ (test q && holds (domain_box d) q)
passing d test q =
    any-filter_same (is_cell q) test (test q) (λ k h. ap test (sym (cell_same q k h))) (cells_of (domain_box d))
    ∙ ap (λ (t : Bool). test q && t) (among_cells_of (domain_box d) q)

pub where_passes : (d : Domain) (test : Cell → Bool) (q : Cell) → Contains (cells_where d test) q → test q ≡ true
where_passes d test q h = (and_parts (test q) (holds (domain_box d) q) (sym (passing d test q) ∙ among_by_test q (cells_where d test) h)).0

pub where_inside : (d : Domain) (test : Cell → Bool) (q : Cell) → Contains (cells_where d test) q → in_domain d q ≡ true
where_inside d test q h = in_domain-box d q ∙ (and_parts (test q) (holds (domain_box d) q) (sym (passing d test q) ∙ among_by_test q (cells_where d test) h)).1

pub where_among : (d : Domain) (test : Cell → Bool) (q : Cell) → in_domain d q ≡ true → test q ≡ true → Contains (cells_where d test) q
where_among d test q inside h = among_from_test q (cells_where d test) (passing d test q ∙ and_from (test q) (holds (domain_box d) q) h (sym (in_domain-box d q) ∙ inside))

-- ---- the register cells

pub of_level : (d : Domain) (m fine : Masses) (q : Cell) → is_register_cell d m fine q ≡ true → is_some (m q) ≡ true
unfolding is_register_cell
of_level d m fine q h = (and_parts (is_some (m q)) _ h).0

-- a list in order that has just the cells that pass a test
pub are_cells_where : (d : Domain) (test : Cell → Bool) (cs : List Cell) → ((q : Cell) → test q ≡ true → in_domain d q ≡ true) → IsStrictlySortedBy row_cmp cs → ((q : Cell) → Contains cs q → test q ≡ true) → ((q : Cell) → test q ≡ true → Contains cs q) → cs ≡ cells_where d test
are_cells_where d test cs inside sorted sound complete =
    same_sorted cs (cells_where d test) sorted (IsStrictlySortedBy-filter row_cmp test (cells_of (domain_box d)) (cells_sorted (domain_box d)))
    (λ c h. where_among d test c (inside c (sound c h)) (sound c h))
    (λ c h. complete c (where_passes d test c h))

pub same_coordinates : IsEquivalence is_same_cell
same_coordinates = subst (λ (t : Cell → Cell → Bool). IsEquivalence t) (λ i a b. by_coordinates a b i) same_cells

-- a cell is among others or isn't
pub is_or_not : (q : Cell) (cs : List Cell) → Contains cs q ⊎ (Contains cs q → ⊥)
is_or_not q cs = by_test (list_any (is_cell q) cs) refl
  where
    clash : true ≡ false → ⊥
    clash f = cc

    by_test : (t : Bool) → list_any (is_cell q) cs ≡ t → Contains cs q ⊎ (Contains cs q → ⊥)
    by_test true e = inl (among_from_test q cs e)
    by_test false e = inr (λ h. clash (sym (among_by_test q cs h) ∙ e))
