-- Register cells stand in the order in which layouts number them.
use Rattle.std.proofs.Common.{◌≡◌, ◌∙◌, ℕ, suc, ◌-◌, true, ◌<ℤ◌, List, [], sym, subst, arith}
use Rattle.std.specs.Prelude.{is_some, not, slice_index_or, IsTrue}
use Rattle.std.specs.List.{All}
use Rattle.std.specs.declared.option.Option.{Option}
use Rattle.std.specs.declared.cmp.Ordering.{Ordering}
use Rattle.std.specs.declared.cmp.Ordering.TheVariants.{Equal, Greater, Less}
use Rattle.std.specs.Cmp.{int_ranks}
use Rattle.std.specs.Ordering.{MatchOrdering, int_cmp, ordering_then}
use Rattle.std.proofs.lemmas.Int.{ints}
use Rattle.std.proofs.lemmas.Bool.{and_parts, not-true}
use Rattle.std.proofs.lemmas.List.Elements.{filter_passes}
use Rattle.std.proofs.lemmas.List.Kept.{IsStrictlySortedBy-filter}
use Rattle.amr_box.specs.declared.Cell.{Cell}
use Rattle.amr_box.specs.Cells.{cells_of, is_same_cell}
use Rattle.amr_def.specs.declared.problem.Problem.{Problem}
use Rattle.amr_def.specs.Domain.{domain, domain_box, home_cell, in_domain}
use Rattle.amr_def.specs.Facts.{IsLevel, IsNestedLevel}
use Rattle.amr_def.specs.State.{Level, Masses}
use Rattle.amr_patch.specs.declared.patches.Patch.{Patch}
use Rattle.amr_patch.specs.declared.levels.Level.{Level as Held}
use Rattle.amr_patch.specs.Orders.{comes_first}
use Rattle.amr_patch.specs.Patches.{box, in_patches, masses_in}
use Rattle.amr_register.specs.RegisterCells.{is_register_cell, register_cells}
use Rattle.amr_register.specs.Entries.{row_cmp}
use Rattle.amr_register.proofs.RowOrder.{cells_sorted, rising}
use Rattle.amr_layout.specs.Surroundings.{around, edge_face, is_coarse_fine, outside}
use Rattle.amr_layout.specs.Adds.{AreInOrder, HasRegisterCells}
use Rattle.amr_layout.proofs.Samples.{before_by_row, before_in_row}
use Rattle.amr_flows.proofs.Beyond.{has_cells}

before : (a b : Cell) → row_cmp a b ≡ Less → IsTrue (comes_first a b) × (IsTrue (is_same_cell a b) → ⊥)
before a b h = cases (int_cmp a.y b.y) (int_cmp a.x b.x) (int_ranks a.y b.y) (int_ranks a.x b.x) h
  where
    cases : (o q : Ordering) → MatchOrdering o (a.y <ℤ b.y) (a.y ≡ b.y) (b.y <ℤ a.y) → MatchOrdering q (a.x <ℤ b.x) (a.x ≡ b.x) (b.x <ℤ a.x) → ordering_then o q ≡ Less → IsTrue (comes_first a b) × (IsTrue (is_same_cell a b) → ⊥)
    cases Less q m n e = before_by_row a b m
    cases Equal Less m n e = before_in_row a b (omega (arith, ints, m)) n
    cases Equal Equal m n e = absurd (cc)
    cases Equal Greater m n e = absurd (cc)
    cases Greater q m n e = absurd (cc)

pub in_order : (p : Problem) (l : ℕ) (m fine : Masses) → AreInOrder (register_cells p l m fine)
in_order p l m fine i j d lt below =
    let test = is_register_cell (domain p l) m fine in
    let all = cells_of (domain_box (domain p l)) in
    let sorted = IsStrictlySortedBy-filter row_cmp test all (cells_sorted (domain_box (domain p l))) in
    before (slice_index_or (register_cells p l m fine) i d) (slice_index_or (register_cells p l m fine) j d) (rising (register_cells p l m fine) sorted i j d lt below)

-- they are cells of the level, and so of the domain
inside : (p : Problem) (l : ℕ) (k : Level) (fine : Masses) → IsLevel p l k → All (λ c. IsTrue (in_domain (domain p l) c)) (register_cells p l k.masses fine)
unfolding is_register_cell
inside p l k fine level i d lt =
    let c = slice_index_or (register_cells p l k.masses fine) i d in
    let passes = filter_passes (is_register_cell (domain p l) k.masses fine) (cells_of (domain_box (domain p l))) i d lt in
    level.inside c (sym (level.filled c) ∙ (and_parts (is_some (k.masses c)) _ passes).0)

pub serve : (p : Problem) (l : ℕ) (k fine : Level) (ps : List Patch) (finer : Option Held) → IsLevel p l k → IsLevel p (suc l) fine → IsNestedLevel p l k fine → masses_in ps ≡ fine.masses → HasRegisterCells (around p (suc l) ps (register_cells p l k.masses fine.masses) finer)
serve p l k fine ps finer klevel flevel nested of_patches = record {
  ordered = in_order p l k.masses fine.masses;
  inside = let below : l ≡ suc l - 1 = omega arith in subst (λ n. All (λ c. IsTrue (in_domain (domain p n) c)) (register_cells p l k.masses fine.masses)) below (inside p l k fine.masses klevel);
  each = λ n e lt. has_cells p l k fine klevel flevel nested ps finer of_patches n e lt;
}

-- ---- level 0

no_edge : (p : Problem) (ps : List Patch) (finer : Option Held) (q : Patch) (n : ℕ) → ((c : Cell) → in_domain (domain p 0) c ≡ true → in_patches ps c ≡ true) → is_coarse_fine (around p 0 ps [] finer) (box q) (edge_face (box q) n) ≡ true → ⊥
unfolding is_coarse_fine
no_edge p ps finer q n whole edge =
    let d = domain p 0 in
    let h = home_cell d (outside (box q) (edge_face (box q) n)) in
    let parts = and_parts (in_domain d h) (not (in_patches ps h)) edge in
    let there = whole h parts.0 in
    let none = not-true (in_patches ps h) parts.1 in
    cc

pub serve_base : (p : Problem) (ps : List Patch) (finer : Option Held) → ((c : Cell) → IsTrue (in_domain (domain p 0) c) → IsTrue (in_patches ps c)) → HasRegisterCells (around p 0 ps [] finer)
serve_base p ps finer whole = record {
  ordered = λ i j d lt below. absurd (omega arith);
  inside = λ i d lt. absurd (omega arith);
  each = λ n e lt m below edge. absurd (no_edge p ps finer (slice_index_or ps n e) m whole edge);
}
