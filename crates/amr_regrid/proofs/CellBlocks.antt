-- Whether a block has a cell of a set, by parents of parents; the list of the cells of a box that a set has.
use Rattle.std.proofs.Common.{◌≡◌, ℕ, Bool, true, false, ◌||◌, inl, inr, ℤ, pos, negsuc, ◌+ℤ◌, refl, sym, ap, subst, ◌∙◌, arith, List, [], ◌∷◌}
use Rattle.std.specs.List.{filter, list_any}
use Rattle.std.proofs.lemmas.Int.{ints}
use Rattle.amr_box.specs.declared.Cell.{Cell}
use Rattle.amr_box.proofs.Tests.{same_test}
use Rattle.amr_box.specs.Cells.{cells_of, child, Extent, extent, half, has_child_where, holds, parent, within}
use Rattle.amr_box.proofs.CellEquality.{same_cells}
use Rattle.amr_box.proofs.CellLists.{any_in_box, found_in_box}
use Rattle.amr_box.proofs.Children.{child_of_parent}
use Rattle.amr_cluster.proofs.Rounds.{filter_same}
use Rattle.amr_def.specs.Domain.{has_cell_where, refined}
use Rattle.amr_def.proofs.ClusterLaws.{Each, own_holds}
use Rattle.amr_def.proofs.Uncovered.{half-double, half-double_next}
use Rattle.amr_laws.proofs.Blocks.{IsSide, block_at, block_of, blocking, holds-refined, parent-block}
use Rattle.amr_laws.proofs.CellSets.{both_parts, each_held}

-- ---- one cell of a block

-- a cell of a block that passes a test
record InBlock (n : ℕ) (test : Cell → Bool) (c : Cell) : Type 0 where
  one : Cell
  of_block : block_of n one ≡ c
  passes : test one ≡ true

one_number : (a z : ℤ) → within a a z ≡ true → z ≡ a
one_number a z h = grind (arith, ints)

one_cell : (c d : Cell) → holds (extent c c) d ≡ true → d ≡ c
one_cell c d h = let parts = both_parts _ _ h in same_cells d c (one_number c.x d.x parts.0) (one_number c.y d.y parts.1)

found_in_block : (n : ℕ) → IsSide n → (test : Cell → Bool) (c : Cell) → has_cell_where n test c ≡ true → InBlock n test c
found_in_block n side test c h =
    let f = found_in_box test (refined n (extent c c)) h in
    record { one = f.at; of_block = one_cell c (block_of n f.at) (sym (holds-refined n side (extent c c) f.at) ∙ f.inside); passes = f.passes }

any_in_block : (n : ℕ) → IsSide n → (test : Cell → Bool) (c q : Cell) → block_of n q ≡ c → test q ≡ true → has_cell_where n test c ≡ true
any_in_block n side test c q is passes = any_in_box test (refined n (extent c c)) q (holds-refined n side (extent c c) q ∙ ap (holds (extent c c)) is ∙ own_holds c) passes

-- ---- one child of a cell

record HasChild (test : Cell → Bool) (c : Cell) : Type 0 where
  one : Cell
  of_parent : parent one ≡ c
  passes : test one ≡ true

half_child : (z : ℤ) → half (z +ℤ z +ℤ pos 0) ≡ z
half_child z = let e : z +ℤ z +ℤ pos 0 ≡ z +ℤ z = omega (arith, ints) in ap half e ∙ half-double z

parent_0 : (c : Cell) → parent (child c 0) ≡ c
parent_0 c = same_cells _ _ (half_child c.x) (half_child c.y)

parent_1 : (c : Cell) → parent (child c 1) ≡ c
parent_1 c = same_cells _ _ (half-double_next c.x) (half_child c.y)

parent_2 : (c : Cell) → parent (child c 2) ≡ c
parent_2 c = same_cells _ _ (half_child c.x) (half-double_next c.y)

parent_3 : (c : Cell) → parent (child c 3) ≡ c
parent_3 c = same_cells _ _ (half-double_next c.x) (half-double_next c.y)

from_first : (a b c d : Bool) → (((a || b) || c) || d) ≡ (a || (b || (c || d)))
from_first true b c d = refl
from_first false true c d = refl
from_first false false c d = refl

child_found : (test : Cell → Bool) (c : Cell) → has_child_where test c ≡ true → HasChild test c
child_found test c h = first (test (child c 0)) refl (sym (from_first (test (child c 0)) (test (child c 1)) (test (child c 2)) (test (child c 3))) ∙ h)
  where
    last : test (child c 3) ≡ true → HasChild test c
    last e = record { one = child c 3; of_parent = parent_3 c; passes = e }

    third : (t : Bool) → test (child c 2) ≡ t → (t || test (child c 3)) ≡ true → HasChild test c
    third true e h = record { one = child c 2; of_parent = parent_2 c; passes = e }
    third false e h = last h

    second : (t : Bool) → test (child c 1) ≡ t → (t || (test (child c 2) || test (child c 3))) ≡ true → HasChild test c
    second true e h = record { one = child c 1; of_parent = parent_1 c; passes = e }
    second false e h = third (test (child c 2)) refl h

    first : (t : Bool) → test (child c 0) ≡ t → (t || (test (child c 1) || (test (child c 2) || test (child c 3)))) ≡ true → HasChild test c
    first true e h = record { one = child c 0; of_parent = parent_0 c; passes = e }
    first false e h = second (test (child c 1)) refl h

-- ---- blocks of one cell, of two by two, and of four by four

whole : (z : ℤ) → block_at 1 z ≡ z
whole (pos n) = ap pos (omega arith)
whole (negsuc n) = ap negsuc (omega arith)

pub has_cell_1 : (test : Cell → Bool) (c : Cell) → has_cell_where 1 test c ≡ test c
has_cell_1 test c = same_test (has_cell_where 1 test c) (test c) to from
  where
    itself : (q : Cell) → block_of 1 q ≡ q
    itself q = same_cells _ _ (whole q.x) (whole q.y)

    to : has_cell_where 1 test c ≡ true → test c ≡ true
    to h = let f = found_in_block 1 (inl refl) test c h in subst (λ (k : Cell). test k ≡ true) (sym (itself f.one) ∙ f.of_block) f.passes

    from : test c ≡ true → has_cell_where 1 test c ≡ true
    from h = any_in_block 1 (inl refl) test c c (itself c) h

pub has_cell_2 : (test : Cell → Bool) (c : Cell) → has_cell_where 2 test c ≡ has_child_where test c
has_cell_2 test c = same_test (has_cell_where 2 test c) (has_child_where test c) to from
  where
    to : has_cell_where 2 test c ≡ true → has_child_where test c ≡ true
    to h = let f = found_in_block 2 (inr (inl refl)) test c h in subst (λ (k : Cell). has_child_where test k ≡ true) f.of_block (child_of_parent test f.one f.passes)

    from : has_child_where test c ≡ true → has_cell_where 2 test c ≡ true
    from h = let f = child_found test c h in any_in_block 2 (inr (inl refl)) test c f.one f.of_parent f.passes

pub has_cell_4 : (test : Cell → Bool) (c : Cell) → has_cell_where 4 test c ≡ has_child_where (has_child_where test) c
has_cell_4 test c = same_test (has_cell_where 4 test c) (has_child_where (has_child_where test) c) to from
  where
    halves : (q : Cell) → block_of 4 q ≡ parent (parent q)
    halves q = parent-block 4 (blocking 4 (inr (inl refl))) q

    to : has_cell_where 4 test c ≡ true → has_child_where (has_child_where test) c ≡ true
    to h =
        let f = found_in_block 4 (inr (inr (inl refl))) test c h in
        subst (λ (k : Cell). has_child_where (has_child_where test) k ≡ true) (sym (halves f.one) ∙ f.of_block)
        (child_of_parent (has_child_where test) (parent f.one) (child_of_parent test f.one f.passes))

    from : has_child_where (has_child_where test) c ≡ true → has_cell_where 4 test c ≡ true
    from h =
        let f = child_found (has_child_where test) c h in
        let g = child_found test f.one f.passes in
        any_in_block 4 (inr (inr (inl refl))) test c g.one (halves g.one ∙ ap parent g.of_parent ∙ f.of_parent) g.passes

-- ---- the cells of a box that pass a test

each_from : (P : Cell → Type 0) (b : Extent) (cs : List Cell) → ((c : Cell) → holds b c ≡ true → P c) → Each (λ q. holds b q ≡ true) cs → Each P cs
each_from P b [] same e = tt
each_from P b (c ∷ cs) same e = (same c e.0, each_from P b cs same e.1)

pub filter_box : (f g : Cell → Bool) (b : Extent) → ((c : Cell) → holds b c ≡ true → f c ≡ g c) → filter f (cells_of b) ≡ filter g (cells_of b)
filter_box f g b same = filter_same f g (cells_of b) (each_from (λ c. f c ≡ g c) b (cells_of b) same (each_held b))

any_each : (f g : Cell → Bool) (cs : List Cell) → Each (λ c. f c ≡ g c) cs → list_any f cs ≡ list_any g cs
any_each f g [] e = refl
any_each f g (c ∷ cs) e = λ i. e.0 i || any_each f g cs e.1 i

pub any_box : (f g : Cell → Bool) (b : Extent) → ((c : Cell) → holds b c ≡ true → f c ≡ g c) → list_any f (cells_of b) ≡ list_any g (cells_of b)
any_box f g b same = any_each f g (cells_of b) (each_from (λ c. f c ≡ g c) b (cells_of b) same (each_held b))
