-- What a look at each box of the finer level has of it, and in the end.
use Rattle.std.proofs.Common.{◌≡◌, ◌∙◌, ℕ, suc, ◌<◌, ◌≤◌, Bool, true, ◌&&◌, List, length, sym, ap, subst, arith}
use Rattle.std.specs.Prelude.{slice_index_or}
use Rattle.std.specs.List.{All, Contains}
use Rattle.std.proofs.lemmas.Bool.{and_parts}
use Rattle.std.proofs.lemmas.List.Elements.{Contains-get_or}
use Rattle.std.proofs.lemmas.List.Folds.{list_any_at}
use Rattle.amr_box.specs.declared.Cell.{Cell}
use Rattle.amr_box.specs.Cells.{Extent, HasCorners, IsBoxOf, IsNear, IsProper, half, has_child_where, holds, parents_of}
use Rattle.amr_box.proofs.Numbers.{half_le}
use Rattle.amr_def.specs.declared.problem.Problem.{Problem}
use Rattle.amr_def.specs.Domain.{Domain, cells_where, domain}
use Rattle.amr_def.specs.State.{Level, is_covered}
use Rattle.amr_def.specs.Facts.{IsLevel, IsNestedLevel}
use Rattle.amr_faces.specs.Faces.{IsInDomain}
use Rattle.amr_register.specs.RegisterCells.{is_register_cell}
use Rattle.amr_register.specs.declared.belts.Belt.{Belt}
use Rattle.amr_register.specs.Belts.{is_in_belt}
use Rattle.amr_register.specs.Bands.{cells_between}
use Rattle.amr_register.specs.Beside.{IsDomainCell, stands_beside, stands_in}
use Rattle.amr_register.specs.Entries.{AreRising}
use Rattle.amr_register.proofs.Around.{all_found, covered_parents, near_inside, near_parents, parents_inside, stand_beside}
use Rattle.amr_register.proofs.CellLists.{are_cells_where, of_level, where_inside}
use Rattle.amr_register.proofs.CollectLaws.{BoxesDone}
use Rattle.amr_register.proofs.Homes.{domain_cell, size_at}
use Rattle.amr_register.proofs.RowOrder.{sorted_from_rising}

module _ (p : Problem) (l : ℕ) (k fine : Level) (klevel : IsLevel p l k) (flevel : IsLevel p (suc l) fine) (nested : IsNestedLevel p l k fine) (few : l ≤ 3) where
  module _ (n : ℕ) (items : List Extent) (e b : Extent) (is_items : items ≡ fine.boxes) (lt : n < length items) (at : e ≡ slice_index_or items n e) (corners : HasCorners b (half e.lo.x) (half e.lo.y) (half e.hi.x) (half e.hi.y)) (cells : IsBoxOf b (has_child_where (holds e))) where
    pub there : n < length fine.boxes
    there = subst (λ (bs : List Extent). n < length bs) is_items lt

    same : e ≡ slice_index_or fine.boxes n e
    same = at ∙ ap (λ (bs : List Extent). slice_index_or bs n e) is_items

    cells_here : IsBoxOf b (has_child_where (holds (slice_index_or fine.boxes n e)))
    cells_here = subst (λ (x : Extent). IsBoxOf b (has_child_where (holds x))) same cells

    pub covered : (c : Cell) → holds b c ≡ true → is_covered fine.masses c ≡ true
    covered = covered_parents p l k fine klevel flevel nested few n b e there cells_here

    pub within : IsInDomain (domain p l) b
    within = parents_inside p l k fine klevel flevel nested few n b e there cells_here

    is_here : b ≡ parents_of e
    is_here i = record { lo = record { x = corners.west_is i; y = corners.south_is i }; hi = record { x = corners.east_is i; y = corners.north_is i } }

    pub is : b ≡ parents_of (slice_index_or fine.boxes n e)
    is = is_here ∙ ap parents_of same

    pub near : IsNear b
    near =
        let proper : IsProper e = subst IsProper (sym same) (flevel.proper n e there) in
        let parents : IsProper (parents_of e) = record { wide = half_le _ _ proper.wide; high = half_le _ _ proper.high } in
        near_parents p l k fine klevel flevel nested few b (subst IsProper (sym is_here) parents) within

  pub all_near : All IsNear fine.boxes
  all_near n e lt = near_inside (domain p (suc l)) (size_at p (suc l) (omega arith)) (slice_index_or fine.boxes n e) (flevel.proper n e lt) (record { at = λ c h. flevel.inside c (list_any_at (λ b. holds b c) fine.boxes n e lt h) })

  module _ (s : Belt) (d : Domain) (covered : Cell → Bool) (cs : List Cell) (n : ℕ) (e : d ≡ domain p l) (same : (c : Cell) → covered c ≡ is_covered fine.masses c) (all : n ≡ length fine.boxes) (done : BoxesDone d (stands_in s d covered) fine.boxes cs n) where
    abbrev test : Cell → Bool
    test c = is_in_belt s c && is_register_cell (domain p l) k.masses fine.masses c

    tests : stands_in s d covered ≡ test
    unfolding stands_in
    tests = λ i c. is_in_belt s c && (ap (λ (x : Domain). stands_beside x covered) e ∙ stand_beside p l k fine klevel flevel nested few covered same) i c

    all_done : BoxesDone (domain p l) test fine.boxes cs (length fine.boxes)
    all_done = subst (λ (i : ℕ). BoxesDone (domain p l) test fine.boxes cs i) all (subst (λ (t : Cell → Bool). BoxesDone (domain p l) t fine.boxes cs n) tests (subst (λ (x : Domain). BoxesDone x (stands_in s d covered) fine.boxes cs n) e done))

    -- a cell that passes is a register cell
    is_one : (q : Cell) → test q ≡ true → is_register_cell (domain p l) k.masses fine.masses q ≡ true
    is_one q h = (and_parts (is_in_belt s q) _ h).1

    pub in_the_end : (sorted : List Cell) → AreRising sorted → ((c : Cell) → Contains cs c → Contains sorted c) → ((c : Cell) → Contains sorted c → Contains cs c) → sorted ≡ cells_between p l k.masses fine.masses s.first s.last
    in_the_end sorted rises kept none_added =
        are_cells_where (domain p l) test sorted
        (λ q h. klevel.inside q (sym (klevel.filled q) ∙ of_level (domain p l) k.masses fine.masses q (is_one q h)))
        (sorted_from_rising sorted rises)
        (λ q h. all_done.passing q (none_added q h))
        (λ q t. kept q (all_found p l k fine klevel flevel nested few test cs all_done q (is_one q t) t))

-- cells of the domain that pass a test are near
pub near_cells : (p : Problem) (l : ℕ) (test : Cell → Bool) (cs : List Cell) → l ≤ 4 → cs ≡ cells_where (domain p l) test → All IsDomainCell cs
near_cells p l test cs few e n d lt =
    domain_cell (domain p l) (slice_index_or cs n d) (size_at p l few) (where_inside (domain p l) test (slice_index_or cs n d) (subst (λ (xs : List Cell). Contains xs (slice_index_or cs n d)) e (Contains-get_or cs n d lt)))
