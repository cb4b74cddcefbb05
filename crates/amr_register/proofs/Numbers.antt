-- Register cells that stand in lists by their numbers, each once.
use Rattle.std.proofs.Common.{◌≡◌, ◌∙◌, ℕ, ◌<◌, ◌≤◌, ◌⊎◌, inl, inr, ℤ, List, [], length, get_or, sym, ap, arith}
use Rattle.std.specs.List.{All, AllZip, Contains}
use Rattle.std.proofs.lemmas.Bool.{cases_eq, cases_lt}
use Rattle.std.proofs.lemmas.Slice.Zip.{AllZip-long}
use Rattle.amr_box.specs.declared.Cell.{Cell}
use Rattle.amr_register.specs.declared.edges.EdgeCell.{EdgeCell}
use Rattle.amr_register.specs.EdgeCells.{AreOnceBy, HaveEachOnce, IsNumbered, IsPlaceIn, IsSameEdge, Place, SameEdges, cell_of, edge_at}
use Rattle.amr_register.specs.Entries.{AreRising, entry_at}
use Rattle.amr_register.specs.Written.{by_number}
use Rattle.amr_register.proofs.EdgeLists.{all_along, zip_at}
use Rattle.amr_register.proofs.EntryLaws.{entry_of_place}
use Rattle.amr_register.proofs.Refluxes.{apart_places}
use Rattle.amr_register.proofs.Taken.{no_cell}

-- what stands at a place has a number, which tells its cell
pub numbered_at : (cs : List Cell) (xs : List (List EdgeCell)) (w : Place) (e : EdgeCell) → HaveEachOnce cs xs → IsPlaceIn xs w → IsNumbered cs (edge_at xs w e)
numbered_at cs xs w e h inside = h.numbered w.list [] inside.list w.at e inside.at

-- so it is one of the cells, and the entry with its number is that of its cell
pub edge_listed : (cs : List Cell) (e : EdgeCell) → IsNumbered cs e → Contains cs e.cell
edge_listed cs e n = (e.number, n.inside, sym (n.cell e.cell))

pub edge_entry : (cs : List Cell) (es : List ℤ) (e : EdgeCell) → AreRising cs → length es ≡ length cs → IsNumbered cs e → entry_at cs es e.cell ≡ by_number es e.number
edge_entry cs es e rises count n = ap (entry_at cs es) (n.cell e.cell) ∙ entry_of_place cs es e.number e.cell rises count n.inside

-- so each cell has one place too
pub cells_once : (cs : List Cell) (xs : List (List EdgeCell)) → AreRising cs → HaveEachOnce cs xs → AreOnceBy cell_of xs
cells_once cs xs rises h v w e v_in w_in same = h.once v w e v_in w_in (by_cases (cases_eq m n))
  where
    m : ℕ
    m = (edge_at xs v e).number

    n : ℕ
    n = (edge_at xs w e).number

    one : IsNumbered cs (edge_at xs v e)
    one = numbered_at cs xs v e h v_in

    two : IsNumbered cs (edge_at xs w e)
    two = numbered_at cs xs w e h w_in

    alike : get_or cs m no_cell ≡ get_or cs n no_cell
    alike = sym (one.cell no_cell) ∙ same ∙ two.cell no_cell

    in_order : (m ≡ n → ⊥) → (m < n) ⊎ (n ≤ m) → m ≡ n
    in_order ne (inl lt) = absurd (apart_places cs m n no_cell no_cell rises lt two.inside alike)
    in_order ne (inr le) = absurd (apart_places cs n m no_cell no_cell rises (omega (arith, le, ne)) one.inside (sym alike))

    by_cases : (m ≡ n) ⊎ (m ≡ n → ⊥) → m ≡ n
    by_cases (inl s) = s
    by_cases (inr ne) = in_order ne (cases_lt m n)

-- ---- lists with the same cells, sides and numbers

module _ (xs ys : List (List EdgeCell)) (same : SameEdges xs ys) where
  count : length ys ≡ length xs
  count = AllZip-long (AllZip IsSameEdge) xs ys same

  alike : (k : ℕ) → k < length xs → AllZip IsSameEdge (get_or xs k []) (get_or ys k [])
  alike k lt = zip_at (AllZip IsSameEdge) xs ys k [] [] same lt

  long : (k : ℕ) → k < length xs → length (get_or ys k []) ≡ length (get_or xs k [])
  long k lt = AllZip-long IsSameEdge (get_or xs k []) (get_or ys k []) (alike k lt)

  here : (w : Place) → IsPlaceIn xs w → IsPlaceIn ys w
  here w inside = record { list = omega (arith, count, inside.list); at = omega (arith, long w.list inside.list, inside.at) }

  there : (w : Place) → IsPlaceIn ys w → IsPlaceIn xs w
  there w inside = let lt : w.list < length xs = omega (arith, count, inside.list) in record { list = lt; at = omega (arith, long w.list lt, inside.at) }

  number_stays : (w : Place) (e : EdgeCell) → IsPlaceIn xs w → (edge_at ys w e).number ≡ (edge_at xs w e).number
  number_stays w e inside = (zip_at IsSameEdge (get_or xs w.list []) (get_or ys w.list []) w.at e e (alike w.list inside.list) inside.at).number

  pub kept_once : (cs : List Cell) → HaveEachOnce cs xs → HaveEachOnce cs ys
  kept_once cs h = record {
    numbered = all_along (All (IsNumbered cs)) (All (IsNumbered cs)) (AllZip IsSameEdge) xs ys each same h.numbered;
    listed = λ k lt. let p = h.listed k lt in record { place = p.place; has = record { inside = here p.place p.has.inside; number = λ e. number_stays p.place e p.has.inside ∙ p.has.number e } };
    once = λ v w e v_in w_in s. h.once v w e (there v v_in) (there w w_in) (sym (number_stays v e (there v v_in)) ∙ s ∙ number_stays w e (there w w_in));
  }
    where
      one : (a b : EdgeCell) → IsSameEdge a b → IsNumbered cs a → IsNumbered cs b
      one a b s n = record { inside = omega (arith, s.number, n.inside); cell = λ c. s.cell ∙ n.cell c ∙ ap (λ (k : ℕ). get_or cs k c) (sym s.number) }

      each : (es fs : List EdgeCell) → AllZip IsSameEdge es fs → All (IsNumbered cs) es → All (IsNumbered cs) fs
      each es fs zipped all = all_along (IsNumbered cs) (IsNumbered cs) IsSameEdge es fs one zipped all
