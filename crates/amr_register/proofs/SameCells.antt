-- The register cells of levels go by which cells the levels have; and registers with the cells of another.
use Rattle.std.proofs.Common.{◌≡◌, ◌∙◌, ℕ, ◌<◌, Bool, ◌&&◌, ◌⊎◌, inl, inr, ℤ, pos, List, get_or, refl, sym, ap, subst}
use Rattle.std.specs.Prelude.{is_some, not, unsigned_abs}
use Rattle.std.specs.List.{Contains}
use Rattle.amr_box.specs.declared.Cell.{Cell}
use Rattle.amr_box.specs.Cells.{Extent, has_child_where}
use Rattle.amr_def.specs.declared.problem.Problem.{Problem}
use Rattle.amr_def.specs.Domain.{Domain, cells_where, domain}
use Rattle.amr_def.specs.State.{Masses, is_covered}
use Rattle.amr_register.specs.declared.register.Register.{Register}
use Rattle.amr_register.specs.declared.edges.EdgeCell.{EdgeCell}
use Rattle.amr_register.specs.declared.sides.CoveredSides.{CoveredSides}
use Rattle.amr_register.specs.RegisterCells.{has_neighbour_where, is_register_cell}
use Rattle.amr_register.specs.Beside.{HasSides, HaveSides}
use Rattle.amr_register.specs.EdgeCells.{HaveEachOnce, SameEdges}
use Rattle.amr_register.specs.Fields.{HasEdgesOf, IsPlaced, IsRegisterOf, IsWithEdges, SameCells, cells_in, edges_in, entry_in, sides_in}
use Rattle.amr_register.proofs.CellLists.{is_or_not}
use Rattle.amr_register.proofs.EdgeLists.{kept_edges, kept_in, same_edges_itself, same_edges_twice}
use Rattle.amr_register.proofs.EntryLaws.{entry_of_none}
use Rattle.amr_register.proofs.Numbers.{kept_once}

covered_same : (fine fine' : Masses) → ((c : Cell) → is_some (fine' c) ≡ is_some (fine c)) → is_covered fine' ≡ is_covered fine
unfolding is_covered
covered_same fine fine' h =
    let same : (λ (k : Cell). is_some (fine' k)) ≡ (λ (k : Cell). is_some (fine k)) = λ i k. h k i in
    ap has_child_where same

cells_same : (d : Domain) (m fine m' fine' : Masses) → ((c : Cell) → is_some (m' c) ≡ is_some (m c)) → is_covered fine' ≡ is_covered fine → is_register_cell d m' fine' ≡ is_register_cell d m fine
unfolding is_register_cell
cells_same d m fine m' fine' h e = λ i c. h c i && (not (e i c) && has_neighbour_where d (e i) c)

of_cells : (p : Problem) (l : ℕ) (m fine m' fine' : Masses) (r : Register) → ((c : Cell) → is_some (m' c) ≡ is_some (m c)) → is_covered fine' ≡ is_covered fine → IsRegisterOf p l m fine r → IsRegisterOf p l m' fine' r
of_cells p l m fine m' fine' r h covered of =
    let cells = cells_same (domain p l) m fine m' fine' h covered in
    record {
      cells = of.cells ∙ sym (ap (cells_where (domain p l)) cells);
      sides = subst (λ (t : Cell → Bool). HaveSides (domain p l) t (cells_in r) (sides_in r)) (sym covered) of.sides;
      edges = λ k d lt i e below.
          let edge = of.edges k d lt i e below in
          let x : EdgeCell = get_or (get_or (edges_in r) k d) i e in
          record { cell = (λ j. cells j x.cell) ∙ edge.cell; sides = subst (λ (t : Cell → Bool). HasSides (domain p l) t x.cell x.sides) (sym covered) edge.sides };
      placed = of.placed;
    }

placed_still : (r s : Register) → SameCells r s → IsPlaced r → IsPlaced s
placed_still r s same h = subst (λ (cs : List Cell). HaveEachOnce cs (edges_in s)) (sym same.cells) (kept_once (edges_in r) (edges_in s) same.edges (cells_in r) h)

-- a register serves all finer levels that cover the same cells
pub of_covered : (p : Problem) (l : ℕ) (m fine after : Masses) (r : Register) → is_covered after ≡ is_covered fine → IsRegisterOf p l m fine r → IsRegisterOf p l m after r
of_covered p l m fine after r covered of = of_cells p l m fine m after r (λ c. refl) covered of

pub same_register : (p : Problem) (l : ℕ) (m fine m' fine' : Masses) (r : Register) → ((c : Cell) → is_some (m' c) ≡ is_some (m c)) → ((c : Cell) → is_some (fine' c) ≡ is_some (fine c)) → IsRegisterOf p l m fine r → IsRegisterOf p l m' fine' r
same_register p l m fine m' fine' r h k of = of_cells p l m fine m' fine' r h (covered_same fine fine' k) of

-- ---- a register with the cells of another

pub register_kept : (p : Problem) (l : ℕ) (m fine : Masses) (r s : Register) → SameCells r s → IsRegisterOf p l m fine r → IsRegisterOf p l m fine s
register_kept p l m fine r s same of = record {
  cells = same.cells ∙ of.cells;
  sides = subst (λ (xs : List CoveredSides). HaveSides (domain p l) (is_covered fine) (cells_in s) xs) (sym same.sides)
      (subst (λ (cs : List Cell). HaveSides (domain p l) (is_covered fine) cs (sides_in r)) (sym same.cells) of.sides);
  edges = kept_edges (domain p l) m fine (edges_in r) (edges_in s) same.edges of.edges;
  placed = placed_still r s same of.placed;
}

pub same_itself : (r : Register) → SameCells r r
same_itself r = record { cells = refl; sides = refl; edges = same_edges_itself (edges_in r) }

pub same_twice : (r s t : Register) → SameCells r s → SameCells s t → SameCells r t
same_twice r s t a b = record { cells = b.cells ∙ a.cells; sides = b.sides ∙ a.sides; edges = same_edges_twice (edges_in r) (edges_in s) (edges_in t) a.edges b.edges }

-- a list for each box stays one
pub edges_kept : (boxes : List Extent) (r s : Register) → SameCells r s → HasEdgesOf boxes r → HasEdgesOf boxes s
edges_kept boxes r s same h = record { lists = kept_in boxes (edges_in r) (edges_in s) same.edges h.lists }

-- the lists were taken out, and others with the same cells and sides were put in
pub put_back : (r s t : Register) (xs ys : List (List EdgeCell)) → IsWithEdges xs r s → IsWithEdges ys s t → SameEdges (edges_in r) ys → SameCells r t
put_back r s t xs ys out back same = record {
  cells = back.cells ∙ out.cells;
  sides = back.sides ∙ out.sides;
  edges = subst (λ (zs : List (List EdgeCell)). SameEdges (edges_in r) zs) (sym back.edges) same;
}

-- a cell that is not among its cells has no entry
pub no_entry : (r : Register) (c : Cell) → (Contains (cells_in r) c → ⊥) → entry_in r c ≡ pos 0
unfolding cells_in entry_in
no_entry r c h = entry_of_none r.cells.items r.entries.items c h

-- so all entries are small if those of its cells are
pub small_entries : (r : Register) (n : ℕ) → 0 < n → ((c : Cell) → Contains (cells_in r) c → unsigned_abs (entry_in r c) < n) → (c : Cell) → unsigned_abs (entry_in r c) < n
small_entries r n some h c = from (is_or_not c (cells_in r))
  where
    from : Contains (cells_in r) c ⊎ (Contains (cells_in r) c → ⊥) → unsigned_abs (entry_in r c) < n
    from (inl has) = h c has
    from (inr none) = subst (λ (z : ℤ). unsigned_abs z < n) (sym (no_entry r c none)) some
