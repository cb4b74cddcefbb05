-- Entries from which flows are taken away, one after the other.
use Rattle.std.proofs.Common.{◌≡◌, ◌∙◌, ℕ, ◌+◌, ◌<◌, ◌≤◌, ◌⊎◌, inl, inr, false, zero, suc, [], ◌∷◌, ℤ, pos, ◌-ℤ◌, List, length, get_or, refl, sym, ap, arith}
use Rattle.std.specs.Prelude.{slice_index_or, slice_set}
use Rattle.std.proofs.lemmas.Bool.{cases_eq}
use Rattle.std.proofs.lemmas.List.{get_or-set_other, get_or-set_same}
use Rattle.amr_box.specs.declared.Cell.{Cell}
use Rattle.amr_box.specs.Cells.{cell}
use Rattle.amr_register.specs.declared.edges.EdgeCell.{EdgeCell}
use Rattle.amr_register.specs.declared.sides.CoveredSides.{CoveredSides}
use Rattle.amr_register.specs.EdgeCells.{new_edge}

-- what stands at a place, whatever would stand past the end
pub same_at : {A : Type 0} (xs : List A) (k : ℕ) (a b : A) → k < length xs → get_or xs k a ≡ get_or xs k b
same_at [] k a b lt = absurd (omega arith)
same_at (x ∷ xs) zero a b lt = refl
same_at (x ∷ xs) (suc k) a b lt = same_at xs k a b (omega arith)

-- the first n entries have the parts of their places taken away, the others are as they were
pub record AreTaken (part : ℕ → ℤ) (before after : List ℤ) (n : ℕ) : Type 0 where
  pub done : (k : ℕ) → k < n → slice_index_or after k (pos 0) ≡ slice_index_or before k (pos 0) -ℤ part k
  pub left : (k : ℕ) → n ≤ k → slice_index_or after k (pos 0) ≡ slice_index_or before k (pos 0)

pub none_taken : (part : ℕ → ℤ) (es : List ℤ) → AreTaken part es es 0
none_taken part es = record { done = λ k below. absurd (omega (arith, below)); left = λ k out. refl }

pub one_taken : (part : ℕ → ℤ) (before after : List ℤ) (n : ℕ) (v r : ℤ) → r ≡ part n → AreTaken part before after n → n < length after → v ≡ slice_index_or after n (pos 0) -ℤ r → AreTaken part before (slice_set after n v) (n + 1)
one_taken part before after n v r is_r taken lt is_v = record {
  done = λ k below. by_place k below (cases_eq k n);
  left = λ k out. get_or-set_other after n k v (pos 0) (λ e. omega arith) ∙ taken.left k (omega arith);
}
  where
    by_place : (k : ℕ) → k < n + 1 → (k ≡ n) ⊎ (k ≡ n → ⊥) → slice_index_or (slice_set after n v) k (pos 0) ≡ slice_index_or before k (pos 0) -ℤ part k
    by_place k below (inl e) =
        ap (λ (i : ℕ). slice_index_or (slice_set after n v) i (pos 0)) e
        ∙ get_or-set_same after n v (pos 0) lt
        ∙ is_v
        ∙ (λ i. taken.left n (omega arith) i -ℤ is_r i)
        ∙ ap (λ (i : ℕ). slice_index_or before i (pos 0) -ℤ part i) (sym e)
    by_place k below (inr ne) = get_or-set_other after n k v (pos 0) ne ∙ taken.done k (omega arith)

-- what stands past the end of a list, where any would do
abbrev pub no_cell : Cell
no_cell = cell (pos 0) (pos 0)

abbrev pub no_sides : CoveredSides
no_sides = record { west = false; east = false; south = false; north = false }

abbrev pub no_edge : EdgeCell
no_edge = new_edge 0 no_cell no_sides
