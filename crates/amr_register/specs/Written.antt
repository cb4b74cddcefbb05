-- Edge cells that are gone over, each of which writes one value: an entry, or the mass of its cell.
use Rattle.std.specs.Prelude.{◌≡◌, ℕ, ◌<◌, ◌≢◌, cond, ℤ, pos, ◌+ℤ◌, ◌-ℤ◌, List, length, slice_index_or}
use Rattle.amr_box.specs.declared.Cell.{Cell}
use Rattle.amr_box.specs.Cells.{at_least_zero, holds}
use Rattle.amr_patch.specs.declared.patches.Patch.{Patch}
use Rattle.amr_patch.specs.Patches.{box, mass_in}
use Rattle.amr_register.specs.declared.edges.EdgeCell.{EdgeCell}
use Rattle.amr_register.specs.EdgeCells.{IsPlaceIn, Place, edge_at}

-- no two write at one key
abbrev pub AreKeysApart : {K : Type 0} → (EdgeCell → K) → List EdgeCell → Type 0
AreKeysApart key es = (i k : ℕ) (e : EdgeCell) → i < k → k < length es → key (slice_index_or es i e) ≢ key (slice_index_or es k e)

-- each of the first n has written at its key what it makes of the value there; a key that none of them has keeps its value
pub record AreWritten {K V : Type 0} (key : EdgeCell → K) (make : EdgeCell → V → V) (es : List EdgeCell) (before after : K → V) (n : ℕ) : Type 0 where
  pub done : (i : ℕ) (e : EdgeCell) → i < n → i < length es
      → after (key (slice_index_or es i e)) ≡ make (slice_index_or es i e) (before (key (slice_index_or es i e)))
  pub left : (k : K) → ((i : ℕ) (e : EdgeCell) → i < n → i < length es → key (slice_index_or es i e) ≢ k) → after k ≡ before k

-- the same of the first n lists
pub record AreAllWritten {K V : Type 0} (key : EdgeCell → K) (make : EdgeCell → V → V) (xs : List (List EdgeCell)) (before after : K → V)
    (n : ℕ) : Type 0 where
  pub done : (w : Place) (e : EdgeCell) → w.list < n → IsPlaceIn xs w → after (key (edge_at xs w e)) ≡ make (edge_at xs w e) (before (key (edge_at xs w e)))
  pub left : (k : K) → ((w : Place) (e : EdgeCell) → w.list < n → IsPlaceIn xs w → key (edge_at xs w e) ≢ k) → after k ≡ before k

-- ---- entries

-- the entries by their numbers
abbrev pub by_number : List ℤ → ℕ → ℤ
by_number es k = slice_index_or es k (pos 0)

-- an entry loses what flows in
abbrev pub without_net : EdgeCell → ℤ → ℤ
without_net e z = z -ℤ e.net

-- ---- masses

-- the mass of a cell of a patch; 0 past its box
abbrev pub own_mass : Patch → Cell → ℕ
own_mass p c = cond (holds (box p) c) (mass_in p c) 0

-- a mass of a patch gets the entry of the cell
abbrev pub with_entry : List ℤ → EdgeCell → ℕ → ℕ
with_entry es e v = at_least_zero (pos v +ℤ by_number es e.number)
