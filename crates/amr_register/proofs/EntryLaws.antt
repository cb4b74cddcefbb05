-- Entries by cells and by places.
use Rattle.std.proofs.Common.{◌≡◌, ◌∙◌, ℕ, zero, suc, ◌<◌, Bool, true, false, cond, ℤ, pos, List, [], ◌∷◌, length, refl, sym, ap, arith}
use Rattle.std.specs.Prelude.{slice_index_or, slice_set}
use Rattle.std.specs.List.{Contains}
use Rattle.amr_box.specs.declared.Cell.{Cell}
use Rattle.amr_box.proofs.CellEquality.{cell_apart, cell_itself, is_cell}
use Rattle.amr_register.specs.Entries.{AreRising, entry_at}
use Rattle.amr_register.proofs.RowOrder.{row_cmp-itself}

rising_tail : (d : Cell) (ds : List Cell) → AreRising (d ∷ ds) → AreRising ds
rising_tail d ds h i j e lt l = h (suc i) (suc j) e (omega arith) (omega arith)

-- the first cell is none of the others
head_apart : (d : Cell) (ds : List Cell) (k : ℕ) (e : Cell) → AreRising (d ∷ ds) → k < length ds → is_cell (slice_index_or ds k e) d ≡ false
head_apart d ds k e h lt = cell_apart (slice_index_or ds k e) d (λ s. row_cmp-itself d (slice_index_or ds k e) (sym s) (h 0 (suc k) e (omega arith) (omega arith)))

-- the entry of the cell at a place is the one at that place
pub entry_of_place : (cs : List Cell) (es : List ℤ) (k : ℕ) (e : Cell) → AreRising cs → length es ≡ length cs → k < length cs → entry_at cs es (slice_index_or cs k e) ≡ slice_index_or es k (pos 0)
entry_of_place [] es k e h n lt = absurd (omega arith)
entry_of_place (c ∷ cs) [] k e h n lt = absurd (omega arith)
entry_of_place (c ∷ cs) (x ∷ es) zero e h n lt = ap (λ (t : Bool). cond t x (entry_at cs es c)) (cell_itself c)
entry_of_place (c ∷ cs) (x ∷ es) (suc k) e h n lt =
    ap (λ (t : Bool). cond t x (entry_at cs es (slice_index_or cs k e))) (head_apart c cs k e h (omega arith))
    ∙ entry_of_place cs es k e (rising_tail c cs h) (omega arith) (omega arith)

-- a cell that is none of them has no entry
pub entry_of_none : (cs : List Cell) (es : List ℤ) (c : Cell) → (Contains cs c → ⊥) → entry_at cs es c ≡ pos 0
entry_of_none [] es c h = refl
entry_of_none (d ∷ cs) [] c h = refl
entry_of_none (d ∷ cs) (x ∷ es) c h =
    ap (λ (t : Bool). cond t x (entry_at cs es c)) (cell_apart c d (λ s. h (0, omega arith, sym s)))
    ∙ entry_of_none cs es c (λ (k, lt, s). h (suc k, omega arith, s))

-- where all entries are 0
pub no_entries : (cs : List Cell) (es : List ℤ) (c : Cell) → ((k : ℕ) → k < length es → slice_index_or es k (pos 0) ≡ pos 0) → entry_at cs es c ≡ pos 0
no_entries [] es c h = refl
no_entries (d ∷ cs) [] c h = refl
no_entries (d ∷ cs) (x ∷ es) c h = by_test (is_cell c d) (h 0 (omega arith)) (no_entries cs es c (λ k lt. h (suc k) (omega arith)))
  where
    by_test : (t : Bool) → x ≡ pos 0 → entry_at cs es c ≡ pos 0 → cond t x (entry_at cs es c) ≡ pos 0
    by_test true e f = e
    by_test false e f = f

-- one entry is written
pub entry_of_set : (cs : List Cell) (es : List ℤ) (k : ℕ) (v : ℤ) (e c : Cell) → AreRising cs → length es ≡ length cs → k < length cs → c ≡ slice_index_or cs k e → entry_at cs (slice_set es k v) c ≡ v
entry_of_set [] es k v e c h n lt s = absurd (omega arith)
entry_of_set (d ∷ cs) [] k v e c h n lt s = absurd (omega arith)
entry_of_set (d ∷ cs) (x ∷ es) zero v e c h n lt s = ap (λ (t : Bool). cond t v (entry_at cs es c)) (ap (λ (q : Cell). is_cell q d) s ∙ cell_itself d)
entry_of_set (d ∷ cs) (x ∷ es) (suc k) v e c h n lt s =
    ap (λ (t : Bool). cond t x (entry_at cs (slice_set es k v) c)) (ap (λ (q : Cell). is_cell q d) s ∙ head_apart d cs k e h (omega arith))
    ∙ entry_of_set cs es k v e c (rising_tail d cs h) (omega arith) (omega arith) s

pub entry_of_other : (cs : List Cell) (es : List ℤ) (k : ℕ) (v : ℤ) (e c : Cell) → length es ≡ length cs → k < length cs → (c ≡ slice_index_or cs k e → ⊥) → entry_at cs (slice_set es k v) c ≡ entry_at cs es c
entry_of_other [] es k v e c n lt s = absurd (omega arith)
entry_of_other (d ∷ cs) [] k v e c n lt s = absurd (omega arith)
entry_of_other (d ∷ cs) (x ∷ es) zero v e c n lt s = ap (λ (t : Bool). cond t v (entry_at cs es c)) (cell_apart c d s) ∙ sym (ap (λ (t : Bool). cond t x (entry_at cs es c)) (cell_apart c d s))
entry_of_other (d ∷ cs) (x ∷ es) (suc k) v e c n lt s = ap (λ (z : ℤ). cond (is_cell c d) x z) (entry_of_other cs es k v e c (omega arith) (omega arith) s)
