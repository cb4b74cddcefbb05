-- Entries, one for each cell of a list, as a function of all cells.
use Rattle.std.specs.Prelude.{◌≡◌, cond, ℤ, ◌+ℤ◌, pos, List, [], ◌∷◌}
use Rattle.std.specs.Option.{option_map}
use Rattle.std.specs.List.{AllPairs}
use Rattle.std.specs.declared.cmp.Ordering.{Ordering}
use Rattle.std.specs.declared.cmp.Ordering.TheVariants.{Less}
use Rattle.std.specs.Ordering.{eq_by_cmp, int_cmp, ordering_then}
use Rattle.amr_box.specs.declared.Cell.{Cell}
use Rattle.amr_box.specs.Cells.{at_least_zero, cell_cmp}
use Rattle.amr_def.specs.State.{Masses}

-- the order by row, within a row by column
abbrev pub row_cmp : Cell → Cell → Ordering
row_cmp a b = ordering_then (int_cmp a.y b.y) (int_cmp a.x b.x)

-- in that order, each once
abbrev pub AreRising : List Cell → Type 0
AreRising cs = AllPairs (λ a b. row_cmp a b ≡ Less) cs

-- the entry of a cell, 0 where it has none
abbrev pub entry_at : List Cell → List ℤ → Cell → ℤ
entry_at [] es c = pos 0
entry_at (d ∷ ds) [] c = pos 0
entry_at (d ∷ ds) (e ∷ es) c = cond (eq_by_cmp cell_cmp c d) e (entry_at ds es c)

-- masses, each with the entry of its cell added. That no sum falls below 0, where it would be cut, is a condition of refluxing.
abbrev pub with_entries : (Cell → ℤ) → Masses → Masses
with_entries e m c = option_map (λ v. at_least_zero (pos v +ℤ e c)) (m c)
