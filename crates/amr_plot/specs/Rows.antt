-- What is written of the masses of a box's cells.
use Rattle.std.specs.Prelude.{ℕ, List}
use Rattle.amr_box.specs.Cells.{Extent}
use Rattle.amr_patch.specs.declared.levels.Level.{Level}
use Rattle.amr_patch.specs.BoxRows.{mass_in}
use Rattle.amr_plot.specs.Texts.{word}

-- the mass in a row and column of a box
abbrev pub row_word : Level → Extent → ℕ → ℕ → List ℕ
row_word level b row column = word column (mass_in level b row column)
