-- How many cells two boxes share: the columns by the rows of what is in both.
use Rattle.std.specs.Prelude.{ℕ, ◌*◌}
use Rattle.amr_box.specs.Cells.{Extent, common, height, width}

abbrev pub shared : Extent → Extent → ℕ
shared b a = width (common a b) * height (common a b)
