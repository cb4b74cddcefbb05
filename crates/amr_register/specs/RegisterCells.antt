-- The register cells of a level, where its step is corrected by what flowed through finer faces, and the faces where it is.
-- (Berger and Colella: a coarse cell that no finer grid covers, beside one that is covered)
use Rattle.std.specs.Prelude.{ℕ, Bool, ◌&&◌, cond, not, List, is_some}
use Rattle.std.specs.List.{list_any}
use Rattle.amr_box.specs.declared.Cell.{Cell}
use Rattle.amr_box.specs.declared.Face.{Face}
use Rattle.amr_box.specs.Cells.{moved}
use Rattle.amr_def.specs.declared.problem.Problem.{Problem}
use Rattle.amr_def.specs.Domain.{Domain, cells_where, domain, home_cell}
use Rattle.amr_def.specs.State.{Masses, is_covered}
use Rattle.amr_def.specs.Flux.{high_cell, low_cell}
use Rattle.amr_def.specs.Tags.{neighbours}

-- whether a neighbour of a cell passes a test, past the end of a periodic axis too; cells at a corner are no neighbours
abbrev pub has_neighbour_where : Domain → (Cell → Bool) → Cell → Bool
has_neighbour_where d test c = list_any (λ o. test (home_cell d (moved c o))) neighbours

-- of a level with masses m, where the next finer one has masses `fine`, where d is its domain: a cell of the level that is not
-- covered, beside a covered one
unfoldable pub is_register_cell : Domain → Masses → Masses → Cell → Bool
is_register_cell d m fine c = is_some (m c) && (not (is_covered fine c) && has_neighbour_where d (is_covered fine) c)

-- the register cells of level l by row, within a row by column, each once
abbrev pub register_cells : Problem → ℕ → Masses → Masses → List Cell
register_cells p l m fine = cells_where (domain p l) (is_register_cell (domain p l) m fine)

-- whether a face lies between a covered cell and one that is not (Berger and Colella: a coarse-fine edge)
unfoldable pub is_coarse_fine : Domain → Masses → Face → Bool
is_coarse_fine d fine f =
    let low = is_covered fine (home_cell d (low_cell f)) in
    let high = is_covered fine (home_cell d (high_cell f)) in
    cond low (not high) high
