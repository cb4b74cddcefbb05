-- Tags: the cells where a finer level is wanted. (the criterion: profile; the buffer: Berger and Colella)
use Rattle.std.specs.Prelude.{ℕ, ◌+◌, ◌-◌, Bool, ◌&&◌, pos, negsuc, List, [], ◌∷◌, nat_le, slice_index, is_some}
use Rattle.std.specs.List.{list_any}
use Rattle.amr_box.specs.declared.Cell.{Cell}
use Rattle.amr_box.specs.Cells.{cell, moved}
use Rattle.amr_def.specs.declared.problem.Problem.{Problem}
use Rattle.amr_def.specs.Domain.{domain, home_cell, in_domain, is_near}
use Rattle.amr_def.specs.State.{Masses, State, level_at, masses_below}
use Rattle.amr_def.specs.Value.{value_at}

-- the offsets of the neighbours, which share a face with the cell
abbrev pub neighbours : List Cell
neighbours = cell (negsuc 0) (pos 0) ∷ cell (pos 1) (pos 0) ∷ cell (pos 0) (negsuc 0) ∷ cell (pos 0) (pos 1) ∷ []

abbrev pub differs_by : ℕ → ℕ → ℕ → Bool
differs_by t a b = nat_le t ((a - b) + (b - a))

-- a cell of the level with a neighbour in the domain whose value differs by the threshold or more;
-- `coarse` are the masses of the next coarser level
unfoldable pub is_tagged_by : Problem → ℕ → Masses → Masses → Cell → Bool
is_tagged_by p l m coarse c =
    let value : Cell → ℕ = value_at p l m coarse in
    is_some (m c) && list_any (λ o. in_domain (domain p l) (home_cell (domain p l) (moved c o))
    && differs_by (slice_index p.tag l) (value c) (value (moved c o))) neighbours

abbrev pub is_tagged : Problem → State → ℕ → Cell → Bool
is_tagged p s l = is_tagged_by p l (level_at s l).masses (masses_below s l)

-- a cell with a tag at most `n_error_buf` away
abbrev pub is_grown : Problem → ℕ → (Cell → Bool) → Cell → Bool
is_grown p l tagged = is_near (domain p l) p.n_error_buf tagged
