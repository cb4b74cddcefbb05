-- The problem of a trial: what its number draws, and its text. (profile)
use Rattle.std.specs.Prelude.{ℕ, ◌+◌, ◌-◌, ◌*◌, ◌/◌, ◌≤◌, min, List, [], ◌∷◌, ◌++◌, map, codes, decimal}
use Rattle.std.specs.List.{flat_map, join_by, range_with_len}
use Rattle.amr_def.specs.declared.problem.Block.{Block}
use Rattle.amr_def.specs.Plot.{line}
use Rattle.amr_trial.specs.Generator.{after, draw}

-- a trial has from 8 by 8 to 256 by 256 cells
pub record IsSize (size : ℕ) : Type 0 where
  pub least : 8 ≤ size
  pub greatest : size ≤ 256

-- ---- what is drawn

-- the first two draws are Courant numbers, in eighths
abbrev pub courant_x : ℕ → ℕ
courant_x number = draw number 0 5

abbrev pub courant_y : ℕ → ℕ
courant_y number = draw number 1 4

-- The block that five draws from a state on give: its low corner, how far its high corner lies from it along each axis, and its mass.
-- The high corner is cut off at the domain's end.
unfoldable pub block_from : ℕ → ℕ → Block
block_from size state =
    let x = draw state 0 size in
    let y = draw state 1 size in
    record {
      x0 = x;
      y0 = y;
      x1 = min (x + draw state 2 (size / 4)) (size - 1);
      y1 = min (y + draw state 3 (size / 4)) (size - 1);
      mass = draw state 4 4096;
      species = 0;
    }

-- block k, counted from 0, of a trial: its draws come after the two Courant numbers and the blocks before it
abbrev pub block : ℕ → ℕ → ℕ → Block
block number size k = block_from size (after (5 * k) (after 2 number))

abbrev pub blocks : ℕ → ℕ → List Block
blocks number size = map (block number size) (range_with_len 0 8)

-- ---- as text

-- an array, as TOML writes it
abbrev pub array : List (List ℕ) → List ℕ
array entries = codes "[" ++ join_by (λ entry. entry) (codes ", ") entries ++ codes "]"

abbrev pub block_text : Block → List ℕ
block_text b = array (decimal b.x0 ∷ decimal b.y0 ∷ decimal b.x1 ∷ decimal b.y1 ∷ decimal b.mass ∷ [])

-- the text of the problem, line by line
unfoldable pub text : ℕ → ℕ → List ℕ
text number size = flat_map line (
    codes "version = 1"
    ∷ (codes "name = \"trial-" ++ decimal number ++ codes "-" ++ decimal size ++ codes "\"")
    ∷ (codes "cells = " ++ array (decimal size ∷ decimal size ∷ []))
    ∷ codes "steps = 16"
    ∷ (codes "courant = " ++ array (decimal (courant_x number) ∷ decimal (courant_y number) ∷ codes "8" ∷ []))
    ∷ codes "sides = [-1, -1, 0, 0]"
    ∷ codes "max_level = 2"
    ∷ codes "tag = [64, 16]"
    ∷ codes "max_grid_size = 16"
    ∷ (codes "blocks = " ++ array (map block_text (blocks number size)))
    ∷ [])
