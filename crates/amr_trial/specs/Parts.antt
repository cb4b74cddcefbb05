-- The text of a trial in the parts that are put one after another.
use Rattle.std.specs.Prelude.{ℕ, ◌*◌, List, [], ◌∷◌, ◌++◌, map, codes, decimal}
use Rattle.std.specs.List.{flat_map, range_with_len}
use Rattle.amr_def.specs.Plot.{line}
use Rattle.amr_trial.specs.Generator.{after}
use Rattle.amr_trial.specs.Trial.{array, block_from, block_text}

-- the lines before that of the blocks, by the Courant numbers
abbrev pub head_lines : ℕ → ℕ → ℕ → ℕ → List (List ℕ)
head_lines number size cx cy =
    codes "version = 1"
    ∷ (codes "name = \"trial-" ++ decimal number ++ codes "-" ++ decimal size ++ codes "\"")
    ∷ (codes "cells = " ++ array (decimal size ∷ decimal size ∷ []))
    ∷ codes "steps = 16"
    ∷ (codes "courant = " ++ array (decimal cx ∷ decimal cy ∷ codes "8" ∷ []))
    ∷ codes "sides = [-1, -1, 0, 0]"
    ∷ codes "max_level = 2"
    ∷ codes "tag = [64, 16]"
    ∷ codes "max_grid_size = 16"
    ∷ []

unfoldable pub head : ℕ → ℕ → ℕ → ℕ → List ℕ
head number size cx cy = flat_map line (head_lines number size cx cy)

-- so many blocks that the draws from a state on give, each behind a comma
abbrev pub more_blocks : ℕ → ℕ → ℕ → List ℕ
more_blocks count size state = flat_map (λ entry. codes ", " ++ entry) (map (λ k. block_text (block_from size (after (5 * k) state))) (range_with_len 0 count))

-- the line of eight blocks that the draws from a state on give
unfoldable pub blocks_line : ℕ → ℕ → List ℕ
blocks_line size state = codes "blocks = [" ++ (block_text (block_from size state) ++ (more_blocks 7 size (after 5 state) ++ codes "]\n"))
