-- What the text of a trial is, as TOML reads it: a table, its keys in the order of their bytes.
use Rattle.std.specs.Prelude.{ℕ, ℤ, pos, negsuc, List, [], ◌∷◌, ◌++◌, map, codes, decimal}
use Rattle.amr_def.specs.declared.problem.Block.{Block}
use Rattle.toml.specs.Data.{Data, string, integer, array, Items, no_items, item, Members, no_members, member}
use Rattle.amr_trial.specs.Trial.{blocks, courant_x, courant_y}

abbrev pub items : List Data → Items
items [] = no_items
items (d ∷ ds) = item d (items ds)

abbrev pub members : List (List ℕ × Data) → Members
members [] = no_members
members (m ∷ ms) = member m.0 m.1 (members ms)

abbrev pub numbers : List ℤ → Data
numbers zs = array (items (map integer zs))

abbrev pub block_data : Block → Data
block_data b = numbers (pos b.x0 ∷ pos b.y0 ∷ pos b.x1 ∷ pos b.y1 ∷ pos b.mass ∷ [])

abbrev pub trial_name : ℕ → ℕ → List ℕ
trial_name number size = codes "trial-" ++ decimal number ++ codes "-" ++ decimal size

unfoldable pub document : ℕ → ℕ → Members
document number size = members (
    (codes "blocks", array (items (map block_data (blocks number size))))
    ∷ (codes "cells", numbers (pos size ∷ pos size ∷ []))
    ∷ (codes "courant", numbers (pos (courant_x number) ∷ pos (courant_y number) ∷ pos 8 ∷ []))
    ∷ (codes "max_grid_size", integer (pos 16))
    ∷ (codes "max_level", integer (pos 2))
    ∷ (codes "name", string (trial_name number size))
    ∷ (codes "sides", numbers (negsuc 0 ∷ negsuc 0 ∷ pos 0 ∷ pos 0 ∷ []))
    ∷ (codes "steps", integer (pos 16))
    ∷ (codes "tag", numbers (pos 64 ∷ pos 16 ∷ []))
    ∷ (codes "version", integer (pos 1))
    ∷ [])
