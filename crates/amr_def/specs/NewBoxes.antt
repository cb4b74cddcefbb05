-- The boxes of the finer levels at a regrid.
use Rattle.std.specs.Prelude.{ℕ, zero, suc, ◌+◌, ◌/◌, Bool, ◌||◌, List, [], ◌∷◌, map}
use Rattle.amr_box.specs.declared.Cell.{Cell}
use Rattle.amr_box.specs.Cells.{Extent, has_child_where}
use Rattle.amr_def.specs.declared.problem.Problem.{Problem}
use Rattle.amr_def.specs.Domain.{Domain, domain, cells_where, is_near, refined, in_blocks, has_cell_where}
use Rattle.amr_def.specs.State.{is_covered_by}
use Rattle.amr_def.specs.Tags.{is_grown}
use Rattle.amr_def.specs.Cluster.{cluster}

-- the parents of the cells at most one away from a parent of a cell of the boxes. The boxes are of
-- level l + 2, the domain is that of l + 1, and the cell is of level l. (Berger and Colella: proper nesting)
abbrev pub is_projected : Domain → List Extent → Cell → Bool
is_projected d boxes = has_child_where (is_near d 1 (is_covered_by boxes))

abbrev pub first_boxes : List (List Extent) → List Extent
first_boxes [] = []
first_boxes (bs ∷ more) = bs

-- the cells of level l that level l + 1 is to cover: the grown tags, and what nests the boxes of l + 2
abbrev pub is_wanted : Problem → (ℕ → Cell → Bool) → ℕ → List Extent → Cell → Bool
is_wanted p tagged l finer c = is_grown p l (tagged l) c || is_projected (domain p (l + 1)) finer c

-- how many cells of a level lie along the side of a block: a block becomes `blocking` cells of the next
abbrev pub block_side : Problem → ℕ
block_side p = p.blocking / 2

-- the blocks of a level with a wanted cell, row by row
abbrev pub wanted_blocks : Problem → (ℕ → Cell → Bool) → ℕ → List Extent → List Cell
wanted_blocks p tagged l finer =
    cells_where (in_blocks (block_side p) (domain p l)) (has_cell_where (block_side p) (is_wanted p tagged l finer))

-- the new boxes of the levels l + 1 to l + n, by the tags of each level. A state's own tags are
-- `is_tagged p s`; several species share boxes by the tags of any of them.
unfoldable pub new_boxes : Problem → (ℕ → Cell → Bool) → ℕ → ℕ → List (List Extent)
new_boxes p tagged zero l = []
new_boxes p tagged (suc n) l =
    let finer = new_boxes p tagged n (suc l) in
    map (refined p.blocking) (cluster p.efficiency p.min_width (wanted_blocks p tagged l (first_boxes finer))) ∷ finer
