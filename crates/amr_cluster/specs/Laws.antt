-- What holds of every cluster.
use Rattle.std.specs.Prelude.{◌≡◌, ◌⊎◌, ℕ, ◌≤◌, ◌≤ℤ◌, ◌<ℤ◌, true, List, ◌∷◌, length, IsTrue}
use Rattle.std.specs.declared.option.Option.TheVariants.{None}
use Rattle.std.specs.List.{All, AllPairs, filter}
use Rattle.amr_box.specs.declared.Cell.{Cell}
use Rattle.amr_box.specs.declared.Axis.TheVariants.{X, Y}
use Rattle.amr_box.specs.Cells.{AreDisjoint, Extent, along, holds, in_boxes}
use Rattle.amr_def.specs.Signature.{bounding, is_efficient, signature}
use Rattle.amr_def.specs.Cut.{Cut, best_cut}
use Rattle.amr_def.specs.Cluster.{cluster, cut_of, edge, parts}

-- a cut with a column or row on each side
pub record IsInside (b : Extent) (k : Cut) : Type 0 where
  pub from : along k.axis b.lo <ℤ edge b k
  pub to : edge b k ≤ℤ along k.axis b.hi

-- the least box round cells, of which there is one
pub record IsRound (b : Extent) (cells : List Cell) : Type 0 where
  pub first : Cell
  pub others : List Cell
  pub cells_are : cells ≡ first ∷ others
  pub box_is : b ≡ bounding first others

-- a box is efficient, or there is nowhere to cut it
abbrev pub IsSettled : ℕ → ℕ → Extent → List Cell → Type 0
IsSettled efficiency w b cells = (is_efficient efficiency (length cells) b ≡ true) ⊎ (best_cut w (signature X cells b) (signature Y cells b) ≡ None)

pub record IsClustering (efficiency w : ℕ) (cells : List Cell) (boxes : List Extent) : Type 0 where
  pub disjoint : AllPairs AreDisjoint boxes
  pub covering : All (λ c. IsTrue (in_boxes boxes c)) cells
  pub tight : All (λ b. IsRound b (filter (holds b) cells)) boxes
  pub settled : All (λ b. IsSettled efficiency w b (filter (holds b) cells)) boxes

abbrev pub ClustersAreSound : Type 0
ClustersAreSound = (efficiency w : ℕ) (cells : List Cell) → 1 ≤ w → IsClustering efficiency w cells (cluster efficiency w cells)

abbrev pub ClusterIsRecursive : Type 0
ClusterIsRecursive =
    (efficiency w : ℕ) (c : Cell) (cs : List Cell) → 1 ≤ w
    → cluster efficiency w (c ∷ cs) ≡ parts (cluster efficiency w) (c ∷ cs) (bounding c cs) (cut_of efficiency w (c ∷ cs) (bounding c cs))
