-- The boxes that a clustering has still to look at, the next one last.
use Rattle.std.specs.Prelude.{ℕ, ◌+◌, ◌-◌, ◌*◌, Bool, ◌&&◌, cond, nat_le, List, [], ◌∷◌, ◌++◌, length, slice_index, ◌≡◌, ◌<◌, ◌≤◌}
use Rattle.std.specs.declared.option.Option.{Option}
use Rattle.std.specs.declared.option.Option.TheVariants.{None}
use Rattle.std.specs.List.{filter, sum_by}
use Rattle.std.specs.Option.{option_map}
use Rattle.amr_box.specs.declared.Cell.{Cell}
use Rattle.amr_box.specs.Cells.{Extent, cells_of, holds}
use Rattle.amr_def.specs.Cut.{Cut, best_cut}
use Rattle.amr_def.specs.Cluster.{cluster, cut_of}
use Rattle.amr_sign.specs.Scan.{defined_cut}
use Rattle.amr_tags.specs.Stored.{IsPart}
use Rattle.amr_tags.specs.TagSets.{IsLeastBox}
use Rattle.amr_cluster.specs.declared.cut_boxes.CutBox.{CutBox}
use Rattle.amr_cluster.specs.Laws.{IsRound}

-- the cells of a box that are in a set, row by row
abbrev pub cells_in : (Cell → Bool) → Extent → List Cell
cells_in has b = filter has (cells_of b)

-- where a box is cut by its signatures: nowhere where it is efficient
abbrev pub cut_by : ℕ → ℕ → List ℕ → List ℕ → Option Cut
cut_by efficiency w xs ys = cond (nat_le (efficiency * (length xs * length ys)) (100 * sum_by (λ n. n) ys)) None (best_cut w xs ys)

-- where a box is cut, as the definition of the cluster has it
abbrev pub IsCutAs : ℕ → ℕ → (Cell → Bool) → CutBox → Type 0
IsCutAs efficiency w has p = option_map defined_cut p.cut ≡ cut_of efficiency w (cells_in has p.bx) p.bx

-- the least box round the cells of a part, cut as the definition has it
pub record IsCutBox (efficiency w : ℕ) (has : Cell → Bool) (part : Extent) (p : CutBox) : Type 0 where
  pub least : IsLeastBox p.bx (λ c. holds part c && has c)
  pub cut : IsCutAs efficiency w has p

-- what they will add to the boxes
abbrev pub waiting : ℕ → ℕ → (Cell → Bool) → List CutBox → List Extent
waiting efficiency w has [] = []
waiting efficiency w has (p ∷ work) = waiting efficiency w has work ++ cluster efficiency w (cells_in has p.bx)

-- each is the least box round its cells, lies in the box of the set, and is cut as the definition has it
abbrev pub IsWork : ℕ → ℕ → (Cell → Bool) → Extent → List CutBox → Type 0
IsWork efficiency w has larger [] = Unit {0}
IsWork efficiency w has larger (p ∷ work) =
    IsRound p.bx (cells_in has p.bx) × IsPart larger p.bx × IsCutAs efficiency w has p × IsWork efficiency w has larger work

-- a bound on how many boxes there are still to look at: each ends with one cell at least
abbrev pub work_left : (Cell → Bool) → List CutBox → ℕ
work_left has [] = 0
work_left has (p ∷ work) = work_left has work + (2 * length (cells_in has p.bx) - 1)

-- the first and the last entry that is not 0
pub record AreEnds (counts : List ℕ) (first last : ℕ) : Type 0 where
  pub order : first ≤ last
  pub inside : last < length counts
  pub first_some : 1 ≤ slice_index counts first
  pub last_some : 1 ≤ slice_index counts last
  pub below : (k : ℕ) → k < first → slice_index counts k ≡ 0
  pub above : (k : ℕ) → last < k → slice_index counts k ≡ 0
