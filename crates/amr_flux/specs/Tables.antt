-- The fluxes of a patch's faces by its lists, where columns and rows count from the low corner. A row of values has two
-- cells of the frame besides the patch's own, and there are two such rows more: cell (i, j) of the patch stands in column
-- i + 1 of row j + 1.
use Rattle.std.specs.Prelude.{◌≡◌, ◌≢◌, ℕ, zero, suc, ◌+◌, ◌≤◌, ◌*◌, ◌^◌, ◌<◌, Bool, false, ◌&&◌, cond}
use Rattle.std.specs.Prelude.{nat_eq, ℤ, pos, ◌+ℤ◌, ◌-ℤ◌, List, slice_index, slice_index_or}
use Rattle.amr_box.specs.Cells.{Extent, height, width}
use Rattle.amr_def.specs.declared.problem.Problem.{Problem}
use Rattle.amr_def.specs.Domain.{columns, rows}
use Rattle.amr_faces.specs.Numbers.{x_number, y_number}
use Rattle.amr_def.specs.Flux.{flow}
use Rattle.amr_faces.specs.Shares.{signed}

-- where a box of a level stands
pub record Stands (p : Problem) (l : ℕ) (b : Extent) (column row : ℕ) : Type 0 where
  pub x : pos column ≡ b.lo.x
  pub y : pos row ≡ b.lo.y
  pub columns_fit : column + width b ≤ columns p l
  pub rows_fit : row + height b ≤ rows p l

-- the value in column i of row j
abbrev pub value : ℕ → List ℕ → ℕ → ℕ → ℕ
value w values i j = slice_index values (j * (w + 2) + i)

abbrev pub mark : ℕ → List Bool → ℕ → ℕ → Bool
mark w marks i j = slice_index_or marks (j * (w + 2) + i) false

-- ---- fluxes by the values on the two sides

-- x face i of row j is at the low side of cell (i, j), and the patch's first row is row `first` of the level
unfoldable pub x_flux : Problem → ℕ → ℕ → ℕ → List ℕ → ℕ → ℕ → ℤ
x_flux p l first w values i j = flow (x_number p l (first + j)) p.d (value w values i (j + 1)) (value w values (i + 1) (j + 1))

-- y face j of column i is at the low side of cell (i, j), and the patch's first column is column `first` of the level
unfoldable pub y_flux : Problem → ℕ → ℕ → ℕ → List ℕ → ℕ → ℕ → ℤ
y_flux p l first w values i j = flow (y_number p l (first + i)) p.d (value w values (i + 1) j) (value w values (i + 1) (j + 1))

-- ---- border faces

-- whether the cell beyond row j is of the level, and the one beyond column i
abbrev pub x_marked : ℕ → List Bool → ℕ → Bool
x_marked w marks j = mark w marks (w + 1) (j + 1)

abbrev pub y_marked : ℕ → ℕ → List Bool → ℕ → Bool
y_marked w h marks i = mark w marks (i + 1) (h + 1)

-- how many of the numbers below n pass a test
abbrev pub count_below : (ℕ → Bool) → ℕ → ℕ
count_below test zero = 0
count_below test (suc n) = count_below test n + cond (test n) 1 0

-- ---- fluxes that an update uses: those of border faces by the sizes handed in, first of the x faces by y, then of the y faces by x

unfoldable pub x_through : Problem → ℕ → ℕ → ℕ → List Bool → List ℕ → List ℕ → ℕ → ℕ → ℤ
x_through p l first w marks border values i j =
    cond (nat_eq i w && x_marked w marks j)
    (signed (x_number p l (first + j)) (slice_index border (count_below (x_marked w marks) j)))
    (x_flux p l first w values i j)

unfoldable pub y_through : Problem → ℕ → ℕ → ℕ → ℕ → List Bool → List ℕ → List ℕ → ℕ → ℕ → ℤ
y_through p l first w h marks border values i j =
    cond (nat_eq j h && y_marked w h marks i)
    (signed (y_number p l (first + i)) (slice_index border (count_below (x_marked w marks) h + count_below (y_marked w h marks) i)))
    (y_flux p l first w values i j)

-- ---- new masses

-- what comes into cell (i, j), by the fluxes x of the x faces and y of the y faces
abbrev pub net_inflow : (ℕ → ℕ → ℤ) → (ℕ → ℕ → ℤ) → ℕ → ℕ → ℤ
net_inflow x y i j = (x i j -ℤ x (i + 1) j) +ℤ (y i j -ℤ y i (j + 1))

-- a place that is no cell's of the first n rows
abbrev pub IsOtherPlace : ℕ → ℕ → ℕ → Type 0
IsOtherPlace w n k = (i j : ℕ) → i < w → j < n → k ≢ (j + 1) * (w + 2) + (i + 1)

-- ---- sizes

pub record AreXSmall (w h : ℕ) (values : List ℕ) : Type 0 where
  pub at : (i j : ℕ) → i < w + 2 → j < h → value w values i (j + 1) < 2 ^ 31

pub record AreYSmall (w h : ℕ) (values : List ℕ) : Type 0 where
  pub at : (i j : ℕ) → i < w → j < h + 2 → value w values (i + 1) j < 2 ^ 31
