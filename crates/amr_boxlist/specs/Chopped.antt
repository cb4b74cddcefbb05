-- A box chopped into patch boxes of at most n by n cells (BoxLib: maxSize).
use Rattle.std.specs.Prelude.{ℕ, ◌+◌, ◌-◌, ◌*◌, ◌/◌, pos, ◌+ℤ◌, List, map}
use Rattle.std.specs.List.{range_with_len, flat_map}
use Rattle.std.specs.Int.{int_min}
use Rattle.amr_box.specs.Cells.{Extent, cell, extent, height, width}

-- how many patch boxes of n cells cover a side, the last one shorter
abbrev pub patch_box_count : ℕ → ℕ → ℕ
patch_box_count n side = (side + (n - 1)) / n

-- the patch box in column i and row j of the patch boxes, counted from the low corner
abbrev pub patch_box : ℕ → Extent → ℕ → ℕ → Extent
patch_box n b i j =
    extent (cell (b.lo.x +ℤ pos (n * i)) (b.lo.y +ℤ pos (n * j)))
    (cell (int_min (b.lo.x +ℤ pos (n * i + (n - 1))) b.hi.x) (int_min (b.lo.y +ℤ pos (n * j + (n - 1))) b.hi.y))

abbrev pub patch_box_row : ℕ → Extent → ℕ → List Extent
patch_box_row n b j = map (λ i. patch_box n b i j) (range_with_len 0 (patch_box_count n (width b)))

-- rows of patch boxes from the low row, within a row from the low column
abbrev pub chopped : ℕ → Extent → List Extent
chopped n b = flat_map (patch_box_row n b) (range_with_len 0 (patch_box_count n (height b)))
