-- Values below 2^31, and fluxes by the values beside a face.
use Rattle.std.proofs.Common.{◌≡◌, ℕ, ◌+◌, ◌^◌, ◌<◌, inl, inr, true, ℤ, pos, ◌+ℤ◌, ◌-ℤ◌, refl, sym, subst, arith}
use Rattle.std.specs.Prelude.{IsTrue}
use Rattle.std.proofs.lemmas.Int.{ints}
use Rattle.amr_box.specs.declared.Cell.{Cell}
use Rattle.amr_box.specs.declared.Axis.TheVariants.{X, Y}
use Rattle.amr_box.specs.Cells.{Extent, cell, height, holds, width}
use Rattle.amr_box.proofs.Tests.{and_either}
use Rattle.amr_box.proofs.Numbers.{is_between}
use Rattle.amr_def.specs.declared.problem.Problem.{Problem}
use Rattle.amr_def.specs.Flux.{face}
use Rattle.amr_patch.specs.declared.patches.Patch.{Patch}
use Rattle.amr_patch.specs.Places.{grown}
use Rattle.amr_patch.specs.Patches.{value_in}
use Rattle.amr_patch.proofs.Rows.{is_inside, sides}
use Rattle.amr_faces.specs.Faces.{in_reach, flux_beside}
use Rattle.amr_flux.specs.Tables.{AreXSmall, AreYSmall, Stands, value, x_flux, y_flux}
use Rattle.amr_faces.proofs.Shown.{flow_of}
use Rattle.amr_faces.proofs.Places.{IsFaceAt}
use Rattle.amr_flux.proofs.Entries.{IsAt, high_at, value_here, x_courant_here, x_low_at, y_courant_here, y_low_at}

-- ---- values are small

-- the cell in column i and row j of the grown box
abbrev cell_at : Extent → ℕ → ℕ → Cell
cell_at b i j = cell (b.lo.x -ℤ pos 1 +ℤ pos i) (b.lo.y -ℤ pos 1 +ℤ pos j)

at_cell : (b : Extent) (i j : ℕ) → IsAt b (cell_at b i j) i j
at_cell b i j = record { x = omega (arith, ints); y = omega (arith, ints) }

module _ (q : Patch) (small : (c : Cell) → IsTrue (in_reach q.bx c) → value_in q c < 2 ^ 31) where
  value_small : (i j : ℕ) → in_reach q.bx (cell_at q.bx i j) ≡ true → value (width q.bx) q.data.value.values.items i j < 2 ^ 31
  value_small i j h = let P : ℕ → Type 0 = λ n. n < 2 ^ 31 in subst P (value_here q (cell_at q.bx i j) i j (at_cell q.bx i j)) (small (cell_at q.bx i j) h)

  in_grown : (i j : ℕ) → i < width q.bx + 2 → j < height q.bx + 2 → holds (grown q.bx) (cell_at q.bx i j) ≡ true
  in_grown i j hi hj =
      let s = sides q.bx q.near in
      is_inside (grown q.bx) (cell_at q.bx i j) (record { west = omega (arith, ints); east = omega (arith, ints, s.wide); south = omega (arith, ints); north = omega (arith, ints, s.high) })

  pub x_small : AreXSmall (width q.bx) (height q.bx) q.data.value.values.items
  x_small = record {
    at = λ i j hi hj.
        let s = sides q.bx q.near in
        value_small i (j + 1) (and_either _ _ _ (in_grown i (j + 1) hi (omega arith)) (inr (is_between q.bx.lo.y q.bx.hi.y (q.bx.lo.y -ℤ pos 1 +ℤ pos (j + 1)) (omega (arith, ints)) (omega (arith, ints, s.high)))));
  }

  pub y_small : AreYSmall (width q.bx) (height q.bx) q.data.value.values.items
  y_small = record {
    at = λ i j hi hj.
        let s = sides q.bx q.near in
        value_small (i + 1) j (and_either _ _ _ (in_grown (i + 1) j (omega arith) hj) (inl (is_between q.bx.lo.x q.bx.hi.x (q.bx.lo.x -ℤ pos 1 +ℤ pos (i + 1)) (omega (arith, ints)) (omega (arith, ints, s.wide)))));
  }

-- ---- fluxes

module _ (p : Problem) (l : ℕ) (q : Patch) (column row : ℕ) (s : Stands p l q.bx column row) where
  pub x_beside : (x y : ℤ) (i j : ℕ) → IsFaceAt q.bx x y i j → j < height q.bx → x_flux p l row (width q.bx) q.data.value.values.items i j ≡ flux_beside p l q (face X x y)
  unfolding x_flux flux_beside
  x_beside x y i j at h = sym (flow_of (x_courant_here p l q.bx column row x y i j s at h) refl (value_here q (cell (x -ℤ pos 1) y) i (j + 1) (x_low_at q.bx x y i j at)) (value_here q (cell x y) (i + 1) (j + 1) (high_at q.bx x y i j at)))

  pub y_beside : (x y : ℤ) (i j : ℕ) → IsFaceAt q.bx x y i j → i < width q.bx → y_flux p l column (width q.bx) q.data.value.values.items i j ≡ flux_beside p l q (face Y x y)
  unfolding y_flux flux_beside
  y_beside x y i j at h = sym (flow_of (y_courant_here p l q.bx column row x y i j s at h) refl (value_here q (cell x (y -ℤ pos 1)) (i + 1) j (y_low_at q.bx x y i j at)) (value_here q (cell x y) (i + 1) (j + 1) (high_at q.bx x y i j at)))
