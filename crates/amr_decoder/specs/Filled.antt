-- Masses that are placed in patches.
use Rattle.std.specs.Prelude.{◌≡◌, ◌≢◌, ℕ, ◌<◌, ◌≤ℤ◌, false, pos, ◌+ℤ◌, List, map, slice_index, IsTrue}
use Rattle.std.specs.declared.option.Option.TheVariants.{Some}
use Rattle.amr_box.specs.declared.Cell.{Cell}
use Rattle.amr_box.specs.Cells.{Extent, IsNear, cell, holds, in_boxes}
use Rattle.amr_patch.specs.declared.patches.Patch.{Patch}
use Rattle.amr_patch.specs.Patches.{box, masses_in}
use Rattle.amr_payload.specs.Tests.{Grid, place_in}
use Rattle.amr_payload.specs.Tests as tests

-- n cells of a row, from a cell on, have the masses of a list, and all else stays
pub record IsSpanSet (c : Cell) (masses : List ℕ) (n : ℕ) (ps qs : List Patch) : Type 0 where
  pub boxes : map box qs ≡ map box ps
  pub set : (k : ℕ) → k < n → masses_in qs (cell (c.x +ℤ pos k) c.y) ≡ Some (slice_index masses k)
  pub others : (d : Cell) → ((k : ℕ) → k < n → d ≢ cell (c.x +ℤ pos k) c.y) → masses_in qs d ≡ masses_in ps d

-- the cells of a box have its masses, and all else stays
pub record IsGridSet (g : Grid) (ps qs : List Patch) : Type 0 where
  pub boxes : map box qs ≡ map box ps
  pub set : (d : Cell) → IsTrue (holds g.box d) → masses_in qs d ≡ Some (slice_index g.masses (place_in g.box d))
  pub others : (d : Cell) → holds g.box d ≡ false → masses_in qs d ≡ masses_in ps d

-- the cells of boxes have their masses
pub record AreGridsSet (gs : List Grid) (ps qs : List Patch) : Type 0 where
  pub boxes : map box qs ≡ map box ps
  pub set : (d : Cell) → IsTrue (in_boxes (map (λ g. g.box) gs) d) → masses_in qs d ≡ tests.masses_in gs d

-- near, and no coordinate is below 0, as of each box in a domain
pub record IsPlaced (b : Extent) : Type 0 where
  pub near : IsNear b
  pub west : pos 0 ≤ℤ b.lo.x
  pub south : pos 0 ≤ℤ b.lo.y
