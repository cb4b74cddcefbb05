-- The masses of the cells that a finer level covers, as sums of its own. (AMReX: average_down, of masses and not of densities)
use Rattle.std.specs.Prelude.{◌≡◌, ℕ, ◌+◌, ◌*◌, ◌<◌, ◌^◌, cond, ℤ, pos, ◌+ℤ◌, List, length, slice_index, IsTrue}
use Rattle.std.specs.declared.option.Option.TheVariants.{Some}
use Rattle.std.specs.List.{All}
use Rattle.amr_box.specs.declared.Cell.{Cell}
use Rattle.amr_box.specs.Cells.{cell, child, holds, width}
use Rattle.amr_def.specs.Facts.{IsAligned}
use Rattle.amr_def.specs.State.{Masses, children_mass, is_covered}
use Rattle.amr_patch.specs.declared.patches.Patch.{Patch}
use Rattle.amr_patch.specs.Patches.{box, mass_in}

-- a covered cell has the mass of its children, every other what it had
abbrev pub summed : Masses → Masses → Masses
summed fine coarse c = cond (is_covered fine c) (Some (children_mass fine c)) (coarse c)

-- no patch cuts a cell of the coarser level: its cells are all the children of some (AMReX: coarsenable)
abbrev pub AreCoarsenable : List Patch → Type 0
AreCoarsenable ps = All (λ p. IsAligned 2 (box p)) ps

-- the mass that a patch has of the children of a cell
abbrev pub children_in : Patch → Cell → ℕ
children_in p c = mass_in p (child c 0) + mass_in p (child c 1) + mass_in p (child c 2) + mass_in p (child c 3)

-- each sum of a patch's fours is below 2^32
abbrev pub HasSmallSums : Patch → Type 0
HasSmallSums q = (c : Cell) → IsTrue (holds (box q) (child c 0)) → children_in q c < 2 ^ 32

-- the masses of a row of a patch, from its low column to its high one
pub record IsRow (p : Patch) (y : ℤ) (ms : List ℕ) : Type 0 where
  pub count : length ms ≡ width (box p)
  pub at : (k : ℕ) → k < length ms → slice_index ms k ≡ mass_in p (cell ((box p).lo.x +ℤ pos k) y)

-- the masses of two neighbours of a row and of the two above them, the k-th four of the rows
abbrev pub four_at : List ℕ → List ℕ → ℕ → ℕ
four_at lower upper k = slice_index lower (2 * k) + slice_index lower (2 * k + 1) + slice_index upper (2 * k) + slice_index upper (2 * k + 1)

-- the fours of two rows are the masses of the cells of a row, from a cell on
abbrev pub AreFours : (Cell → ℕ) → Cell → List ℕ → List ℕ → Type 0
AreFours mass c lower upper = (k : ℕ) → 2 * k + 1 < length lower → four_at lower upper k ≡ mass (cell (c.x +ℤ pos k) c.y)
