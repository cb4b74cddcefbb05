-- The table of keys. (profile)
use Rattle.std.specs.Prelude.{ℕ, ◌%◌, ◌==◌, ℤ, pos, negsuc, unsigned_abs, Bool, true, ◌&&◌, ◌||◌, not, List, []}
use Rattle.std.specs.Prelude.{◌∷◌, Option, Some, None, option_map, codes, find, int_le, nat_le}
use Rattle.std.specs.Ordering.{int_eq}
use Rattle.std.specs.List.{zip, list_any}
use Rattle.std.specs.Str.{bytes_eq}
use Rattle.toml.specs.Data.{Data, integer, array, no_items}
use Rattle.amr_box.specs.declared.Axis.{Axis}
use Rattle.amr_box.specs.declared.Axis.TheVariants as axis
use Rattle.amr_problem.specs.declared.key.Key.{Key}
use Rattle.amr_problem.specs.declared.key.Key.TheVariants.{Version, Name, Cells, Steps, Courant, Sides, MaxLevel, Tag, NErrorBuf, Efficiency}
use Rattle.amr_problem.specs.declared.key.Key.TheVariants.{MinWidth, RegridInt, MaxGridSize, Blocks, ShearX, ShearY, Blocking, Species}
use Rattle.amr_problem.specs.declared.range.Range.{Range}
use Rattle.amr_problem.specs.declared.range.Among.{Among}
use Rattle.amr_problem.specs.declared.range.Among.TheVariants.{Every, Even, TwoFourEight}
use Rattle.amr_problem.specs.declared.key.Absent.{Absent}
use Rattle.amr_problem.specs.declared.key.Absent.TheVariants.{Required, Number, Empty}

-- ---- rows of the table

-- what the value of a key is, with the range of each of its numbers
pub data Kind : Type 0 where
  -- an integer
  number : Range → Kind
  -- a string; the range is that of its length in bytes
  text : Range → Kind
  -- an array of integers, one for each range
  numbers : List Range → Kind
  -- an array of any number of integers, each of the range
  list : Range → Kind
  -- an array of integers of the range, one for each row of level 0 (on the x axis) or each column (on y)
  shear : Axis → Range → Kind
  -- an array of at most so many blocks, each an array of integers with these ranges; the last is that of a species, which blocks
  -- have from version 3 on
  rows : ℕ → List Range → Kind

-- a row of the table: the key as a problem writes it, its value, what stands where the key is absent, and the first version
-- of the format that has it
pub record Row : Type 0 where
  pub key : List ℕ
  pub value : Kind
  pub absent : Absent
  pub version : ℕ

abbrev pub row_from : ℕ → List ℕ → Kind → Absent → Row
row_from version key value absent = record { key = key; value = value; absent = absent; version = version }

abbrev pub row : List ℕ → Kind → Absent → Row
row key value absent = row_from 1 key value absent

-- the whole numbers from low to high, both inside
abbrev pub range : ℤ → ℤ → Range
range low high = record { low = low; high = high; among = Every }

-- the even ones of them
abbrev pub even_range : ℤ → ℤ → Range
even_range low high = record { low = low; high = high; among = Even }

abbrev pub blocking_factor : Range
blocking_factor = record { low = pos 2; high = pos 8; among = TwoFourEight }

abbrev pub versions : Range
versions = range (pos 1) (pos 3)

abbrev pub cell_count : Range
cell_count = range (pos 2) (pos 256)

abbrev pub courant_number : Range
courant_number = range (negsuc 1023) (pos 1024)

-- -1, which says that the axis is periodic, or an inflow
abbrev pub side : Range
side = range (negsuc 0) (pos 1073741824)

abbrev pub threshold : Range
threshold = range (pos 1) (pos 1073741824)

abbrev pub coordinate : Range
coordinate = range (pos 0) (pos 255)

abbrev pub block_mass : Range
block_mass = range (pos 0) (pos 1073741824)

abbrev pub block_species : Range
block_species = range (pos 0) (pos 3)

-- ---- the table

abbrev pub row_of : Key → Row
row_of Version = row (codes "version") (number versions) Required
row_of Name = row (codes "name") (text (range (pos 1) (pos 32))) Required
row_of Cells = row (codes "cells") (numbers (cell_count ∷ cell_count ∷ [])) Required
row_of Steps = row (codes "steps") (number (range (pos 0) (pos 4096))) Required
row_of Courant = row (codes "courant") (numbers (courant_number ∷ courant_number ∷ range (pos 1) (pos 1024) ∷ [])) Required
row_of Sides = row (codes "sides") (numbers (side ∷ side ∷ side ∷ side ∷ [])) Required
row_of MaxLevel = row (codes "max_level") (number (range (pos 0) (pos 4))) Required
row_of Tag = row (codes "tag") (list threshold) Empty
row_of NErrorBuf = row (codes "n_error_buf") (number (range (pos 0) (pos 8))) (Number (pos 1))
row_of Efficiency = row (codes "efficiency") (number (range (pos 1) (pos 100))) (Number (pos 70))
row_of MinWidth = row (codes "min_width") (number (range (pos 1) (pos 16))) (Number (pos 2))
row_of RegridInt = row (codes "regrid_int") (number (range (pos 1) (pos 4096))) (Number (pos 2))
row_of MaxGridSize = row (codes "max_grid_size") (number (even_range (pos 4) (pos 256))) (Number (pos 32))
row_of Blocks = row (codes "blocks") (rows 256 (coordinate ∷ coordinate ∷ coordinate ∷ coordinate ∷ block_mass ∷ block_species ∷ [])) Required
row_of ShearX = row_from 2 (codes "shear_x") (shear axis.X courant_number) Empty
row_of ShearY = row_from 2 (codes "shear_y") (shear axis.Y courant_number) Empty
row_of Blocking = row_from 2 (codes "blocking") (number blocking_factor) (Number (pos 2))
row_of Species = row_from 3 (codes "species") (number (range (pos 1) (pos 4))) (Number (pos 1))

-- every key, in the table's order
abbrev pub keys : List Key
keys =
    Version ∷ Name ∷ Cells ∷ Steps ∷ Courant ∷ Sides ∷ MaxLevel ∷ Tag ∷ NErrorBuf ∷ Efficiency ∷ MinWidth ∷ RegridInt ∷ MaxGridSize ∷ Blocks ∷ ShearX ∷ ShearY
    ∷ Blocking ∷ Species ∷ []

-- ---- what is read of it

abbrev pub text_of : Key → List ℕ
text_of key = (row_of key).key

abbrev pub absent_of : Key → Absent
absent_of key = (row_of key).absent

abbrev pub version_of : Key → ℕ
version_of key = (row_of key).version

abbrev pub kind_of : Key → Kind
kind_of key = (row_of key).value

-- what stands where a key is absent: none where the key is required
abbrev pub stands : Absent → Option Data
stands Required = None
stands (Number z) = Some (integer z)
stands Empty = Some (array no_items)

abbrev pub ranges_in : Kind → List Range
ranges_in (number r) = r ∷ []
ranges_in (text r) = r ∷ []
ranges_in (numbers rs) = rs
ranges_in (list r) = r ∷ []
ranges_in (shear a r) = r ∷ []
ranges_in (rows most rs) = rs

abbrev pub ranges_of : Key → List Range
ranges_of key = ranges_in (kind_of key)

-- whether some key of the version is written so
abbrev pub is_known : ℕ → List ℕ → Bool
is_known version written = list_any (λ key. nat_le (version_of key) version && bytes_eq (text_of key) written) keys

abbrev pub is_even : ℤ → Bool
is_even z = unsigned_abs z % 2 == 0

abbrev pub is_among : Among → ℤ → Bool
is_among Every z = true
is_among Even z = is_even z
is_among TwoFourEight z = int_eq z (pos 2) || int_eq z (pos 4) || int_eq z (pos 8)

abbrev pub holds : Range → ℤ → Bool
holds r z = int_le r.low z && int_le z r.high && is_among r.among z

-- the first of the numbers that is out of its range
abbrev pub first_outside : List Range → List ℤ → Option ℤ
first_outside ranges zs = option_map (λ e. e.1) (find (λ e. not (holds e.0 e.1)) (zip ranges zs))

-- the first of the numbers that is out of the one range of all
abbrev pub first_beyond : Range → List ℤ → Option ℤ
first_beyond r zs = find (λ z. not (holds r z)) zs
