-- Bits coarsened by two in both directions.
use Rattle.std.specs.Prelude.{◌≡◌, ℕ, ◌+◌, ◌-◌, ◌*◌, ◌/◌, Bool, cond, ◌&&◌, ◌||◌, List, nat_lt, ◌+ℤ◌}
use Rattle.amr_box.specs.declared.Cell.{Cell}
use Rattle.amr_box.specs.Cells.{half}
use Rattle.amr_tags.specs.Bits.{bit, bit_of}

-- whether one of the bits 2i and 2i + 1 of a word is set
abbrev pub pair : ℕ → ℕ → Bool
pair word i = bit word (2 * i) || bit word (2 * i + 1)

-- the same of two words, the low one first
abbrev pub paired : ℕ → ℕ → ℕ → Bool
paired low high i = cond (nat_lt i 32) (pair low i) (pair high (i - 32))

-- bit i of row j, false where there is no such word
abbrev pub there : ℕ → ℕ → List ℕ → ℕ → ℕ → Bool
there per_row height words i j = (nat_lt (i / 64) per_row && nat_lt j height) && bit_of per_row words i j

-- whether one of the two by two bits of a coarse one is set
abbrev pub coarse_bit : ℕ → ℕ → List ℕ → ℕ → ℕ → Bool
coarse_bit per_row height words i j =
    (there per_row height words (2 * i) (2 * j) || there per_row height words (2 * i) (2 * j + 1))
    || (there per_row height words (2 * i + 1) (2 * j) || there per_row height words (2 * i + 1) (2 * j + 1))

-- a cell in an even column and an even row is the first child of its parent
pub record IsEvenCorner (c : Cell) : Type 0 where
  pub x : half c.x +ℤ half c.x ≡ c.x
  pub y : half c.y +ℤ half c.y ≡ c.y
