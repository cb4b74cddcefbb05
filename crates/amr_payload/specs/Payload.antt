-- The payload: a state as a list of bytes. Each number is unsigned, its low byte first, and w is the width of a mass: 64 bits
-- in payload 1, 32 in payload 2.
--     the step                                        4 bytes
--     each row of the ledger: mass, inflow, outflow   8 each
--     the number of levels                            1
--     for each level the number of its boxes          4
--     for each box its low x and y, its high x and y  4 each
--     then the masses of its cells                    8 or 4 each, row by row from the low row, within a row from the low column
-- A state can be written on an older one too. Then the rows of the ledger that the older one has are left out, and each row of a
-- box begins with a byte, the flag: 0 where each of its cells had its mass at this level of the older state, and no masses follow;
-- else 1, and masses of 4 bytes.
-- (profile)
use Rattle.std.specs.Prelude.{◌≡◌, ◌⊎◌, ℕ, suc, ◌+◌, ◌*◌, ◌^◌, Bool, true, false, if◌then◌else◌, ◌&&◌, ◌==◌, pos, ◌+ℤ◌, List, [], ◌∷◌, ◌++◌, length, drop, map}
use Rattle.std.specs.List.{flat_map, range_with_len}
use Rattle.std.specs.Int.{Width, w8, w32, w64, byte_len, to_le_bytes}
use Rattle.std.specs.declared.option.Option.{Option}
use Rattle.std.specs.declared.option.Option.TheVariants.{None, Some}
use Rattle.amr_box.specs.declared.Cell.{Cell}
use Rattle.amr_box.specs.Cells.{Extent, at_least_zero, cell, cells_of, height, width}
use Rattle.amr_def.specs.declared.problem.Problem.{Problem}
use Rattle.amr_def.specs.declared.problem.Row.{Row}
use Rattle.amr_def.specs.State.{Masses, mass_of, Level, State, level_at}
use Rattle.amr_def.specs.Ledger.{sum_to}

-- the width of a mass
abbrev pub IsMassWidth : Width → Type 0
IsMassWidth w = (w ≡ w64) ⊎ (w ≡ w32)

-- ---- what a state is written on

-- how the masses of a level are written: all, each of a width; or those of rows that changed, over the masses that the level has
-- in an older state
pub data Form : Type 0 where
  whole : Width → Form
  changed : Masses → Form

-- the form of each level, and the rows of the ledger that stand already
pub record Basis : Type 0 where
  pub forms : ℕ → Form
  pub rows : List Row

-- a state by itself, with masses of a width
abbrev pub alone : Width → Basis
alone w = record { forms = λ l. whole w; rows = [] }

-- a state on an older one
abbrev pub older : State → Basis
older s = record { forms = λ l. changed (level_at s l).masses; rows = s.rows }

-- ---- fields

unfoldable pub number_bytes : Width → ℕ → List ℕ
number_bytes w n = to_le_bytes w n

unfoldable pub row_bytes : Row → List ℕ
row_bytes r = number_bytes w64 r.mass ++ number_bytes w64 r.inflow ++ number_bytes w64 r.outflow

unfoldable pub corner_bytes : Cell → List ℕ
corner_bytes c = number_bytes w32 (at_least_zero c.x) ++ number_bytes w32 (at_least_zero c.y)

-- ---- masses

-- the cells of a box, each row from the low column, from the low row
abbrev pub cell_rows : Extent → List (List Cell)
cell_rows b = map (λ j. map (λ i. cell (b.lo.x +ℤ pos i) (b.lo.y +ℤ pos j)) (range_with_len 0 (width b))) (range_with_len 0 (height b))

-- there is a mass, and it is n
abbrev pub is_mass_of : Option ℕ → ℕ → Bool
is_mass_of None n = false
is_mass_of (Some m) n = m == n

-- the cells have masses, which are these
abbrev pub have_masses : Masses → List Cell → List ℕ → Bool
have_masses m [] ns = true
have_masses m (c ∷ cs) [] = false
have_masses m (c ∷ cs) (n ∷ ns) = is_mass_of (m c) n && have_masses m cs ns

-- a row of cells: the flag, and the masses where one of them changed
unfoldable pub changed_bytes : Masses → Masses → List Cell → List ℕ
changed_bytes old m cs =
    if have_masses old cs (map (mass_of m) cs) then number_bytes w8 0 else number_bytes w8 1 ++ flat_map (λ c. number_bytes w32 (mass_of m c)) cs

abbrev pub masses_bytes : Form → Masses → Extent → List ℕ
masses_bytes (whole w) m b = flat_map (λ c. number_bytes w (mass_of m c)) (cells_of b)
masses_bytes (changed old) m b = flat_map (changed_bytes old m) (cell_rows b)

-- ---- boxes, levels and the whole

unfoldable pub box_bytes : Form → Masses → Extent → List ℕ
box_bytes f m b = corner_bytes b.lo ++ corner_bytes b.hi ++ masses_bytes f m b

unfoldable pub level_bytes : Form → Level → List ℕ
level_bytes f k = number_bytes w32 (length k.boxes) ++ flat_map (box_bytes f k.masses) k.boxes

-- levels from level l on
abbrev pub levels_bytes : (ℕ → Form) → ℕ → List Level → List ℕ
levels_bytes forms l [] = []
levels_bytes forms l (k ∷ ks) = level_bytes (forms l) k ++ levels_bytes forms (suc l) ks

unfoldable pub state_bytes : Basis → State → List ℕ
state_bytes on s =
    number_bytes w32 s.step ++ flat_map row_bytes (drop (length on.rows) s.rows) ++ number_bytes w8 (length s.levels) ++ levels_bytes on.forms 0 s.levels

abbrev pub payload : Width → State → List ℕ
payload w s = state_bytes (alone w) s

-- ---- the greatest length of a payload

abbrev pub level_cells : Problem → ℕ → ℕ
level_cells p l = p.nx * p.ny * 4 ^ l

-- room for each number of levels that a problem allows, and for masses that take at most so many bytes a cell: fixed fields,
-- 24 bytes a row of the ledger, and for each level its masses and its boxes, which have at least four cells each above level 0
abbrev pub room : ℕ → ℕ → Problem → ℕ
room fixed each p = fixed + 24 * (p.steps + 1) + sum_to (λ l. 4 + (each + 4) * level_cells p l) (p.max_level + 1)

unfoldable pub slot_size : Width → Problem → ℕ
slot_size w p = room 21 (byte_len w) p
