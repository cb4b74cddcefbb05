-- What a payload is tested for, field by field in the order of reading, and the state that is read. Each field has a place: how
-- many bytes stand before it. A payload is bad at the place that belongs to the first test that fails.
--     test                                                                                    place
--     a field lies wholly inside the payload                                                  the field
--     the step is one of the problem, and after the rows of the ledger that stand already     the step
--     row 0 has no flows; the mass of a later row is that before it and its net inflow        the row's mass
--     the number of levels                                                                    that number
--     the number of boxes of a level                                                          that number
--     a box: that of level 0, or inside, proper, aligned and apart from the earlier ones      its low x
--     a flag of a row of a box is 0 or 1, whichever the older state asks for                  the flag
--     a mass is within its bound                                                              the mass
--     a level above level 0 is nested, and the next coarser one in sync                           the number of its boxes
--     the last row's mass is that of level 0                                                  the last row's mass
--     nothing follows                                                                         the end of the last field
-- (profile)
use Rattle.std.specs.Prelude.{ℕ, zero, suc, ◌+◌, ◌-◌, ◌*◌, ◌^◌, Bool, true, false, not, if◌then◌else◌, ◌&&◌, ◌||◌, ◌==◌}
use Rattle.std.specs.Prelude.{nat_le, ℤ, pos, ◌+ℤ◌, ◌-ℤ◌, List, [], ◌∷◌, ◌++◌, length, drop, map, slice_index, slice_index_or, is_some}
use Rattle.std.specs.Int.{Width, w8, w32, w64, byte_len, from_le_bytes, int_rem_euclid}
use Rattle.std.specs.List.{list_any, list_all}
use Rattle.std.specs.Ordering.{int_eq}
use Rattle.std.specs.declared.option.Option.TheVariants.{None, Some}
use Rattle.std.specs.declared.result.Result.{Result}
use Rattle.std.specs.declared.result.Result.TheVariants.{Ok, Err}
use Rattle.amr_box.specs.declared.Cell.{Cell}
use Rattle.amr_box.specs.Cells.{cell, Extent, extent, holds, common, at_least_zero, width, height, cells_of, is_same_cell, is_proper, in_boxes}
use Rattle.amr_def.specs.declared.problem.Problem.{Problem}
use Rattle.amr_def.specs.declared.problem.Row.{Row}
use Rattle.amr_def.specs.Limits.{between}
use Rattle.amr_def.specs.Domain.{Domain, domain, domain_box, in_domain, is_near}
use Rattle.amr_def.specs.State.{Masses, mass_of, Level, State, level_at, is_covered, is_covered_by, children_mass}
use Rattle.amr_def.specs.Ledger.{total_mass}
use Rattle.amr_def.specs.Facts.{growth, no_row, row_at}
use Rattle.amr_payload.specs.Payload.{Form, whole, changed, Basis, alone, have_masses, cell_rows, level_cells}

-- ---- reading

-- what is left to read, and the place of its first byte
pub record Left : Type 0 where
  pub place : ℕ
  pub bytes : List ℕ

-- a value that is read and what is left, or the place of the first test that fails
pub data Reading (A : Type 0) : Type 0 where
  bad : ℕ → Reading A
  read : A → Left → Reading A

-- what is read next goes by what is read first
abbrev pub then_read : {A B : Type 0} → Reading A → (A → Left → Reading B) → Reading B
then_read (bad place) next = bad place
then_read (read a left) next = next a left

-- a value that is read where a test passes
abbrev pub tested : {A : Type 0} → Bool → ℕ → A → Left → Reading A
tested true place a left = read a left
tested false place a left = bad place

-- a value and then others
abbrev pub read_also : {A : Type 0} → A → Reading (List A) → Reading (List A)
read_also a (bad place) = bad place
read_also a (read others left) = read (a ∷ others) left

-- some values and then others
abbrev pub read_joined : {A : Type 0} → List A → Reading (List A) → Reading (List A)
read_joined some (bad place) = bad place
read_joined some (read others left) = read (some ++ others) left

-- what is left after n bytes
abbrev pub after : ℕ → Left → Left
after n r = record { place = r.place + n; bytes = drop n r.bytes }

-- a number of w bits lies wholly inside the payload
unfoldable pub read_number : Width → Left → Reading ℕ
read_number w r = tested (nat_le (byte_len w) (length r.bytes)) r.place (from_le_bytes w r.bytes) (after (byte_len w) r)

-- ---- the ledger

unfoldable pub read_row : Left → Reading Row
read_row r =
    then_read (read_number w64 r) (λ mass a. then_read (read_number w64 a) (λ inflow b. then_read (read_number w64 b) (λ outflow c.
    read (record { mass = mass; inflow = inflow; outflow = outflow }) c)))

abbrev pub has_no_flows : Row → Bool
has_no_flows r = (r.inflow == 0) && (r.outflow == 0)

-- the mass changes by what flowed in and out
abbrev pub is_row_after : Row → Row → Bool
is_row_after before r = (r.mass + r.outflow) == (before.mass + r.inflow)

unfoldable pub read_first_row : Left → Reading Row
read_first_row r = then_read (read_row r) (λ v a. tested (has_no_flows v) r.place v a)

unfoldable pub read_row_after : Row → Left → Reading Row
read_row_after before r = then_read (read_row r) (λ v a. tested (is_row_after before v) r.place v a)

abbrev pub read_rows_after : ℕ → Row → Left → Reading (List Row)
read_rows_after zero before r = read [] r
read_rows_after (suc n) before r = then_read (read_row_after before r) (λ v a. read_also v (read_rows_after n v a))

-- a first row and n more
unfoldable pub read_rows : ℕ → Left → Reading (List Row)
read_rows n r = then_read (read_first_row r) (λ v a. read_also v (read_rows_after n v a))

-- the rows that stand already, and those after them up to that of step n
abbrev pub read_ledger : List Row → ℕ → Left → Reading (List Row)
read_ledger [] n r = read_rows n r
read_ledger (v ∷ vs) n r = read_joined (v ∷ vs) (read_rows_after (n - length vs) (slice_index_or (v ∷ vs) (length vs) no_row) r)

-- ---- a box and its masses

-- a box and the masses of its cells, row by row from the low row, within a row from the low column
pub record Grid : Type 0 where
  pub box : Extent
  pub masses : List ℕ

unfoldable pub read_box : Left → Reading Extent
read_box r =
    then_read (read_number w32 r) (λ x0 a. then_read (read_number w32 a) (λ y0 b. then_read (read_number w32 b) (λ x1 c. then_read (read_number w32 c) (λ y1 d.
    read (extent (cell (pos x0) (pos y0)) (cell (pos x1) (pos y1))) d))))

abbrev pub is_same_box : Extent → Extent → Bool
is_same_box a b = is_same_cell a.lo b.lo && is_same_cell a.hi b.hi

abbrev pub lies_in : Domain → Extent → Bool
lies_in d b = in_domain d b.lo && in_domain d b.hi

abbrev pub is_multiple : ℕ → ℤ → Bool
is_multiple n z = int_eq (int_rem_euclid z (pos n)) (pos 0)

-- low coordinates are multiples of the blocking factor, high ones one less than a multiple
abbrev pub is_aligned : ℕ → Extent → Bool
is_aligned blocking b =
    is_multiple blocking b.lo.x && is_multiple blocking b.lo.y && is_multiple blocking (b.hi.x +ℤ pos 1) && is_multiple blocking (b.hi.y +ℤ pos 1)

-- two boxes have a cell in common
abbrev pub meets : Extent → Extent → Bool
meets a b = is_proper (common a b)

-- the box of level 0 is the domain; one of a finer level lies in the domain, is proper, aligned and apart from the earlier ones
unfoldable pub is_box_of : Problem → ℕ → List Extent → Extent → Bool
is_box_of p zero earlier b = is_same_box b (domain_box (domain p 0))
is_box_of p (suc l) earlier b = lies_in (domain p (suc l)) b && is_proper b && is_aligned p.blocking b && not (list_any (meets b) earlier)

-- a mass of level l is within the bound after n steps
abbrev pub is_mass : Problem → ℕ → ℕ → ℕ → Bool
is_mass p n l m = nat_le (4 ^ l * m) (2 ^ 30 + growth p.max_level * (n + 1))

unfoldable pub read_mass : Width → Problem → ℕ → ℕ → Left → Reading ℕ
read_mass w p n l r = then_read (read_number w r) (λ m a. tested (is_mass p n l m) r.place m a)

abbrev pub read_masses : Width → Problem → ℕ → ℕ → ℕ → Left → Reading (List ℕ)
read_masses w p n l zero r = read [] r
read_masses w p n l (suc k) r = then_read (read_mass w p n l r) (λ m a. read_also m (read_masses w p n l k a))

-- the masses of a row of cells behind its flag: those of the older level, all of which it has, or others, which are read
abbrev pub read_flagged : Masses → Problem → ℕ → ℕ → List Cell → ℕ → ℕ → Left → Reading (List ℕ)
read_flagged old p n l cs place zero r = tested (list_all (λ c. is_some (old c)) cs) place (map (mass_of old) cs) r
read_flagged old p n l cs place (suc zero) r = then_read (read_masses w32 p n l (length cs) r) (λ ms a. tested (not (have_masses old cs ms)) place ms a)
read_flagged old p n l cs place (suc (suc flag)) r = bad place

unfoldable pub read_changed : Masses → Problem → ℕ → ℕ → List Cell → Left → Reading (List ℕ)
read_changed old p n l cs r = then_read (read_number w8 r) (λ flag a. read_flagged old p n l cs r.place flag a)

abbrev pub read_all_changed : Masses → Problem → ℕ → ℕ → List (List Cell) → Left → Reading (List ℕ)
read_all_changed old p n l [] r = read [] r
read_all_changed old p n l (cs ∷ css) r = then_read (read_changed old p n l cs r) (λ ms a. read_joined ms (read_all_changed old p n l css a))

-- the masses of a box
abbrev pub read_box_masses : Form → Problem → ℕ → ℕ → Extent → Left → Reading (List ℕ)
read_box_masses (whole w) p n l b r = read_masses w p n l (width b * height b) r
read_box_masses (changed old) p n l b r = read_all_changed old p n l (cell_rows b) r

unfoldable pub read_grid : Form → Problem → ℕ → ℕ → List Extent → Left → Reading Grid
read_grid f p n l earlier r =
    then_read (read_box r) (λ b a. then_read (tested (is_box_of p l earlier b) r.place b a)
    (λ b a. then_read (read_box_masses f p n l b a) (λ ms c.
    read (record { box = b; masses = ms }) c)))

-- k boxes with their masses
abbrev pub read_grids : Form → Problem → ℕ → ℕ → ℕ → List Extent → Left → Reading (List Grid)
read_grids f p n l zero earlier r = read [] r
read_grids f p n l (suc k) earlier r = then_read (read_grid f p n l earlier r) (λ g a. read_also g (read_grids f p n l k (g.box ∷ earlier) a))

-- ---- levels

-- the place of a cell's mass among those of its box
abbrev pub place_in : Extent → Cell → ℕ
place_in b c = at_least_zero (c.y -ℤ b.lo.y) * width b + at_least_zero (c.x -ℤ b.lo.x)

-- the masses of the cells of boxes, none outside them
abbrev pub masses_in : List Grid → Masses
masses_in [] c = None
masses_in (g ∷ gs) c = if holds g.box c then Some (slice_index g.masses (place_in g.box c)) else masses_in gs c

unfoldable pub level_of : List Grid → Level
level_of gs = record { boxes = map (λ g. g.box) gs; masses = masses_in gs }

-- one box at level 0, at a finer level at most one for each four cells of its domain
abbrev pub is_box_count : Problem → ℕ → ℕ → Bool
is_box_count p zero k = k == 1
is_box_count p (suc l) k = between 1 (level_cells p l) k

unfoldable pub read_level : Form → Problem → ℕ → ℕ → Left → Reading Level
read_level f p n l r =
    then_read (read_number w32 r) (λ k a. then_read (tested (is_box_count p l k) r.place k a) (λ k a. then_read (read_grids f p n l k [] a) (λ gs b.
    read (level_of gs) b)))

-- each cell of the domain at most one away from a parent of a finer cell is in a box of the level
abbrev pub surrounds : Domain → List Extent → List Extent → Bool
surrounds d coarse fine = list_all (λ c. not (is_near d 1 (is_covered_by fine) c) || in_boxes coarse c) (cells_of (domain_box d))

-- each covered cell of the domain is the sum of its children
abbrev pub is_in_sync : Domain → Masses → Masses → Bool
is_in_sync d coarse fine = list_all (λ c. not (is_covered fine c) || (mass_of coarse c == children_mass fine c)) (cells_of (domain_box d))

-- the level over level l, whose masses and boxes are those of `below`
unfoldable pub read_finer : Form → Problem → ℕ → ℕ → Level → Left → Reading Level
read_finer f p n l below r =
    then_read (read_level f p n (suc l) r) (λ k a.
    tested (surrounds (domain p l) below.boxes k.boxes && is_in_sync (domain p l) below.masses k.masses) r.place k a)

abbrev pub read_all_finer : (ℕ → Form) → Problem → ℕ → ℕ → ℕ → Level → Left → Reading (List Level)
read_all_finer fs p n zero l below r = read [] r
read_all_finer fs p n (suc t) l below r = then_read (read_finer (fs (suc l)) p n l below r) (λ k a. read_also k (read_all_finer fs p n t (suc l) k a))

unfoldable pub read_levels : (ℕ → Form) → Problem → ℕ → Left → Reading (List Level)
read_levels fs p n r =
    then_read (read_number w8 r) (λ t a. then_read (tested (between 1 (p.max_level + 1) t) r.place t a) (λ t a.
    then_read (read_level (fs 0) p n 0 a) (λ k b. read_also k (read_all_finer fs p n (t - 1) 0 k b))))

-- ---- the whole

-- the last row's mass is that of level 0
abbrev pub is_in_balance : Problem → State → Bool
is_in_balance p s = (row_at s s.step).mass == total_mass p (level_at s 0).masses

-- a step of the problem, after the k rows of the ledger that stand already
unfoldable pub read_step : Problem → ℕ → Left → Reading ℕ
read_step p k r = then_read (read_number w32 r) (λ n a. tested (between k p.steps n) r.place n a)

-- the place of the row of the ledger after step n, where k rows stand already and the others begin at `place`
abbrev pub row_place : ℕ → ℕ → ℕ → ℕ
row_place place k n = place + 24 * (n - k)

unfoldable pub read_state : Basis → Problem → Left → Reading State
read_state on p r =
    then_read (read_step p (length on.rows) r) (λ n a. then_read (read_ledger on.rows n a) (λ rows b. then_read (read_levels on.forms p n b) (λ levels c.
    tested (is_in_balance p (record { step = n; rows = rows; levels = levels })) (row_place a.place (length on.rows) n)
    (record { step = n; rows = rows; levels = levels }) c)))

-- nothing is left
abbrev pub nothing_follows : {A : Type 0} → Reading A → Result A ℕ
nothing_follows (bad place) = Err place
nothing_follows (read a left) = if length left.bytes == 0 then Ok a else Err left.place

-- the state that a payload is of, or the place of the first test that fails
unfoldable pub decoded : Width → Problem → List ℕ → Result State ℕ
decoded w p bytes = nothing_follows (read_state (alone w) p (record { place = 0; bytes = bytes }))
