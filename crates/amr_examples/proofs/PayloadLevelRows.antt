-- Payloads of states of two and three levels: which damage is found where.
use Rattle.std.proofs.Common.{◌≡◌, ℕ, ◌+◌, ◌*◌, refl, true, cond, List, [], ◌∷◌, length, map, take}
use Rattle.std.specs.Prelude.{set}
use Rattle.std.specs.Result.{is_ok}
use Rattle.std.specs.Int.{w32, w64}
use Rattle.std.specs.declared.option.Option.TheVariants.{None, Some}
use Rattle.std.specs.declared.result.Result.{Result}
use Rattle.std.specs.declared.result.Result.TheVariants.{Err}
use Rattle.amr_box.specs.Cells.{Extent, at_least_zero, holds}
use Rattle.amr_def.specs.Domain.{in_domain}
use Rattle.amr_def.specs.State.{Level, State, is_covered}
use Rattle.amr_def.specs.Ledger.{total_mass}
use Rattle.amr_examples.proofs.Examples.{box, edged, edge_state, edge_coarse, edge_fine, three_levels}
use Rattle.amr_payload.specs.Payload.{number_bytes, row_bytes, corner_bytes, box_bytes, level_bytes, payload, state_bytes, slot_size}
use Rattle.amr_payload.specs.Tests.{read_number, read_row, read_first_row, read_row_after, read_rows, read_box, is_box_of, read_mass, read_grid, level_of, read_level, read_finer, read_levels, read_step, read_state, decoded}

abbrev bad_at : ℕ → Result State ℕ
bad_at place = Err place

-- ---- a ring of 4 by 2 cells, cell (2, 0) covered by a box of 2 by 2

abbrev bytes : List ℕ
bytes = payload w64 (edge_state 8)

-- what is read from bytes of which one is changed
abbrev changed : ℕ → ℕ → Result State ℕ
changed place byte = decoded w64 edged (set bytes place byte)

-- what is read from the first n bytes
abbrev cut : ℕ → Result State ℕ
cut n = decoded w64 edged (take n bytes)

length-bytes : length bytes ≡ 165
unfolding total_mass in_domain is_covered number_bytes row_bytes corner_bytes box_bytes level_bytes state_bytes read_number read_row read_first_row read_row_after read_rows read_box is_box_of read_mass read_grid level_of read_level read_finer read_levels read_step read_state decoded
length-bytes = refl

whole : is_ok (decoded w64 edged bytes) ≡ true
unfolding total_mass in_domain is_covered number_bytes row_bytes corner_bytes box_bytes level_bytes state_bytes read_number read_row read_first_row read_row_after read_rows read_box is_box_of read_mass read_grid level_of read_level read_finer read_levels read_step read_state decoded
whole = refl

-- the second level's number of boxes stands at 113, its box at 117, its masses from 133 on
cut_short : map cut (113 ∷ 116 ∷ 117 ∷ 132 ∷ 133 ∷ 164 ∷ []) ≡ map bad_at (113 ∷ 113 ∷ 117 ∷ 129 ∷ 133 ∷ 157 ∷ [])
unfolding total_mass in_domain is_covered number_bytes row_bytes corner_bytes box_bytes level_bytes state_bytes read_number read_row read_first_row read_row_after read_rows read_box is_box_of read_mass read_grid level_of read_level read_finer read_levels read_step read_state decoded
cut_short = refl

-- no box; more than one for each four cells; a low column that is odd, a high one that is even, rows out of order, a box past the domain;
-- a mass past its bound; a covered cell that is not the sum of its children; a level 0 that the ledger has not
damaged : changed 113 0 ∷ changed 113 9 ∷ changed 117 5 ∷ changed 125 6 ∷ changed 121 2 ∷ changed 125 9 ∷ changed 136 17 ∷ changed 133 1 ∷ changed 57 9 ∷ [] ≡ map bad_at (113 ∷ 113 ∷ 117 ∷ 117 ∷ 117 ∷ 117 ∷ 133 ∷ 113 ∷ 4 ∷ [])
unfolding total_mass in_domain is_covered number_bytes row_bytes corner_bytes box_bytes level_bytes state_bytes read_number read_row read_first_row read_row_after read_rows read_box is_box_of read_mass read_grid level_of read_level read_finer read_levels read_step read_state decoded
damaged = refl

-- the same box twice
abbrev twice : State
twice = record (edge_state 8) { levels = record { boxes = box 0 0 3 1 ∷ []; masses = edge_coarse 8 } ∷ record { boxes = box 4 0 5 1 ∷ box 4 0 5 1 ∷ []; masses = edge_fine } ∷ [] }

-- is refused at the low column of the second
boxes_meet : decoded w64 edged (payload w64 twice) ≡ bad_at 165
unfolding total_mass in_domain is_covered number_bytes row_bytes corner_bytes box_bytes level_bytes state_bytes read_number read_row read_first_row read_row_after read_rows read_box is_box_of read_mass read_grid level_of read_level read_finer read_levels read_step read_state decoded
boxes_meet = refl

-- ---- 2 by 2 cells on a ring in both axes, with two finer levels

abbrev no_mass_in : Extent → Level
no_mass_in b = record { boxes = b ∷ []; masses = λ c. cond (holds b c) (Some 0) None }

abbrev over : Extent → State
over b = record { step = 0; rows = record { mass = 0; inflow = 0; outflow = 0 } ∷ []; levels = no_mass_in (box 0 0 1 1) ∷ no_mass_in b ∷ no_mass_in (box 0 0 1 1) ∷ [] }

-- level 2 is nested in a level 1 that is the whole domain
nested : is_ok (decoded w64 three_levels (payload w64 (over (box 0 0 3 3)))) ≡ true
unfolding total_mass in_domain is_covered number_bytes row_bytes corner_bytes box_bytes level_bytes state_bytes read_number read_row read_first_row read_row_after read_rows read_box is_box_of read_mass read_grid level_of read_level read_finer read_levels read_step read_state decoded
nested = refl

-- but not in one that does not reach round it: refused at the number of its boxes
not_nested : decoded w64 three_levels (payload w64 (over (box 0 0 1 1))) ≡ bad_at 133
unfolding total_mass in_domain is_covered number_bytes row_bytes corner_bytes box_bytes level_bytes state_bytes read_number read_row read_first_row read_row_after read_rows read_box is_box_of read_mass read_grid level_of read_level read_finer read_levels read_step read_state decoded
not_nested = refl

-- ---- the bytes of a payload, one after the other

-- a level of one box whose masses tell their cells
abbrev told : Extent → Level
told b = record { boxes = b ∷ []; masses = λ c. cond (holds b c) (Some (at_least_zero c.x + 10 * at_least_zero c.y)) None }

abbrev sample : State
sample = record {
  step = 1;
  rows = record { mass = 3; inflow = 0; outflow = 0 } ∷ record { mass = 258; inflow = 5; outflow = 4 } ∷ [];
  levels = told (box 0 0 1 1) ∷ told (box 2 0 5 1) ∷ [];
}

spelled : payload w32 sample ≡ 1 ∷ 0 ∷ 0 ∷ 0 ∷ 3 ∷ 0 ∷ 0 ∷ 0 ∷ 0 ∷ 0 ∷ 0 ∷ 0 ∷ 0 ∷ 0 ∷ 0 ∷ 0 ∷ 0 ∷ 0 ∷ 0 ∷ 0 ∷ 0 ∷ 0 ∷ 0 ∷ 0 ∷ 0 ∷ 0 ∷ 0 ∷ 0 ∷ 2 ∷ 1 ∷ 0 ∷ 0 ∷ 0 ∷ 0 ∷ 0 ∷ 0 ∷ 5 ∷ 0 ∷ 0 ∷ 0 ∷ 0 ∷ 0 ∷ 0 ∷ 0 ∷ 4 ∷ 0 ∷ 0 ∷ 0 ∷ 0 ∷ 0 ∷ 0 ∷ 0 ∷ 2 ∷ 1 ∷ 0 ∷ 0 ∷ 0 ∷ 0 ∷ 0 ∷ 0 ∷ 0 ∷ 0 ∷ 0 ∷ 0 ∷ 0 ∷ 1 ∷ 0 ∷ 0 ∷ 0 ∷ 1 ∷ 0 ∷ 0 ∷ 0 ∷ 0 ∷ 0 ∷ 0 ∷ 0 ∷ 1 ∷ 0 ∷ 0 ∷ 0 ∷ 10 ∷ 0 ∷ 0 ∷ 0 ∷ 11 ∷ 0 ∷ 0 ∷ 0 ∷ 1 ∷ 0 ∷ 0 ∷ 0 ∷ 2 ∷ 0 ∷ 0 ∷ 0 ∷ 0 ∷ 0 ∷ 0 ∷ 0 ∷ 5 ∷ 0 ∷ 0 ∷ 0 ∷ 1 ∷ 0 ∷ 0 ∷ 0 ∷ 2 ∷ 0 ∷ 0 ∷ 0 ∷ 3 ∷ 0 ∷ 0 ∷ 0 ∷ 4 ∷ 0 ∷ 0 ∷ 0 ∷ 5 ∷ 0 ∷ 0 ∷ 0 ∷ 12 ∷ 0 ∷ 0 ∷ 0 ∷ 13 ∷ 0 ∷ 0 ∷ 0 ∷ 14 ∷ 0 ∷ 0 ∷ 0 ∷ 15 ∷ 0 ∷ 0 ∷ 0 ∷ []
unfolding total_mass in_domain is_covered number_bytes row_bytes corner_bytes box_bytes level_bytes state_bytes read_number read_row read_first_row read_row_after read_rows read_box is_box_of read_mass read_grid level_of read_level read_finer read_levels read_step read_state decoded
spelled = refl

slot_sizes : slot_size w64 edged ∷ slot_size w32 edged ∷ [] ≡ 557 ∷ 397 ∷ []
unfolding slot_size
slot_sizes = refl
