-- The payload of the start of a problem of 2 by 2 cells with no blocks: where its fields stand, and which damage is found where.
use Rattle.std.proofs.Common.{◌≡◌, ℕ, refl, true, ◌&&◌, List, [], ◌∷◌, ◌++◌, length, map, take, rules}
use Rattle.std.specs.Prelude.{set}
use Rattle.std.specs.Result.{is_ok}
use Rattle.std.specs.Int.{w32, w64}
use Rattle.std.specs.declared.result.Result.{Result}
use Rattle.std.specs.declared.result.Result.TheVariants.{Err}
use Rattle.amr_def.specs.declared.problem.Problem.{Problem}
use Rattle.amr_def.specs.State.{State}
use Rattle.amr_def.specs.Domain.{in_domain}
use Rattle.amr_def.specs.Ledger.{total_mass}
use Rattle.amr_def.specs.Regrid.{refill, regrid, regrid_by}
use Rattle.amr_def.specs.Run.{start}
use Rattle.amr_examples.proofs.Examples.{Keys, AreWithinLimits, problem, ring_keys}
use Rattle.amr_payload.specs.Payload.{number_bytes, row_bytes, corner_bytes, box_bytes, level_bytes, payload, state_bytes, slot_size}
use Rattle.amr_payload.specs.Tests.{read_number, read_row, read_first_row, read_row_after, read_rows, read_box, is_box_of, read_mass, read_grid, level_of, read_level, read_finer, read_levels, read_step, read_state, decoded}

abbrev empty_keys : Keys
empty_keys = record ring_keys { nx = 2; steps = 0; blocks = [] }

empty_limits : AreWithinLimits empty_keys
empty_limits = search rules

abbrev empty : Problem
empty = problem empty_keys empty_limits

abbrev bytes : List ℕ
bytes = payload w64 (start empty)

-- what is read from bytes of which one is changed
abbrev changed : ℕ → ℕ → Result State ℕ
changed place byte = decoded w64 empty (set bytes place byte)

-- what is read from the first n bytes
abbrev cut : ℕ → Result State ℕ
cut n = decoded w64 empty (take n bytes)

abbrev bad_at : ℕ → Result State ℕ
bad_at place = Err place

sizes : length bytes ∷ slot_size w64 empty ∷ length (payload w32 (start empty)) ∷ slot_size w32 empty ∷ [] ≡ 81 ∷ 97 ∷ 65 ∷ 81 ∷ []
unfolding start regrid regrid_by refill total_mass in_domain number_bytes row_bytes corner_bytes box_bytes level_bytes state_bytes slot_size read_number read_row read_first_row read_row_after read_rows read_box is_box_of read_mass read_grid level_of read_level read_finer read_levels read_step read_state decoded
sizes = refl

whole : is_ok (decoded w64 empty bytes) && is_ok (decoded w32 empty (payload w32 (start empty))) ≡ true
unfolding start regrid regrid_by refill total_mass in_domain number_bytes row_bytes corner_bytes box_bytes level_bytes state_bytes slot_size read_number read_row read_first_row read_row_after read_rows read_box is_box_of read_mass read_grid level_of read_level read_finer read_levels read_step read_state decoded
whole = refl

-- a field that is cut, or gone, is bad at its own place
cut_short : map cut (0 ∷ 3 ∷ 4 ∷ 12 ∷ 20 ∷ 27 ∷ 28 ∷ 29 ∷ 33 ∷ 37 ∷ 41 ∷ 48 ∷ 49 ∷ 57 ∷ 65 ∷ 73 ∷ 80 ∷ []) ≡ map bad_at (0 ∷ 0 ∷ 4 ∷ 12 ∷ 20 ∷ 20 ∷ 28 ∷ 29 ∷ 33 ∷ 37 ∷ 41 ∷ 45 ∷ 49 ∷ 57 ∷ 65 ∷ 73 ∷ 73 ∷ [])
unfolding start regrid regrid_by refill total_mass in_domain number_bytes row_bytes corner_bytes box_bytes level_bytes state_bytes slot_size read_number read_row read_first_row read_row_after read_rows read_box is_box_of read_mass read_grid level_of read_level read_finer read_levels read_step read_state decoded
cut_short = refl

one_more : decoded w64 empty (bytes ++ 0 ∷ []) ≡ bad_at 81
unfolding start regrid regrid_by refill total_mass in_domain number_bytes row_bytes corner_bytes box_bytes level_bytes state_bytes slot_size read_number read_row read_first_row read_row_after read_rows read_box is_box_of read_mass read_grid level_of read_level read_finer read_levels read_step read_state decoded
one_more = refl

-- the tests on the step, the ledger, the numbers of levels and boxes, and the box
damaged : changed 0 1 ∷ changed 4 1 ∷ changed 12 1 ∷ changed 20 1 ∷ changed 28 2 ∷ changed 28 0 ∷ changed 29 2 ∷ changed 33 1 ∷ changed 41 2 ∷ changed 45 0 ∷ [] ≡ map bad_at (0 ∷ 4 ∷ 4 ∷ 4 ∷ 28 ∷ 28 ∷ 29 ∷ 33 ∷ 33 ∷ 33 ∷ [])
unfolding start regrid regrid_by refill total_mass in_domain number_bytes row_bytes corner_bytes box_bytes level_bytes state_bytes slot_size read_number read_row read_first_row read_row_after read_rows read_box is_box_of read_mass read_grid level_of read_level read_finer read_levels read_step read_state decoded
damaged = refl

-- a mass past its bound, and a mass that the ledger has not
damaged_masses : changed 56 1 ∷ changed 64 1 ∷ changed 72 1 ∷ changed 80 1 ∷ changed 52 64 ∷ changed 49 1 ∷ [] ≡ map bad_at (49 ∷ 57 ∷ 65 ∷ 73 ∷ 4 ∷ 4 ∷ [])
unfolding start regrid regrid_by refill total_mass in_domain number_bytes row_bytes corner_bytes box_bytes level_bytes state_bytes slot_size read_number read_row read_first_row read_row_after read_rows read_box is_box_of read_mass read_grid level_of read_level read_finer read_levels read_step read_state decoded
damaged_masses = refl

-- masses of 32 bits
narrow_masses : map (λ place. decoded w32 empty (set (payload w32 (start empty)) place 255)) (52 ∷ 56 ∷ 60 ∷ 64 ∷ []) ≡ map bad_at (49 ∷ 53 ∷ 57 ∷ 61 ∷ [])
unfolding start regrid regrid_by refill total_mass in_domain number_bytes row_bytes corner_bytes box_bytes level_bytes state_bytes slot_size read_number read_row read_first_row read_row_after read_rows read_box is_box_of read_mass read_grid level_of read_level read_finer read_levels read_step read_state decoded
narrow_masses = refl
