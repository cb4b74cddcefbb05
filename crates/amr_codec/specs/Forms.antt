-- What the forms and bases of the code stand for.
use Rattle.std.specs.Prelude.{◌≡◌, ℕ, ◌+◌, ◌<◌, false, pos, ◌+ℤ◌, List, map, slice_index}
use denote.Ref.{Bor}
use Rattle.std.specs.List.{range_with_len}
use Rattle.std.specs.declared.option.Option.{Option}
use Rattle.std.specs.declared.option.Option.TheVariants.{None, Some}
use Rattle.amr_box.specs.declared.Cell.{Cell}
use Rattle.amr_box.specs.Cells.{Extent, cell, width}
use Rattle.amr_def.specs.declared.problem.Problem.{Problem}
use Rattle.amr_def.specs.Facts.{IsSound}
use Rattle.amr_def.specs.State.{Masses, no_masses}
use Rattle.amr_patch.specs.declared.levels.Level.{Level}
use Rattle.amr_patch.specs.Levels.{level_of}
use Rattle.amr_patch.specs.Meshes.{is_spent, state_of}
use Rattle.amr_payload.specs.Payload as defined
use Rattle.amr_codec.specs.declared.basis.Basis.{Basis}
use Rattle.amr_codec.specs.declared.basis.Basis.TheVariants.{Alone, Older}
use Rattle.amr_codec.specs.declared.basis.Form.{Form}
use Rattle.amr_codec.specs.declared.basis.Form.TheVariants.{Whole, Changed}
use Rattle.amr_codec.specs.MassWidths.{width_of}

-- the masses of a level of an older state, none where it has no such level
abbrev pub masses_before : Option (Bor Level) → Masses
masses_before None = no_masses
masses_before (Some k) = (level_of k.now).masses

abbrev pub form_of : Form → defined.Form
form_of (Whole w) = defined.whole (width_of w)
form_of (Changed old) = defined.changed (masses_before old)

abbrev pub basis_of : Basis → defined.Basis
basis_of (Alone w) = defined.alone (width_of w)
basis_of (Older m) = defined.older (state_of m.now)

-- an older state is sound, and its mesh isn't spent
abbrev pub IsBasisOf : Problem → Basis → Type 0
IsBasisOf p (Alone w) = Unit {0}
IsBasisOf p (Older m) = (is_spent m.now ≡ false) × IsSound p (state_of m.now)

-- the cell in a row and column of a box, each counted from its low corner, is there and has this mass
abbrev pub HasMassAt : Masses → Extent → ℕ → ℕ → ℕ → Type 0
HasMassAt m b row column n = m (cell (b.lo.x +ℤ pos column) (b.lo.y +ℤ pos row)) ≡ Some n

-- the first n cells of a row from a column on have these masses
abbrev pub HaveMassesFrom : Masses → Extent → ℕ → ℕ → List ℕ → ℕ → Type 0
HaveMassesFrom m b row first masses n = (k : ℕ) → k < n → HasMassAt m b row (first + k) (slice_index masses k)

-- the cells of a row of a box, from the low column on
abbrev pub cells_of_row : Extent → ℕ → List Cell
cells_of_row b row = map (λ i. cell (b.lo.x +ℤ pos i) (b.lo.y +ℤ pos row)) (range_with_len 0 (width b))
