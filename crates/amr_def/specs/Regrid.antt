-- A regrid: new boxes above level 0, and the masses of their cells. (Berger and Colella; child shares: profile)
use Rattle.std.specs.Prelude.{ℕ, Bool, ◌+◌, ◌*◌, ◌/◌, ◌%◌, min, cond, ℤ, pos, List, [], ◌∷◌, length, nat_lt, unsigned_abs}
use Rattle.std.specs.declared.option.Option.TheVariants.{None, Some}
use Rattle.std.specs.Option.{unwrap_or}
use Rattle.std.specs.Int.{int_rem_euclid}
use Rattle.amr_box.specs.declared.Cell.{Cell}
use Rattle.amr_box.specs.Cells.{Extent, in_boxes, parent}
use Rattle.amr_def.specs.declared.problem.Problem.{Problem}
use Rattle.amr_def.specs.State.{Masses, Level, State, no_masses, mass_of}
use Rattle.amr_def.specs.Tags.{is_tagged}
use Rattle.amr_def.specs.NewBoxes.{new_boxes}

-- the share of child k of a parent of mass m: a quarter, and one more for the first of them
abbrev pub child_share : ℕ → ℕ → ℕ
child_share m k = m / 4 + cond (nat_lt k (m % 4)) 1 0

abbrev pub odd : ℤ → ℕ
odd z = unsigned_abs (int_rem_euclid z (pos 2))

-- which child of its parent a cell is
abbrev pub child_number : Cell → ℕ
child_number c = 2 * odd c.y + odd c.x

-- what a cell gets of the mass of its parent
abbrev pub split_mass : Masses → Cell → ℕ
split_mass coarse c = child_share (mass_of coarse (parent c)) (child_number c)

-- the masses of new boxes over the coarser level's: a cell that was of the level keeps its mass, and
-- another gets its share
abbrev pub refilled : Masses → Masses → List Extent → Masses
refilled coarse old boxes c = cond (in_boxes boxes c) (Some (unwrap_or (old c) (split_mass coarse c))) None

abbrev pub first_masses : List Level → Masses
first_masses [] = no_masses
first_masses (k ∷ ks) = k.masses

abbrev pub rest_of : List Level → List Level
rest_of [] = []
rest_of (k ∷ ks) = ks

-- the levels with these boxes, upward to the first that has none
unfoldable pub refill : Masses → List Level → List (List Extent) → List Level
refill coarse olds [] = []
refill coarse olds ([] ∷ more) = []
refill coarse olds ((b ∷ bs) ∷ more) =
    let masses = refilled coarse (first_masses olds) (b ∷ bs) in
    record { boxes = b ∷ bs; masses = masses } ∷ refill masses (rest_of olds) more

-- level 0 stays
abbrev pub regridded_levels : List Level → List (List Extent) → List Level
regridded_levels [] boxes = []
regridded_levels (base ∷ olds) boxes = base ∷ refill base.masses olds boxes

-- how many levels get new boxes: one more than there are above level 0, up to max_level
abbrev pub new_level_count : Problem → State → ℕ
new_level_count p s = min (length s.levels) p.max_level

-- by the tags of each level
unfoldable pub regrid_by : Problem → (ℕ → Cell → Bool) → State → State
regrid_by p tagged s = record { step = s.step; rows = s.rows; levels = regridded_levels s.levels (new_boxes p tagged (new_level_count p s) 0) }

-- by its own tags
unfoldable pub regrid : Problem → State → State
regrid p s = regrid_by p (is_tagged p s) s
