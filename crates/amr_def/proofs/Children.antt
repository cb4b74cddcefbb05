-- The children of a cell as sums, and what is covered by them.
use Rattle.std.proofs.Common.{◌≡◌, ◌+◌, ◌||◌, ℤ, pos, ◌+ℤ◌, is_some, refl, arith}
use Rattle.std.proofs.lemmas.Int.{ints}
use Rattle.amr_box.specs.declared.Cell.{Cell}
use Rattle.amr_box.specs.Cells.{child}
use Rattle.amr_def.specs.State.{Masses, is_covered, mass_of, children_mass}
use Rattle.amr_def.proofs.Values.{same_cell}
use Rattle.amr_def.proofs.LevelLists.{child_0, child_1, child_2, child_3}

pub plus_none : (z : ℤ) → z +ℤ pos 0 ≡ z
plus_none z = omega (arith, ints)

module _ (c : Cell) where
  pub first_child : child c 0 ≡ child_0 c
  first_child = same_cell (plus_none _) (plus_none _)

  pub second_child : child c 1 ≡ child_1 c
  second_child = same_cell refl (plus_none _)

  pub third_child : child c 2 ≡ child_2 c
  third_child = same_cell (plus_none _) refl

  pub fourth_child : child c 3 ≡ child_3 c
  fourth_child = same_cell refl refl

  pub covered_by : (fine : Masses) → is_covered fine c ≡ (is_some (fine (child_0 c)) || is_some (fine (child_1 c)) || is_some (fine (child_2 c)) || is_some (fine (child_3 c)))
  unfolding is_covered
  covered_by fine i = is_some (fine (first_child i)) || is_some (fine (second_child i)) || is_some (fine (third_child i)) || is_some (fine (fourth_child i))

  pub children_mass-is : (m : Masses) → children_mass m c ≡ mass_of m (child_0 c) + mass_of m (child_1 c) + mass_of m (child_2 c) + mass_of m (child_3 c)
  children_mass-is m i = mass_of m (first_child i) + mass_of m (second_child i) + mass_of m (third_child i) + mass_of m (fourth_child i)
