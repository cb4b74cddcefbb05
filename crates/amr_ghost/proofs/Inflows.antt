-- The inflow of the side that a cell lies outside of, side by side.
use Rattle.std.proofs.Common.{◌≡◌, ℕ, zero, suc, ◌*◌, ◌/◌, ◌^◌, ◌≤◌, true, false, ℤ, pos, ◌≤ℤ◌, ◌<ℤ◌, ap, arith, ◌<◌}
use Rattle.std.specs.Prelude.{int_lt}
use Rattle.std.proofs.lemmas.Int.{ints}
use Rattle.amr_box.proofs.Boxes.{int_le-no, int_le-yes}
use Rattle.amr_box.specs.declared.Cell.{Cell}
use Rattle.amr_def.specs.declared.problem.Problem.{Problem}
use Rattle.amr_def.specs.Domain.{columns}
use Rattle.amr_def.proofs.Stepping.{cond_within, high_within, low_within}
use Rattle.amr_def.specs.Value.{high_inflow, inflow_at, low_inflow}
use Rattle.amr_def.proofs.Courants.{four_power}

pub int_lt-yes : (a b : ℤ) → a <ℤ b → int_lt a b ≡ true
int_lt-yes a b h = grind (arith, ints)

pub int_lt-no : (a b : ℤ) → b ≤ℤ a → int_lt a b ≡ false
int_lt-no a b h = grind (arith, ints)

pub west_inflow : (p : Problem) (l : ℕ) (c : Cell) → c.x <ℤ pos 0 → inflow_at p l c ≡ low_inflow p.x_sides
unfolding inflow_at
west_inflow p l c west = rw (int_lt-yes c.x (pos 0) west)

pub east_inflow : (p : Problem) (l : ℕ) (c : Cell) → pos 0 ≤ℤ c.x → pos (columns p l) ≤ℤ c.x → inflow_at p l c ≡ high_inflow p.x_sides
unfolding inflow_at
east_inflow p l c from east = rw (int_lt-no c.x (pos 0) from, int_le-yes (pos (columns p l)) c.x east)

pub south_inflow : (p : Problem) (l : ℕ) (c : Cell) → pos 0 ≤ℤ c.x → c.x <ℤ pos (columns p l) → c.y <ℤ pos 0 → inflow_at p l c ≡ low_inflow p.y_sides
unfolding inflow_at
south_inflow p l c from to south = rw (int_lt-no c.x (pos 0) from, int_le-no (pos (columns p l)) c.x to, int_lt-yes c.y (pos 0) south)

pub north_inflow : (p : Problem) (l : ℕ) (c : Cell) → pos 0 ≤ℤ c.x → c.x <ℤ pos (columns p l) → pos 0 ≤ℤ c.y → inflow_at p l c ≡ high_inflow p.y_sides
unfolding inflow_at
north_inflow p l c from to up = rw (int_lt-no c.x (pos 0) from, int_le-no (pos (columns p l)) c.x to, int_lt-no c.y (pos 0) up)

pub shift_is : (g l : ℕ) → l ≤ 4 → g / 2 ^ (2 * l) ≡ g / 4 ^ l
shift_is g l h = ap (λ (d : ℕ). g / d) (four_power l h)

-- a shift makes no number greater
pub shift_within : (g l : ℕ) → l ≤ 4 → g ≤ 2 ^ 30 → g / 2 ^ (2 * l) < 2 ^ 32
shift_within g zero h k = omega (arith, k)
shift_within g (suc zero) h k = omega (arith, k)
shift_within g (suc (suc zero)) h k = omega (arith, k)
shift_within g (suc (suc (suc zero))) h k = omega (arith, k)
shift_within g (suc (suc (suc (suc zero)))) h k = omega (arith, k)
shift_within g (suc (suc (suc (suc (suc l))))) h k = absurd (omega arith)

-- an inflow is at most 2^30
pub inflow_within : (p : Problem) (l : ℕ) (c : Cell) → inflow_at p l c ≤ 2 ^ 30
unfolding inflow_at
inflow_within p l c = cond_within _ _ _ (2 ^ 30) (low_within p.x_sides p.limits.x_inflows) (cond_within _ _ _ (2 ^ 30) (high_within p.x_sides p.limits.x_inflows) (cond_within _ _ _ (2 ^ 30) (low_within p.y_sides p.limits.y_inflows) (high_within p.y_sides p.limits.y_inflows)))
