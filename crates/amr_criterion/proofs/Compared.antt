-- Where an axis is compared: as far as the cells beside those from `low` to `high` lie in the domain.
use Rattle.std.proofs.Common.{◌≡◌, ℕ, ◌<◌, Bool, true, false, ℤ, pos, ◌+ℤ◌, ◌-ℤ◌, ◌≤ℤ◌, ◌<ℤ◌, sym, ap, ◌∙◌, arith}
use Rattle.std.specs.Int.{int_max, int_min, int_rem_euclid}
use Rattle.std.proofs.lemmas.Int.{ints, clamps}
use Rattle.std.specs.Cmp.{both_ways}
use Rattle.amr_box.specs.Cells.{within}
use Rattle.amr_box.proofs.Numbers.{is_between}
use Rattle.amr_def.specs.Domain.{is_inside, wrapped}
use Rattle.amr_def.proofs.Homes.{inside-itself}
use Rattle.amr_def.proofs.Uncovered.{inside_test}
use Rattle.amr_def.proofs.Nesting.{test_inside}
use Rattle.amr_patch.proofs.Rows.{between}
use Rattle.amr_tags.proofs.Neighbours.{rem-lt}
use Rattle.amr_criterion.specs.Tagged.{reach_high, reach_low}

-- the first and the last cell that are compared lie at most one beyond
pub record IsReach (low high first last : ℤ) : Type 0 where
  pub below : first ≤ℤ low
  pub from : (low -ℤ pos 1) ≤ℤ first
  pub above : high ≤ℤ last
  pub to : last ≤ℤ (high +ℤ pos 1)

max_reach : (low : ℤ) → pos 0 ≤ℤ low → (int_max (low -ℤ pos 1) (pos 0) ≤ℤ low) × ((low -ℤ pos 1) ≤ℤ int_max (low -ℤ pos 1) (pos 0))
max_reach low h = (grind (arith, ints, clamps), grind (arith, ints, clamps))

min_reach : (n : ℕ) (high : ℤ) → high <ℤ pos n → (high ≤ℤ int_min (high +ℤ pos 1) (pos n -ℤ pos 1)) × (int_min (high +ℤ pos 1) (pos n -ℤ pos 1) ≤ℤ (high +ℤ pos 1))
min_reach n high h = (grind (arith, ints, clamps), grind (arith, ints, clamps))

pub is_reach : (wrap : Bool) (n : ℕ) (low high : ℤ) → pos 0 ≤ℤ low → high <ℤ pos n → IsReach low high (reach_low wrap low) (reach_high wrap n high)
is_reach true n low high l h = record { below = omega (arith, ints); from = omega (arith, ints); above = omega (arith, ints); to = omega (arith, ints) }
is_reach false n low high l h =
    let first = max_reach low l in
    let last = min_reach n high h in
    record { below = first.0; from = first.1; above = last.0; to = last.1 }

-- ---- the cells beside a cell from low to high

turned : (n : ℕ) (z : ℤ) → 0 < n → is_inside n (int_rem_euclid z (pos n)) ≡ true
turned n z some = let r = rem-lt z n some in inside_test n (int_rem_euclid z (pos n)) r.1 r.0

-- on an open axis
room_above : (n : ℕ) (high z : ℤ) → z ≤ℤ high → (z +ℤ pos 1) <ℤ pos n → (z +ℤ pos 1) ≤ℤ int_min (high +ℤ pos 1) (pos n -ℤ pos 1)
room_above n high z h k = grind (arith, ints, clamps)

below_end : (n : ℕ) (high : ℤ) → int_min (high +ℤ pos 1) (pos n -ℤ pos 1) ≤ℤ (pos n -ℤ pos 1)
below_end n high = grind (arith, ints, clamps)

room_below : (low z : ℤ) → low ≤ℤ z → pos 0 ≤ℤ (z -ℤ pos 1) → int_max (low -ℤ pos 1) (pos 0) ≤ℤ (z -ℤ pos 1)
room_below low z h k = grind (arith, ints, clamps)

above_start : (low : ℤ) → pos 0 ≤ℤ int_max (low -ℤ pos 1) (pos 0)
above_start low = grind (arith, ints, clamps)

-- the cell of a pair is compared with the one after it exactly where that lies in the domain; there are so many pairs as there
-- are steps from the first cell to the last
pub next_compared : (wrap : Bool) (n w : ℕ) (low high z : ℤ) → 0 < n → pos 0 ≤ℤ low → high <ℤ pos n → low ≤ℤ z → z ≤ℤ high → pos w ≡ reach_high wrap n high -ℤ reach_low wrap low → within (reach_low wrap low) (reach_low wrap low +ℤ pos w -ℤ pos 1) z ≡ is_inside n (wrapped wrap n (z +ℤ pos 1))
next_compared true n w low high z some l h from to e = is_between (low -ℤ pos 1) (low -ℤ pos 1 +ℤ pos w -ℤ pos 1) z (omega (arith, ints)) (omega (arith, ints, e)) ∙ sym (turned n (z +ℤ pos 1) some)
next_compared false n w low high z some l h from to e =
    let first = int_max (low -ℤ pos 1) (pos 0) in
    let last = int_min (high +ℤ pos 1) (pos n -ℤ pos 1) in
    let start = (max_reach low l).0 in
    let end = below_end n high in
    both_ways _ _
    (λ t. let top = (between first (first +ℤ pos w -ℤ pos 1) z t).to in inside_test n (z +ℤ pos 1) (omega (arith, ints)) (omega (arith, ints, e, top, end)))
    (λ t. let room = room_above n high z to (test_inside n (z +ℤ pos 1) t).1 in is_between first (first +ℤ pos w -ℤ pos 1) z (omega (arith, ints, start, from)) (omega (arith, ints, e, room)))

pub last_compared : (wrap : Bool) (n w : ℕ) (low high z : ℤ) → 0 < n → pos 0 ≤ℤ low → high <ℤ pos n → low ≤ℤ z → z ≤ℤ high → pos w ≡ reach_high wrap n high -ℤ reach_low wrap low → within (reach_low wrap low) (reach_low wrap low +ℤ pos w -ℤ pos 1) (z -ℤ pos 1) ≡ is_inside n (wrapped wrap n (z -ℤ pos 1))
last_compared true n w low high z some l h from to e = is_between (low -ℤ pos 1) (low -ℤ pos 1 +ℤ pos w -ℤ pos 1) (z -ℤ pos 1) (omega (arith, ints)) (omega (arith, ints, e)) ∙ sym (turned n (z -ℤ pos 1) some)
last_compared false n w low high z some l h from to e =
    let first = int_max (low -ℤ pos 1) (pos 0) in
    let last = int_min (high +ℤ pos 1) (pos n -ℤ pos 1) in
    let start = above_start low in
    let end = (min_reach n high h).0 in
    both_ways _ _
    (λ t. let bottom = (between first (first +ℤ pos w -ℤ pos 1) (z -ℤ pos 1) t).from in inside_test n (z -ℤ pos 1) (omega (arith, ints, bottom, start)) (omega (arith, ints)))
    (λ t. let room = room_below low z from (test_inside n (z -ℤ pos 1) t).0 in is_between first (first +ℤ pos w -ℤ pos 1) (z -ℤ pos 1) room (omega (arith, ints, e, end)))

-- and a cell of the domain stands for itself
pub is_home : (wrap : Bool) (n : ℕ) (z w : ℤ) → w ≡ z → pos 0 ≤ℤ z → z <ℤ pos n → is_inside n (wrapped wrap n w) ≡ true
is_home wrap n z w e l h = let inside = inside_test n z l h in ap (λ (t : ℤ). is_inside n (wrapped wrap n t)) e ∙ ap (is_inside n) (inside-itself wrap n z inside) ∙ inside
