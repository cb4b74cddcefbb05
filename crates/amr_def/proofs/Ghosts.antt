-- What flows out of a cell that is not covered, through faces beside covered cells too, is no more than its mass.
use Rattle.std.proofs.Common.{◌≡◌, ℕ, suc, ◌+◌, ◌*◌, ◌/◌, ◌<◌, ◌≤◌, true, ℤ, pos, negsuc, ◌+ℤ◌, ◌-ℤ◌, ◌≤ℤ◌, neg_ℤ, ap, ◌∙◌, arith}
use Rattle.std.specs.Prelude.{unsigned_abs}
use Rattle.std.specs.declared.option.Option.TheVariants.{None}
use Rattle.std.proofs.lemmas.Int.{ints}
use Rattle.std.proofs.Math.Nat.{div-mul-le_self, mul-le-mul_left, le-div_iff_mul-le}
use Rattle.amr_box.specs.declared.Cell.{Cell}
use Rattle.amr_box.specs.declared.Face.{Face}
use Rattle.amr_box.specs.Cells.{parent}
use Rattle.amr_def.specs.declared.problem.Problem.{Problem}
use Rattle.amr_def.proofs.Flows.{shares_le}
use Rattle.amr_def.specs.State.{Masses, mass_of}
use Rattle.amr_def.specs.Flux.{Fluxes, flow, courant, low_cell, high_cell, flux_at}
use Rattle.amr_def.specs.Domain.{home_cell, in_domain, domain}
use Rattle.amr_def.specs.Value.{home_value, value_at}

-- the share of a quarter, four times, is no more than the share of the whole
quarter_shares : (a d v : ℕ) → 0 < d → 4 * (a * (v / 4) / d) ≤ a * v / d
quarter_shares a d v some =
    let one : a * (v / 4) / d * d ≤ a * (v / 4) = div-mul-le_self (a * (v / 4)) d in
    let four : v / 4 * 4 ≤ v = div-mul-le_self v 4 in
    let whole : a * (v / 4 * 4) ≤ a * v = mul-le-mul_left a four in
    let all : 4 * (a * (v / 4) / d) * d ≤ a * v = omega (arith, one, whole) in
    (le-div_iff_mul-le some).1 all

-- a flux through the high face, and through the low face, takes at most its share of a mass v
abbrev pub LeavesHigh : ℤ → ℕ → ℕ → ℤ → Type 0
LeavesHigh (pos a) d v z = z ≤ℤ pos (a * v / d)
LeavesHigh (negsuc a) d v z = z ≤ℤ pos 0

abbrev pub LeavesLow : ℤ → ℕ → ℕ → ℤ → Type 0
LeavesLow (pos a) d v z = pos 0 ≤ℤ z
LeavesLow (negsuc a) d v z = neg_ℤ (pos (suc a * v / d)) ≤ℤ z

pub flow_leaves_high : (c : ℤ) (d v high : ℕ) → LeavesHigh c d v (flow c d v high)
flow_leaves_high (pos a) d v high = omega (arith, ints)
flow_leaves_high (negsuc a) d v high = omega (arith, ints)

pub flow_leaves_low : (c : ℤ) (d low v : ℕ) → LeavesLow c d v (flow c d low v)
flow_leaves_low (pos a) d low v = omega (arith, ints)
flow_leaves_low (negsuc a) d low v = omega (arith, ints)

pub four_leave_high : (c : ℤ) (d v : ℕ) (z1 z2 z3 z4 : ℤ) → 0 < d → LeavesHigh c d (v / 4) z1 → LeavesHigh c d (v / 4) z2 → LeavesHigh c d (v / 4) z3 → LeavesHigh c d (v / 4) z4 → LeavesHigh c d v ((z1 +ℤ z2) +ℤ (z3 +ℤ z4))
four_leave_high (pos a) d v z1 z2 z3 z4 some h1 h2 h3 h4 = omega (arith, ints, quarter_shares a d v some)
four_leave_high (negsuc a) d v z1 z2 z3 z4 some h1 h2 h3 h4 = omega (arith, ints)

pub four_leave_low : (c : ℤ) (d v : ℕ) (z1 z2 z3 z4 : ℤ) → 0 < d → LeavesLow c d (v / 4) z1 → LeavesLow c d (v / 4) z2 → LeavesLow c d (v / 4) z3 → LeavesLow c d (v / 4) z4 → LeavesLow c d v ((z1 +ℤ z2) +ℤ (z3 +ℤ z4))
four_leave_low (pos a) d v z1 z2 z3 z4 some h1 h2 h3 h4 = omega (arith, ints)
four_leave_low (negsuc a) d v z1 z2 z3 z4 some h1 h2 h3 h4 = omega (arith, ints, quarter_shares (suc a) d v some)

-- what is left where four fluxes leave at most their shares
pub left_over : (cx cy : ℤ) (d v : ℕ) (xl xh yl yh : ℤ) → 0 < d → unsigned_abs cx + unsigned_abs cy ≤ d → LeavesLow cx d v xl → LeavesHigh cx d v xh → LeavesLow cy d v yl → LeavesHigh cy d v yh → pos 0 ≤ℤ (pos v +ℤ ((xl -ℤ xh) +ℤ (yl -ℤ yh)))
left_over (pos a) (pos b) d v xl xh yl yh some within h1 h2 h3 h4 = omega (arith, ints, shares_le a b d v some within)
left_over (pos a) (negsuc b) d v xl xh yl yh some within h1 h2 h3 h4 = omega (arith, ints, shares_le a (suc b) d v some within)
left_over (negsuc a) (pos b) d v xl xh yl yh some within h1 h2 h3 h4 = omega (arith, ints, shares_le (suc a) b d v some within)
left_over (negsuc a) (negsuc b) d v xl xh yl yh some within h1 h2 h3 h4 = omega (arith, ints, shares_le (suc a) (suc b) d v some within)

-- ---- ghost cells

-- through a face with a ghost cell of the domain on a side flows at most the share of a quarter of the coarser mass
pub record HasGhosts (p : Problem) (l : ℕ) (m old : Masses) (e : Fluxes) : Type 0 where
  pub high : (f : Face) (k : Cell) → home_cell (domain p l) (low_cell f) ≡ k → m k ≡ None → in_domain (domain p l) k ≡ true → LeavesHigh (courant p l f) p.d (mass_of old (parent k) / 4) (e f)
  pub low : (f : Face) (k : Cell) → home_cell (domain p l) (high_cell f) ≡ k → m k ≡ None → in_domain (domain p l) k ≡ true → LeavesLow (courant p l f) p.d (mass_of old (parent k) / 4) (e f)

pub ghost_value : (p : Problem) (l : ℕ) (m old : Masses) (c k : Cell) → home_cell (domain p l) c ≡ k → m k ≡ None → in_domain (domain p l) k ≡ true → value_at p l m old c ≡ mass_of old (parent k) / 4
unfolding value_at
ghost_value p l m old c k home none inside = ap (home_value p l m old) home ∙ rw (none, inside)

pub plain_ghosts : (p : Problem) (l : ℕ) (m old : Masses) → HasGhosts p l m old (flux_at p l m old)
unfolding flux_at
plain_ghosts p l m old = record {
  high = λ f k home none inside. rw (ghost_value p l m old (low_cell f) k home none inside) (flow_leaves_high _ _ _ _);
  low = λ f k home none inside. rw (ghost_value p l m old (high_cell f) k home none inside) (flow_leaves_low _ _ _ _);
}
