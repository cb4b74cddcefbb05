-- How far a step raises the greatest mass.
use Rattle.std.proofs.Common.{◌≡◌, ℕ, suc, ◌+◌, ◌*◌, ◌/◌, ◌<◌, ◌≤◌, ℤ, pos, negsuc, ◌+ℤ◌, ◌-ℤ◌, refl, ap, arith}
use Rattle.std.specs.Prelude.{unsigned_abs}
use Rattle.std.proofs.lemmas.Int.{ints}
use Rattle.std.proofs.Math.Nat.{div-mul-le_self, lt-div-mul-add, mul-le-mul_left, mul-le-mul_right, le_of_mul-le-mul_left}
use Rattle.amr_def.specs.Flux.{flow}

-- what an axis brings a cell of mass v: it gains at most the share of values up to b, and loses its own share but for some rounding
pub record AxisGain (a d w b v slack : ℕ) (z : ℤ) : Type 0 where
  pub gained : ℕ
  pub lost : ℕ
  pub is : z ≡ pos gained -ℤ pos lost
  pub at_most : w * d * gained ≤ a * b
  pub at_least : a * v ≤ d * lost + slack * d

-- w cells of the new mass weigh at most b and the rounding
pub new_mass_bounded : (a1 a2 r d w b v new slack : ℕ) (x y : ℤ) → 0 < d → d ≡ a1 + a2 + r → w * v ≤ b → AxisGain a1 d w b v slack x → AxisGain a2 d w b v slack y → pos new ≡ pos v +ℤ (x +ℤ y) → w * new ≤ b + 2 * slack * w
new_mass_bounded a1 a2 r d w b v new slack x y some whole below gx gy is =
    let i1 = gx.gained in
    let i2 = gy.gained in
    let o1 = gx.lost in
    let o2 = gy.lost in
    let sum : new + o1 + o2 ≡ v + i1 + i2 = omega (arith, ints, is, gx.is, gy.is) in
    let weighed : w * d * (new + o1 + o2) ≡ w * d * (v + i1 + i2) = ap (λ t. w * d * t) sum in
    let out1 : w * (a1 * v) ≤ w * (d * o1 + slack * d) = mul-le-mul_left w gx.at_least in
    let out2 : w * (a2 * v) ≤ w * (d * o2 + slack * d) = mul-le-mul_left w gy.at_least in
    let parts_v : w * v * d ≡ w * v * (a1 + a2 + r) = ap (λ t. w * v * t) whole in
    let parts_b : b * d ≡ b * (a1 + a2 + r) = ap (λ t. b * t) whole in
    let rest : w * v * r ≤ b * r = mul-le-mul_right r below in
    let all : d * (w * new) ≤ d * (b + 2 * slack * w) = omega (arith, weighed, out1, out2, parts_v, parts_b, rest, gx.at_most, gy.at_most) in
    le_of_mul-le-mul_left all some

pub share_at_most : (a d w b v : ℕ) → w * v ≤ b → w * d * (a * v / d) ≤ a * b
share_at_most a d w b v below =
    let one : a * v / d * d ≤ a * v = div-mul-le_self (a * v) d in
    let weighed : w * (a * v / d * d) ≤ w * (a * v) = mul-le-mul_left w one in
    let values : a * (w * v) ≤ a * b = mul-le-mul_left a below in
    omega (arith, weighed, values)

share_at_least : (a d v : ℕ) → 0 < d → a * v ≤ d * (a * v / d) + 1 * d
share_at_least a d v some = omega (arith, lt-div-mul-add {a = a * v} {b = d} some)

-- of a level alone
pub plain_gain : (c : ℤ) (d w b v low high : ℕ) → 0 < d → w * low ≤ b → w * high ≤ b → AxisGain (unsigned_abs c) d w b v 1 (flow c d low v -ℤ flow c d v high)
plain_gain (pos a) d w b v low high some lb hb = record { gained = a * low / d; lost = a * v / d; is = refl; at_most = share_at_most a d w b low lb; at_least = share_at_least a d v some }
plain_gain (negsuc a) d w b v low high some lb hb = record { gained = suc a * high / d; lost = suc a * v / d; is = omega (arith, ints); at_most = share_at_most (suc a) d w b high hb; at_least = share_at_least (suc a) d v some }
