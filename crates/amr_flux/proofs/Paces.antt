-- A step of a patch where one Courant number holds along each axis.
use Rattle.std.proofs.Common.{◌≡◌, ℕ, ◌+◌, ◌*◌, ◌/◌, ◌^◌, ◌<◌, ◌≤◌, pos, [], sym, ap, subst, ◌∙◌, arith}
use Rattle.std.specs.Prelude.{unsigned_abs}
use Rattle.std.proofs.Math.Nat.{div-mul-le_self, mul-le-mul_left, lt_of_mul-lt-mul_left}
use Rattle.amr_box.specs.Cells.{cell}
use Rattle.amr_def.specs.declared.problem.Problem.{Problem}
use Rattle.amr_def.proofs.Courants.{stable}
use Rattle.amr_def.proofs.Flows.{shares_le}
use Rattle.amr_flux.specs.declared.pace.Pace.{Pace}
use Rattle.amr_flux.specs.Paces.{IsFit, gone, x_share, y_share}
use Rattle.amr_faces.proofs.Numbers.{x_unsheared, unsheared, y_slow}

-- ---- the Courant numbers of a problem that has one along each axis

pub plain_stable : (p : Problem) → p.shear_x ≡ [] → p.shear_y ≡ [] → unsigned_abs p.cx + unsigned_abs p.cy ≤ p.d
plain_stable p ex ey = omega (arith, (stable p).within 0 (cell (pos 0) (pos 0)), ap unsigned_abs (x_unsheared p 0 0 ex), ap unsigned_abs (unsheared p 0 0 ey))

pub plain_y_slow : (p : Problem) → p.shear_y ≡ [] → unsigned_abs p.cy ≤ p.d
plain_y_slow p e = omega (arith, y_slow p 0 0, ap unsigned_abs (unsheared p 0 0 e))

-- ---- shares

-- and what comes in from two cells is no more than 2^31
both_below : (a b d u v : ℕ) → 0 < d → a + b ≤ d → u < 2 ^ 31 → v < 2 ^ 31 → a * u / d + b * v / d ≤ 2 ^ 31
both_below a b d u v some slow hu hv =
    let x : a * u / d * d ≤ a * u = div-mul-le_self (a * u) d in
    let y : b * v / d * d ≤ b * v = div-mul-le_self (b * v) d in
    let x' : a * u ≤ a * 2 ^ 31 = mul-le-mul_left a (omega (arith, hu)) in
    let y' : b * v ≤ b * 2 ^ 31 = mul-le-mul_left b (omega (arith, hv)) in
    let h : a * u / d + b * v / d < 2 ^ 31 + 1 = lt_of_mul-lt-mul_left d (omega (arith, x, y, x', y', slow, some)) in
    omega (arith, h)

module _ (pace : Pace) where
  parts : (v : ℕ) → y_share pace v ≡ unsigned_abs pace.y.number * v / pace.x.parts
  parts v = ap (λ n. unsigned_abs pace.y.number * v / n) pace.same_parts

  pub gone_within : (v : ℕ) → gone pace v ≤ v
  gone_within v = omega (arith, parts v, shares_le (unsigned_abs pace.x.number) (unsigned_abs pace.y.number) pace.x.parts v pace.x.some pace.stable)

  pub come_below : (u v : ℕ) → u < 2 ^ 31 → v < 2 ^ 31 → x_share pace u + y_share pace v ≤ 2 ^ 31
  come_below u v hu hv = omega (arith, parts v, both_below (unsigned_abs pace.x.number) (unsigned_abs pace.y.number) pace.x.parts u v pace.x.some pace.stable hu hv)

-- ---- a cell of a row, by what the row was

pub cell_made : (pace : Pace) (m m0 along out gain gain0 entering entering0 r : ℕ) → m ≡ m0 → along ≡ x_share pace m → out ≡ y_share pace m → gain ≡ gain0 → entering ≡ entering0 → r + (along + out) ≡ m + (gain + entering) → r + gone pace m0 ≡ m0 + (gain0 + entering0)
cell_made pace m m0 along out gain gain0 entering entering0 r em ea eo eg ee made =
    (λ i. r + (x_share pace (sym em i) + y_share pace (sym em i))) ∙ (λ i. r + (sym ea i + sym eo i)) ∙ made ∙ (λ i. em i + (eg i + ee i))

pub fits_still : (pace : Pace) (v v0 : ℕ) → v ≡ v0 → IsFit pace v0 → IsFit pace v
fits_still pace v v0 e fit = subst (λ n. IsFit pace n) (sym e) fit
