-- Shares of a mass, periodic axes, and a cell after an update.
use Rattle.std.proofs.Common.{◌≡◌, ℕ, ◌+◌, ◌-◌, ◌*◌, ◌/◌, ◌%◌, ◌<◌, ◌≤◌, Bool, true, false, ℤ, pos, negsuc, ◌+ℤ◌, ◌-ℤ◌, refl, sym, ap, ◌∙◌, arith}
use Rattle.std.proofs.lemmas.Int.{ints}
use Rattle.std.proofs.Math.Nat.{div-mul-le_self, mul-le-mul_right, le_of_mul-le-mul_right, mod_self, mod-eq_of_lt, zero-mod}
use Rattle.amr_box.specs.declared.Axis.TheVariants.{X, Y}
use Rattle.amr_box.specs.declared.Cell.{Cell}
use Rattle.amr_def.specs.Domain.{wrapped}
use Rattle.amr_def.specs.Flux.{Fluxes, face, net}

-- two shares of a mass, the shares together not above the whole
pub shares_le : (a b d v : ℕ) → 0 < d → a + b ≤ d → a * v / d + b * v / d ≤ v
shares_le a b d v some within =
    let x : a * v / d * d ≤ a * v = div-mul-le_self (a * v) d in
    let y : b * v / d * d ≤ b * v = div-mul-le_self (b * v) d in
    let whole : (a + b) * v ≤ d * v = mul-le-mul_right v within in
    let both : (a * v / d + b * v / d) * d ≤ v * d = omega (arith, x, y, whole) in
    le_of_mul-le-mul_right both some

-- ---- a periodic axis of n cells

pub wrapped_end : (n : ℕ) → wrapped true n (pos n) ≡ wrapped true n (pos 0)
wrapped_end n = ap pos (mod_self n ∙ sym (zero-mod n))

pub wrapped_inside : (b : Bool) (n x : ℕ) → x < n → wrapped b n (pos x) ≡ pos x
wrapped_inside true n x h = ap pos (mod-eq_of_lt h)
wrapped_inside false n x h = refl

-- the cell before the first one is the last one
pub wrapped_before : (n : ℕ) → 0 < n → wrapped true n (pos n -ℤ pos 1) ≡ wrapped true n (negsuc 0)
wrapped_before n some =
    let back : pos n -ℤ pos 1 ≡ pos (n - 1) = omega (arith, ints) in
    let below : n - 1 < n = omega arith in
    let last : (n - 1) % n ≡ n - 1 = mod-eq_of_lt below in
    rw back (ap pos (omega (arith, last, zero-mod n)))

pub net_is : (e : Fluxes) (c : Cell) (west east south north : ℤ) → e (face X c.x c.y) ≡ west → e (face X (c.x +ℤ pos 1) c.y) ≡ east → e (face Y c.x c.y) ≡ south → e (face Y c.x (c.y +ℤ pos 1)) ≡ north → net e c ≡ (west -ℤ east) +ℤ (south -ℤ north)
unfolding net
net_is e c west east south north a b d f = omega (arith, ints)
