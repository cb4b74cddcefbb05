-- A product with a reciprocal in place of a division.
use Rattle.std.proofs.Common.{◌≡◌, ℕ, zero, suc, ◌+◌, ◌-◌, ◌*◌, ◌/◌, ◌%◌, ◌^◌, ◌<◌, ◌≤◌, ℤ, pos, negsuc, ◌-ℤ◌, ◌≤ℤ◌, ◌<ℤ◌, ap, ◌∙◌, arith}
use Rattle.std.specs.Prelude.{List, length, slice_index, unsigned_abs}
use Rattle.std.proofs.lemmas.Int.{ints}
use Rattle.std.proofs.Math.Nat.{div-le_of_le-mul, mul-le-mul_right, mul_comm, mul-le-mul_left, div-mul-le_self, lt-div-mul-add, lt_of_mul-lt-mul_left}
use Rattle.amr_faces.specs.Shares.{AreBelow, AreFactors, AreSmall, IsNearReciprocal, IsReciprocal, product, share_of}

-- a quotient by d is below n where the dividend is below d * n
quotient_below : (x d n : ℕ) → 0 < d → x < d * n → x / d < n
quotient_below x d n some h =
    let low : x / d * d ≤ x = div-mul-le_self x d in
    lt_of_mul-lt-mul_left d (omega (arith, low, mul_comm (x / d) d))

pub places : (c : ℤ) (d n : ℕ) → 0 < d → d ≤ 1024 → unsigned_abs c ≤ d → n ≡ (unsigned_abs c * 2 ^ 41 + (d - 1)) / d → IsReciprocal c d (n / 1024) (n % 1024)
places c d n some few slow is =
    let below : (unsigned_abs c * 2 ^ 41 + (d - 1)) / d < 2 ^ 41 + 1 = quotient_below (unsigned_abs c * 2 ^ 41 + (d - 1)) d (2 ^ 41 + 1) some (omega arith) in
    record {
      few = few;
      whole_places = omega (arith, is, below);
      rest_places = omega arith;
      places = omega (arith, is);
    }

pub record IsRoundedUp (c : ℤ) (d n : ℕ) : Type 0 where
  pub fits : n ≤ 2 ^ 31
  pub up : unsigned_abs c * 2 ^ 31 ≤ n * d
  pub error : n * d - unsigned_abs c * 2 ^ 31 < d

pub rounded_up : (c : ℤ) (d n : ℕ) → 0 < d → unsigned_abs c ≤ d → n ≡ (unsigned_abs c * 2 ^ 31 + (d - 1)) / d → IsRoundedUp c d n
rounded_up c d n some slow is =
    let below : (unsigned_abs c * 2 ^ 31 + (d - 1)) / d < 2 ^ 31 + 1 = quotient_below (unsigned_abs c * 2 ^ 31 + (d - 1)) d (2 ^ 31 + 1) some (omega arith) in
    let e : unsigned_abs c * 2 ^ 31 + (d - 1) < (unsigned_abs c * 2 ^ 31 + (d - 1)) / d * d + d = lt-div-mul-add some in
    let e' : unsigned_abs c * 2 ^ 31 + (d - 1) < n * d + d = rw is e in
    let m : (unsigned_abs c * 2 ^ 31 + (d - 1)) / d * d ≤ unsigned_abs c * 2 ^ 31 + (d - 1) = div-mul-le_self (unsigned_abs c * 2 ^ 31 + (d - 1)) d in
    let m' : n * d ≤ unsigned_abs c * 2 ^ 31 + (d - 1) = rw is m in
    record { fits = omega (arith, is, below); up = omega (arith, e'); error = omega (arith, m', some) }

pub near_places : (c : ℤ) (d n limit : ℕ) → 0 < d → unsigned_abs c ≤ d → n ≡ (unsigned_abs c * 2 ^ 31 + (d - 1)) / d → limit * (n * d - unsigned_abs c * 2 ^ 31) ≤ 2 ^ 31 → IsNearReciprocal c d n limit
near_places c d n limit some slow is small = let r = rounded_up c d n some slow is in record { fits = r.fits; up = r.up; error = small }

pub limit_fits : (e : ℕ) → 2 ^ 31 / e * e ≤ 2 ^ 31
limit_fits e = div-mul-le_self (2 ^ 31) e

-- ---- |c|/d with 41 places, rounded up, times a mass

module _ (c d v m : ℕ) (some : 0 < d) (few : d ≤ 1024) (small : v < 2 ^ 31) (is : m ≡ (c * 2 ^ 41 + (d - 1)) / d) where
  times_d-high : m * d ≤ c * 2 ^ 41 + (d - 1)
  times_d-high = rw is (div-mul-le_self (c * 2 ^ 41 + (d - 1)) d)

  times_d-low : c * 2 ^ 41 ≤ m * d
  times_d-low = let e : c * 2 ^ 41 + (d - 1) < (c * 2 ^ 41 + (d - 1)) / d * d + d = lt-div-mul-add some in let e' : c * 2 ^ 41 + (d - 1) < m * d + d = rw is e in omega (arith, e')

  error : v * (d - 1) < 2 ^ 41
  error = let h : v * (d - 1) ≤ v * 1023 = mul-le-mul_left v (omega arith) in omega (arith, h)

  -- c * v is the quotient times d and a rest below d
  quotient_low : c * v / d * d ≤ c * v
  quotient_low = div-mul-le_self (c * v) d

  quotient_high : c * v < c * v / d * d + d
  quotient_high = lt-div-mul-add some

  product_low : v * (c * 2 ^ 41) ≤ v * (m * d)
  product_low = mul-le-mul_left v times_d-low

  product_high : v * (m * d) ≤ v * (c * 2 ^ 41 + (d - 1))
  product_high = mul-le-mul_left v times_d-high

  low : c * v / d * 2 ^ 41 < v * m + 1
  low = lt_of_mul-lt-mul_left d (omega (arith, product_low, quotient_low, some))

  high : v * m < (c * v / d + 1) * 2 ^ 41
  high = lt_of_mul-lt-mul_left d (omega (arith, product_high, quotient_high, error, some))

  scaled : v * m / 2 ^ 41 ≡ c * v / d
  scaled = omega (arith, low, high)

pub exact : (c : ℤ) (d whole rest v : ℕ) → 0 < d → IsReciprocal c d whole rest → v < 2 ^ 31 → (v * whole + v * rest / 1024) / 2 ^ 31 ≡ share_of c d v
exact c d whole rest v some r small =
    let m : ℕ = whole * 1024 + rest in
    let joined : v * whole + v * rest / 1024 ≡ v * m / 1024 = omega arith in
    let divided : v * m / 1024 / 2 ^ 31 ≡ v * m / 2 ^ 41 = omega arith in
    ap (λ n. n / 2 ^ 31) joined ∙ divided ∙ scaled (unsigned_abs c) d v m some r.few small r.places

-- ---- |c|/d with 31 places, rounded up, times a mass below the limit

-- the product of twice a small mass and the places fits 64 bits
pub product_fits : (v near : ℕ) → v < 2 ^ 31 → near ≤ 2 ^ 31 → (v + v) * near < 2 ^ 64
product_fits v near small fits =
    let h : (v + v) * near ≤ (v + v) * 2 ^ 31 = mul-le-mul_left (v + v) fits in
    omega (arith, h)

pub product_small : (v near : ℕ) → v < 2 ^ 31 → near ≤ 2 ^ 31 → (v + v) * near / 2 ^ 32 < 2 ^ 31
product_small v near small fits =
    let h : (v + v) * near ≤ (v + v) * 2 ^ 31 = mul-le-mul_left (v + v) fits in
    omega (arith, h)

near_product : (v a b e : ℕ) → a ≡ b + e → v * a ≡ v * b + v * e
near_product v a b e is = ap (λ n. v * n) is ∙ omega arith

module _ (c d v m limit : ℕ) (some : 0 < d) (below : v < limit) (up : c * 2 ^ 31 ≤ m * d) (error : limit * (m * d - c * 2 ^ 31) ≤ 2 ^ 31) where
  near_error : v * (m * d - c * 2 ^ 31) < 2 ^ 31
  near_error = at_each (m * d - c * 2 ^ 31) error
    where
      at_each : (e : ℕ) → limit * e ≤ 2 ^ 31 → v * e < 2 ^ 31
      at_each zero h = omega arith
      at_each (suc e) h = let more : (v + 1) * suc e ≤ limit * suc e = mul-le-mul_right (suc e) (omega arith) in omega (arith, more, h)

  near_low : c * v / d * 2 ^ 31 < v * m + 1
  near_low =
      let q : c * v / d * d ≤ c * v = div-mul-le_self (c * v) d in
      let p : v * (c * 2 ^ 31) ≤ v * (m * d) = mul-le-mul_left v up in
      lt_of_mul-lt-mul_left d (omega (arith, p, q, some))

  near_high : v * m < (c * v / d + 1) * 2 ^ 31
  near_high =
      let q : c * v < c * v / d * d + d = lt-div-mul-add some in
      let q' : c * v + 1 ≤ c * v / d * d + d = omega (arith, q) in
      let split : m * d ≡ c * 2 ^ 31 + (m * d - c * 2 ^ 31) = omega (arith, up) in
      let is : v * (m * d) ≡ v * (c * 2 ^ 31) + v * (m * d - c * 2 ^ 31) = near_product v (m * d) (c * 2 ^ 31) (m * d - c * 2 ^ 31) split in
      lt_of_mul-lt-mul_left d (omega (arith, is, near_error, q', some))

  near_scaled : v * m / 2 ^ 31 ≡ c * v / d
  near_scaled = omega (arith, near_low, near_high)

pub exact_near : (c : ℤ) (d near limit v : ℕ) → 0 < d → IsNearReciprocal c d near limit → v < limit → (v + v) * near / 2 ^ 32 ≡ share_of c d v
exact_near c d near limit v some r below =
    let halved : (v + v) * near / 2 ^ 32 ≡ v * near / 2 ^ 31 = omega arith in
    halved ∙ near_scaled (unsigned_abs c) d v near limit some below r.up r.error

-- ---- a flux as two products

product_none : (v : ℕ) → product 0 v ≡ 0
product_none v = omega arith

module _ (d near limit : ℕ) (some : 0 < d) where
  pub factors_ahead : (c : ℤ) → pos 0 ≤ℤ c → IsNearReciprocal c d near limit → AreFactors c d limit near 0
  factors_ahead (pos n) h r = record {
    low_fits = r.fits;
    high_fits = omega arith;
    flows = λ a b below beyond. (λ t. pos (exact_near (pos n) d near limit a some r below t) -ℤ pos (product_none b t)) ∙ omega (arith, ints);
  }
  factors_ahead (negsuc n) h r = absurd (omega (arith, ints, h))

  pub factors_back : (c : ℤ) → c <ℤ pos 0 → IsNearReciprocal c d near limit → AreFactors c d limit 0 near
  factors_back (pos n) h r = absurd (omega (arith, ints, h))
  factors_back (negsuc n) h r = record {
    low_fits = omega arith;
    high_fits = r.fits;
    flows = λ a b below beyond. (λ t. pos (product_none a t) -ℤ pos (exact_near (negsuc n) d near limit b some r beyond t)) ∙ omega (arith, ints);
  }

-- small masses each of which is below a limit, if it is small
pub below_limit : (limit : ℕ) (masses : List ℕ) → AreSmall masses → ((k : ℕ) → k < length masses → slice_index masses k < 2 ^ 31 → slice_index masses k < limit) → AreBelow limit masses
below_limit limit masses small near = record { at = λ k inside. near k inside (small.at k inside) }

-- a share of a mass is no more than the mass
pub share_within : (c : ℤ) (d v : ℕ) → unsigned_abs c ≤ d → share_of c d v ≤ v
share_within c d v slow = div-le_of_le-mul d (mul-le-mul_right v slow)
