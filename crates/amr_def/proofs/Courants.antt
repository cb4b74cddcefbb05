-- The Courant numbers of faces: within their limits, and the same for a face and its child faces.
use Rattle.std.proofs.Common.{◌≡◌, ℕ, zero, suc, ◌+◌, ◌*◌, ◌/◌, ◌%◌, ◌^◌, ◌<◌, ◌≤◌, Bool, true, false, ℤ, pos, negsuc, ◌+ℤ◌, refl, sym, ap, ◌∙◌, arith, List, [], ◌∷◌}
use Rattle.std.specs.Prelude.{unsigned_abs, slice_index_or}
use Rattle.std.proofs.lemmas.Int.{ints}
use Rattle.std.proofs.Math.Nat.{pow-suc, mul_assoc, mul_comm, div-div-eq-div-mul}
use Rattle.std.proofs.lemmas.Nat.{mul-le}
use lib.Arith.{mod-mul}
use Rattle.amr_box.specs.declared.Axis.TheVariants.{X, Y}
use Rattle.amr_def.specs.declared.problem.Problem.{Problem}
use Rattle.amr_def.specs.Limits.{in_use, greatest_size}
use Rattle.amr_def.specs.Domain.{wrapped, is_periodic}
use Rattle.amr_def.specs.Flux.{face, number_for, at_base, courant}
use Rattle.amr_def.proofs.LevelLists.{IsStable, HasColumns}

-- ---- limits

entry_within : (cs : List ℤ) (k : ℕ) → unsigned_abs (slice_index_or cs k (pos 0)) ≤ greatest_size cs
entry_within [] k = omega arith
entry_within (c ∷ cs) zero = grind arith
entry_within (c ∷ cs) (suc k) = let rest : unsigned_abs (slice_index_or cs k (pos 0)) ≤ greatest_size cs = entry_within cs k in grind arith

number_within : (c : ℤ) (cs : List ℤ) (k : ℕ) → unsigned_abs (number_for c cs k) ≤ greatest_size (in_use c cs)
number_within c [] k = grind arith
number_within c (s ∷ ss) k = entry_within (s ∷ ss) k

pub stable : (p : Problem) → IsStable p
stable p = record {
  some = omega (arith, p.limits.least_d);
  within = λ l c. omega (arith, p.limits.stable, number_within p.cx p.shear_x (at_base l c.y), number_within p.cy p.shear_y (at_base l c.x));
}

pub some_columns : (p : Problem) → HasColumns p
some_columns p = record { x = omega (arith, p.limits.least_nx); y = omega (arith, p.limits.least_ny) }

-- ---- child faces

pub twice_as_many : (n l : ℕ) → n * 2 ^ suc l ≡ n * 2 ^ l + n * 2 ^ l
twice_as_many n l = rw pow-suc (omega (arith, mul_assoc n (2 ^ l) 2))

double_mod : (a n : ℕ) → 0 < n → (a + a) % (n + n) ≡ a % n + a % n
double_mod a n some =
    let twice : n + n ≡ n * 2 = omega arith in
    let half : (a + a) / 2 ≡ a = omega arith in
    let even : (a + a) % 2 ≡ 0 = omega arith in
    let parts : (a + a) % (n * 2) ≡ ((a + a) / 2 % n) * 2 + (a + a) % 2 = mod-mul (a + a) some (omega arith) in
    rw twice (parts ∙ rw (half, even) (omega arith))

double_next_mod : (a n : ℕ) → 0 < n → (a + a + 1) % (n + n) ≡ a % n + a % n + 1
double_next_mod a n some =
    let twice : n + n ≡ n * 2 = omega arith in
    let half : (a + a + 1) / 2 ≡ a = omega arith in
    let odd : (a + a + 1) % 2 ≡ 1 = omega arith in
    let parts : (a + a + 1) % (n * 2) ≡ ((a + a + 1) / 2 % n) * 2 + (a + a + 1) % 2 = mod-mul (a + a + 1) some (omega arith) in
    rw twice (parts ∙ rw (half, odd) (omega arith))

wrapped_double : (b : Bool) (n : ℕ) (z : ℤ) → 0 < n → wrapped b (n + n) (z +ℤ z) ≡ wrapped b n z +ℤ wrapped b n z
wrapped_double false n z some = refl
wrapped_double true n (pos a) some = ap pos (double_mod a n some)
wrapped_double true n (negsuc a) some =
    let e : negsuc a +ℤ negsuc a ≡ negsuc (a + a + 1) = omega (arith, ints) in
    ap (wrapped true (n + n)) e ∙ omega (arith, ints, double_next_mod a n some)

wrapped_double_next : (b : Bool) (n : ℕ) (z : ℤ) → 0 < n → wrapped b (n + n) (z +ℤ z +ℤ pos 1) ≡ wrapped b n z +ℤ wrapped b n z +ℤ pos 1
wrapped_double_next false n z some = refl
wrapped_double_next true n (pos a) some = ap pos (double_next_mod a n some)
wrapped_double_next true n (negsuc a) some =
    let e : negsuc a +ℤ negsuc a +ℤ pos 1 ≡ negsuc (a + a) = omega (arith, ints) in
    rw e (omega (arith, ints, double_mod a n some))

half_power : (a b l : ℕ) → a / 2 ≡ b → a / 2 ^ suc l ≡ b / 2 ^ l
half_power a b l e =
    let turned : 2 ^ suc l ≡ 2 * 2 ^ l = rw pow-suc (mul_comm (2 ^ l) 2) in
    rw turned (sym (div-div-eq-div-mul a 2 (2 ^ l)) ∙ ap (λ (k : ℕ). k / 2 ^ l) e)

at_base_double : (l : ℕ) (w : ℤ) → at_base (suc l) (w +ℤ w) ≡ at_base l w
at_base_double l (pos a) = half_power (a + a) a l (omega arith)
at_base_double l (negsuc a) =
    let e : negsuc a +ℤ negsuc a ≡ negsuc (a + a + 1) = omega (arith, ints) in
    ap (at_base (suc l)) e ∙ half_power 0 0 l refl

at_base_double_next : (l : ℕ) (w : ℤ) → at_base (suc l) (w +ℤ w +ℤ pos 1) ≡ at_base l w
at_base_double_next l (pos a) = half_power (a + a + 1) a l (omega arith)
at_base_double_next l (negsuc a) =
    let e : negsuc a +ℤ negsuc a +ℤ pos 1 ≡ negsuc (a + a) = omega (arith, ints) in
    rw e (half_power 0 0 l refl)

-- the row or column of level 0 is the same for both children
module _ (n l : ℕ) (some : 0 < n * 2 ^ l) (b : Bool) (z : ℤ) where
  base_of_first : at_base (suc l) (wrapped b (n * 2 ^ suc l) (z +ℤ z)) ≡ at_base l (wrapped b (n * 2 ^ l) z)
  base_of_first = rw twice_as_many (ap (at_base (suc l)) (wrapped_double b (n * 2 ^ l) z some) ∙ at_base_double l (wrapped b (n * 2 ^ l) z))

  base_of_second : at_base (suc l) (wrapped b (n * 2 ^ suc l) (z +ℤ z +ℤ pos 1)) ≡ at_base l (wrapped b (n * 2 ^ l) z)
  base_of_second = rw twice_as_many (ap (at_base (suc l)) (wrapped_double_next b (n * 2 ^ l) z some) ∙ at_base_double_next l (wrapped b (n * 2 ^ l) z))

pub power_positive : (n l : ℕ) → 0 < n → 0 < n * 2 ^ l
power_positive n zero h = omega arith
power_positive n (suc l) h = omega (arith, twice_as_many n l, power_positive n l h)

module _ (p : Problem) (l : ℕ) (x x' y y' : ℤ) where
  pub courant_x_first : courant p (suc l) (face X x' (y +ℤ y)) ≡ courant p l (face X x y)
  unfolding courant
  courant_x_first = ap (number_for p.cx p.shear_x) (base_of_first p.ny l (power_positive p.ny l (some_columns p).y) (is_periodic p.y_sides) y)

  pub courant_x_second : courant p (suc l) (face X x' (y +ℤ y +ℤ pos 1)) ≡ courant p l (face X x y)
  unfolding courant
  courant_x_second = ap (number_for p.cx p.shear_x) (base_of_second p.ny l (power_positive p.ny l (some_columns p).y) (is_periodic p.y_sides) y)

  pub courant_y_first : courant p (suc l) (face Y (x +ℤ x) y') ≡ courant p l (face Y x y)
  unfolding courant
  courant_y_first = ap (number_for p.cy p.shear_y) (base_of_first p.nx l (power_positive p.nx l (some_columns p).x) (is_periodic p.x_sides) x)

  pub courant_y_second : courant p (suc l) (face Y (x +ℤ x +ℤ pos 1) y') ≡ courant p l (face Y x y)
  unfolding courant
  courant_y_second = ap (number_for p.cy p.shear_y) (base_of_second p.nx l (power_positive p.nx l (some_columns p).x) (is_periodic p.x_sides) x)

pub power_some : (l : ℕ) → l ≤ 4 → 1 ≤ 2 ^ l
power_some zero h = omega arith
power_some (suc zero) h = omega arith
power_some (suc (suc zero)) h = omega arith
power_some (suc (suc (suc zero))) h = omega arith
power_some (suc (suc (suc (suc zero)))) h = omega arith
power_some (suc (suc (suc (suc (suc l))))) h = absurd (omega arith)

pub weight_some : (l : ℕ) → 0 < 4 ^ l
weight_some zero = omega arith
weight_some (suc l) = let e : 4 ^ suc l ≡ 4 ^ l * 4 = pow-suc 4 l in omega (arith, e, weight_some l)

pub weighs : (l v b : ℕ) → 4 ^ l * v ≤ b → v ≤ b
weighs l v b h = let more : 1 * v ≤ 4 ^ l * v = mul-le 1 v (4 ^ l) v (weight_some l) (omega arith) in omega (arith, more, h)

pub four_power : (l : ℕ) → l ≤ 4 → 2 ^ (2 * l) ≡ 4 ^ l
four_power zero h = refl
four_power (suc zero) h = refl
four_power (suc (suc zero)) h = refl
four_power (suc (suc (suc zero))) h = refl
four_power (suc (suc (suc (suc zero)))) h = refl
four_power (suc (suc (suc (suc (suc l))))) h = absurd (omega arith)
