-- Places beside one another on an axis, step after step.
use Rattle.std.proofs.Common.{◌≡◌, ℕ, zero, suc, ◌+◌, ◌*◌, ◌/◌, ◌%◌, ◌<◌, Bool, true, false, ◌⊎◌, inl, inr, ℤ, pos, negsuc, ◌+ℤ◌, ◌-ℤ◌, ◌≤ℤ◌, ◌<ℤ◌, refl, sym, ap, ◌∙◌, arith}
use Rattle.std.specs.Int.{int_rem_euclid}
use Rattle.std.proofs.lemmas.Int.{ints, int_rem_euclid_is}
use Rattle.std.proofs.lemmas.Nat.{mod_below}
use native.Mathlib.Nat.{add-mul-mod_self_right, div-add-mod'}
use Rattle.amr_tags.specs.TagSets.{wrapped}

-- a number lies a whole number of rounds below a natural one
record IsBelow (z : ℤ) (n : ℕ) : Type 0 where
  rounds : ℕ
  top : ℕ
  is : z +ℤ pos (rounds * n) ≡ pos top

below : (z : ℤ) (n : ℕ) → 0 < n → IsBelow z n
below (pos a) n h = record { rounds = 0; top = a; is = omega (arith, ints) }
below (negsuc a) zero h = absurd (omega arith)
below (negsuc a) (suc m) h = let e : suc a * suc m ≡ suc a * m + suc a = grind arith in record { rounds = suc a; top = suc a * m; is = omega (arith, ints, e) }

taken : (x y n : ℕ) → 0 < n → (x % n + y) % n ≡ (x + y) % n
taken x y n h = let parts = div-add-mod' x n in let e : x % n + y + x / n * n ≡ x + y = grind (arith, parts) in sym (add-mul-mod_self_right (x % n + y) (x / n) n) ∙ ap (λ t. t % n) e

-- a remainder moved, taken again
pub rem-add : (a b : ℤ) (n : ℕ) → 0 < n → int_rem_euclid (int_rem_euclid a (pos n) +ℤ b) (pos n) ≡ int_rem_euclid (a +ℤ b) (pos n)
rem-add a b n h = go (below a n h) (below b n h)
  where
    go : IsBelow a n → IsBelow b n → int_rem_euclid (int_rem_euclid a (pos n) +ℤ b) (pos n) ≡ int_rem_euclid (a +ℤ b) (pos n)
    go p q =
        let both : (p.rounds + q.rounds) * n ≡ p.rounds * n + q.rounds * n = grind arith in
        let first : int_rem_euclid a (pos n) ≡ pos (p.top % n) = int_rem_euclid_is a (pos n) n p.rounds p.top h refl p.is in
        ap (λ (t : ℤ). int_rem_euclid (t +ℤ b) (pos n)) first
        ∙ int_rem_euclid_is (pos (p.top % n) +ℤ b) (pos n) n q.rounds (p.top % n + q.top) h refl (omega (arith, ints, q.is))
        ∙ ap pos (taken p.top q.top n h)
        ∙ sym (int_rem_euclid_is (a +ℤ b) (pos n) n (p.rounds + q.rounds) (p.top + q.top) h refl (omega (arith, ints, p.is, q.is, both)))

-- a place of a periodic axis lies on it
pub rem-lt : (a : ℤ) (n : ℕ) → 0 < n → (int_rem_euclid a (pos n) <ℤ pos n) × (pos 0 ≤ℤ int_rem_euclid a (pos n))
rem-lt a n h = go (below a n h)
  where
    go : IsBelow a n → (int_rem_euclid a (pos n) <ℤ pos n) × (pos 0 ≤ℤ int_rem_euclid a (pos n))
    go p =
        let first : int_rem_euclid a (pos n) ≡ pos (p.top % n) = int_rem_euclid_is a (pos n) n p.rounds p.top h refl p.is in
        let small : p.top % n < n = mod_below p.top n h in
        (omega (arith, ints, first, small), omega (arith, ints, first))

-- a place moved on, on either kind of axis
pub wrapped-moved : (wrap : Bool) (low : ℤ) (n : ℕ) (z d : ℤ) → 0 < n → wrapped wrap low n (wrapped wrap low n z +ℤ d) ≡ wrapped wrap low n (z +ℤ d)
wrapped-moved true low n z d h =
    let r = int_rem_euclid (z -ℤ low) (pos n) in
    let e : low +ℤ r +ℤ d -ℤ low ≡ r +ℤ d = omega (arith, ints) in
    let g : z -ℤ low +ℤ d ≡ z +ℤ d -ℤ low = omega (arith, ints) in
    ap (λ (t : ℤ). low +ℤ int_rem_euclid t (pos n)) e ∙ ap (λ (t : ℤ). low +ℤ t) (rem-add (z -ℤ low) d n h) ∙ ap (λ (t : ℤ). low +ℤ int_rem_euclid t (pos n)) g
wrapped-moved false low n z d h = refl

-- a way of at most n + 1 places, as one of at most 1 and one of at most n
pub record IsSplit (wrap : Bool) (low : ℤ) (w n : ℕ) (z d : ℤ) : Type 0 where
  pub first : ℤ
  pub rest : ℤ
  pub first_low : (pos 0 -ℤ pos 1) ≤ℤ first
  pub first_high : first ≤ℤ pos 1
  pub rest_low : (pos 0 -ℤ pos n) ≤ℤ rest
  pub rest_high : rest ≤ℤ pos n
  pub inside_low : low ≤ℤ wrapped wrap low w (z +ℤ first)
  pub inside_high : wrapped wrap low w (z +ℤ first) <ℤ (low +ℤ pos w)
  pub ends : wrapped wrap low w (wrapped wrap low w (z +ℤ first) +ℤ rest) ≡ wrapped wrap low w (z +ℤ d)

data Sign (d : ℤ) : Type 0 where
  up : pos 0 <ℤ d → Sign d
  still : d ≡ pos 0 → Sign d
  back : d <ℤ pos 0 → Sign d

sign : (d : ℤ) → Sign d
sign (pos zero) = still refl
sign (pos (suc a)) = up (omega (arith, ints))
sign (negsuc a) = back (omega (arith, ints))

pub split : (wrap : Bool) (low : ℤ) (w n : ℕ) (z d : ℤ) → 0 < w → low ≤ℤ z → z <ℤ (low +ℤ pos w) → low ≤ℤ wrapped wrap low w (z +ℤ d) → wrapped wrap low w (z +ℤ d) <ℤ (low +ℤ pos w) → (pos 0 -ℤ pos (n + 1)) ≤ℤ d → d ≤ℤ pos (n + 1) → IsSplit wrap low w n z d
split wrap low w n z d some zl zh el eh dl dh = by (sign d)
  where
    on_axis : (wrap : Bool) (e : ℤ) → low ≤ℤ wrapped wrap low w (z +ℤ d) → wrapped wrap low w (z +ℤ d) <ℤ (low +ℤ pos w) → ((pos 0 ≤ℤ e) × (e ≤ℤ d)) ⊎ ((d ≤ℤ e) × (e ≤ℤ pos 0)) → (low ≤ℤ wrapped wrap low w (z +ℤ e)) × (wrapped wrap low w (z +ℤ e) <ℤ (low +ℤ pos w))
    on_axis true e a b k = let r = rem-lt (z +ℤ e -ℤ low) w some in (omega (arith, ints, r.0, r.1), omega (arith, ints, r.0, r.1))
    on_axis false e a b (inl k) = (omega (arith, ints, k.0, k.1), omega (arith, ints, k.0, k.1))
    on_axis false e a b (inr k) = (omega (arith, ints, k.0, k.1), omega (arith, ints, k.0, k.1))

    made : (e : ℤ) → negsuc 0 ≤ℤ e → e ≤ℤ pos 1 → (pos 0 -ℤ pos n) ≤ℤ (d -ℤ e) → (d -ℤ e) ≤ℤ pos n → ((pos 0 ≤ℤ e) × (e ≤ℤ d)) ⊎ ((d ≤ℤ e) × (e ≤ℤ pos 0)) → IsSplit wrap low w n z d
    made e a b rl rh k =
        let inside = on_axis wrap e el eh k in
        let whole : z +ℤ e +ℤ (d -ℤ e) ≡ z +ℤ d = omega (arith, ints) in
        record {
          first = e;
          rest = d -ℤ e;
          first_low = a;
          first_high = b;
          rest_low = rl;
          rest_high = rh;
          inside_low = inside.0;
          inside_high = inside.1;
          ends = wrapped-moved wrap low w (z +ℤ e) (d -ℤ e) some ∙ ap (wrapped wrap low w) whole;
        }

    by : Sign d → IsSplit wrap low w n z d
    by (up s) = made (pos 1) (omega (arith, ints)) (omega (arith, ints)) (omega (arith, ints)) (omega (arith, ints)) (inl (omega (arith, ints), omega (arith, ints)))
    by (still s) = made (pos 0) (omega (arith, ints)) (omega (arith, ints)) (omega (arith, ints)) (omega (arith, ints)) (inl (omega (arith, ints), omega (arith, ints)))
    by (back s) = made (negsuc 0) (omega (arith, ints)) (omega (arith, ints)) (omega (arith, ints)) (omega (arith, ints)) (inr (omega (arith, ints), omega (arith, ints)))
