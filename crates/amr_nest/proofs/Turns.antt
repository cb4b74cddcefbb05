-- One axis: a coordinate at most one away from some coordinates, past the end of a periodic axis too, is at most one away from
-- them where they are moved by a turn, and the other way round.
use Rattle.std.proofs.Common.{◌≡◌, ℕ, zero, suc, ◌+◌, ◌*◌, ◌<◌, ◌≤◌, Bool, true, false, ℤ, pos, negsuc, ◌+ℤ◌, ◌-ℤ◌, ◌≤ℤ◌, ◌<ℤ◌, refl, sym, ap, subst, ◌∙◌, arith}
use Rattle.std.specs.Prelude.{int_lt, nat_lt}
use Rattle.std.specs.Int.{int_rem_euclid}
use native.Mathlib.Nat.{add-mul-mod_self_right, mod-eq_of_lt}
use Rattle.std.proofs.lemmas.Int.{ints, int_rem_euclid_is}
use Rattle.std.proofs.lemmas.Bool.{eqb-true, ltb-false, ltb-true}
use Rattle.amr_box.proofs.Numbers.{below_from, not_below_from}
use Rattle.amr_def.specs.Domain.{wrapped}
use Rattle.amr_nest.specs.Reach.{is_turn, shift}

-- a coordinate of the axis that a turn moved stands for itself
on_periodic : (n t a : ℕ) → t < 3 → a < n → int_rem_euclid (pos a +ℤ shift n t) (pos n) ≡ pos a
on_periodic n zero a h k = int_rem_euclid_is (pos a +ℤ shift n 0) (pos n) n 1 a (omega arith) refl (omega (arith, ints)) ∙ ap pos (mod-eq_of_lt k)
on_periodic n (suc zero) a h k = int_rem_euclid_is (pos a +ℤ shift n 1) (pos n) n 0 a (omega arith) refl (omega (arith, ints)) ∙ ap pos (mod-eq_of_lt k)
on_periodic n (suc (suc zero)) a h k =
    int_rem_euclid_is (pos a +ℤ shift n 2) (pos n) n 0 (a + 1 * n) (omega arith) refl (omega (arith, ints)) ∙ ap pos (add-mul-mod_self_right a 1 n ∙ mod-eq_of_lt k)
on_periodic n (suc (suc (suc t))) a h k = absurd (omega arith)

still : (n t : ℕ) (w : ℤ) → t ≡ 1 → (w +ℤ shift n t) ≡ w
still n t w e = ap (λ (s : ℕ). w +ℤ shift n s) e ∙ omega (arith, ints)

pub home_of_turn : (wrap : Bool) (n t : ℕ) (w : ℤ) → is_turn wrap t ≡ true → t < 3 → pos 0 ≤ℤ w → w <ℤ pos n → wrapped wrap n (w +ℤ shift n t) ≡ w
home_of_turn true n t (pos a) turn h low high = on_periodic n t a h (omega (arith, ints))
home_of_turn true n t (negsuc a) turn h low high = absurd (omega (arith, ints))
home_of_turn false n t w turn h low high = still n t w (eqb-true t 1 turn)

-- at most one away from the coordinates from lo to hi, where a turn moves them
pub record IsReachedOn (wrap : Bool) (n : ℕ) (lo hi z : ℤ) (t : ℕ) : Type 0 where
  pub turn : is_turn wrap t ≡ true
  pub few : t < 3
  pub low : (lo -ℤ pos 1 +ℤ shift n t) ≤ℤ z
  pub high : z ≤ℤ (hi +ℤ pos 1 +ℤ shift n t)

-- one step from a coordinate leads to one that stands for one of them
pub record IsBesideOn (wrap : Bool) (n : ℕ) (lo hi z o : ℤ) : Type 0 where
  pub short_low : (pos 0 -ℤ pos 1) ≤ℤ o
  pub short_high : o ≤ℤ pos 1
  pub low : lo ≤ℤ wrapped wrap n (z +ℤ o)
  pub high : wrapped wrap n (z +ℤ o) ≤ℤ hi

pub record SomeTurn (wrap : Bool) (n : ℕ) (lo hi z : ℤ) : Type 0 where
  pub turn : ℕ
  pub is : IsReachedOn wrap n lo hi z turn

pub record SomeStep (wrap : Bool) (n : ℕ) (lo hi z : ℤ) : Type 0 where
  pub step : ℤ
  pub is : IsBesideOn wrap n lo hi z step

module _ (wrap : Bool) (n : ℕ) (lo hi z : ℤ) (from : pos 0 ≤ℤ lo) (to : hi <ℤ pos n) (z_low : pos 0 ≤ℤ z) (z_high : z <ℤ pos n) where
  -- from the place that the step leads to
  by_place : (o : ℤ) → IsBesideOn wrap n lo hi z o → (t : ℕ) (w : ℤ) → is_turn wrap t ≡ true → t < 3 → pos 0 ≤ℤ w → w <ℤ pos n → (z +ℤ o) ≡ (w +ℤ shift n t) → IsReachedOn wrap n lo hi z t
  by_place o b t w turn few w_low w_high e =
      let same : wrapped wrap n (z +ℤ o) ≡ w = ap (wrapped wrap n) e ∙ home_of_turn wrap n t w turn few w_low w_high in
      let low : lo ≤ℤ w = omega (arith, ints, same, b.low) in
      let high : w ≤ℤ hi = omega (arith, ints, same, b.high) in
      let ends = placed o (shift n t) w low high e b.short_low b.short_high in
      record { turn = turn; few = few; low = ends.0; high = ends.1 }
    where
      placed : (o s w : ℤ) → lo ≤ℤ w → w ≤ℤ hi → (z +ℤ o) ≡ (w +ℤ s) → (pos 0 -ℤ pos 1) ≤ℤ o → o ≤ℤ pos 1 → ((lo -ℤ pos 1 +ℤ s) ≤ℤ z) × (z ≤ℤ (hi +ℤ pos 1 +ℤ s))
      placed o s w low high e s_low s_high = (omega (arith, ints), omega (arith, ints))

module _ (n : ℕ) (lo hi z : ℤ) (from : pos 0 ≤ℤ lo) (to : hi <ℤ pos n) (z_low : pos 0 ≤ℤ z) (z_high : z <ℤ pos n) where
  periodic : (o y : ℤ) → (z +ℤ o) ≡ y → IsBesideOn true n lo hi z o → SomeTurn true n lo hi z
  periodic o (pos a) e b = choose (nat_lt a n) refl
    where
      choose : (t : Bool) → nat_lt a n ≡ t → SomeTurn true n lo hi z
      choose true h =
          let below : a < n = ltb-true a n h in
          record { turn = 1; is = by_place true n lo hi z from to z_low z_high o b 1 (pos a) refl (omega arith) (omega (arith, ints)) (omega (arith, ints, below)) (e ∙ omega (arith, ints)) }
      choose false h =
          let above : n ≤ a = ltb-false a n h in
          record { turn = 2; is = by_place true n lo hi z from to z_low z_high o b 2 (pos 0) refl (omega arith) (omega (arith, ints)) (omega (arith, ints)) (omega (arith, ints, e, above, b.short_high)) }
  periodic o (negsuc a) e b =
      record { turn = 0; is = by_place true n lo hi z from to z_low z_high o b 0 (pos n -ℤ pos 1) refl (omega arith) (omega (arith, ints)) (omega (arith, ints)) (omega (arith, ints, e, b.short_low)) }

  open_axis : (o : ℤ) → IsBesideOn false n lo hi z o → SomeTurn false n lo hi z
  open_axis o b = record { turn = 1; is = record { turn = refl; few = omega arith; low = omega (arith, ints, b.low, b.short_high); high = omega (arith, ints, b.high, b.short_low) } }

  pub turn_of : (wrap : Bool) (o : ℤ) → IsBesideOn wrap n lo hi z o → SomeTurn wrap n lo hi z
  turn_of true o b = periodic o (z +ℤ o) refl b
  turn_of false o b = open_axis o b

  -- from a place of the box one step back
  one_step : (wrap : Bool) (t : ℕ) (o w : ℤ) → is_turn wrap t ≡ true → t < 3 → lo ≤ℤ w → w ≤ℤ hi → (z +ℤ o) ≡ (w +ℤ shift n t) → (pos 0 -ℤ pos 1) ≤ℤ o → o ≤ℤ pos 1 → SomeStep wrap n lo hi z
  one_step wrap t o w turn few low high e s_low s_high =
      let same : wrapped wrap n (z +ℤ o) ≡ w = ap (wrapped wrap n) e ∙ home_of_turn wrap n t w turn few (omega (arith, ints)) (omega (arith, ints)) in
      record { step = o; is = record { short_low = s_low; short_high = s_high; low = at_least (wrapped wrap n (z +ℤ o)) w same low; high = at_most (wrapped wrap n (z +ℤ o)) w same high } }
    where
      at_least : (u w : ℤ) → u ≡ w → lo ≤ℤ w → lo ≤ℤ u
      at_least u w e h = omega (arith, ints)

      at_most : (u w : ℤ) → u ≡ w → w ≤ℤ hi → u ≤ℤ hi
      at_most u w e h = omega (arith, ints)

  pub step_of : (wrap : Bool) (t : ℕ) → lo ≤ℤ hi → IsReachedOn wrap n lo hi z t → SomeStep wrap n lo hi z
  step_of wrap t wide r = by_shift (shift n t) refl
    where
      by_shift : (s : ℤ) → shift n t ≡ s → SomeStep wrap n lo hi z
      by_shift s e = below (int_lt (z -ℤ s) lo) refl
        where
          r_low : (lo -ℤ pos 1 +ℤ s) ≤ℤ z
          r_low = subst (λ (u : ℤ). (lo -ℤ pos 1 +ℤ u) ≤ℤ z) e r.low

          r_high : z ≤ℤ (hi +ℤ pos 1 +ℤ s)
          r_high = subst (λ (u : ℤ). z ≤ℤ (hi +ℤ pos 1 +ℤ u)) e r.high

          back : (o w : ℤ) → (z +ℤ o) ≡ (w +ℤ s) → (z +ℤ o) ≡ (w +ℤ shift n t)
          back o w k = k ∙ ap (λ (u : ℤ). w +ℤ u) (sym e)

          above : lo ≤ℤ (z -ℤ s) → (v : Bool) → int_lt hi (z -ℤ s) ≡ v → SomeStep wrap n lo hi z
          above h true g =
              let over : hi <ℤ (z -ℤ s) = below_from hi (z -ℤ s) g in
              one_step wrap t (pos 0 -ℤ pos 1) (z -ℤ s -ℤ pos 1) r.turn r.few (omega (arith, ints, over, wide)) (omega (arith, ints, r_high)) (back (pos 0 -ℤ pos 1) (z -ℤ s -ℤ pos 1) (omega (arith, ints))) (omega (arith, ints)) (omega (arith, ints))
          above h false g =
              let under : (z -ℤ s) ≤ℤ hi = not_below_from hi (z -ℤ s) g in
              one_step wrap t (pos 0) (z -ℤ s) r.turn r.few h under (back (pos 0) (z -ℤ s) (omega (arith, ints))) (omega (arith, ints)) (omega (arith, ints))

          below : (v : Bool) → int_lt (z -ℤ s) lo ≡ v → SomeStep wrap n lo hi z
          below true g =
              let under : (z -ℤ s) <ℤ lo = below_from (z -ℤ s) lo g in
              one_step wrap t (pos 1) (z -ℤ s +ℤ pos 1) r.turn r.few (omega (arith, ints, r_low)) (omega (arith, ints, under, wide)) (back (pos 1) (z -ℤ s +ℤ pos 1) (omega (arith, ints))) (omega (arith, ints)) (omega (arith, ints))
          below false g = above (not_below_from (z -ℤ s) lo g) (int_lt hi (z -ℤ s)) refl

-- ---- sizes

pub turn_small : (n t : ℕ) → n ≤ 4096 → t < 3 → n * t ≤ 8192
turn_small n zero h k = omega arith
turn_small n (suc zero) h k = omega arith
turn_small n (suc (suc zero)) h k = omega arith
turn_small n (suc (suc (suc t))) h k = absurd (omega arith)

pub turn_most : (n t : ℕ) → t < 3 → n * t ≤ n + n
turn_most n zero k = omega arith
turn_most n (suc zero) k = omega arith
turn_most n (suc (suc zero)) k = omega arith
turn_most n (suc (suc (suc t))) k = absurd (omega arith)

pub ruleset turns = (turn_small, turn_most)
