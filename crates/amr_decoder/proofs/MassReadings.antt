-- Masses, read one after another.
use Rattle.std.proofs.Common.{◌≡◌, ℕ, ◌+◌, ◌-◌, ◌*◌, ◌/◌, ◌^◌, ◌<◌, ◌≤◌, pow_pos, mul_comm, mul_assoc, mul-add, Bool, true, false, List, [], ◌∷◌, ◌++◌, drop, refl, sym, ap, ◌∙◌, arith, drop-drop}
use Rattle.std.specs.Prelude.{nat_le, slice_index}
use Rattle.std.specs.Int.{Width, byte_len, from_le_bytes}
use Rattle.std.proofs.lemmas.Bool.{both_ways, le-leb, leb-true, lt-leb}
use Rattle.std.proofs.lemmas.Nat.{div-add-mod', le-div}
use Rattle.std.proofs.Math.Nat.{mul-le-mul_right}
use Rattle.std.proofs.lemmas.List.FromFn.{get_or-map-range_with_len, map-range_with_len_more}
use Rattle.amr_def.specs.declared.problem.Problem.{Problem}
use Rattle.amr_def.proofs.Courants.{four_power}
use Rattle.amr_payload.specs.Tests.{Left, bad, read, then_read, tested, read_also, after, is_mass, read_number, read_mass, read_masses}
use Rattle.amr_decoder.specs.Numbers.{number_at, numbers}
use Rattle.amr_decoder.proofs.Lists.{also_all, one_left}

pub after_more : (w : Width) (k : ℕ) (r m e : Left) → m ≡ after (byte_len w * k) r → after (byte_len w) m ≡ e → e ≡ after (byte_len w * (k + 1)) r
after_more w k r m e is rest =
    sym rest ∙ ap (after (byte_len w)) is
    ∙ (let place : r.place + byte_len w * k + byte_len w ≡ r.place + byte_len w * (k + 1) = omega arith in
    let count : byte_len w * k + byte_len w ≡ byte_len w * (k + 1) = omega arith in
    λ i. record { place = place i; bytes = (drop-drop (byte_len w) (byte_len w * k) r.bytes ∙ ap (λ n. drop n r.bytes) count) i })

module _ (w : Width) (p : Problem) (n l : ℕ) where
  pub mass_next : (count k m : ℕ) (r e : Left) → k < count → read_number w r ≡ read m e → is_mass p n l m ≡ true → read_masses w p n l (count - k) r ≡ read_also m (read_masses w p n l (count - (k + 1)) e)
  unfolding read_mass
  mass_next count k m r e inside first passes =
      ap (λ j. read_masses w p n l j r) (one_left count k inside)
      ∙ ap (λ q. then_read (then_read q (λ m a. tested (is_mass p n l m) r.place m a)) (λ m a. read_also m (read_masses w p n l (count - (k + 1)) a))) first
      ∙ ap (λ t. then_read (tested t r.place m e) (λ m a. read_also m (read_masses w p n l (count - (k + 1)) a))) passes

  pub mass_bad : (count k m : ℕ) (r e : Left) → k < count → read_number w r ≡ read m e → is_mass p n l m ≡ false → read_masses w p n l (count - k) r ≡ bad r.place
  unfolding read_mass
  mass_bad count k m r e inside first fails =
      ap (λ j. read_masses w p n l j r) (one_left count k inside)
      ∙ ap (λ q. then_read (then_read q (λ m a. tested (is_mass p n l m) r.place m a)) (λ m a. read_also m (read_masses w p n l (count - (k + 1)) a))) first
      ∙ ap (λ t. then_read (tested t r.place m e) (λ m a. read_also m (read_masses w p n l (count - (k + 1)) a))) fails

  pub mass_cut : (count k place : ℕ) (r : Left) → k < count → read_number w r ≡ bad place → read_masses w p n l (count - k) r ≡ bad place
  unfolding read_mass
  mass_cut count k place r inside first =
      ap (λ j. read_masses w p n l j r) (one_left count k inside)
      ∙ ap (λ q. then_read (then_read q (λ m a. tested (is_mass p n l m) r.place m a)) (λ m a. read_also m (read_masses w p n l (count - (k + 1)) a))) first

  pub masses_end : (count k : ℕ) (r : Left) → count - k ≡ 0 → read_masses w p n l (count - k) r ≡ read [] r
  masses_end count k r none = ap (λ j. read_masses w p n l j r) none

  pub none_yet : (count : ℕ) (r : Left) → read_masses w p n l count r ≡ also_all (numbers w 0 r.bytes) (read_masses w p n l (count - 0) r)
  unfolding numbers
  none_yet count r = let same : count ≡ count - 0 = omega arith in ap (λ j. read_masses w p n l j r) same

pub after_none : (w : Width) (r : Left) → r ≡ after (byte_len w * 0) r
after_none w r =
    let place : r.place ≡ r.place + byte_len w * 0 = omega arith in
    let zero_bytes : 0 ≡ byte_len w * 0 = omega arith in
    λ i. record { place = place i; bytes = drop (zero_bytes i) r.bytes }

-- ---- the greatest mass

same_test : (a b c d : ℕ) → (a ≤ b → c ≤ d) → (c ≤ d → a ≤ b) → nat_le a b ≡ nat_le c d
same_test a b c d there back = by_test (nat_le a b) refl
  where
    by_test : (t : Bool) → nat_le a b ≡ t → t ≡ nat_le c d
    by_test true e = sym (le-leb c d (there (leb-true a b e)))
    by_test false e = sym (lt-leb c d (above c d (λ h. both_ways (nat_le a b) e (le-leb a b (back h)))))
      where
        above : (c d : ℕ) → (c ≤ d → ⊥) → d < c
        above c d h = omega arith

below_shift : (k m bound : ℕ) → 0 < k → nat_le (k * m) bound ≡ nat_le m (bound / k)
below_shift k m bound some = same_test (k * m) bound m (bound / k)
    (λ h. le-div m bound k some (omega (arith, mul_comm k m)))
    (λ h. let part : m * k ≤ bound / k * k = mul-le-mul_right k h in omega (arith, mul_comm k m, part, div-add-mod' bound k))

pub greatest_is : (l m bound : ℕ) → l ≤ 4 → nat_le (4 ^ l * m) bound ≡ nat_le m (bound / 2 ^ (2 * l))
greatest_is l m bound h = ap (λ k. nat_le (k * m) bound) (sym (four_power l h)) ∙ below_shift (2 ^ (2 * l)) m bound (pow_pos (2 * l))

-- ---- numbers by their places

pub number_here : (w : Width) (from i : ℕ) (bytes : List ℕ) → from_le_bytes w (drop (from + byte_len w * i) bytes) ≡ number_at w (drop from bytes) i
number_here w from i bytes = ap (from_le_bytes w) (sym (drop-drop (byte_len w * i) from bytes))

pub numbers_push : (w : Width) (k : ℕ) (bytes : List ℕ) → numbers w k bytes ++ number_at w bytes k ∷ [] ≡ numbers w (k + 1) bytes
unfolding numbers
numbers_push w k bytes = sym (map-range_with_len_more (number_at w bytes) 0 k k (omega arith))

pub numbers_at : (w : Width) (n i : ℕ) (bytes : List ℕ) → i < n → slice_index (numbers w n bytes) i ≡ number_at w bytes i
unfolding numbers
numbers_at w n i bytes h = get_or-map-range_with_len (number_at w bytes) 0 n i i 0 h (omega arith)

pub row_number : (w : Width) (from columns j i : ℕ) (bytes : List ℕ) → number_at w (drop (from + byte_len w * columns * j) bytes) i ≡ number_at w (drop from bytes) (j * columns + i)
row_number w from columns j i bytes =
    let same : from + byte_len w * columns * j + byte_len w * i ≡ from + byte_len w * (j * columns + i) = place (byte_len w) in
    sym (number_here w (from + byte_len w * columns * j) i bytes) ∙ ap (λ n. from_le_bytes w (drop n bytes)) same ∙ number_here w from (j * columns + i) bytes
  where
    place : (len : ℕ) → from + len * columns * j + len * i ≡ from + len * (j * columns + i)
    place len = omega (arith, mul_assoc len columns j, mul_comm columns j, mul-add len (j * columns) i)
