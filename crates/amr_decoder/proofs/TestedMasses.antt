-- Masses, read in one pass over their bytes.
use Rattle.std.proofs.Common.{◌≡◌, ℕ, zero, suc, ◌+◌, ◌-◌, ◌*◌, ◌<◌, ◌≤◌, add-one, get_or, true, inl, inr, List, length, ap, ◌∙◌, arith, length-drop}
use Rattle.std.specs.Prelude.{nat_le}
use Rattle.std.specs.Int.{Width, byte_len, from_le_bytes}
use Rattle.std.proofs.lemmas.List.FromFn.{fill_by_all}
use Rattle.std.proofs.Math.Nat.{mul-le-mul_left}
use Rattle.std.proofs.lemmas.Bool.{le-leb, lt-leb}
use Rattle.amr_def.specs.declared.problem.Problem.{Problem}
use Rattle.amr_payload.specs.Tests.{Left, bad, read, tested, after, is_mass, read_number, read_masses}
use Rattle.amr_decoder.specs.Numbers.{IsNoMass, number_at, numbers}
use Rattle.amr_decoder.proofs.Lists.{all_read, also_all, also_bad, more}
use Rattle.amr_decoder.proofs.MassReadings.{after_more, after_none, mass_bad, mass_cut, mass_next, masses_end, none_yet, numbers_push}

-- ---- a number at its place

number_there : (w : Width) (k : ℕ) (r : Left) → byte_len w * (k + 1) ≤ length r.bytes → read_number w (after (byte_len w * k) r) ≡ read (number_at w r.bytes k) (after (byte_len w * (k + 1)) r)
unfolding read_number
number_there w k r inside =
    let m = after (byte_len w * k) r in
    ap (λ t. tested t m.place (from_le_bytes w m.bytes) (after (byte_len w) m)) (le-leb (byte_len w) (length m.bytes) (omega (arith, length-drop (byte_len w * k) r.bytes)))
    ∙ ap (λ (e : Left). read (number_at w r.bytes k) e) (after_more w k r m (after (byte_len w) m) (λ i. m) (λ i. after (byte_len w) m))

number_short : (w : Width) (k : ℕ) (r : Left) → byte_len w * k ≤ length r.bytes → length r.bytes < byte_len w * (k + 1) → read_number w (after (byte_len w * k) r) ≡ bad (r.place + byte_len w * k)
unfolding read_number
number_short w k r inside short =
    let m = after (byte_len w * k) r in
    let more : byte_len w * (k + 1) ≡ byte_len w * k + byte_len w = omega arith in
    ap (λ t. tested t m.place (from_le_bytes w m.bytes) (after (byte_len w) m)) (lt-leb (byte_len w) (length m.bytes) (omega (arith, length-drop (byte_len w * k) r.bytes, inside, more)))

-- ---- masses one after the other

module _ (w : Width) (p : Problem) (n l : ℕ) where
  -- those that lie inside and are within the bound are read
  masses_run : (count k : ℕ) (r : Left) → k ≤ count → byte_len w * k ≤ length r.bytes → ((i : ℕ) → i < k → is_mass p n l (number_at w r.bytes i) ≡ true) → read_masses w p n l count r ≡ also_all (numbers w k r.bytes) (read_masses w p n l (count - k) (after (byte_len w * k) r))
  masses_run count zero r most inside pass = none_yet w p n l count r ∙ ap (λ (e : Left). also_all (numbers w 0 r.bytes) (read_masses w p n l (count - 0) e)) (after_none w r)
  masses_run count (suc k) r most inside pass =
      let next : k + 1 ≡ suc k = add-one k in
      let part : byte_len w * k ≤ byte_len w * suc k = mul-le-mul_left (byte_len w) (omega arith) in
      let there : byte_len w * (k + 1) ≤ length r.bytes = omega (arith, inside, ap (λ j. byte_len w * j) next) in
      more (read_masses w p n l count r) (numbers w k r.bytes) (number_at w r.bytes k) (read_masses w p n l (count - k) (after (byte_len w * k) r)) (read_masses w p n l (count - (k + 1)) (after (byte_len w * (k + 1)) r))
      (masses_run count k r (omega arith) (omega (arith, part, inside)) (λ i h. pass i (omega arith)))
      (mass_next w p n l count k (number_at w r.bytes k) (after (byte_len w * k) r) (after (byte_len w * (k + 1)) r) (omega arith) (number_there w k r there) (pass k (omega arith)))
      ∙ ap (λ (ms : List ℕ). also_all ms (read_masses w p n l (count - (k + 1)) (after (byte_len w * (k + 1)) r))) (numbers_push w k r.bytes)
      ∙ ap (λ j. also_all (numbers w j r.bytes) (read_masses w p n l (count - j) (after (byte_len w * j) r))) next

  -- masses one after the other, none of which is greater than the greatest
  module _ (greatest count k : ℕ) (r : Left) (test : (m : ℕ) → is_mass p n l m ≡ nat_le m greatest) (most : k ≤ count) (inside : byte_len w * k ≤ length r.bytes) (within : (i : ℕ) → i < k → number_at w r.bytes i ≤ greatest) where
    so_far : read_masses w p n l count r ≡ also_all (numbers w k r.bytes) (read_masses w p n l (count - k) (after (byte_len w * k) r))
    so_far = masses_run count k r most inside (λ i h. test (number_at w r.bytes i) ∙ le-leb (number_at w r.bytes i) greatest (within i h))

    pub tested_read : k ≡ count → read_masses w p n l count r ≡ read (numbers w k r.bytes) (after (byte_len w * k) r)
    tested_read all =
        all_read (read_masses w p n l count r) (numbers w k r.bytes) (read_masses w p n l (count - k) (after (byte_len w * k) r)) (after (byte_len w * k) r) so_far
        (masses_end w p n l count k (after (byte_len w * k) r) (omega arith))

    pub tested_bad : k < count → IsNoMass w greatest r.bytes k → read_masses w p n l count r ≡ bad (r.place + byte_len w * k)
    tested_bad few stop = so_far ∙ ap (also_all (numbers w k r.bytes)) (stopped stop) ∙ also_bad (numbers w k r.bytes) (r.place + byte_len w * k)
      where
        stopped : IsNoMass w greatest r.bytes k → read_masses w p n l (count - k) (after (byte_len w * k) r) ≡ bad (r.place + byte_len w * k)
        stopped (inl short) = mass_cut w p n l count k (r.place + byte_len w * k) (after (byte_len w * k) r) few (number_short w k r inside short)
        stopped (inr over) =
            mass_bad w p n l count k (number_at w r.bytes k) (after (byte_len w * k) r) (after (byte_len w * (k + 1)) r) few (number_there w k r over.0)
            (test (number_at w r.bytes k) ∙ lt-leb (number_at w r.bytes k) greatest over.1)

-- ---- a row of numbers, written one by one

pub all_numbers : (w : Width) (n : ℕ) (bytes row : List ℕ) → length row ≡ n → ((k : ℕ) → k < n → get_or row k 0 ≡ number_at w bytes k) → row ≡ numbers w n bytes
unfolding numbers
all_numbers w n bytes row long each = fill_by_all (number_at w bytes) row n 0 long each
