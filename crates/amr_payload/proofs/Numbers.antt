-- A number of 8, 32 or 64 bits is read back from its bytes.
use Rattle.std.proofs.Common.{◌≡◌, ℕ, zero, suc, ◌+◌, ◌*◌, ◌%◌, ◌^◌, ◌<◌, ◌≤◌, inl, inr, true, List, [], ◌∷◌, ◌++◌, length, length-append, drop, get_or, refl, sym, ap, subst, arith}
use Rattle.std.specs.Prelude.{nat_le}
use Rattle.std.specs.Int.{Width, w8, w32, w64, byte_len, to_le_bytes, from_le_bytes}
use Rattle.std.proofs.lemmas.Nat.{le_bytes_4, le_bytes_8, from_le_bytes-to_le_bytes_4, from_le_bytes-to_le_bytes_8}
use Rattle.std.proofs.lemmas.Bool.{le-leb, leb-true}
use Rattle.amr_payload.specs.Payload.{IsMassWidth, number_bytes}
use Rattle.amr_payload.specs.Tests.{Left, read, tested, after, read_number}
use Rattle.amr_payload.proofs.Readings.{left, AreBytes, Took, Gives, was_tested, took_same}

-- numbers below a limit are read back, and what is read is written back
pub record IsCode (w : Width) (limit : ℕ) : Type 0 where
  pub gives : (n k : ℕ) (bs : List ℕ) → n < limit → Gives (read_number w (left k (number_bytes w n ++ bs))) n bs
  pub took : (r e : Left) (n : ℕ) → AreBytes r.bytes → read_number w r ≡ read n e → Took (number_bytes w n) r e
  pub len : (n : ℕ) → length (number_bytes w n) ≡ byte_len w

-- ---- 8 bits

back_8 : (n : ℕ) → n < 256 → from_le_bytes w8 (to_le_bytes w8 n) ≡ n
back_8 n fits = omega arith

forth_8 : (xs : List ℕ) → 1 ≤ length xs → AreBytes xs → (xs ≡ to_le_bytes w8 (from_le_bytes w8 xs) ++ drop 1 xs) × AreBytes (drop 1 xs)
forth_8 [] h s = absurd (omega arith)
forth_8 (a ∷ xs) h s = let same : a ≡ from_le_bytes w8 (a ∷ xs) % 256 = omega arith in (ap (λ b. b ∷ xs) same, s.1)

-- ---- 32 bits

small_4 : (a b c d : ℕ) → a < 256 → b < 256 → c < 256 → d < 256 → (i : ℕ) → get_or (a ∷ b ∷ c ∷ d ∷ []) i 0 < 256
small_4 a b c d a' b' c' d' zero = a'
small_4 a b c d a' b' c' d' (suc zero) = b'
small_4 a b c d a' b' c' d' (suc (suc zero)) = c'
small_4 a b c d a' b' c' d' (suc (suc (suc zero))) = d'
small_4 a b c d a' b' c' d' (suc (suc (suc (suc i)))) = omega arith

forth_32 : (xs : List ℕ) → 4 ≤ length xs → AreBytes xs → (xs ≡ to_le_bytes w32 (from_le_bytes w32 xs) ++ drop 4 xs) × AreBytes (drop 4 xs)
forth_32 [] h s = absurd (omega arith)
forth_32 (a ∷ []) h s = absurd (omega arith)
forth_32 (a ∷ b ∷ []) h s = absurd (omega arith)
forth_32 (a ∷ b ∷ c ∷ []) h s = absurd (omega arith)
forth_32 (a ∷ b ∷ c ∷ d ∷ xs) h s =
    (sym (ap (λ bs. bs ++ xs) (le_bytes_4 (a ∷ b ∷ c ∷ d ∷ []) (from_le_bytes w32 (a ∷ b ∷ c ∷ d ∷ xs)) refl (small_4 a b c d s.0 s.1.0 s.1.1.0 s.1.1.1.0) refl)), s.1.1.1.1)

-- ---- 64 bits

small_8 : (a b c d e f g h : ℕ) → a < 256 → b < 256 → c < 256 → d < 256 → e < 256 → f < 256 → g < 256 → h < 256 → (i : ℕ) → get_or (a ∷ b ∷ c ∷ d ∷ e ∷ f ∷ g ∷ h ∷ []) i 0 < 256
small_8 a b c d e f g h a' b' c' d' e' f' g' h' zero = a'
small_8 a b c d e f g h a' b' c' d' e' f' g' h' (suc zero) = b'
small_8 a b c d e f g h a' b' c' d' e' f' g' h' (suc (suc zero)) = c'
small_8 a b c d e f g h a' b' c' d' e' f' g' h' (suc (suc (suc zero))) = d'
small_8 a b c d e f g h a' b' c' d' e' f' g' h' (suc (suc (suc (suc i)))) = small_4 e f g h e' f' g' h' i

forth_64 : (xs : List ℕ) → 8 ≤ length xs → AreBytes xs → (xs ≡ to_le_bytes w64 (from_le_bytes w64 xs) ++ drop 8 xs) × AreBytes (drop 8 xs) × (from_le_bytes w64 xs < 2 ^ 64)
forth_64 [] h s = absurd (omega arith)
forth_64 (a ∷ []) h s = absurd (omega arith)
forth_64 (a ∷ b ∷ []) h s = absurd (omega arith)
forth_64 (a ∷ b ∷ c ∷ []) h s = absurd (omega arith)
forth_64 (a ∷ b ∷ c ∷ d ∷ []) h s = absurd (omega arith)
forth_64 (a ∷ b ∷ c ∷ d ∷ e ∷ []) h s = absurd (omega arith)
forth_64 (a ∷ b ∷ c ∷ d ∷ e ∷ f ∷ []) h s = absurd (omega arith)
forth_64 (a ∷ b ∷ c ∷ d ∷ e ∷ f ∷ g ∷ []) h s = absurd (omega arith)
forth_64 (a ∷ b ∷ c ∷ d ∷ e ∷ f ∷ g ∷ k ∷ xs) h s = (
  sym (ap (λ bs. bs ++ xs) (le_bytes_8 (a ∷ b ∷ c ∷ d ∷ e ∷ f ∷ g ∷ k ∷ []) (from_le_bytes w64 (a ∷ b ∷ c ∷ d ∷ e ∷ f ∷ g ∷ k ∷ xs)) refl (small_8 a b c d e f g k s.0 s.1.0 s.1.1.0 s.1.1.1.0 s.1.1.1.1.0 s.1.1.1.1.1.0 s.1.1.1.1.1.1.0 s.1.1.1.1.1.1.1.0) refl)),
  s.1.1.1.1.1.1.1.1,
  below a b c d e f g k s.0 s.1.0 s.1.1.0 s.1.1.1.0 s.1.1.1.1.0 s.1.1.1.1.1.0 s.1.1.1.1.1.1.0 s.1.1.1.1.1.1.1.0,
)
  where
    below : (a b c d e f g h : ℕ) → a < 256 → b < 256 → c < 256 → d < 256 → e < 256 → f < 256 → g < 256 → h < 256 → a + b * 256 + c * 65536 + d * 16777216 + e * 4294967296 + f * 1099511627776 + g * 281474976710656 + h * 72057594037927936 < 2 ^ 64
    below a b c d e f g h a' b' c' d' e' f' g' h' = omega arith

-- ---- codes

long : (n : ℕ) (bs : List ℕ) (xs : List ℕ) → length xs ≡ n → nat_le n (length (xs ++ bs)) ≡ true
long n bs xs h = le-leb n (length (xs ++ bs)) (omega (arith, length-append xs bs))

pub code_8 : IsCode w8 256
unfolding number_bytes read_number
code_8 = record {
  gives = λ n k bs fits. record { place = k + 1; is = (λ i. tested (le-leb 1 (length (to_le_bytes w8 n ++ bs)) (omega arith) i) k (back_8 n fits i) (left (k + 1) bs)) };
  took = λ r e n small h.
      let t = was_tested (nat_le 1 (length r.bytes)) r.place (from_le_bytes w8 r.bytes) n (after 1 r) e h in
      let f = forth_8 r.bytes (leb-true 1 (length r.bytes) t.passes) small in
      took_same (to_le_bytes w8 (from_le_bytes w8 r.bytes)) (to_le_bytes w8 n) r (after 1 r) e (ap (λ m. to_le_bytes w8 m) t.value) t.rest (record { is = f.0; small = f.1 });
  len = λ n. refl;
}

pub code_32 : IsCode w32 (2 ^ 32)
unfolding number_bytes read_number
code_32 = record {
  gives = λ n k bs fits. record { place = k + 4; is = (λ i. tested (le-leb 4 (length (to_le_bytes w32 n ++ bs)) (omega arith) i) k (from_le_bytes-to_le_bytes_4 n fits i) (left (k + 4) bs)) };
  took = λ r e n small h.
      let t = was_tested (nat_le 4 (length r.bytes)) r.place (from_le_bytes w32 r.bytes) n (after 4 r) e h in
      let f = forth_32 r.bytes (leb-true 4 (length r.bytes) t.passes) small in
      took_same (to_le_bytes w32 (from_le_bytes w32 r.bytes)) (to_le_bytes w32 n) r (after 4 r) e (ap (λ m. to_le_bytes w32 m) t.value) t.rest (record { is = f.0; small = f.1 });
  len = λ n. refl;
}

pub code_64 : IsCode w64 (2 ^ 64)
unfolding number_bytes read_number
code_64 = record {
  gives = λ n k bs fits. record { place = k + 8; is = (λ i. tested (le-leb 8 (length (to_le_bytes w64 n ++ bs)) (omega arith) i) k (from_le_bytes-to_le_bytes_8 n fits i) (left (k + 8) bs)) };
  took = λ r e n small h.
      let t = was_tested (nat_le 8 (length r.bytes)) r.place (from_le_bytes w64 r.bytes) n (after 8 r) e h in
      let f = forth_64 r.bytes (leb-true 8 (length r.bytes) t.passes) small in
      took_same (to_le_bytes w64 (from_le_bytes w64 r.bytes)) (to_le_bytes w64 n) r (after 8 r) e (ap (λ m. to_le_bytes w64 m) t.value) t.rest (record { is = f.0; small = f.1 });
  len = λ n. refl;
}

-- a number that is read from 64 bits is below 2^64
pub below_64 : (r e : Left) (n : ℕ) → AreBytes r.bytes → read_number w64 r ≡ read n e → n < 2 ^ 64
unfolding read_number
below_64 r e n small h =
    let t = was_tested (nat_le 8 (length r.bytes)) r.place (from_le_bytes w64 r.bytes) n (after 8 r) e h in
    subst (λ (m : ℕ). m < 2 ^ 64) t.value (forth_64 r.bytes (leb-true 8 (length r.bytes) t.passes) small).2

-- masses of either width
pub mass_code : (w : Width) → IsMassWidth w → IsCode w (2 ^ 32)
mass_code w (inl is) = subst (λ (w : Width). IsCode w (2 ^ 32)) (sym is) (record {
  gives = λ n k bs fits. code_64.gives n k bs (omega arith);
  took = code_64.took;
  len = code_64.len;
})
mass_code w (inr is) = subst (λ (w : Width). IsCode w (2 ^ 32)) (sym is) code_32
