-- Texts of ASCII, and how long they are at most.
use Rattle.std.proofs.Common.{◌≡◌, ℕ, zero, suc, ◌+◌, ◌*◌, ◌^◌, ◌<◌, ◌≤◌, true, List, [], ◌∷◌, ◌++◌, length, length-append, map, nat_lt, refl, arith}
use Rattle.std.specs.Prelude.{codes, decimal}
use Rattle.std.specs.List.{flat_map, list_all}
use Rattle.std.specs.Str.{IsAscii}
use Rattle.std.proofs.lemmas.Bool.{and_parts}
use Rattle.std.proofs.lemmas.Bool.Decides.{nat_tests}
use Rattle.std.proofs.lemmas.Fmt.{IsAscii-decimal, length-decimal-le}
use Rattle.std.proofs.lemmas.Str.{IsAscii-append}
use Rattle.amr_def.specs.Plot.{line}
use Rattle.amr_trial.specs.Trial.{array}

-- ASCII of at most k bytes
pub record IsPlain (k : ℕ) (bs : List ℕ) : Type 0 where
  pub ascii : IsAscii bs
  pub short : length bs ≤ k

pub plain_append : (j k : ℕ) (a b : List ℕ) → IsPlain j a → IsPlain k b → IsPlain (j + k) (a ++ b)
plain_append j k a b is_a is_b = record { ascii = IsAscii-append a b is_a.ascii is_b.ascii; short = omega (arith, length-append a b, is_a.short, is_b.short) }

pub plain_longer : (j k : ℕ) (bs : List ℕ) → j ≤ k → IsPlain j bs → IsPlain k bs
plain_longer j k bs more is = record { ascii = is.ascii; short = omega (arith, more, is.short) }

pub plain_number : (k n : ℕ) → 0 < k → n < 10 ^ k → n < 2 ^ 64 → IsPlain k (decimal n)
plain_number k n some below small = record { ascii = IsAscii-decimal n small; short = length-decimal-le k n some below small }

ascii_bytes : (bs : List ℕ) → list_all (λ b. nat_lt b 128) bs ≡ true → IsAscii bs
ascii_bytes [] e i = omega arith
ascii_bytes (b ∷ bs) e zero = let small = (and_parts (nat_lt b 128) (list_all (λ b. nat_lt b 128) bs) e).0 in grind (arith, nat_tests)
ascii_bytes (b ∷ bs) e (suc i) = ascii_bytes bs (and_parts (nat_lt b 128) (list_all (λ b. nat_lt b 128) bs) e).1 i

-- a text that is given whole
pub plain_codes : (bs : List ℕ) → list_all (λ b. nat_lt b 128) bs ≡ true → IsPlain (length bs) bs
plain_codes bs e = record { ascii = ascii_bytes bs e; short = omega arith }

pub plain_line : (k : ℕ) (bs : List ℕ) → IsPlain k bs → IsPlain (k + 1) (line bs)
plain_line k bs is = plain_append k 1 bs (10 ∷ []) is (plain_codes (10 ∷ []) refl)

-- ---- arrays

abbrev pub ArePlain : ℕ → List (List ℕ) → Type 0
ArePlain k [] = Unit {0}
ArePlain k (w ∷ ws) = IsPlain k w × ArePlain k ws

plain_others : (k : ℕ) (ws : List (List ℕ)) → ArePlain k ws → IsPlain ((k + 2) * length ws) (flat_map (λ w. codes ", " ++ w) ws)
plain_others k [] are = record { ascii = ascii_bytes [] refl; short = omega arith }
plain_others k (w ∷ ws) are =
    let one = plain_append 2 k (codes ", ") w (plain_codes (codes ", ") refl) are.0 in
    let both = plain_append (2 + k) ((k + 2) * length ws) (codes ", " ++ w) (flat_map (λ w. codes ", " ++ w) ws) one (plain_others k ws are.1) in
    plain_longer (2 + k + (k + 2) * length ws) ((k + 2) * suc (length ws)) (flat_map (λ w. codes ", " ++ w) (w ∷ ws)) (grind arith) both

pub plain_array : (k : ℕ) (w : List ℕ) (ws : List (List ℕ)) → IsPlain k w → ArePlain k ws → IsPlain (1 + (k + (k + 2) * length ws) + 1) (array (w ∷ ws))
plain_array k w ws is are =
    let others : List ℕ = flat_map (λ w. codes ", " ++ w) ws in
    let open_part = plain_append 1 (k + (k + 2) * length ws) (codes "[") (w ++ others) (plain_codes (codes "[") refl) (plain_append k ((k + 2) * length ws) w others is (plain_others k ws are)) in
    plain_append (1 + (k + (k + 2) * length ws)) 1 (codes "[" ++ (w ++ others)) (codes "]") open_part (plain_codes (codes "]") refl)

pub plain_map : {A : Type 0} (k : ℕ) (f : A → List ℕ) (xs : List A) → ((x : A) → IsPlain k (f x)) → ArePlain k (map f xs)
plain_map k f [] h = tt
plain_map k f (x ∷ xs) h = (h x, plain_map k f xs h)
