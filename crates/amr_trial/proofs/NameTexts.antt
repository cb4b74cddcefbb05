-- The name of a trial's problem: its bytes are those of a name, so TOML writes it between quotes as it is.
use Rattle.std.proofs.Common.{◌≡◌, ℕ, ◌+◌, ◌%◌, ◌<◌, ◌^◌, Bool, true, false, ◌==◌, List, [], ◌∷◌, ◌++◌, refl, ap, arith}
use Rattle.std.specs.Prelude.{codes, decimal}
use Rattle.std.specs.List.{list_all, list_any}
use Rattle.std.proofs.lemmas.Bool.{and_parts}
use Rattle.std.proofs.lemmas.Bool.Decides.{nat_tests}
use Rattle.std.proofs.lemmas.Fmt.{decimal_by_steps}
use Rattle.amr_def.specs.Limits.{is_name_byte}
use Rattle.toml.specs.Data.{string}
use Rattle.toml.specs.Text.{IsValueText}
use Rattle.toml_writer.specs.Text.{encoding_of, escaped, is_control, needs_escape, quotes_after, string_text}
use Rattle.amr_trial.specs.Document.{trial_name}

-- ---- which bytes

abbrev pub AreNameBytes : List ℕ → Type 0
AreNameBytes bs = list_all is_name_byte bs ≡ true

pub names_append : (a b : List ℕ) → AreNameBytes a → AreNameBytes b → AreNameBytes (a ++ b)
names_append [] b is_a is_b = is_b
names_append (c ∷ a) b is_a is_b =
    let (here, rest) = and_parts (is_name_byte c) (list_all is_name_byte a) is_a in
    rw here (names_append a b rest is_b)

digit_is_name : (n : ℕ) → n < 10 → is_name_byte (48 + n) ≡ true
digit_is_name n small = grind (arith, nat_tests)

one_digit : (n : ℕ) → n < 10 → AreNameBytes ((48 + n) ∷ [])
one_digit n small = rw (digit_is_name n small) refl

pub decimal_is_name : (n : ℕ) → n < 2 ^ 64 → AreNameBytes (decimal n)
decimal_is_name n small = decimal_by_steps (λ n ds. AreNameBytes ds) one_digit (λ n ds large is. names_append ds ((48 + n % 10) ∷ []) is (one_digit (n % 10) (omega arith))) n small

pub trial_name_bytes : (number size : ℕ) → number < 2 ^ 64 → size < 2 ^ 64 → AreNameBytes (trial_name number size)
trial_name_bytes number size small few =
    names_append (codes "trial-" ++ decimal number ++ codes "-") (decimal size)
    (names_append (codes "trial-" ++ decimal number) (codes "-") (names_append (codes "trial-") (decimal number) refl (decimal_is_name number small)) refl)
    (decimal_is_name size few)

-- ---- between quotes

plain_byte : (c : ℕ) → is_name_byte c ≡ true → (is_control c ≡ false) × ((c == 92) ≡ false) × ((c == 34) ≡ false) × ((c == 10) ≡ false)
plain_byte c e = (grind (arith, nat_tests), grind (arith, nat_tests), grind (arith, nat_tests), grind (arith, nat_tests))

none_of : (p : ℕ → Bool) → ((c : ℕ) → is_name_byte c ≡ true → p c ≡ false) → (s : List ℕ) → AreNameBytes s → list_any p s ≡ false
none_of p never [] e = refl
none_of p never (c ∷ s) e =
    let (here, rest) = and_parts (is_name_byte c) (list_all is_name_byte s) e in
    rw (never c here) (none_of p never s rest)

not_escaped : (c : ℕ) → is_name_byte c ≡ true → (needs_escape false 0 c ≡ false) × (quotes_after false 0 c ≡ 0)
unfolding needs_escape quotes_after
not_escaped c e = (grind (arith, nat_tests), rw ((plain_byte c e).2) refl)

as_it_is : (s : List ℕ) → AreNameBytes s → escaped false 0 s ≡ s
unfolding escaped
as_it_is [] e = refl
as_it_is (c ∷ s) e =
    let (here, rest) = and_parts (is_name_byte c) (list_all is_name_byte s) e in
    let (plain, quotes) = not_escaped c here in
    rw (plain, quotes) (ap (λ (l : List ℕ). c ∷ l) (as_it_is s rest))

pub name_text : (s : List ℕ) → AreNameBytes s → IsValueText false (string s) (codes "\"" ++ s ++ codes "\"")
unfolding string_text encoding_of
name_text s e =
    let control = none_of is_control (λ c is. (plain_byte c is).0) s e in
    let backslashes = none_of (λ x. x == 92) (λ c is. (plain_byte c is).1) s e in
    let quotes = none_of (λ x. x == 34) (λ c is. (plain_byte c is).2) s e in
    let newlines = none_of (λ x. x == 10) (λ c is. (plain_byte c is).3) s e in
    rw (control, backslashes, quotes, newlines, as_it_is s e) refl
