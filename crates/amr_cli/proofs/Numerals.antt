-- A numeral, as a fact and as a test.
use Rattle.std.proofs.Common.{◌≡◌, ℕ, ◌<◌, ◌&&◌, nat_le, le-leb, leb-true, is_some, option_and_then, true, List, [], ◌∷◌, length, Some, None, nat_lt, refl, ap, inl, inr, lt-ltb}
use Rattle.std.specs.List.{list_all}
use Rattle.std.specs.Char.{digit_value}
use Rattle.std.specs.Str.Parse.{AllDigits, IsNumeral, digits_value, without_leading_plus}
use Rattle.clap.specs.Words.{IsUnsignedIn}
use Rattle.amr_cli.specs.Numbers.{in_range, is_numeral, number_of}
use Rattle.std.proofs.lemmas.Bool.{cases_Bool, and_parts}
use borrow.Author.Tests.{ltb-true}

pub all_digits_test : (ds : List ℕ) → AllDigits 10 ds → list_all (λ d. nat_lt (digit_value d) 10) ds ≡ true
all_digits_test [] all = refl
all_digits_test (d ∷ ds) all = rw (lt-ltb (digit_value d) 10 all.0, all_digits_test ds all.1)

pub all_digits : (ds : List ℕ) → list_all (λ d. nat_lt (digit_value d) 10) ds ≡ true → AllDigits 10 ds
all_digits [] test = tt
all_digits (d ∷ ds) test =
    let parts = and_parts (nat_lt (digit_value d) 10) (list_all (λ d. nat_lt (digit_value d) 10) ds) test in
    (ltb-true (digit_value d) 10 parts.0, all_digits ds parts.1)

pub numeral_test : (ds : List ℕ) → IsNumeral 10 ds → is_numeral ds ≡ true
numeral_test ds is = rw (lt-ltb 0 (length ds) is.0, all_digits_test ds is.1)

pub numeral : (ds : List ℕ) → is_numeral ds ≡ true → IsNumeral 10 ds
numeral ds test =
    let parts = and_parts (nat_lt 0 (length ds)) (list_all (λ d. nat_lt (digit_value d) 10) ds) test in
    (ltb-true 0 (length ds) parts.0, all_digits ds parts.1)

pub number_some : (text : List ℕ) (n : ℕ) → IsNumeral 10 (without_leading_plus text) × (digits_value 10 (without_leading_plus text) < 18446744073709551616) → n ≡ digits_value 10 (without_leading_plus text) → Some n ≡ number_of text
number_some text n is same = rw (numeral_test (without_leading_plus text) is.0, lt-ltb (digits_value 10 (without_leading_plus text)) 18446744073709551616 is.1) (ap Some same)

pub number_none : (text : List ℕ) → (IsNumeral 10 (without_leading_plus text) × (digits_value 10 (without_leading_plus text) < 18446744073709551616) → ⊥) → None ≡ number_of text
number_none text not_number =
    let ds : List ℕ = without_leading_plus text in
    elim (cases_Bool (is_numeral ds && nat_lt (digits_value 10 ds) 18446744073709551616)) [
      | inl is_number ↦ let parts = and_parts (is_numeral ds) (nat_lt (digits_value 10 ds) 18446744073709551616) is_number in absurd (not_number (numeral ds parts.0, ltb-true (digits_value 10 ds) 18446744073709551616 parts.1))
      | inr not_so ↦ rw not_so
    ]

-- ---- what `clap` takes for a number is what this program reads as one

pub taken_is_read : (low high : ℕ) (text : List ℕ) → IsUnsignedIn low high text → is_some (option_and_then (in_range low high) (number_of text)) ≡ true
taken_is_read low high text is =
    let ds : List ℕ = without_leading_plus text in
    rw (numeral_test ds is.0, lt-ltb (digits_value 10 ds) 18446744073709551616 is.1, le-leb low (digits_value 10 ds) is.2, le-leb (digits_value 10 ds) high is.3) refl

pub read_is_taken : (low high : ℕ) (text : List ℕ) → is_some (option_and_then (in_range low high) (number_of text)) ≡ true → IsUnsignedIn low high text
read_is_taken low high text read =
    let ds : List ℕ = without_leading_plus text in
    let n : ℕ = digits_value 10 ds in
    elim (cases_Bool (is_numeral ds && nat_lt n 18446744073709551616)) [
      | inr other ↦ absurd (let none = rw other at read in cc)
      | inl number ↦ elim (cases_Bool (nat_le low n && nat_le n high)) [
        | inr outside ↦ absurd (let none = rw (number, outside) at read in cc)
        | inl inside ↦
            let parts = and_parts (is_numeral ds) (nat_lt n 18446744073709551616) number in
            let ends = and_parts (nat_le low n) (nat_le n high) inside in
            (numeral ds parts.0, ltb-true n 18446744073709551616 parts.1, leb-true low n ends.0, leb-true n high ends.1)
      ]
    ]
