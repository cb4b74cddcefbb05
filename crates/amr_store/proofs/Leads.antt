-- What stands before the slots: the problem, and in version 3 the number of records behind a base.
use Rattle.std.proofs.Common.{◌≡◌, inl, inr, ℕ, ◌+◌, ◌≤◌, ◌<◌, ◌==◌, nat_le, nat_lt, Bool, true, false, ◌&&◌, ◌||◌, List, length, refl, ◌∙◌, ap, arith}
use Rattle.std.proofs.lemmas.Bool.{cases_Bool, ltb-false, le-ltb, leb-false, lt-leb, or_parts, or_from, eqb-true}
use Rattle.std.specs.Prelude.{slice_index, if◌then◌else◌}
use Rattle.amr_store.specs.Layout.{magic_1, magic_3, version_by, long_at, text_length, lead_of}
use Rattle.amr_store.specs.Stored.{has_magic_3, deltas_of, has_bad_deltas}

-- the version of a magic that is not the third one
pub other_version : (magic : ℕ) → (magic == magic_3) ≡ false → (version_by magic == 3) ≡ false
other_version magic other = elim (cases_Bool (magic == magic_1)) [
  | inl one ↦ rw one refl
  | inr none ↦ rw (none, other) refl
]

pub third_version : (magic : ℕ) → (magic == magic_3) ≡ true → (version_by magic == 3) ≡ true
third_version magic is = ap (λ (m : ℕ). version_by m == 3) (eqb-true magic magic_3 is)

pub lead_third : (image : List ℕ) → has_magic_3 image ≡ true → lead_of image ≡ text_length image + 1
lead_third image is = ap (λ (b : Bool). text_length image + (if b then 1 else 0)) (third_version (long_at image 1) is)

pub lead_other : (image : List ℕ) → has_magic_3 image ≡ false → lead_of image ≡ text_length image
lead_other image is = ap (λ (b : Bool). text_length image + (if b then 1 else 0)) (other_version (long_at image 1) is) ∙ omega arith

second_of : (a b : Bool) → a ≡ true → (a && b) ≡ false → b ≡ false
second_of true b is none = none
second_of false b is none = let wrong : false ≡ true = is in cc

-- the number of records, where it is sound
pub record IsNumber (image : List ℕ) : Type 0 where
  pub here : 21 + text_length image < length image
  pub some : (deltas_of image == 0) ≡ false
  pub few : deltas_of image ≤ 7

pub number_of : (image : List ℕ) → has_bad_deltas image ≡ false → has_magic_3 image ≡ true → IsNumber image
number_of image sound is =
    let tests = second_of (has_magic_3 image) _ is sound in
    let two = (or_parts (nat_le (length image) (21 + text_length image) || (deltas_of image == 0)) (nat_lt 7 (deltas_of image)) tests) in
    let one = or_parts (nat_le (length image) (21 + text_length image)) (deltas_of image == 0) two.0 in
    record { here = leb-false (length image) (21 + text_length image) one.0; some = one.1; few = ltb-false 7 (deltas_of image) two.1 }

pub number_sound : (image : List ℕ) → IsNumber image → has_bad_deltas image ≡ false
number_sound image is = both (has_magic_3 image) _
    (or_from (nat_le (length image) (21 + text_length image) || (deltas_of image == 0)) (nat_lt 7 (deltas_of image))
    (or_from (nat_le (length image) (21 + text_length image)) (deltas_of image == 0) (lt-leb (length image) (21 + text_length image) is.here) is.some) (le-ltb 7 (deltas_of image) is.few))
  where
    both : (a b : Bool) → b ≡ false → (a && b) ≡ false
    both true b e = e
    both false b e = refl

pub other_sound : (image : List ℕ) → has_magic_3 image ≡ false → has_bad_deltas image ≡ false
other_sound image is = rw is refl

pub other_deltas : (image : List ℕ) → has_magic_3 image ≡ false → deltas_of image ≡ 0
other_deltas image is = rw is refl

pub third_deltas : (image : List ℕ) → has_magic_3 image ≡ true → deltas_of image ≡ slice_index image (21 + text_length image)
third_deltas image is = rw is refl
