-- Laws of ranges.
use Rattle.std.proofs.Common.{◌≡◌, true, ◌&&◌, ℤ, ◌≤ℤ◌, int_le, inl, inr, refl, List, [], ◌∷◌, None}
use Rattle.std.proofs.lemmas.Bool.{cases_Bool, and_parts}
use Rattle.std.specs.List.{list_all}
use Rattle.amr_box.proofs.Numbers.{le_from}
use Rattle.amr_problem.specs.declared.range.Range.{Range}
use Rattle.amr_problem.specs.Keys.{is_among, holds, first_outside, first_beyond}

-- a number in a range
pub record IsIn (r : Range) (z : ℤ) : Type 0 where
  pub least : r.low ≤ℤ z
  pub greatest : z ≤ℤ r.high
  pub among : is_among r.among z ≡ true

pub holds-IsIn : (r : Range) (z : ℤ) → holds r z ≡ true → IsIn r z
holds-IsIn r z h =
    let (within, among) = and_parts (int_le r.low z && int_le z r.high) (is_among r.among z) h in
    let (low, high) = and_parts (int_le r.low z) (int_le z r.high) within in
    record {
      least = le_from r.low z low;
      greatest = le_from z r.high high;
      among = among;
    }

-- the first number is in its range, and of the others none is out of its own
pub record StartsInside (r : Range) (rs : List Range) (z : ℤ) (zs : List ℤ) : Type 0 where
  pub here : IsIn r z
  pub others : first_outside rs zs ≡ None

pub first_outside-none : (r : Range) (rs : List Range) (z : ℤ) (zs : List ℤ) → first_outside (r ∷ rs) (z ∷ zs) ≡ None → StartsInside r rs z zs
first_outside-none r rs z zs h =
    elim (cases_Bool (holds r z)) [
      | inl inside ↦ record { here = holds-IsIn r z inside; others = rw inside at h }
      | inr outside ↦ absurd (let e = rw outside at h in cc)
    ]

-- none of the numbers is out of the one range of all
pub first_beyond-none : (r : Range) (zs : List ℤ) → first_beyond r zs ≡ None → list_all (holds r) zs ≡ true
first_beyond-none r [] h = refl
first_beyond-none r (z ∷ zs) h =
    elim (cases_Bool (holds r z)) [
      | inl inside ↦ let others : first_beyond r zs ≡ None = rw inside at h in rw (inside, first_beyond-none r zs others)
      | inr outside ↦ absurd (let e = rw outside at h in cc)
    ]

-- the one number is in its range
pub first_outside-holds : (r : Range) (z : ℤ) → first_outside (r ∷ []) (z ∷ []) ≡ None → holds r z ≡ true
first_outside-holds r z h =
    elim (cases_Bool (holds r z)) [
      | inl inside ↦ inside
      | inr outside ↦ absurd (let e = rw outside at h in cc)
    ]
