-- A write into a buffer.
use Rattle.std.proofs.Common.{◌≡◌, ℕ, ◌+◌, ◌-◌, ◌≤◌, ◌<◌, List, [], ◌∷◌, ◌++◌, length, take, drop, replicate, refl, subst, arith}
use Rattle.std.proofs.Common.{nat_le, inl, inr}
use Rattle.std.proofs.Math.Seq.{take-append-add}
use Rattle.std.proofs.lemmas.Bool.{cases_Bool, leb-true, leb-false}
use Rattle.std.proofs.lemmas.List.{take_all, take-replicate, length-replicate}
use Rattle.std.proofs.lemmas.Grind.{common_steps}
use Rattle.amr_disk.specs.Image.{placed}

over_within : (gap at : ℕ) (chunk old : List ℕ) → at + length chunk ≤ length old → take at old ++ chunk ++ drop (at + length chunk) old ≡ take at old ++ replicate (at - length old) gap ++ chunk ++ drop (at + length chunk) old
over_within gap at chunk old fits = grind (arith, common_steps)

front_within : (gap at end : ℕ) (old : List ℕ) → at ≤ length old → length old < end → take at (old ++ replicate (end - length old) gap) ≡ take at old ++ replicate (at - length old) gap
front_within gap at end old within past = grind (arith, common_steps)

front_beyond : (gap at end extra : ℕ) (old : List ℕ) → at ≡ length old + extra → at ≤ end → take at (old ++ replicate (end - length old) gap) ≡ take at old ++ replicate (at - length old) gap
front_beyond gap at end extra old is before =
    let joined : take (length old + extra) (old ++ replicate (end - length old) gap) ≡ old ++ take extra (replicate (end - length old) gap) = take-append-add old (replicate (end - length old) gap) extra in
    let shorter : take extra (replicate (end - length old) gap) ≡ replicate extra gap = take-replicate extra (end - length old) gap (omega arith) in
    let rest : at - length old ≡ extra = omega arith in
    let whole : take at old ≡ old = take_all at old (omega arith) in
    rw (is, joined, shorter, ← is, whole, rest) refl

front_past : (gap at end : ℕ) (old : List ℕ) → at ≤ end → length old < end → take at (old ++ replicate (end - length old) gap) ≡ take at old ++ replicate (at - length old) gap
front_past gap at end old before past = elim (cases_Bool (nat_le at (length old))) [
  | inl le ↦ front_within gap at end old (leb-true at (length old) le) past
  | inr gt ↦ front_beyond gap at end (at - length old) old (omega (arith, leb-false at (length old) gt)) before
]

back_past : (gap end : ℕ) (old : List ℕ) → length old < end → drop end (old ++ replicate (end - length old) gap) ≡ drop end old
back_past gap end old past = grind (arith, common_steps)

over_past : (gap at : ℕ) (chunk old : List ℕ) → length old < at + length chunk
    → take at (old ++ replicate (at + length chunk - length old) gap) ++ chunk ++ drop (at + length chunk) (old ++ replicate (at + length chunk - length old) gap)
    ≡ take at old ++ replicate (at - length old) gap ++ chunk ++ drop (at + length chunk) old
over_past gap at chunk old past =
    let front = front_past gap at (at + length chunk) old (omega arith) past in
    let back = back_past gap (at + length chunk) old past in
    cc

pub placed_within : (gap at : ℕ) (chunk old : List ℕ) → 0 < length chunk → at + length chunk ≤ length old → take at old ++ chunk ++ drop (at + length chunk) old ≡ placed gap at chunk old
placed_within gap at [] old some fits = grind (arith, common_steps)
placed_within gap at (b ∷ bs) old some fits = over_within gap at (b ∷ bs) old fits

pub placed_past : (gap at size : ℕ) (chunk old grown : List ℕ) → 0 < length chunk → size ≡ length old → size < at + length chunk → grown ≡ old ++ replicate (at + length chunk - size) gap
    → take at grown ++ chunk ++ drop (at + length chunk) grown ≡ placed gap at chunk old
placed_past gap at size [] old grown some is past longer = grind (arith, common_steps)
placed_past gap at size (b ∷ bs) old grown some is past longer = rw (longer, is) (over_past gap at (b ∷ bs) old (omega arith))

-- the same of a range filled with one byte
pub filled_within : (byte at len : ℕ) (old : List ℕ) → 0 < len → at + len ≤ length old → take at old ++ replicate len byte ++ drop (at + len) old ≡ placed byte at (replicate len byte) old
filled_within byte at len old some fits =
    let size : length (replicate len byte) ≡ len = length-replicate len byte in
    subst (λ (n : ℕ). take at old ++ replicate len byte ++ drop (at + n) old ≡ placed byte at (replicate len byte) old) size (placed_within byte at (replicate len byte) old (omega (arith, size)) (omega (arith, size)))

pub filled_past : (byte at len size : ℕ) (old grown : List ℕ) → 0 < len → size ≡ length old → size < at + len → grown ≡ old ++ replicate (at + len - size) byte
    → take at grown ++ replicate len byte ++ drop (at + len) grown ≡ placed byte at (replicate len byte) old
filled_past byte at len size old grown some is past longer =
    let n_is : length (replicate len byte) ≡ len = length-replicate len byte in
    subst (λ (n : ℕ). take at grown ++ replicate len byte ++ drop (at + n) grown ≡ placed byte at (replicate len byte) old) n_is
    (placed_past byte at size (replicate len byte) old grown (omega (arith, n_is)) is (omega (arith, n_is)) (rw n_is longer))
