-- What stands at a place of an image that differs from another in one range alone.
use Rattle.std.proofs.Common.{◌≡◌, ℕ, zero, suc, ◌+◌, ◌-◌, ◌≤◌, ◌<◌, max, List, length, drop, refl, sym, ◌∙◌, arith}
use Rattle.std.proofs.lemmas.Grind.{common_steps, elements}
use Rattle.std.proofs.lemmas.List.{get_or-drop, get_or-take}
use Rattle.std.specs.Prelude.{slice_index, slice_range}
use Rattle.amr_disk.specs.Image.{Torn, reach}
use Rattle.amr_store.specs.Layout.{long_at, word_at}

-- new is no shorter than old, and the same outside of the places from a to b
pub record Outside (a b : ℕ) (old new : List ℕ) : Type 0 where
  pub no_shorter : length old ≤ length new
  pub no_longer : length new ≤ max (length old) b
  pub below : (i : ℕ) → i < length old → i < a → slice_index new i ≡ slice_index old i
  pub above : (i : ℕ) → i < length old → b ≤ i → slice_index new i ≡ slice_index old i

reach_within : (at n b : ℕ) → at + n ≤ b → reach at n ≤ b
reach_within at zero b within = omega arith
reach_within at (suc n) b within = omega arith

pub torn_outside : (at n a b : ℕ) (old new : List ℕ) → a ≤ at → at + n ≤ b → Torn at n old new → Outside a b old new
torn_outside at n a b old new from to torn = record {
  no_shorter = torn.no_shorter;
  no_longer = omega (arith, torn.no_longer, reach_within at n b to);
  below = λ i within before. torn.below i within (omega arith);
  above = λ i within after. torn.above i within (omega arith);
}

pub outside_twice : (a b : ℕ) (old mid new : List ℕ) → Outside a b old mid → Outside a b mid new → Outside a b old new
outside_twice a b old mid new first second = record {
  no_shorter = omega (arith, first.no_shorter, second.no_shorter);
  no_longer = omega (arith, first.no_longer, second.no_longer);
  below = λ i within before. second.below i (omega (arith, first.no_shorter)) before ∙ first.below i within before;
  above = λ i within after. second.above i (omega (arith, first.no_shorter)) after ∙ first.above i within after;
}

-- the same of the store that begins at a base
pub outside_drop : (base a b : ℕ) (old new : List ℕ) → base ≤ length old → Outside (base + a) (base + b) old new → Outside a b (drop base old) (drop base new)
outside_drop base a b old new within out =
    let size : length (drop base old) ≡ length old - base = grind (arith, common_steps) in
    let later : length (drop base new) ≡ length new - base = grind (arith, common_steps) in
    record {
      no_shorter = omega (arith, size, later, out.no_shorter);
      no_longer = omega (arith, size, later, out.no_longer, out.no_shorter);
      below = λ i here before. get_or-drop base new i 0 ∙ out.below (base + i) (omega (arith, size)) (omega arith) ∙ sym (get_or-drop base old i 0);
      above = λ i here after. get_or-drop base new i 0 ∙ out.above (base + i) (omega (arith, size)) (omega arith) ∙ sym (get_or-drop base old i 0);
    }

-- numbers whose bytes are the same
pub long_same : (old new : List ℕ) (p : ℕ) → ((i : ℕ) → i < 8 → slice_index new (p + i) ≡ slice_index old (p + i)) → long_at new p ≡ long_at old p
long_same old new p same =
    let at : (i : ℕ) → i < 8 → slice_index (drop p new) i ≡ slice_index (drop p old) i = λ i lt. get_or-drop p new i 0 ∙ same i lt ∙ sym (get_or-drop p old i 0) in
    rw (at 0 (omega arith), at 1 (omega arith), at 2 (omega arith), at 3 (omega arith), at 4 (omega arith), at 5 (omega arith), at 6 (omega arith), at 7 (omega arith)) refl

pub word_same : (old new : List ℕ) (p : ℕ) → ((i : ℕ) → i < 4 → slice_index new (p + i) ≡ slice_index old (p + i)) → word_at new p ≡ word_at old p
word_same old new p same =
    let at : (i : ℕ) → i < 4 → slice_index (drop p new) i ≡ slice_index (drop p old) i = λ i lt. get_or-drop p new i 0 ∙ same i lt ∙ sym (get_or-drop p old i 0) in
    rw (at 0 (omega arith), at 1 (omega arith), at 2 (omega arith), at 3 (omega arith)) refl

index_in_range : (xs : List ℕ) (a b i : ℕ) → i < b - a → slice_index (slice_range xs a b) i ≡ slice_index xs (a + i)
index_in_range xs a b i lt = get_or-take (b - a) (drop a xs) i 0 lt ∙ get_or-drop a xs i 0

pub same_lists : (xs ys : List ℕ) → length xs ≡ length ys → ((i : ℕ) → i < length ys → slice_index xs i ≡ slice_index ys i) → xs ≡ ys
same_lists xs ys size same = grind (arith, elements)

-- ranges whose bytes are the same
pub range_same : (old new : List ℕ) (a b : ℕ) → b ≤ length old → b ≤ length new → ((i : ℕ) → a ≤ i → i < b → slice_index new i ≡ slice_index old i) → slice_range new a b ≡ slice_range old a b
range_same old new a b ends later same =
    let size : length (slice_range new a b) ≡ b - a = grind (arith, common_steps) in
    let was : length (slice_range old a b) ≡ b - a = grind (arith, common_steps) in
    same_lists (slice_range new a b) (slice_range old a b) (size ∙ sym was)
    (λ i lt. index_in_range new a b i (omega (arith, was)) ∙ same (a + i) (omega arith) (omega (arith, was)) ∙ sym (index_in_range old a b i (omega (arith, was))))
