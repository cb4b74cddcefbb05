-- What the letters to a rank have at each slot of each patch: its cell once at most, and with its value.
use Rattle.std.proofs.Common.{◌≡◌, ◌≢◌, ◌∙◌, ℕ, ◌<◌, ◌≤◌, ◌==◌, cond, Bool, true, false, List, [], ◌∷◌, ◌++◌, length, inl, inr, refl, sym, ap, subst, arith, eq-eqb, ne_eqb}
use Rattle.std.specs.Prelude.{◌⊎◌, ◌&&◌, map, slice_index}
use Rattle.std.specs.declared.option.Option.{Option}
use Rattle.std.specs.declared.option.Option.TheVariants.{None, Some}
use Rattle.std.specs.List.{flat_map, range_with_len}
use Rattle.std.proofs.lemmas.Bool.{cases_eq}
use Rattle.amr_ranks.specs.declared.item.FrameCell.{FrameCell}
use Rattle.amr_ranks.specs.Items.{cells_in, count_at, mass_at}
use Rattle.amr_ranks.specs.Letters.{cells_of}
use Rattle.amr_ranks.specs.Nodes.{NodeOf}
use Rattle.amr_ranks.specs.Laws.{HasJust}
use Rattle.amr_ranks.proofs.Sums.{one_if}
use Rattle.amr_letters.specs.Beside.{beside_count}
use Rattle.amr_letters.specs.Sources.{Sharing, box_at, ghost_at, source, value_of}
use Rattle.amr_letters.specs.Between.{KnowsSources, between, frame_cell, is_rank, item_of, letter_between, letters_for, told_at, told_of, told_to}
use Rattle.amr_letters.proofs.Joined.{mass_there, no_mass, none_there, one_there}

-- ---- the cells of letters

pub cells_back : (cs : List FrameCell) → cells_in (map item_of cs) ≡ cs
cells_back [] = refl
cells_back (c ∷ cs) = ap (λ (xs : List FrameCell). c ∷ xs) (cells_back cs)

pub cells_told : (s : Sharing) (ranks to : ℕ) (us : List ℕ) → cells_of (map (letter_between s ranks to) us) ≡ flat_map (λ from. between s from to) us
cells_told s ranks to [] = refl
cells_told s ranks to (u ∷ us) = let own = cells_back (between s u to) in let rest = cells_told s ranks to us in λ i. own i ++ rest i

-- ---- what they have at a slot

module _ (s : Sharing) (to patch slot : ℕ) where
  -- a cell is at its own slot
  away : (k n : ℕ) → (k ≡ patch → n ≡ slot → ⊥) → ((k == patch) && (n == slot)) ≡ false
  away k n ne = by_cases (cases_eq k patch) (cases_eq n slot)
    where
      by_cases : (k ≡ patch) ⊎ (k ≡ patch → ⊥) → (n ≡ slot) ⊎ (n ≡ slot → ⊥) → ((k == patch) && (n == slot)) ≡ false
      by_cases (inl e) (inl g) = absurd (ne e g)
      by_cases (inl e) (inr g) = rw (eq-eqb k patch e, ne_eqb n slot g) refl
      by_cases (inr e) g = rw (ne_eqb k patch e) refl

  elsewhere : (from k n : ℕ) → (k ≡ patch → n ≡ slot → ⊥) → count_at patch slot (told_at s from k n) ≡ 0
  elsewhere from k n ne = by_test (is_rank from (source s (ghost_at s k n)))
    where
      by_test : (b : Bool) → count_at patch slot (cond b (frame_cell s k n ∷ []) []) ≡ 0
      by_test true = let out : one_if ((k == patch) && (n == slot)) ≡ 0 = ap one_if (away k n ne) in omega (arith, out)
      by_test false = refl

  -- a rank that it doesn't come from
  not_told : (from : ℕ) → is_rank from (source s (ghost_at s patch slot)) ≡ false → count_at patch slot (told_at s from patch slot) ≡ 0
  not_told from e = ap (λ b. count_at patch slot (cond b (frame_cell s patch slot ∷ []) [])) e

  not_at : (from : ℕ) → is_rank from (source s (ghost_at s patch slot)) ≡ false → (n : ℕ) → count_at patch slot (told_at s from patch n) ≡ 0
  not_at from e n = by_case (cases_eq n slot)
    where
      by_case : (n ≡ slot) ⊎ (n ≡ slot → ⊥) → count_at patch slot (told_at s from patch n) ≡ 0
      by_case (inl g) = subst (λ i. count_at patch slot (told_at s from patch i) ≡ 0) (sym g) (not_told from e)
      by_case (inr g) = elsewhere from patch n (λ a b. g b)

  guarded : (from k : ℕ) → count_at patch slot (told_of s from k) ≡ 0 → count_at patch slot (told_to s from to k) ≡ 0
  guarded from k none = by_test (slice_index s.owners k == to)
    where
      by_test : (b : Bool) → count_at patch slot (cond b (told_of s from k) []) ≡ 0
      by_test true = none
      by_test false = refl

  other_patch : (from k : ℕ) → k ≢ patch → count_at patch slot (told_to s from to k) ≡ 0
  other_patch from k ne = guarded from k (none_there patch slot (told_at s from k) 0 (beside_count (box_at s k)) (λ n le. elsewhere from k n (λ e g. ne e)))

  other_rank : (from : ℕ) → is_rank from (source s (ghost_at s patch slot)) ≡ false → count_at patch slot (between s from to) ≡ 0
  other_rank from e = none_there patch slot (told_to s from to) 0 (length s.patches) (λ k le. by_case k (cases_eq k patch))
    where
      by_case : (k : ℕ) → (k ≡ patch) ⊎ (k ≡ patch → ⊥) → count_at patch slot (told_to s from to k) ≡ 0
      by_case k (inl g) = subst (λ i. count_at patch slot (told_to s from to i) ≡ 0) (sym g) (guarded from patch (none_there patch slot (told_at s from patch) 0 (beside_count (box_at s patch)) (λ n le. not_at from e n)))
      by_case k (inr g) = other_patch from k g

  -- one rank's cell there is one at most
  at_most_one : (from : ℕ) → count_at patch slot (between s from to) ≤ 1
  at_most_one from =
      let whole = one_there patch slot (told_to s from to) patch 0 (length s.patches) (λ k ne. other_patch from k ne) in
      let frame = by_owner (slice_index s.owners patch == to) in
      omega (arith, whole, frame)
    where
      by_test : (b : Bool) → count_at patch slot (cond b (frame_cell s patch slot ∷ []) []) ≤ 1
      by_test true = let one = by_place ((patch == patch) && (slot == slot)) in omega (arith, one)
        where
          by_place : (b : Bool) → one_if b ≤ 1
          by_place true = let r : 1 ≤ 1 = omega arith in r
          by_place false = let r : 0 ≤ 1 = omega arith in r
      by_test false = let r : 0 ≤ 1 = omega arith in r

      by_owner : (b : Bool) → count_at patch slot (cond b (told_of s from patch) []) ≤ 1
      by_owner true =
          let frame = one_there patch slot (told_at s from patch) slot 0 (beside_count (box_at s patch)) (λ n ne. elsewhere from patch n (λ e g. ne g)) in
          let one = by_test (is_rank from (source s (ghost_at s patch slot))) in
          omega (arith, frame, one)
      by_owner false = let r : 0 ≤ 1 = omega arith in r

  -- ---- of all letters to the rank

  abbrev all_told : ℕ → List FrameCell
  all_told ranks = flat_map (λ from. between s from to) (range_with_len 0 ranks)

  others_silent : (j : ℕ) → source s (ghost_at s patch slot) ≡ Some j → (from : ℕ) → from ≢ j → count_at patch slot (between s from to) ≡ 0
  others_silent j is from ne = other_rank from (ap (is_rank from) is ∙ ne_eqb j from (λ e. ne (sym e)))

  all_silent : (ranks : ℕ) → source s (ghost_at s patch slot) ≡ None → count_at patch slot (all_told ranks) ≡ 0
  all_silent ranks is = none_there patch slot (λ from. between s from to) 0 ranks (λ from le. other_rank from (ap (is_rank from) is))

  pub once : (ranks : ℕ) → count_at patch slot (all_told ranks) ≤ 1
  once ranks = by_source (source s (ghost_at s patch slot)) refl
    where
      by_source : (o : Option ℕ) → source s (ghost_at s patch slot) ≡ o → count_at patch slot (all_told ranks) ≤ 1
      by_source None is = let none = all_silent ranks is in omega (arith, none)
      by_source (Some j) is =
          let whole = one_there patch slot (λ from. between s from to) j 0 ranks (others_silent j is) in
          let one = at_most_one j in
          omega (arith, whole, one)

  pub nothing_told : (ranks : ℕ) → source s (ghost_at s patch slot) ≡ None → mass_at patch slot (all_told ranks) ≡ None
  nothing_told ranks is = no_mass patch slot (all_told ranks) (all_silent ranks is)

  pub value_told : (ranks j : ℕ) → patch < length s.patches → slice_index s.owners patch ≡ to → slot < beside_count (box_at s patch) → source s (ghost_at s patch slot) ≡ Some j → j < ranks → mass_at patch slot (all_told ranks) ≡ Some (value_of s (ghost_at s patch slot))
  value_told ranks j there own within is few =
      mass_there patch slot (λ from. between s from to) j 0 ranks (others_silent j is) (omega arith) (omega (arith, few))
      ∙ mass_there patch slot (told_to s j to) patch 0 (length s.patches) (λ k ne. other_patch j k ne) (omega arith) (omega (arith, there))
      ∙ ap (λ b. mass_at patch slot (cond b (told_of s j patch) [])) (eq-eqb (slice_index s.owners patch) to own)
      ∙ mass_there patch slot (told_at s j patch) slot 0 (beside_count (box_at s patch)) (λ n ne. elsewhere j patch n (λ e g. ne g)) (omega arith) (omega (arith, within))
      ∙ ap (λ o. mass_at patch slot (cond (is_rank j o) (frame_cell s patch slot ∷ []) [])) is
      ∙ ap (λ b. mass_at patch slot (cond b (frame_cell s patch slot ∷ []) [])) (eq-eqb j j refl)
      ∙ ap (λ b. cond (b && (slot == slot)) (Some (value_of s (ghost_at s patch slot))) None) (eq-eqb patch patch refl)
      ∙ ap (λ b. cond b (Some (value_of s (ghost_at s patch slot))) None) (eq-eqb slot slot refl)

-- ---- at the node

pub knows : (s : Sharing) (ranks rank words : ℕ) (n : NodeOf) → HasJust n words (letters_for s ranks rank) → ((k slot from : ℕ) → source s (ghost_at s k slot) ≡ Some from → from < ranks) → KnowsSources s rank n
knows s ranks rank words n just below = record {
  told = λ k slot from there own within is. has k slot ∙ value_told s rank k slot ranks from there own within is (below k slot from is);
  untold = λ k slot is. has k slot ∙ nothing_told s rank k slot ranks is;
}
  where
    has : (k slot : ℕ) → mass_at k slot n.cells ≡ mass_at k slot (flat_map (λ from. between s from rank) (range_with_len 0 ranks))
    has k slot = just.cells k slot ∙ ap (mass_at k slot) (cells_told s ranks rank (range_with_len 0 ranks))
