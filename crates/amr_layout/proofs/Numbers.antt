-- The number of a register cell, by the number of cells that come before it or are it.
use Rattle.std.proofs.Common.{◌≡◌, ℕ, ◌+◌, ◌<◌, ◌≤◌, ◌⊎◌, inl, inr, Bool, true, false, List, length, get_or, sym, ap, ◌∙◌, arith}
use Rattle.std.specs.Prelude.{Contains, not}
use Rattle.std.specs.List.{prefix_len}
use Rattle.std.specs.List.Sorted.{IsPartitionPoint, IsPartitionedBy}
use Rattle.std.proofs.lemmas.Int.{ints}
use Rattle.std.proofs.lemmas.Bool.{cases_lt, cases_eq, not-false}
use Rattle.std.proofs.lemmas.List.Sums.{prefix_len_passes, prefix_len_stops}
use Rattle.amr_box.specs.declared.Cell.{Cell}
use Rattle.amr_box.proofs.CellEquality.{coordinates_itself, coordinates_same}
use Rattle.amr_box.specs.Cells.{is_same_cell}
use Rattle.amr_box.proofs.Tests.{opposite}
use Rattle.amr_patch.specs.Orders.{comes_first}
use Rattle.amr_patch.proofs.Lookups.{comes_first-trans, comes_first-yes}
use Rattle.amr_layout.specs.Adds.{AreInOrder, number_of}

first_itself : (c : Cell) → comes_first c c ≡ true
first_itself c = comes_first-yes c c (omega (arith, ints)) (omega (arith, ints))

both_first : (a b : Cell) → comes_first a b ≡ true → comes_first b a ≡ true → is_same_cell a b ≡ true
both_first a b h k = grind (arith, ints)

clash_not : {b : Bool} → b ≡ true → not b ≡ true → ⊥
clash_not {b} e f = let wrong : false ≡ true = sym (ap not e) ∙ f in cc

-- the cells that come before a cell stand first
pub parted : (cells : List Cell) (c : Cell) → AreInOrder cells → IsPartitionedBy (λ a. comes_first a c) cells
parted cells c ordered i j d le below h = cases (cases_eq i j)
  where
    cases : ((i ≡ j) ⊎ (i ≡ j → ⊥)) → comes_first (get_or cells i d) c ≡ true
    cases (inl e) = ap (λ (n : ℕ). comes_first (get_or cells n d) c) e ∙ h
    cases (inr ne) = comes_first-trans (get_or cells i d) (get_or cells j d) c (ordered i j d (omega arith) below).0 h

module _ (cells : List Cell) (c : Cell) (ordered : AreInOrder cells) (there : Contains cells c) where
  pub number_within : number_of cells c < length cells
  unfolding number_of
  number_within = cases (cases_lt (prefix_len (λ (a : Cell). not (is_same_cell c a)) cells) (length cells))
    where
      cases : ((prefix_len (λ (a : Cell). not (is_same_cell c a)) cells < length cells) ⊎ (length cells ≤ prefix_len (λ (a : Cell). not (is_same_cell c a)) cells)) → prefix_len (λ (a : Cell). not (is_same_cell c a)) cells < length cells
      cases (inl h) = h
      cases (inr h) = absurd (clash_not (ap (is_same_cell c) there.2 ∙ coordinates_itself c) (prefix_len_passes (λ (a : Cell). not (is_same_cell c a)) cells there.0 c (omega (arith, there.1, h))))

  -- the cell stands at its number
  pub number_at : get_or cells (number_of cells c) c ≡ c
  unfolding number_of
  number_at =
      let m = prefix_len (λ (a : Cell). not (is_same_cell c a)) cells in
      let within : m < length cells = number_within in
      sym (coordinates_same c (get_or cells m c) (not-false (is_same_cell c (get_or cells m c)) (prefix_len_stops (λ (a : Cell). not (is_same_cell c a)) cells c within)))

  pub number_is : (count : ℕ) → count ≤ length cells → IsPartitionPoint (λ a. comes_first a c ≡ true) (λ a. comes_first a c ≡ false) cells count → count ≡ number_of cells c + 1
  number_is count most parts = from (cases_lt (number_of cells c) count) (cases_lt (number_of cells c + 1) count)
    where
      from : ((number_of cells c < count) ⊎ (count ≤ number_of cells c)) → ((number_of cells c + 1 < count) ⊎ (count ≤ number_of cells c + 1)) → count ≡ number_of cells c + 1
      from (inr h) e = absurd (opposite (ap (λ (a : Cell). comes_first a c) number_at ∙ first_itself c) (parts.1 (number_of cells c) c h number_within))
      from (inl h) (inr e) = omega (arith, h, e)
      from (inl h) (inl e) =
          let up = ordered (number_of cells c) (number_of cells c + 1) c (omega arith) (omega (arith, e, most)) in
          let before : comes_first c (get_or cells (number_of cells c + 1) c) ≡ true = ap (λ (a : Cell). comes_first a (get_or cells (number_of cells c + 1) c)) (sym number_at) ∙ up.0 in
          let after : comes_first (get_or cells (number_of cells c + 1) c) c ≡ true = parts.0 (number_of cells c + 1) c (omega arith) e in
          absurd (up.1 (ap (λ (a : Cell). is_same_cell a (get_or cells (number_of cells c + 1) c)) number_at ∙ both_first c (get_or cells (number_of cells c + 1) c) before after))

  -- it stands there alone
  pub number_alone : (k : ℕ) → k < length cells → get_or cells k c ≡ c → k ≡ number_of cells c
  number_alone k lt at = from (cases_lt k (number_of cells c)) (cases_lt (number_of cells c) k)
    where
      from : ((k < number_of cells c) ⊎ (number_of cells c ≤ k)) → ((number_of cells c < k) ⊎ (k ≤ number_of cells c)) → k ≡ number_of cells c
      from (inl h) e = absurd ((ordered k (number_of cells c) c h number_within).1 ((λ i. is_same_cell (at i) (number_at i)) ∙ coordinates_itself c))
      from (inr h) (inl e) = absurd ((ordered (number_of cells c) k c e lt).1 ((λ i. is_same_cell (number_at i) (at i)) ∙ coordinates_itself c))
      from (inr h) (inr e) = omega (arith, h, e)
