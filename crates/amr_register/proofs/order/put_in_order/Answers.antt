use Rattle.std.proofs.Common.{◌≡◌, rules}
use Rattle.std.proofs.lemmas.Fn.{always_returns_same}
use Rattle.std.proofs.lemmas.List.Filters.{dedup_is}
use Rattle.std.proofs.lemmas.List.Kept.{Contains-dedup, Contains-from_dedup, IsStrictlySortedBy-dedup}
use Rattle.std.proofs.lemmas.List.Sorted.{Contains-permutation, IsPermutation-sym}
use Rattle.amr_box.specs.declared.Cell.{Cell}
use Rattle.amr_box.proofs.CellEquality.{coordinates_same}
use Rattle.amr_box.specs.Cells.{is_same_cell}
use Rattle.amr_register.proofs.CellLists.{same_coordinates}
use Rattle.amr_register.proofs.RowOrder.{rising, row_cmp_total, ties}
use Rattle.amr_register.proofs.order.put_in_order.Goals as goal

pub returns-clause-rising : goal.returns-clause-rising
returns-clause-rising c =
    let is = dedup_is is_same_cell _ _ c.dedup.ensures.filtered in
    let sorted = c.sort_unstable_by_key.ensures.sorted (λ (b : Cell). (b.y, b.x)) (always_returns_same _ (λ a r. r ≡ (a.0.now.y, a.0.now.x)) _ (λ a r q k. search rules)) in
    rw is (rising _ (IsStrictlySortedBy-dedup row_cmp_total ties _ sorted))

pub returns-clause-kept : goal.returns-clause-kept
returns-clause-kept c = λ q h.
    let is = dedup_is is_same_cell _ _ c.dedup.ensures.filtered in
    rw is (Contains-dedup same_coordinates coordinates_same _ q (Contains-permutation _ _ q c.sort_unstable_by_key.ensures.permutation h))

pub returns-clause-none_added : goal.returns-clause-none_added
returns-clause-none_added c = λ q h.
    let is = dedup_is is_same_cell _ _ c.dedup.ensures.filtered in
    Contains-permutation _ _ q (IsPermutation-sym _ _ c.sort_unstable_by_key.ensures.permutation) (Contains-from_dedup is_same_cell _ q (rw is at h))
