-- Items one after another: their cells, and their shares.
use Rattle.std.proofs.Common.{◌≡◌, ℕ, ◌+◌, ◌<◌, ◌≤◌, cond, List, [], ◌∷◌, ◌++◌, length, take, get_or, set, refl, sym, ap, ◌∙◌, subst, ⊎_elim, arith, eq-eqb, ne_eqb}
use Rattle.std.proofs.lemmas.List.{take_more, take_more_set, flat_map_more, append_assoc, append-nil, get_or-set_same, get_or-set_other, length-append}
use Rattle.std.proofs.lemmas.List.Folds.{length-flat_map-take}
use Rattle.std.proofs.lemmas.Bool.{cases_eq}
use Rattle.amr_ranks.specs.declared.item.Item.{Item}
use Rattle.amr_ranks.specs.declared.item.Item.TheVariants.{Share}
use Rattle.amr_ranks.specs.declared.item.FrameCell.{FrameCell}
use Rattle.amr_ranks.specs.Items.{cell_of, cells_in, amount_of, share_in, place_of}
use Rattle.amr_ranks.specs.Stored.{no_cell}
use Rattle.amr_ranks.proofs.Sums.{total_more, total_take}

module _ (items : List Item) (i : ℕ) (x d : Item) (lt : i < length items) (at : get_or items i d ≡ x) where
  pub cells_more : cells_in (take (i + 1) items) ≡ cells_in (take i items) ++ cell_of x
  cells_more = ap cells_in (take_more items i d lt) ∙ (sym (flat_map_more cell_of [] (take i items) (get_or items i d)) ∙ ap (λ (y : Item). cells_in (take i items) ++ cell_of y) at)

  pub cells_count : length (cells_in (take (i + 1) items)) ≡ length (cells_in (take i items)) + length (cell_of x)
  cells_count = ap length cells_more ∙ length-append (cells_in (take i items)) (cell_of x)

  pub cells_fit : length (cells_in (take i items)) + length (cell_of x) ≤ length (cells_in items)
  cells_fit = subst (λ (y : Item). length (cells_in (take i items)) + length (cell_of y) ≤ length (cells_in items)) at (length-flat_map-take cell_of items i d lt)

  pub share_more : (w : ℕ) → share_in w (take (i + 1) items) ≡ share_in w (take i items) + amount_of w x
  share_more w = total_more (amount_of w) items i d lt ∙ ap (λ (y : Item). share_in w (take i items) + amount_of w y) at

  pub share_fits : (w : ℕ) → share_in w (take i items) + amount_of w x ≤ share_in w items
  share_fits w = subst (λ n. n ≤ share_in w items) (share_more w) (total_take (amount_of w) items (i + 1))

pub amount_own : (word amount : ℕ) → amount_of word (Share word amount) ≡ amount
amount_own word amount = ap (λ b. cond b amount 0) (eq-eqb word word refl)

-- one cell written behind what was copied
pub copied_more : (into front : List FrameCell) (copied : List FrameCell) (end : ℕ) (y : FrameCell) → end < length into → take end into ≡ front ++ copied → take (end + 1) (set into end y) ≡ front ++ (copied ++ y ∷ [])
copied_more into front copied end y lt so_far = take_more_set into end y lt ∙ (ap (λ (xs : List FrameCell). xs ++ y ∷ []) so_far ∙ append_assoc front copied (y ∷ []))

-- no cell
pub copied_same : (front copied : List FrameCell) (xs : List FrameCell) → xs ≡ front ++ copied → xs ≡ front ++ (copied ++ [])
copied_same front copied xs e = e ∙ ap (λ (ys : List FrameCell). front ++ ys) (sym (append-nil copied))

-- one share added to the total of its word
pub added_more : (totals : List ℕ) (word amount : ℕ) → word < length totals → (w : ℕ) → get_or (set totals word (get_or totals word 0 + amount)) w 0 ≡ get_or totals w 0 + amount_of w (Share word amount)
added_more totals word amount lt w =
    ⊎_elim
    (λ e. subst (λ k. get_or (set totals word (get_or totals word 0 + amount)) k 0 ≡ get_or totals k 0 + amount_of k (Share word amount)) (sym e)
    (get_or-set_same totals word (get_or totals word 0 + amount) 0 lt ∙ ap (λ b. get_or totals word 0 + cond b amount 0) (sym (eq-eqb word word refl))))
    (λ ne. get_or-set_other totals word w (get_or totals word 0 + amount) 0 ne ∙ (let z : get_or totals w 0 ≡ get_or totals w 0 + 0 = omega arith in z ∙ ap (λ b. get_or totals w 0 + cond b amount 0) (sym (ne_eqb word w (λ s. ne (sym s))))))
    (cases_eq w word)

-- cells rise up to i
abbrev pub RisesTo : List FrameCell → ℕ → Type 0
RisesTo cells i = (a b : ℕ) → a < b → b < i → place_of (get_or cells a no_cell) < place_of (get_or cells b no_cell)
