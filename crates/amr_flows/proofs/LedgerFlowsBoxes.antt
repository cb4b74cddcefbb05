-- What the edges of one box add to the ledger, as sums over the four sides of the domain.
use Rattle.std.proofs.Common.{◌≡◌, ℕ, ◌+◌, ◌<◌, ◌≤◌, ◌&&◌, Bool, true, cond, ℤ, pos, ◌-ℤ◌, ap, ◌∙◌, arith}
use Rattle.std.specs.Prelude.{unsigned_abs}
use Rattle.std.proofs.lemmas.Int.{ints}
use Rattle.std.proofs.lemmas.Bool.{false_from_ne_true}
use Rattle.amr_box.specs.declared.Cell.{Cell}
use Rattle.amr_box.specs.declared.Face.{Face}
use Rattle.amr_box.specs.declared.Axis.TheVariants.{X, Y}
use Rattle.amr_box.specs.Cells.{Extent, cell, height, holds, width}
use Rattle.amr_def.specs.Domain.{columns, is_periodic, rows}
use Rattle.amr_def.specs.State.{Masses}
use Rattle.amr_def.specs.Flux.{Fluxes, face, flux_at}
use Rattle.amr_def.specs.Ledger.{sum_to}
use Rattle.amr_patch.proofs.Rows.{inside}
use Rattle.amr_faces.specs.Faces.{x_end, y_end}
use Rattle.amr_layout.specs.Surroundings.{Around, edge_count, edge_face, inward, x_start, y_start}
use Rattle.amr_layout.specs.Adds.{flows_of, is_ledger_face, word_total}
use Rattle.amr_flows.specs.Layouts.{goes_to}
use Rattle.amr_laws.proofs.Sides.{sum_same}
use Rattle.amr_flows.proofs.LedgerFlowsSums.{sum_edges, sum_run}
use Rattle.amr_flows.proofs.WordSums.{each_once, to_inflow, to_outflow}
use Rattle.amr_flows.proofs.LedgerFlowsWays.{IsWay, is_in, is_out}
use Rattle.amr_flows.proofs.LedgerFlowsOpen.{IsPlaced}
use Rattle.amr_flows.proofs.LedgerFlowsSides.{east_face, north_face, side_flow, south_face, way_size, west_face}

-- ---- side by side

-- over a side of n cells at the end of an axis, beside those that the box holds
abbrev pub side_sum : Around → Fluxes → Bool → (ℤ → ℕ) → (ℕ → Cell) → (ℕ → Face) → ℕ → Extent → ℕ
side_sum s e wraps part at g n b = sum_to (λ y. cond (holds b (at y)) (side_flow s e wraps part (at y) (g y)) 0) n

abbrev pub west_sum : Around → Fluxes → (ℤ → ℕ) → Extent → ℕ
west_sum s e part = side_sum s e (is_periodic s.problem.x_sides) part (λ y. cell (pos 0) (pos y)) (λ y. face X (pos 0) (pos y)) (rows s.problem s.level)

abbrev pub east_sum : Around → Fluxes → (ℤ → ℕ) → Extent → ℕ
east_sum s e part = side_sum s e (is_periodic s.problem.x_sides) part (λ y. cell (pos (columns s.problem s.level) -ℤ pos 1) (pos y)) (λ y. face X (pos (columns s.problem s.level)) (pos y)) (rows s.problem s.level)

abbrev pub south_sum : Around → Fluxes → (ℤ → ℕ) → Extent → ℕ
south_sum s e part = side_sum s e (is_periodic s.problem.y_sides) part (λ x. cell (pos x) (pos 0)) (λ x. face Y (pos x) (pos 0)) (columns s.problem s.level)

abbrev pub north_sum : Around → Fluxes → (ℤ → ℕ) → Extent → ℕ
north_sum s e part = side_sum s e (is_periodic s.problem.y_sides) part (λ x. cell (pos x) (pos (rows s.problem s.level) -ℤ pos 1)) (λ x. face Y (pos x) (pos (rows s.problem s.level))) (columns s.problem s.level)

not_held : (t : Bool) (v : ℕ) → (t ≡ true → ⊥) → cond t v 0 ≡ 0
not_held t v h = ap (λ (u : Bool). cond u v 0) (false_from_ne_true t h)

module _ (s : Around) (m old : Masses) (sign : ℤ → Bool) (low high : ℤ → ℕ) (way : IsWay sign low high) (b : Extent) (at : IsPlaced s.problem s.level b) where
  row_before : (z : ℤ) (y : ℕ) → y < at.row → holds b (cell z (pos y)) ≡ true → ⊥
  row_before z y lt h = omega (arith, ints, at.below, lt, (inside b (cell z (pos y)) h).south)

  row_after : (z : ℤ) (y : ℕ) → at.row + height b ≤ y → holds b (cell z (pos y)) ≡ true → ⊥
  row_after z y le h = omega (arith, ints, at.high, le, (inside b (cell z (pos y)) h).north)

  column_before : (z : ℤ) (x : ℕ) → x < at.column → holds b (cell (pos x) z) ≡ true → ⊥
  column_before z x lt h = omega (arith, ints, at.left, lt, (inside b (cell (pos x) z) h).west)

  column_after : (z : ℤ) (x : ℕ) → at.column + width b ≤ x → holds b (cell (pos x) z) ≡ true → ⊥
  column_after z x le h = omega (arith, ints, at.wide, le, (inside b (cell (pos x) z) h).east)

  pub on_edges : let e : Fluxes = flux_at s.problem s.level m old in
      sum_to (λ n. way_size s e sign b (edge_face b n)) (edge_count b) ≡ (west_sum s e low b + east_sum s e high b) + (south_sum s e low b + north_sum s e high b)
  on_edges =
      let e : Fluxes = flux_at s.problem s.level m old in
      let west : sum_to (λ j. way_size s e sign b (x_start b j)) (height b) ≡ west_sum s e low b = sum_run _ _ at.row (height b) (rows s.problem s.level) at.within_rows (west_face s m old sign low high way b at)
      (λ y lt. not_held _ _ (row_before (pos 0) y lt)) (λ y le. not_held _ _ (row_after (pos 0) y le)) in
      let east : sum_to (λ j. way_size s e sign b (x_end b j)) (height b) ≡ east_sum s e high b = sum_run _ _ at.row (height b) (rows s.problem s.level) at.within_rows (east_face s m old sign low high way b at)
      (λ y lt. not_held _ _ (row_before (pos (columns s.problem s.level) -ℤ pos 1) y lt)) (λ y le. not_held _ _ (row_after (pos (columns s.problem s.level) -ℤ pos 1) y le)) in
      let south : sum_to (λ j. way_size s e sign b (y_start b j)) (width b) ≡ south_sum s e low b = sum_run _ _ at.column (width b) (columns s.problem s.level) at.within_columns (south_face s m old sign low high way b at)
      (λ x lt. not_held _ _ (column_before (pos 0) x lt)) (λ x le. not_held _ _ (column_after (pos 0) x le)) in
      let north : sum_to (λ j. way_size s e sign b (y_end b j)) (width b) ≡ north_sum s e high b = sum_run _ _ at.column (width b) (columns s.problem s.level) at.within_columns (north_face s m old sign low high way b at)
      (λ x lt. not_held _ _ (column_before (pos (rows s.problem s.level) -ℤ pos 1) x lt)) (λ x le. not_held _ _ (column_after (pos (rows s.problem s.level) -ℤ pos 1) x le)) in
      sum_edges (way_size s e sign b) b ∙ (λ i. (west i + east i) + (south i + north i))

-- ---- the words of the ledger

module _ (s : Around) (m old : Masses) (b : Extent) where
  abbrev e : Fluxes
  e = flux_at s.problem s.level m old

  to_word : (sign : ℤ → Bool) (word : ℕ) → ((f : Face) → goes_to s b word f ≡ (is_ledger_face s b f && sign (inward s.problem s.level b f)))
      → word_total (λ f. unsigned_abs (e f)) word (flows_of s b) ≡ sum_to (λ n. way_size s e sign b (edge_face b n)) (edge_count b)
  to_word sign word goes =
      each_once s b (λ f. unsigned_abs (e f)) word
      ∙ sum_same (λ n. cond (goes_to s b word (edge_face b n)) (unsigned_abs (e (edge_face b n))) 0) (λ n. way_size s e sign b (edge_face b n)) (edge_count b)
      (λ n lt. ap (λ t. cond t (unsigned_abs (e (edge_face b n))) 0) (goes (edge_face b n)))

  pub first_word : word_total (λ f. unsigned_abs (e f)) 0 (flows_of s b) ≡ sum_to (λ n. way_size s (flux_at s.problem s.level m old) is_in b (edge_face b n)) (edge_count b)
  first_word = to_word is_in 0 (to_inflow s b)

  pub second_word : word_total (λ f. unsigned_abs (e f)) 1 (flows_of s b) ≡ sum_to (λ n. way_size s (flux_at s.problem s.level m old) is_out b (edge_face b n)) (edge_count b)
  second_word = to_word is_out 1 (to_outflow s b)
