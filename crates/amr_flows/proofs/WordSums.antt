-- What the flows of a box add to a word, as a sum over the faces on its edges.
use Rattle.std.proofs.Common.{◌≡◌, ◌∙◌, ℕ, zero, suc, ◌+◌, ◌*◌, ◌<◌, ◌==◌, Bool, true, false, ◌&&◌, ◌||◌, cond, if◌then◌else◌, ℤ, pos, negsuc, refl, sym, ap, arith}
use Rattle.std.specs.Prelude.{int_lt, not}
use Rattle.std.specs.Ordering.{int_eq}
use Rattle.std.proofs.lemmas.Int.{ints}
use Rattle.std.proofs.lemmas.Bool.{and_right, le-ltb, lt-ltb, ne_eqb}
use Rattle.amr_box.specs.declared.Face.{Face}
use Rattle.amr_box.specs.Cells.{Extent}
use Rattle.amr_def.specs.Ledger.{sum_to}
use Rattle.amr_def.specs.State.{is_covered}
use Rattle.amr_laws.proofs.Sides.{sum_same}
use Rattle.amr_faces.specs.Faces.{passing}
use Rattle.amr_layout.specs.Surroundings.{Around, edge_count, edge_face, inside, inward, is_coarse_fine, is_open}
use Rattle.amr_layout.specs.Adds.{cell_beyond, flow_to, flows_of, goes_on, is_ledger_face, number_of, size_to, word_of, word_total}
use Rattle.amr_layout.proofs.Going.{is_not_zero, open_alone}
use Rattle.amr_flows.specs.Layouts.{goes_to}
use Rattle.amr_layout.proofs.Totals.{total_image}
use Rattle.amr_flows.proofs.LedgerFlowsSums.{total_passing}
use Rattle.amr_flows.proofs.LedgerFlowsWays.{is_in, is_out}

both : (t u : Bool) (v : ℕ) → cond t (if u then v else 0) 0 ≡ cond (t && u) v 0
both true true v = refl
both true false v = refl
both false u v = refl

-- each face whose flow goes to the word counts once
pub each_once : (s : Around) (b : Extent) (flow : Face → ℕ) (word : ℕ) → word_total flow word (flows_of s b) ≡ sum_to (λ n. cond (goes_to s b word (edge_face b n)) (flow (edge_face b n)) 0) (edge_count b)
unfolding flows_of goes_to
each_once s b flow word =
    let sized : Face → ℕ = λ f. if word_of s b f == word then flow f else 0 in
    total_image (size_to flow word) (λ f. flow_to (word_of s b f) f) sized (λ f. refl) (passing (goes_on s b) (edge_face b) (edge_count b))
    ∙ total_passing sized (goes_on s b) (edge_face b) (edge_count b)
    ∙ sum_same (λ n. cond (goes_on s b (edge_face b n)) (sized (edge_face b n)) 0) (λ n. cond (goes_to s b word (edge_face b n)) (flow (edge_face b n)) 0) (edge_count b)
    (λ n lt. both (goes_on s b (edge_face b n)) (word_of s b (edge_face b n) == word) (flow (edge_face b n)))

-- ---- the words of the ledger

-- those of register cells are others
register_word : (t : Bool) (n w : ℕ) → w < 2 → (cond t (2 + 2 * n) (3 + 2 * n) == w) ≡ false
register_word true n w lt = ne_eqb (2 + 2 * n) w (λ e. omega (arith, e, lt))
register_word false n w lt = ne_eqb (3 + 2 * n) w (λ e. omega (arith, e, lt))

above : (i : ℤ) → int_lt (pos 0) i ≡ true → not (int_eq i (pos 0)) ≡ true
above (pos zero) h = cc
above (pos (suc k)) h = is_not_zero (pos (suc k)) (λ e. omega (arith, ints, e))
above (negsuc k) h = cc

not_below : (i : ℤ) → int_lt (pos 0) i ≡ true → int_lt i (pos 0) ≡ false
not_below (pos k) h = le-ltb k 0 (omega arith)
not_below (negsuc k) h = cc

below : (i : ℤ) → int_lt (pos 0) i ≡ false → not (int_eq i (pos 0)) ≡ int_lt i (pos 0)
below (pos zero) h = refl
below (pos (suc k)) h = let e : true ≡ false = sym (lt-ltb 0 (suc k) (omega arith)) ∙ h in absurd (cc)
below (negsuc k) h = is_not_zero (negsuc k) (λ e. omega (arith, ints, e))

into_first : (a z p : Bool) → (p ≡ true → z ≡ true) → (((a || false) && z) && (cond {A = ℕ} p 0 1 == 0)) ≡ (a && p)
into_first true true true h = refl
into_first true false true h = h refl
into_first true true false h = refl
into_first true false false h = refl
into_first false z p h = refl

into_second : (a z p q : Bool) → (p ≡ true → q ≡ false) → (p ≡ false → z ≡ q) → (((a || false) && z) && (cond {A = ℕ} p 0 1 == 1)) ≡ (a && q)
into_second true true true q h k = sym (h refl)
into_second true false true q h k = sym (h refl)
into_second true true false q h k = k refl
into_second true false false q h k = k refl
into_second false z p q h k = refl

module _ (s : Around) (b : Extent) (f : Face) where
  abbrev i : ℤ
  i = inward s.problem s.level b f

  abbrev bare : Bool
  bare = not (is_covered s.finer (inside b f))

  -- past the edge to a register cell, and to no word of the ledger
  past : (word : ℕ) → word < 2 → ((is_coarse_fine s b f && not (int_eq i (pos 0))) && (cond (int_lt i (pos 0)) (2 + 2 * number_of s.cells (cell_beyond s b f)) (3 + 2 * number_of s.cells (cell_beyond s b f)) == word)) ≡ false
  past word lt = and_right (is_coarse_fine s b f && not (int_eq i (pos 0))) _ (register_word (int_lt i (pos 0)) (number_of s.cells (cell_beyond s b f)) word lt)

  pub to_inflow : goes_to s b 0 f ≡ (is_ledger_face s b f && is_in (inward s.problem s.level b f))
  unfolding goes_to goes_on word_of is_ledger_face
  to_inflow = from (is_open s b f) (open_alone s b f)
    where
      from : (o : Bool) → (o ≡ true → is_coarse_fine s b f ≡ false)
          → ((((o && bare) || is_coarse_fine s b f) && not (int_eq i (pos 0))) && (cond o (cond (int_lt (pos 0) i) 0 1) (cond (int_lt i (pos 0)) (2 + 2 * number_of s.cells (cell_beyond s b f)) (3 + 2 * number_of s.cells (cell_beyond s b f))) == 0))
          ≡ ((o && bare) && int_lt (pos 0) i)
      from true alone = ap (λ c. ((bare || c) && not (int_eq i (pos 0))) && (cond {A = ℕ} (int_lt (pos 0) i) 0 1 == 0)) (alone refl) ∙ into_first bare (not (int_eq i (pos 0))) (int_lt (pos 0) i) (above i)
      from false alone = past 0 (omega arith)

  pub to_outflow : goes_to s b 1 f ≡ (is_ledger_face s b f && is_out (inward s.problem s.level b f))
  unfolding goes_to goes_on word_of is_ledger_face
  to_outflow = from (is_open s b f) (open_alone s b f)
    where
      from : (o : Bool) → (o ≡ true → is_coarse_fine s b f ≡ false)
          → ((((o && bare) || is_coarse_fine s b f) && not (int_eq i (pos 0))) && (cond o (cond (int_lt (pos 0) i) 0 1) (cond (int_lt i (pos 0)) (2 + 2 * number_of s.cells (cell_beyond s b f)) (3 + 2 * number_of s.cells (cell_beyond s b f))) == 1))
          ≡ ((o && bare) && int_lt i (pos 0))
      from true alone = ap (λ c. ((bare || c) && not (int_eq i (pos 0))) && (cond {A = ℕ} (int_lt (pos 0) i) 0 1 == 1)) (alone refl) ∙ into_second bare (not (int_eq i (pos 0))) (int_lt (pos 0) i) (int_lt i (pos 0)) (not_below i) (below i)
      from false alone = past 1 (omega arith)
