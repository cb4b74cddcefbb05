-- Levels as ordered maps.
use Rattle.std.proofs.Common.{◌≡◌, ℕ, Bool, true, false, cond, List, ◌∷◌, sym, ap, ◌∙◌, subst}
use Rattle.std.specs.declared.option.Option.TheVariants.{None, Some}
use Rattle.std.specs.Ordering.{int_cmp, eq_by_cmp}
use Rattle.std.specs.Cmp.{IsTotalOrder, then_total, on_total, int_cmp_total}
use Rattle.std.specs.Map.{lookup}
use Rattle.std.specs.BTreeMap.{BTreeMap, is_at, IsEmpty}
use Rattle.amr_box.specs.declared.Cell.{Cell}
use Rattle.amr_box.specs.Cells.{cell_cmp}
use Rattle.amr_box.proofs.CellEquality.{cell_itself, cell_same}
use Rattle.amr_box.proofs.Tests.{opposite}
use Rattle.amr_def.specs.State.{Masses}
use Rattle.amr_def.specs.Flux.{Fluxes, updated}
use Rattle.amr_def.proofs.Subcycle.{bool_cases, is_false}
use Rattle.amr_witness.specs.Maps.{masses_of}

pub cell_cmp_total : IsTotalOrder cell_cmp
cell_cmp_total = then_total (on_total {K = Cell} (λ c. c.x) {R = int_cmp} int_cmp_total) (on_total {K = Cell} (λ c. c.y) {R = int_cmp} int_cmp_total)

pub none_updated : (next m : BTreeMap Cell ℕ) (s : List (Cell × ℕ)) (e : Fluxes) → IsEmpty next → s ≡ m.entries → (q : Cell) → lookup (is_at (cell_cmp q)) s ≡ None → masses_of next q ≡ updated (masses_of m) e q
unfolding updated
none_updated next m s e empty start q none =
    let absent : lookup (is_at (cell_cmp q)) m.entries ≡ None = subst (λ (es : List (Cell × ℕ)). lookup (is_at (cell_cmp q)) es ≡ None) start none in
    rw absent (ap (λ (es : List (Cell × ℕ)). lookup (is_at (cell_cmp q)) es) empty)

pub other : (k q : Cell) → eq_by_cmp cell_cmp k q ≡ false → eq_by_cmp cell_cmp q k ≡ false
other k q isnt =
    is_false _ (λ (is : eq_by_cmp cell_cmp q k ≡ true). opposite (ap (λ (c : Cell). eq_by_cmp cell_cmp k c) (cell_same q k is) ∙ cell_itself k) isnt)

-- ---- one more entry of a map has its wanted value in another

pub put_more : (next next' : BTreeMap Cell ℕ) (wanted : Masses) (s t : List (Cell × ℕ)) (k : Cell) (v w : ℕ) → s ≡ (k, v) ∷ t → ((q : Cell) → lookup (is_at (cell_cmp q)) s ≡ None → masses_of next q ≡ wanted q) → ((q : Cell) → masses_of next' q ≡ cond (is_at (cell_cmp k) q) (Some w) (masses_of next q)) → wanted k ≡ Some w
    → (q : Cell) → lookup (is_at (cell_cmp q)) t ≡ None → masses_of next' q ≡ wanted q
put_more next next' wanted s t k v w more left put new q none =
    bool_cases (eq_by_cmp cell_cmp k q)
    (λ e. put q ∙ ap (λ (b : Bool). cond b (Some w) (masses_of next q)) e ∙ sym new ∙ ap wanted (cell_same k q e))
    (λ e.
    put q ∙ ap (λ (b : Bool). cond b (Some w) (masses_of next q)) e
    ∙ left q (ap (λ (es : List (Cell × ℕ)). lookup (is_at (cell_cmp q)) es) more ∙ ap (λ (b : Bool). cond b (Some v) (lookup (is_at (cell_cmp q)) t)) (other k q e) ∙ none))
