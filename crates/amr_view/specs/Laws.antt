-- A law of views, which a call of the crate ensures.
use Rattle.std.specs.Prelude.{◌≡◌, ℕ, pos}
use Rattle.amr_box.specs.Cells.{cell}
use Rattle.amr_def.specs.declared.problem.Problem.{Problem}
use Rattle.amr_def.specs.Domain.{columns, rows}
use Rattle.amr_def.specs.State.{State}
use Rattle.amr_def.specs.Facts.{IsSound, row_at}
use Rattle.amr_def.specs.Ledger.{sum_to}
use Rattle.amr_def.specs.View.{finest_mass}

-- the finest masses of all cells of a level's domain, added up
abbrev pub finest_total : Problem → State → ℕ → ℕ
finest_total p s l = sum_to (λ y. sum_to (λ x. finest_mass s l (cell (pos x) (pos y))) (columns p l)) (rows p l)

-- at every level they make up the mass of the last row of the ledger
abbrev pub ViewsAddUp : Type 0
ViewsAddUp = (p : Problem) (s : State) (l : ℕ) → IsSound p s → finest_total p s l ≡ (row_at s s.step).mass
