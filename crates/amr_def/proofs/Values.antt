-- The values of the cells of a level.
use Rattle.std.proofs.Common.{◌≡◌, ℕ, ℤ, IsSome, refl, sym, ap, subst, ◌∙◌}
use Rattle.std.specs.declared.option.Option.{Option}
use Rattle.std.specs.declared.option.Option.TheVariants.{None, Some}
use Rattle.std.specs.Option.{unwrap_or}
use Rattle.amr_box.specs.declared.Cell.{Cell}
pub use Rattle.amr_box.proofs.CellEquality.{same_cell}
use Rattle.amr_def.specs.declared.problem.Problem.{Problem}
use Rattle.amr_def.specs.Domain.{domain, home_cell}
use Rattle.amr_def.specs.State.{Masses}
use Rattle.amr_def.specs.Value.{home_value, value_at}
use Rattle.amr_def.specs.Flux.{flow}

or_else_given : (o : Option ℕ) (d : ℕ) → IsSome o → unwrap_or o d ≡ unwrap_or o 0
or_else_given None d h = cc
or_else_given (Some v) d h = refl

-- the value of a cell of the level is its mass
pub value_here : (p : Problem) (l : ℕ) (m old : Masses) (c k : Cell) → home_cell (domain p l) c ≡ k → IsSome (m k) → value_at p l m old c ≡ unwrap_or (m k) 0
unfolding value_at
value_here p l m old c k e h = or_else_given (m (home_cell (domain p l) c)) _ (subst (λ (j : Cell). IsSome (m j)) (sym e) h) ∙ ap (λ (j : Cell). unwrap_or (m j) 0) e

-- cells that stand for one cell have one value
pub value_same : (p : Problem) (l : ℕ) (m old : Masses) (c c' : Cell) → home_cell (domain p l) c ≡ home_cell (domain p l) c' → value_at p l m old c ≡ value_at p l m old c'
unfolding value_at
value_same p l m old c c' e = ap (home_value p l m old) e

pub flow_same : (c : ℤ) (d : ℕ) {low low' high high' : ℕ} → low ≡ low' → high ≡ high' → flow c d low high ≡ flow c d low' high'
flow_same c d a b i = flow c d (a i) (b i)
