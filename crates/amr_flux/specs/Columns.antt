-- What the masses beside the y faces of columns are multiplied by.
use Rattle.std.specs.Prelude.{ℕ, ◌+◌, ◌<◌, ◌≤◌, length, slice_index}
use Rattle.amr_def.specs.declared.problem.Problem.{Problem}
use Rattle.amr_faces.specs.Numbers.{y_number}
use Rattle.amr_faces.specs.Shares.{AreFactors}
use Rattle.amr_flux.specs.declared.columns.Columns.{Columns}

-- the first n factors, if there is a limit, are those of the columns of level l from `first` on
pub record AreColumns (p : Problem) (l first n : ℕ) (c : Columns) : Type 0 where
  pub room : 0 < c.limit → n ≤ length c.low.items
  pub at : (i : ℕ) → i < n → 0 < c.limit → AreFactors (y_number p l (first + i)) p.d c.limit (slice_index c.low.items i) (slice_index c.high.items i)
