-- A team as contracts see it.
use Rattle.std.specs.Prelude.{ℕ}

-- its job, its gate, and how many work: those that it keeps, and its caller
pub record TeamOf (J G : Type 0) : Type 0 where
  pub job : J
  pub gate : G
  pub workers : ℕ
