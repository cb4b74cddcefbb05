-- What a keeper of checkpoints is before it is called. (profile)
use Rattle.std.specs.Prelude.{ℕ, ◌≡◌, ◌<◌, List, Option, Some, IfSome}
use Rattle.amr_def.specs.declared.problem.Problem.{Problem}
use Rattle.amr_def.specs.Facts.{IsSound}
use Rattle.amr_def.specs.State.{State}
use Rattle.amr_checkpoint.specs.declared.checkpoint.KeptStore.{KeptStore}
use Rattle.amr_checkpoint.specs.Checkpoints.{MayPut}
use Rattle.amr_store.specs.Stands.{problem_in}

-- it has a store that a state of the run may be put into
pub record MayKeep {D : Type 0} (seen : D → Option (List ℕ)) (moment : D → ℕ) (leaves : D → ℕ → List ℕ → Type 0) (p : Problem) (every : ℕ)
    (kept : Option KeptStore) (disk : D) (s : State) : Type 0 where
  pub sound : IsSound p s
  pub some : 0 < every
  pub store : KeptStore
  pub is : kept ≡ Some store
  pub may : MayPut seen moment leaves p store s disk

-- and that store is of these bytes
abbrev pub HasProblem : Option KeptStore → List ℕ → Type 0
HasProblem kept bytes = IfSome kept (λ kept. problem_in kept.store ≡ bytes)
