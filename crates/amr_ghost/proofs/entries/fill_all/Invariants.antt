use Rattle.std.proofs.Common.{◌≡◌, ℕ, ◌<◌}
use Rattle.std.specs.Prelude.{slice_index_or}
use Rattle.amr_ghost.proofs.entries.fill_all.Given as goal

-- the places so far have the value
abbrev pub invariant-loop-k : goal.invariant-loop-k
invariant-loop-k g l = (j : ℕ) (absent : g.row.T.Denot) → j < l.k → slice_index_or l.values j absent ≡ l.fn.value
