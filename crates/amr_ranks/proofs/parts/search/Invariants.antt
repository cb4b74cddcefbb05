use Rattle.std.proofs.Common.{◌≡◌, ℕ, ◌<◌, false, get_or}
use Rattle.amr_ranks.specs.Items.{is_at}
use Rattle.amr_ranks.specs.Stored.{no_cell}
use Rattle.amr_ranks.proofs.parts.search.Given as goal

abbrev pub invariant-loop-cell : goal.invariant-loop-cell
invariant-loop-cell l = (k : ℕ) → k < l.cell-index → is_at l.patch l.slot (get_or l.run k no_cell) ≡ false
