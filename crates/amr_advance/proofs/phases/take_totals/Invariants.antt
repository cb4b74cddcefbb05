use Rattle.std.proofs.Common.{◌≡◌, ℕ, ◌<◌, length}
use Rattle.std.specs.Prelude.{slice_index}
use Rattle.amr_board.specs.Ended.{total_of}
use Rattle.amr_advance.proofs.phases.take_totals.Given as goal

-- the words so far have their totals
abbrev pub invariant-loop-word : goal.invariant-loop-word
invariant-loop-word l = (length l.totals ≡ length l.initial.totals) × ((j : ℕ) → j < l.word → slice_index l.totals j ≡ total_of l.ended j)
