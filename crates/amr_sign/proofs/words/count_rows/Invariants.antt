use Rattle.std.proofs.Common.{◌≡◌, ℕ, ◌+◌, ◌-◌, ◌<◌}
use Rattle.std.specs.Prelude.{slice_index}
use Rattle.amr_sign.specs.Counts.{count_to}
use Rattle.amr_sign.specs.Words.{bit_of}
use Rattle.amr_sign.proofs.words.count_rows.Given as goal

abbrev pub invariant-loop-y : goal.invariant-loop-y
invariant-loop-y l =
    (j : ℕ) → j < l.y - l.at.south → slice_index l.counts j ≡ count_to (λ i. bit_of l.per_row l.words (l.at.west + i) (l.at.south + j)) (l.at.east + 1 - l.at.west)
