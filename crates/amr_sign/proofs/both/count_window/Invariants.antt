use Rattle.std.proofs.Common.{◌≡◌, ℕ, ◌+◌, ◌-◌, ◌<◌, ◌≤◌, length}
use Rattle.std.specs.Prelude.{slice_index}
use Rattle.amr_sign.specs.Counts.{count_to}
use Rattle.amr_sign.specs.Stretches.{begins, ends}
use Rattle.amr_sign.specs.Words.{bit_of}
use Rattle.amr_sign.proofs.both.count_window.Given as goal

abbrev pub invariant-loop-y : goal.invariant-loop-y
invariant-loop-y l = record {
  begin : (c : ℕ) → c < length l.columns → slice_index l.columns c ≡ count_to (λ j. begins (λ i. bit_of l.per_row l.words (l.at.west + i) (l.at.south + j)) c) (l.y - l.at.south);
  end : (c : ℕ) → c < length l.columns → slice_index l.ended c ≡ count_to (λ j. ends (λ i. bit_of l.per_row l.words (l.at.west + i) (l.at.south + j)) c) (l.y - l.at.south);
  room : (c : ℕ) → c < length l.ended → slice_index l.ended c ≤ l.y - l.at.south;
  upward : (j : ℕ) → j < l.y - l.at.south → slice_index l.rows j ≡ count_to (λ i. bit_of l.per_row l.words (l.at.west + i) (l.at.south + j)) (l.at.east + 1 - l.at.west);
}
