use Rattle.std.proofs.Common.{◌≡◌, ℕ, ◌+◌, ◌<◌, true, length}
use Rattle.std.specs.Prelude.{◌==◌, slice_index}
use Rattle.std.specs.Int.{bit_at}
use Rattle.amr_sign.specs.Counts.{bit}
use Rattle.amr_sign.specs.Words.{word_bit}
use Rattle.amr_sign.proofs.words.add_word.Given as goal

abbrev pub invariant-loop-rest : goal.invariant-loop-rest
invariant-loop-rest l = record {
  counted : (c : ℕ) → c < length l.counts → slice_index l.counts c + bit (word_bit l.rest l.base (l.low + c)) ≡ slice_index l.initial.counts c + bit (word_bit l.word l.base (l.low + c));
  subset : (i : ℕ) → i < 64 → (bit_at l.rest i == 1) ≡ true → (bit_at l.word i == 1) ≡ true;
}

abbrev pub decreases-loop-rest : goal.decreases-loop-rest
decreases-loop-rest l = l.rest
