use Rattle.std.proofs.Common.{◌≡◌, ℕ, ◌+◌, ◌*◌, ◌<◌, ◌&&◌, length}
use Rattle.std.specs.Prelude.{nat_lt, slice_index}
use Rattle.amr_sign.specs.Counts.{bit, count_to}
use Rattle.amr_sign.specs.Stretches.{begins, ends, in_span, preceding}
use Rattle.amr_sign.proofs.stretches.add_row_stretches.Given as goal

abbrev pub invariant-loop-k : goal.invariant-loop-k
invariant-loop-k l = record {
  begin : (c : ℕ) → c < length l.begun → slice_index l.begun c ≡ slice_index l.initial.begun c + bit (nat_lt (l.low + c) (64 * l.k) && begins (in_span l.row l.low l.high) (l.low + c));
  end : (c : ℕ) → c < length l.ended → slice_index l.ended c ≡ slice_index l.initial.ended c + bit (nat_lt (l.low + c) (64 * l.k) && ends (in_span l.row l.low l.high) (l.low + c));
  number : l.count ≡ count_to (in_span l.row l.low l.high) (64 * l.k);
  first : l.before ≡ preceding (in_span l.row l.low l.high) (64 * l.k);
}
