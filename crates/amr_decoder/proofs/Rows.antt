-- Rows of the ledger, read one after another.
use Rattle.std.proofs.Common.{◌≡◌, ℕ, suc, ◌+◌, ◌-◌, ◌<◌, [], ap, ◌∙◌}
use Rattle.amr_def.specs.declared.problem.Row.{Row}
use Rattle.amr_payload.specs.Tests.{Left, read, then_read, read_also, read_row_after, read_rows_after}
use Rattle.amr_decoder.specs.declared.faults.CodecFault.{CodecFault}
use Rattle.amr_decoder.specs.Faults.{IsFaultOf}
use Rattle.amr_decoder.proofs.Readings.{fault_first, fault_same}
use Rattle.amr_decoder.proofs.Lists.{one_left}

pub row_next : (n k : ℕ) (last row : Row) (l m : Left) → k < n → read_row_after last l ≡ read row m → read_rows_after (n - k) last l ≡ read_also row (read_rows_after (n - (k + 1)) row m)
row_next n k last row l m inside first =
    ap (λ j. read_rows_after j last l) (one_left n k inside)
    ∙ ap (λ q. then_read q (λ v a. read_also v (read_rows_after (n - (k + 1)) v a))) first

pub row_bad : (n k : ℕ) (last : Row) (l : Left) (e : CodecFault) → k < n → IsFaultOf (read_row_after last l) e → IsFaultOf (read_rows_after (n - k) last l) e
row_bad n k last l e inside h =
    fault_same (read_rows_after (n - k) last l) (read_rows_after (suc (n - (k + 1))) last l) e (ap (λ j. read_rows_after j last l) (one_left n k inside))
    (fault_first (read_row_after last l) (λ v a. read_also v (read_rows_after (n - (k + 1)) v a)) e h)

pub rows_end : (n k : ℕ) (last : Row) (l : Left) → n - k ≡ 0 → read_rows_after (n - k) last l ≡ read [] l
rows_end n k last l none = ap (λ j. read_rows_after j last l) none
