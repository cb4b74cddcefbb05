-- The ledger: rows that stand already or a first row, and the rows after them.
use Rattle.std.proofs.Common.{◌≡◌, ℕ, ◌+◌, ◌-◌, List, [], ◌∷◌, length, get_or, sym, ap, ◌∙◌, arith}
use Rattle.amr_def.specs.Facts.{no_row}
use Rattle.amr_def.specs.declared.problem.Row.{Row}
use Rattle.amr_payload.specs.Tests.{Left, read, then_read, read_also, read_first_row, read_joined, read_ledger, read_rows, read_rows_after}
use Rattle.amr_decoder.specs.declared.faults.CodecFault.{CodecFault}
use Rattle.amr_decoder.specs.Faults.{IsFaultOf}
use Rattle.amr_decoder.proofs.Lists.{also_one}
use Rattle.amr_decoder.proofs.Readings.{fault_first}

pub first_then : (n : ℕ) (r a : Left) (v : Row) (rows : List Row) → rows ≡ v ∷ [] → read_first_row r ≡ read v a → read_rows n r ≡ read_joined rows (read_rows_after n v a)
unfolding read_rows
first_then n r a v rows is first =
    ap (λ q. then_read q (λ v a. read_also v (read_rows_after n v a))) first ∙ sym (also_one v (read_rows_after n v a)) ∙ ap (λ (vs : List Row). read_joined vs (read_rows_after n v a)) (sym is)

pub first_bad : (n : ℕ) (r : Left) (e : CodecFault) → IsFaultOf (read_first_row r) e → IsFaultOf (read_rows n r) e
unfolding read_rows
first_bad n r e h = fault_first (read_first_row r) (λ v a. read_also v (read_rows_after n v a)) e h

-- row k is the last of those that stand already
pub later_then : (rs copies : List Row) (k n : ℕ) (v : Row) (r : Left) → length rs ≡ k + 1 → get_or rs k no_row ≡ v → copies ≡ rs → read_ledger rs n r ≡ read_joined copies (read_rows_after (n - k) v r)
later_then rs copies k n v r count last same = by_rows rs count ∙ ap (λ (v : Row). read_joined rs (read_rows_after (n - k) v r)) last ∙ ap (λ (vs : List Row). read_joined vs (read_rows_after (n - k) v r)) (sym same)
  where
    by_rows : (rs : List Row) → length rs ≡ k + 1 → read_ledger rs n r ≡ read_joined rs (read_rows_after (n - k) (get_or rs k no_row) r)
    by_rows [] count = absurd (omega arith)
    by_rows (v ∷ vs) count = let same : length vs ≡ k = omega (arith, count) in ap (λ j. read_joined (v ∷ vs) (read_rows_after (n - j) (get_or (v ∷ vs) j no_row) r)) same
