use Rattle.std.proofs.Common.{◌∙◌}
use Rattle.std.proofs.lemmas.Result.{err_from_is_err_and}
use Rattle.amr_payload.specs.Tests.{read_joined, read_rows, read_rows_after}
use Rattle.amr_decoder.specs.Lefts.{left_of}
use Rattle.amr_decoder.proofs.Ledgers.{first_bad, first_then}
use Rattle.amr_decoder.proofs.Readings.{fault_same}
use Rattle.amr_decoder.proofs.ledger.read_rows.Goals as goal

pub returns-in_err-first-clause-bad : goal.returns-in_err-first-clause-bad
returns-in_err-first-clause-bad c =
    let q = err_from_is_err_and c.from_residual.result c.from_residual.ensures.1 in
    rw (q.1, q.2) (first_bad c.args.count (left_of c.args.reader.now) c.in_err-first.field-0.0 c.in_err-first.ensures.bad)

pub returns-in_err-read_rows_after-clause-bad : goal.returns-in_err-read_rows_after-clause-bad
returns-in_err-read_rows_after-clause-bad c =
    let n = c.args.count in
    let r = left_of c.args.reader.now in
    let a = left_of c.read_first_row.new.reader in
    let v = c.in_ok-first.first in
    let q = err_from_is_err_and c.from_residual-in_err-read_rows_after.result c.from_residual-in_err-read_rows_after.ensures.1 in
    rw (q.1, q.2) (fault_same (read_rows n r) (read_joined c.in_ok-rows.rows.items (read_rows_after n v a)) c.in_err-read_rows_after.field-0.0
    (first_then n r a v c.in_ok-rows.rows.items c.in_ok-rows.ensures.items c.in_ok-first.ensures.read) c.in_err-read_rows_after.ensures.bad)

pub returns-clause-read : goal.returns-clause-read
returns-clause-read c =
    first_then c.args.count (left_of c.args.reader.now) (left_of c.read_first_row.new.reader) c.in_ok-first.first c.in_ok-rows.rows.items c.in_ok-rows.ensures.items c.in_ok-first.ensures.read
    ∙ c.in_ok-read_rows_after.ensures.read
