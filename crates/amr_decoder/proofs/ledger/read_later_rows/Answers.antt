use Rattle.std.proofs.Common.{◌≡◌, ◌+◌, ◌-◌, length, get_or, ◌∙◌, arith}
use Rattle.std.proofs.lemmas.Option.{get_or_from_slice_get}
use Rattle.std.proofs.lemmas.Result.{err_from_is_err_and}
use Rattle.amr_def.specs.Facts.{no_row}
use Rattle.amr_patch.specs.Meshes.{state_of}
use Rattle.amr_payload.specs.Tests.{read_joined, read_ledger, read_rows_after}
use Rattle.amr_decoder.specs.Lefts.{left_of}
use Rattle.amr_decoder.proofs.Ledgers.{later_then}
use Rattle.amr_decoder.proofs.Readings.{fault_same}
use Rattle.amr_decoder.proofs.ledger.read_later_rows.Goals as goal

pub returns-in_err-read_rows_after-clause-bad : goal.returns-in_err-read_rows_after-clause-bad
returns-in_err-read_rows_after-clause-bad c =
    let rs = (state_of c.args.old.now).rows in
    let k = c.step-last.result in
    let n = c.args.step in
    let r = left_of c.args.reader.now in
    let count : length rs ≡ k + 1 = omega (arith, c.requires.count, c.step-last.ensures) in
    let last : get_or rs k no_row ≡ c.row.result = get_or_from_slice_get rs k c.row.result no_row c.row.ensures in
    let q = err_from_is_err_and c.from_residual-in_err-read_rows_after.result c.from_residual-in_err-read_rows_after.ensures.1 in
    rw (q.1, q.2) (fault_same (read_ledger rs n r) (read_joined c.in_ok-rows.rows.items (read_rows_after (n - k) c.row.result r)) c.in_err-read_rows_after.field-0.0
    (later_then rs c.in_ok-rows.rows.items k n c.row.result r count last c.in_ok-rows.ensures) c.in_err-read_rows_after.ensures.bad)

pub returns-clause-read : goal.returns-clause-read
returns-clause-read c =
    let rs = (state_of c.args.old.now).rows in
    let k = c.step-last.result in
    let count : length rs ≡ k + 1 = omega (arith, c.requires.count, c.step-last.ensures) in
    let last : get_or rs k no_row ≡ c.row.result = get_or_from_slice_get rs k c.row.result no_row c.row.ensures in
    later_then rs c.in_ok-rows.rows.items k c.args.step c.row.result (left_of c.args.reader.now) count last c.in_ok-rows.ensures ∙ c.in_ok-read_rows_after.ensures.read
