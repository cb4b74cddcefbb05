use Rattle.std.proofs.Common.{◌≡◌, ◌+◌, ◌-◌, List, arith, sym, ap, ◌∙◌}
use Rattle.std.proofs.lemmas.Result.{err_from_is_err_and}
use Rattle.amr_def.specs.declared.problem.Row.{Row}
use Rattle.amr_payload.specs.Tests.{read_joined, read_rows_after}
use Rattle.amr_decoder.specs.Lefts.{left_of}
use Rattle.amr_decoder.proofs.Lists.{all_read, also_all, bad_next, joined_all, more}
use Rattle.amr_decoder.proofs.Rows.{row_bad, row_next, rows_end}
use Rattle.amr_decoder.proofs.ledger.read_rows_after.Goals as goal

pub loop-k-init : goal.loop-k-init
loop-k-init c =
    let none : c.args.count ≡ c.args.count - 0 = omega arith in
    joined_all c.args.rows.now.items (read_rows_after c.args.count c.args.before (left_of c.args.reader.now))
    ∙ ap (λ n. also_all c.args.rows.now.items (read_rows_after n c.args.before (left_of c.args.reader.now))) none

pub loop-k-preserved : goal.loop-k-preserved
loop-k-preserved c =
    let l = c.loop-k in
    let n = c.args.count in
    let before = left_of l.reader in
    let after = left_of c.read_row_after.new.reader in
    more (read_joined c.args.rows.now.items (read_rows_after n c.args.before (left_of c.args.reader.now))) l.rows.items c.in_ok-last.last (read_rows_after (n - l._k) l.last before) (read_rows_after (n - (l._k + 1)) c.in_ok-last.last after) l.invariant
    (row_next n l._k l.last c.in_ok-last.last before after c.loop-k-test.true c.in_ok-last.ensures.read)
    ∙ ap (λ (rows : List Row). also_all rows (read_rows_after (n - (l._k + 1)) c.in_ok-last.last after)) (sym c.in_ok-push.ensures.items)

pub returns-in_err-last-clause-bad : goal.returns-in_err-last-clause-bad
returns-in_err-last-clause-bad c =
    let l = c.loop-k in
    let n = c.args.count in
    let p = err_from_is_err_and c.from_residual.result c.from_residual.ensures.1 in
    rw (p.1, p.2) (bad_next (read_joined c.args.rows.now.items (read_rows_after n c.args.before (left_of c.args.reader.now))) l.rows.items (read_rows_after (n - l._k) l.last (left_of l.reader)) c.in_err-last.field-0.0 l.invariant
    (row_bad n l._k l.last (left_of l.reader) c.in_err-last.field-0.0 c.loop-k-test.true c.in_err-last.ensures.bad))

pub returns-clause-read : goal.returns-clause-read
returns-clause-read c =
    let l = c.loop-k in
    let n = c.args.count in
    all_read (read_joined c.args.rows.now.items (read_rows_after n c.args.before (left_of c.args.reader.now))) l.rows.items (read_rows_after (n - l._k) l.last (left_of l.reader)) (left_of l.reader) l.invariant
    (rows_end n l._k l.last (left_of l.reader) (omega (arith, c.loop-k-test.false)))
