use Rattle.std.proofs.Common.{◌<◌, false, true, ℕ, length, map, sym, ap, subst, ◌∙◌, arith}
use Rattle.std.proofs.lemmas.Result.{err_from_is_err_and}
use Rattle.amr_codec.specs.Forms.{basis_of}
use Rattle.amr_decoder.specs.Faults.{IsFaultOf}
use Rattle.amr_def.specs.State.{State}
use Rattle.amr_patch.specs.Levels.{level_of}
use Rattle.amr_payload.specs.Tests.{bad, read, read_step}
use Rattle.amr_decoder.specs.Lefts.{left_of}
use Rattle.amr_decoder.proofs.States.{balance, last_row, ledger_place, levels_bad, rows_bad, rows_counted, state_tested, step_bad}
use Rattle.amr_decoder.proofs.decoders.read_state.Goals as goal

pub read_ledger-requires-clause-after : goal.read_ledger-requires-clause-after
read_ledger-requires-clause-after c = omega (arith, c.in_ok-step.ensures.after, c.rows_before-before.ensures)

pub read_levels-requires-clause-after : goal.read_levels-requires-clause-after
read_levels-requires-clause-after c = omega (arith, c.in_ok-step.ensures.after, c.rows_before-before.ensures)

pub returns-in_err-step-clause-bad : goal.returns-in_err-step-clause-bad
returns-in_err-step-clause-bad c =
    let q = err_from_is_err_and c.from_residual.result c.from_residual.ensures.1 in
    rw (q.1, q.2) (step_bad (basis_of c.args.basis.now) c.args.p.now (left_of c.args.reader.now) c.in_err-step.field-0.0 (subst (λ k. IsFaultOf (read_step c.args.p.now k (left_of c.args.reader.now)) c.in_err-step.field-0.0) c.rows_before-before.ensures c.in_err-step.ensures.bad))

pub returns-in_err-rows-clause-bad : goal.returns-in_err-rows-clause-bad
returns-in_err-rows-clause-bad c =
    let q = err_from_is_err_and c.from_residual-in_err-rows.result c.from_residual-in_err-rows.ensures.1 in
    rw (q.1, q.2) (rows_bad (basis_of c.args.basis.now) c.args.p.now (left_of c.args.reader.now) (left_of c.read_step.new.reader) c.in_ok-step.step c.in_err-rows.field-0.0 (ap (λ k. read_step c.args.p.now k (left_of c.args.reader.now)) (sym c.rows_before-before.ensures) ∙ c.in_ok-step.ensures.read) c.in_err-rows.ensures.bad)

pub returns-in_err-levels-clause-bad : goal.returns-in_err-levels-clause-bad
returns-in_err-levels-clause-bad c =
    let q = err_from_is_err_and c.from_residual-in_err-levels.result c.from_residual-in_err-levels.ensures.1 in
    rw (q.1, q.2) (levels_bad (basis_of c.args.basis.now) c.args.p.now (left_of c.args.reader.now) (left_of c.read_step.new.reader) (left_of c.read_ledger.new.reader) c.in_ok-step.step c.in_ok-rows.rows.items c.in_err-levels.field-0.0 (ap (λ k. read_step c.args.p.now k (left_of c.args.reader.now)) (sym c.rows_before-before.ensures) ∙ c.in_ok-step.ensures.read) c.in_ok-rows.ensures.read c.in_err-levels.ensures.bad)

pub overflow_sub-result : goal.overflow_sub-result
overflow_sub-result c =
    let place = ledger_place (basis_of c.args.basis.now).rows c.in_ok-step.step (left_of c.read_step.new.reader) (left_of c.read_ledger.new.reader) c.in_ok-rows.rows.items (omega (arith, c.in_ok-step.ensures.after, c.rows_before-before.ensures)) c.in_ok-rows.ensures.read in
    omega (arith, place, c.place-behind_rows.ensures.place)

pub index-last-requires : goal.index-last-requires
index-last-requires c = omega (arith, rows_counted (basis_of c.args.basis.now).rows c.in_ok-step.step (left_of c.read_step.new.reader) (left_of c.read_ledger.new.reader) c.in_ok-rows.rows.items (omega (arith, c.in_ok-step.ensures.after, c.rows_before-before.ensures)) c.in_ok-rows.ensures.read)

pub returns-then-not-is_in_balance-clause-bad : goal.returns-then-not-is_in_balance-clause-bad
returns-then-not-is_in_balance-clause-bad c =
    let on = basis_of c.args.basis.now in
    let p = c.args.p.now in
    let n = c.in_ok-step.step in
    let rows = c.in_ok-rows.rows.items in
    let levels = map level_of c.in_ok-levels.levels.items in
    let a = left_of c.read_step.new.reader in
    let b = left_of c.read_ledger.new.reader in
    let count : n < length rows = omega (arith, rows_counted (basis_of c.args.basis.now).rows n a b rows (omega (arith, c.in_ok-step.ensures.after, c.rows_before-before.ensures)) c.in_ok-rows.ensures.read) in
    let row = c.index-last.result.now in
    let test = balance p n rows levels (map level_of c.deref.result.now) row c.is_in_balance.result (ap (map level_of) c.deref.ensures.value) count c.index-last.ensures c.is_in_balance.ensures ∙ c.if-not-is_in_balance.true in
    state_tested on p (left_of c.args.reader.now) a b (left_of c.read_levels.new.reader) n rows levels false (ap (λ k. read_step c.args.p.now k (left_of c.args.reader.now)) (sym c.rows_before-before.ensures) ∙ c.in_ok-step.ensures.read) c.in_ok-rows.ensures.read c.in_ok-levels.ensures.read test
    ∙ ap (λ (k : ℕ). bad k) (last_row (length on.rows) n a.place (left_of c.read_ledger.new.reader).place c.place-behind_rows.result c.place-behind_rows.ensures.place (ledger_place on.rows n a b rows (omega (arith, c.in_ok-step.ensures.after, c.rows_before-before.ensures)) c.in_ok-rows.ensures.read))

pub returns-clause-read : goal.returns-clause-read
returns-clause-read c =
    let on = basis_of c.args.basis.now in
    let p = c.args.p.now in
    let n = c.in_ok-step.step in
    let rows = c.in_ok-rows.rows.items in
    let levels = map level_of c.in_ok-levels.levels.items in
    let a = left_of c.read_step.new.reader in
    let b = left_of c.read_ledger.new.reader in
    let count : n < length rows = omega (arith, rows_counted (basis_of c.args.basis.now).rows n a b rows (omega (arith, c.in_ok-step.ensures.after, c.rows_before-before.ensures)) c.in_ok-rows.ensures.read) in
    let row = c.index-last.result.now in
    let test = balance p n rows levels (map level_of c.deref.result.now) row c.is_in_balance.result (ap (map level_of) c.deref.ensures.value) count c.index-last.ensures c.is_in_balance.ensures ∙ c.if-not-is_in_balance.false in
    state_tested on p (left_of c.args.reader.now) a b (left_of c.read_levels.new.reader) n rows levels true (ap (λ k. read_step c.args.p.now k (left_of c.args.reader.now)) (sym c.rows_before-before.ensures) ∙ c.in_ok-step.ensures.read) c.in_ok-rows.ensures.read c.in_ok-levels.ensures.read test
    ∙ ap (λ (s : State). read s (left_of c.read_levels.new.reader)) (sym c.of.ensures.state)
