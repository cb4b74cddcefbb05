use Rattle.std.proofs.Common.{◌≡◌, ◌+◌, ◌-◌, ◌*◌, ℕ, List, length, refl, sym, ap, ◌∙◌, mul-zero, arith}
use Rattle.std.proofs.lemmas.Int.{ints}
use Rattle.std.proofs.lemmas.Result.{err_from_is_err_and}
use Rattle.amr_box.specs.Cells.{height, width}
use Rattle.amr_codec.specs.Forms.{masses_before}
use Rattle.amr_payload.specs.Payload.{cell_rows}
use Rattle.amr_payload.specs.Tests.{read_all_changed}
use Rattle.amr_decoder.specs.Lefts.{left_of}
use Rattle.amr_decoder.proofs.ChangedRows.{no_rows_yet, row_bad, row_next, rows_read}
use Rattle.amr_decoder.proofs.changed.read_changed_rows.Goals as goal

pub loop-j-init : goal.loop-j-init
loop-j-init c =
    record {
      so_far = no_rows_yet (masses_before c.args.old) c.args.p.now c.args.kind.step c.args.kind.level c.args.b.now (left_of c.args.reader.now) c.new-masses.result.items c.new-masses.ensures.items;
      count = ap (λ (xs : List ℕ). length xs) c.new-masses.ensures.items ∙ sym (mul-zero (width c.args.b.now));
      whole = refl;
    }

pub read_changed_row-requires-clause-inside : goal.read_changed_row-requires-clause-inside
read_changed_row-requires-clause-inside c = omega (arith, ints, c.height-j-end.ensures.corners, c.loop-j-test.true)

pub returns-in_err-read_changed_row-clause-bad : goal.returns-in_err-read_changed_row-clause-bad
returns-in_err-read_changed_row-clause-bad c =
    let l = c.loop-j in
    let m = masses_before c.args.old in
    let p = c.args.p.now in
    let b = c.args.b.now in
    let q = err_from_is_err_and c.from_residual.result c.from_residual.ensures.1 in
    rw (q.1, q.2) (row_bad m p c.args.kind.step c.args.kind.level b (height b) (read_all_changed m p c.args.kind.step c.args.kind.level (cell_rows b) (left_of c.args.reader.now)) l.j l.masses.items (left_of l.reader) c.in_err-read_changed_row.field-0.0
    (omega (arith, c.loop-j-test.true, c.height-j-end.ensures.value)) l.invariant.so_far c.in_err-read_changed_row.ensures.bad)

pub loop-j-preserved : goal.loop-j-preserved
loop-j-preserved c =
    let l = c.loop-j in
    let m = masses_before c.args.old in
    let p = c.args.p.now in
    let b = c.args.b.now in
    let one : width b * (l.j + 1) ≡ width b * l.j + width b = omega arith in
    record {
      so_far = row_next m p c.args.kind.step c.args.kind.level b (height b) (read_all_changed m p c.args.kind.step c.args.kind.level (cell_rows b) (left_of c.args.reader.now)) l.j l.masses.items c.read_changed_row.new.masses.items (left_of l.reader) (left_of c.read_changed_row.new.reader)
          (omega (arith, c.loop-j-test.true, c.height-j-end.ensures.value)) l.invariant.so_far c.in_ok-read_changed_row.ensures.read;
      count = omega (arith, one, l.invariant.count, c.in_ok-read_changed_row.ensures.count);
      whole = c.in_ok-read_changed_row.ensures.whole ∙ l.invariant.whole;
    }

pub returns-clause-read : goal.returns-clause-read
returns-clause-read c =
    let l = c.loop-j in
    let m = masses_before c.args.old in
    let p = c.args.p.now in
    let b = c.args.b.now in
    rows_read m p c.args.kind.step c.args.kind.level b (height b) (read_all_changed m p c.args.kind.step c.args.kind.level (cell_rows b) (left_of c.args.reader.now)) l.j l.masses.items (left_of l.reader)
    (omega (arith, c.loop-j-test.false, c.height-j-end.ensures.value)) l.invariant.so_far

pub returns-clause-count : goal.returns-clause-count
returns-clause-count c =
    let l = c.loop-j in
    let all : l.j ≡ height c.args.b.now = omega (arith, l.auto.j-end, c.loop-j-test.false, c.height-j-end.ensures.value) in
    l.invariant.count ∙ ap (λ n. width c.args.b.now * n) all
