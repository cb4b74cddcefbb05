use Rattle.std.proofs.Common.{◌≡◌, ◌↔◌, ◌<◌, Bool, ◌+◌, ◌-◌, true, false, ℕ, List, length, map, take, drop, length-append, sym, ap, subst, ◌∙◌, arith}
use Rattle.std.specs.Int.{w32}
use Rattle.std.specs.Prelude.{IsTrue, slice_index}
use Rattle.std.proofs.lemmas.List.{length-map}
use Rattle.std.proofs.lemmas.Result.{err_from_is_err_and}
use Rattle.amr_box.specs.Cells.{width}
use Rattle.amr_codec.specs.Forms.{HasMassAt, cells_of_row, masses_before}
use Rattle.amr_def.specs.State.{mass_of}
use Rattle.amr_payload.specs.Tests.{Reading, bad, read, read_joined}
use Rattle.amr_decoder.specs.Lefts.{left_of}
use Rattle.amr_decoder.specs.Numbers.{numbers}
use Rattle.amr_decoder.proofs.ChangedRows.{added_part, count_of, flag_bad, has_same, kept_read, new_bad, new_read, other_bad, row_count}
use Rattle.amr_decoder.proofs.changed.read_changed_row.Goals as goal

pub returns-in_err-flag-clause-bad : goal.returns-in_err-flag-clause-bad
returns-in_err-flag-clause-bad c =
    let q = err_from_is_err_and c.from_residual.result c.from_residual.ensures.1 in
    rw (q.1, q.2) (flag_bad (masses_before c.args.old) c.args.p.now c.args.kind.step c.args.kind.level (cells_of_row c.args.b.now c.args.j) (left_of c.args.reader.now) c.in_err-flag.field-0.0 c.in_err-flag.ensures.bad)

pub returns-then-not-kept-clause-bad : goal.returns-then-not-kept-clause-bad
returns-then-not-kept-clause-bad c =
    let cs = cells_of_row c.args.b.now c.args.j in
    kept_read (masses_before c.args.old) c.args.p.now c.args.kind.step c.args.kind.level cs (left_of c.args.reader.now) (left_of c.read_u8.new.self) c.in_ok-flag.flag c.in_ok-flag.ensures.read false c.if-flag-eq0.true (sym c.in_ok-kept.ensures.cells ∙ c.if-not-kept.true)
    ∙ ap (λ (k : ℕ). bad k) (sym c.place-place.ensures.place)

pub returns-then-flag-eq0-clause-read : goal.returns-then-flag-eq0-clause-read
returns-then-flag-eq0-clause-read c =
    let m = masses_before c.args.old in
    let cs = cells_of_row c.args.b.now c.args.j in
    let out = c.args.masses.now.items in
    ap (λ (q : Reading (List ℕ)). read_joined out q) (kept_read m c.args.p.now c.args.kind.step c.args.kind.level cs (left_of c.args.reader.now) (left_of c.read_u8.new.self) c.in_ok-flag.flag c.in_ok-flag.ensures.read true c.if-flag-eq0.true (sym c.in_ok-kept.ensures.cells ∙ c.if-not-kept.false))
    ∙ ap (λ (xs : List ℕ). read xs (left_of c.read_u8.new.self)) (sym (c.in_ok-kept.ensures.masses c.if-not-kept.false))

pub returns-then-flag-eq0-clause-count : goal.returns-then-flag-eq0-clause-count
returns-then-flag-eq0-clause-count c =
    let cs = cells_of_row c.args.b.now c.args.j in
    let out = c.args.masses.now.items in
    ap (λ (xs : List ℕ). length xs) (c.in_ok-kept.ensures.masses c.if-not-kept.false) ∙ length-append out (map (mass_of (masses_before c.args.old)) cs)
    ∙ ap (λ n. length out + n) (length-map cs (mass_of (masses_before c.args.old)) ∙ row_count c.args.b.now c.args.j)

pub returns-then-flag-ne1-clause-bad : goal.returns-then-flag-ne1-clause-bad
returns-then-flag-ne1-clause-bad c =
    other_bad (masses_before c.args.old) c.args.p.now c.args.kind.step c.args.kind.level (cells_of_row c.args.b.now c.args.j) (left_of c.args.reader.now) (left_of c.read_u8.new.self) c.in_ok-flag.flag c.in_ok-flag.ensures.read
    (λ e. absurd (omega (arith, e, c.if-flag-eq0.false))) (λ e. absurd (omega (arith, e, c.if-flag-ne1.true)))
    ∙ ap (λ (k : ℕ). bad k) (sym c.place-place.ensures.place)

pub returns-in_err-read_new_masses-clause-bad : goal.returns-in_err-read_new_masses-clause-bad
returns-in_err-read_new_masses-clause-bad c =
    let q = err_from_is_err_and c.from_residual-in_err-read_new_masses.result c.from_residual-in_err-read_new_masses.ensures.1 in
    rw (q.1, q.2) (new_bad (masses_before c.args.old) c.args.p.now c.args.kind.step c.args.kind.level (cells_of_row c.args.b.now c.args.j) (left_of c.args.reader.now) (left_of c.read_u8.new.self) c.in_ok-flag.flag c.in_ok-flag.ensures.read c.in_err-read_new_masses.field-0.0
    c.width.result (omega (arith, c.if-flag-ne1.false)) (row_count c.args.b.now c.args.j ∙ sym c.width.ensures.value) c.in_err-read_new_masses.ensures.bad)

pub has_masses-requires-clause-columns : goal.has_masses-requires-clause-columns
has_masses-requires-clause-columns c =
    let bytes = (left_of c.read_u8.new.self).bytes in
    let part = added_part c.args.masses.now.items (numbers w32 c.width.result bytes) c.deref.result.now c.len-before.result (c.deref.ensures.value ∙ c.in_ok-read_new_masses.ensures.added) (omega (arith, c.len-before.ensures, c.args.masses.now.ok.0)) in
    omega (arith, ap (λ (xs : List ℕ). length xs) part, count_of c.width.result bytes, c.width.ensures.value)

pub returns-then-has_masses-clause-bad : goal.returns-then-has_masses-clause-bad
returns-then-has_masses-clause-bad c =
    let m = masses_before c.args.old in
    let b = c.args.b.now in
    let out = c.args.masses.now.items in
    let ms = numbers w32 c.width.result (left_of c.read_u8.new.self).bytes in
    let size : length ms ≡ width b = count_of c.width.result (left_of c.read_u8.new.self).bytes ∙ c.width.ensures.value in
    let part = added_part out ms c.deref.result.now c.len-before.result (c.deref.ensures.value ∙ c.in_ok-read_new_masses.ensures.added) (omega (arith, c.len-before.ensures, c.args.masses.now.ok.0)) in
    let same = has_same m b c.args.j ms true (subst (λ (xs : List ℕ). IsTrue true ↔ ((k : ℕ) → k < length xs → HasMassAt m b c.args.j (0 + k) (slice_index xs k))) part (subst (λ (t : Bool). IsTrue t ↔ ((k : ℕ) → k < length (take (length c.deref.result.now - c.len-before.result) (drop c.len-before.result c.deref.result.now)) → HasMassAt m b c.args.j (0 + k) (slice_index (take (length c.deref.result.now - c.len-before.result) (drop c.len-before.result c.deref.result.now)) k))) c.if-has_masses.true c.has_masses.ensures)) size in
    new_read m c.args.p.now c.args.kind.step c.args.kind.level (cells_of_row b c.args.j) (left_of c.args.reader.now) (left_of c.read_u8.new.self) c.in_ok-flag.flag c.in_ok-flag.ensures.read ms (left_of c.read_new_masses.new.reader) true c.width.result (omega (arith, c.if-flag-ne1.false)) (row_count b c.args.j ∙ sym c.width.ensures.value) c.in_ok-read_new_masses.ensures.read same
    ∙ ap (λ (k : ℕ). bad k) (sym c.place-place.ensures.place)

pub returns-clause-read : goal.returns-clause-read
returns-clause-read c =
    let m = masses_before c.args.old in
    let b = c.args.b.now in
    let out = c.args.masses.now.items in
    let ms = numbers w32 c.width.result (left_of c.read_u8.new.self).bytes in
    let e = left_of c.read_new_masses.new.reader in
    let size : length ms ≡ width b = count_of c.width.result (left_of c.read_u8.new.self).bytes ∙ c.width.ensures.value in
    let part = added_part out ms c.deref.result.now c.len-before.result (c.deref.ensures.value ∙ c.in_ok-read_new_masses.ensures.added) (omega (arith, c.len-before.ensures, c.args.masses.now.ok.0)) in
    let same = has_same m b c.args.j ms false (subst (λ (xs : List ℕ). IsTrue false ↔ ((k : ℕ) → k < length xs → HasMassAt m b c.args.j (0 + k) (slice_index xs k))) part (subst (λ (t : Bool). IsTrue t ↔ ((k : ℕ) → k < length (take (length c.deref.result.now - c.len-before.result) (drop c.len-before.result c.deref.result.now)) → HasMassAt m b c.args.j (0 + k) (slice_index (take (length c.deref.result.now - c.len-before.result) (drop c.len-before.result c.deref.result.now)) k))) c.if-has_masses.false c.has_masses.ensures)) size in
    ap (λ (q : Reading (List ℕ)). read_joined out q) (new_read m c.args.p.now c.args.kind.step c.args.kind.level (cells_of_row b c.args.j) (left_of c.args.reader.now) (left_of c.read_u8.new.self) c.in_ok-flag.flag c.in_ok-flag.ensures.read ms e false c.width.result (omega (arith, c.if-flag-ne1.false)) (row_count b c.args.j ∙ sym c.width.ensures.value) c.in_ok-read_new_masses.ensures.read same)
    ∙ ap (λ (xs : List ℕ). read xs e) (sym c.in_ok-read_new_masses.ensures.added)

pub returns-clause-count : goal.returns-clause-count
returns-clause-count c =
    let bytes = (left_of c.read_u8.new.self).bytes in
    ap (λ (xs : List ℕ). length xs) c.in_ok-read_new_masses.ensures.added ∙ length-append c.args.masses.now.items (numbers w32 c.width.result bytes) ∙ ap (λ n. length c.args.masses.now.items + n) (count_of c.width.result bytes ∙ c.width.ensures.value)
