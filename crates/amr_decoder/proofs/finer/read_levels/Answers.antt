use Rattle.std.proofs.Common.{◌-◌, List, map, refl, sym, ap, subst, ◌∙◌, arith}
use Rattle.std.proofs.lemmas.Result.{err_from_is_err_and}
use Rattle.amr_codec.specs.Forms.{basis_of}
use Rattle.amr_def.specs.State as defined
use Rattle.amr_patch.specs.Levels.{level_of}
use Rattle.amr_payload.specs.Payload.{Form}
use Rattle.amr_payload.specs.Tests.{read_all_finer, read_level, read_levels}
use Rattle.amr_payload.proofs.Readings.{also_read}
use Rattle.amr_decoder.specs.Lefts.{left_of}
use Rattle.amr_decoder.specs.Faults.{IsFaultOf}
use Rattle.amr_decoder.specs.ReadLevels.{HasBase, IsReadable, read_over}
use Rattle.amr_decoder.proofs.LevelReadings.{basis_forms}
use Rattle.amr_decoder.proofs.FinerLevels.{base_bad, count_bad, finer_next}
use Rattle.amr_decoder.proofs.Readings.{fault_same}
use Rattle.amr_decoder.proofs.finer.read_levels.Goals as goal

pub read_level-requires-clause-form : goal.read_level-requires-clause-form
read_level-requires-clause-form c =
    subst (λ (f : Form). IsReadable c.args.p.now c.args.step 0 f) (sym c.form_at-form.ensures) (basis_forms c.args.p.now c.args.basis.now c.args.step 0 c.requires.basis c.requires.after)

pub returns-in_err-count-clause-bad : goal.returns-in_err-count-clause-bad
returns-in_err-count-clause-bad c =
    let q = err_from_is_err_and c.from_residual.result c.from_residual.ensures.1 in
    rw (q.1, q.2) (count_bad (basis_of c.args.basis.now).forms c.args.p.now c.args.step (left_of c.args.reader.now) c.in_err-count.field-0.0 c.in_err-count.ensures.bad)

pub returns-in_err-base-clause-bad : goal.returns-in_err-base-clause-bad
returns-in_err-base-clause-bad c =
    let q = err_from_is_err_and c.from_residual-in_err-base.result c.from_residual-in_err-base.ensures.1 in
    rw (q.1, q.2) (base_bad (basis_of c.args.basis.now).forms c.args.p.now c.args.step c.in_ok-count.count (left_of c.args.reader.now) (left_of c.read_level_count.new.reader) c.in_err-base.field-0.0 c.in_ok-count.ensures.read (subst (λ (f : Form). IsFaultOf (read_level f c.args.p.now c.args.step 0 (left_of c.read_level_count.new.reader)) c.in_err-base.field-0.0) c.form_at-form.ensures c.in_err-base.ensures.bad))

pub returns-in_err-levels-clause-bad : goal.returns-in_err-levels-clause-bad
returns-in_err-levels-clause-bad c =
    let fs = (basis_of c.args.basis.now).forms in
    let p = c.args.p.now in
    let n = c.args.step in
    let base = level_of c.in_ok-base.base in
    let b = left_of c.read_level.new.reader in
    let q = err_from_is_err_and c.from_residual-in_err-levels.result c.from_residual-in_err-levels.ensures.1 in
    rw (q.1, q.2) (fault_same (read_levels fs p n (left_of c.args.reader.now)) (read_over fs p n (c.from.result - 1) base b) c.in_err-levels.field-0.0
    (finer_next fs p n c.in_ok-count.count base (left_of c.args.reader.now) (left_of c.read_level_count.new.reader) b c.in_ok-count.ensures.read (ap (λ (f : Form). read_level f c.args.p.now c.args.step 0 (left_of c.read_level_count.new.reader)) (sym c.form_at-form.ensures) ∙ c.in_ok-base.ensures.read) ∙ ap (λ t. read_over fs p n (t - 1) base b) (sym c.from.ensures))
    c.in_err-levels.ensures.bad)

pub returns-clause-read : goal.returns-clause-read
returns-clause-read c =
    let fs = (basis_of c.args.basis.now).forms in
    let p = c.args.p.now in
    let n = c.args.step in
    let base = level_of c.in_ok-base.base in
    let b = left_of c.read_level.new.reader in
    finer_next fs p n c.in_ok-count.count base (left_of c.args.reader.now) (left_of c.read_level_count.new.reader) b c.in_ok-count.ensures.read (ap (λ (f : Form). read_level f c.args.p.now c.args.step 0 (left_of c.read_level_count.new.reader)) (sym c.form_at-form.ensures) ∙ c.in_ok-base.ensures.read)
    ∙ ap (λ t. read_over fs p n (t - 1) base b) (sym c.from.ensures)
    ∙ c.in_ok-levels.ensures.read

pub returns-clause-base : goal.returns-clause-base
returns-clause-base c =
    let base = level_of c.in_ok-base.base in
    let all = also_read base (read_all_finer (basis_of c.args.basis.now).forms c.args.p.now c.args.step (c.from.result - 1) 0 base (left_of c.read_level.new.reader)) (map level_of c.in_ok-levels.levels.items) (left_of c.add_finer.new.reader) c.in_ok-levels.ensures.read in
    subst (λ (ks : List defined.Level). HasBase c.args.p.now ks) (sym all.all) (record { some = omega arith; level = c.in_ok-base.ensures.level; boxes = c.in_ok-base.ensures.base refl })
