use Rattle.std.proofs.Common.{ℕ, true, false, sym, ap, subst, ◌∙◌, arith}
use Rattle.amr_codec.specs.Forms.{form_of}
use Rattle.amr_def.specs.Facts.{IsLevel}
use Rattle.amr_patch.specs.Levels.{level_of}
use Rattle.amr_payload.specs.Tests.{bad, read_level}
use Rattle.amr_decoder.specs.Lefts.{left_of}
use Rattle.amr_decoder.specs.ReadLevels.{IsReadable}
use Rattle.amr_decoder.proofs.FinerLevels.{finer_tested}
use Rattle.amr_decoder.proofs.finer.read_finer.Goals as goal

pub read_level-requires-clause-form : goal.read_level-requires-clause-form
read_level-requires-clause-form c =
    subst (λ (n : ℕ). IsReadable c.args.p.now n c.finer.result.level (form_of c.args.form.now)) (sym c.finer.ensures.step)
    (subst (λ (l : ℕ). IsReadable c.args.p.now c.args.kind.step l (form_of c.args.form.now)) (sym c.finer.ensures.level) c.requires.form)

pub stands_over-requires-clause-fine : goal.stands_over-requires-clause-fine
stands_over-requires-clause-fine c = subst (λ (n : ℕ). IsLevel c.args.p.now n (level_of c.in_ok-level.level)) c.finer.ensures.level c.in_ok-level.ensures.level

pub stands_over-requires-clause-aligned : goal.stands_over-requires-clause-aligned
stands_over-requires-clause-aligned c = c.in_ok-level.ensures.aligned (omega (arith, c.finer.ensures.level))

pub returns-then-not-stands-clause-bad : goal.returns-then-not-stands-clause-bad
returns-then-not-stands-clause-bad c =
    let kind = c.args.kind in
    let p = c.args.p.now in
    let f = c.finer.result in
    let first = (λ i. read_level (form_of c.args.form.now) p (sym c.finer.ensures.step i) f.level (left_of c.args.reader.now)) ∙ c.in_ok-level.ensures.read in
    finer_tested (form_of c.args.form.now) p kind.step kind.level (level_of c.args.below.now) f.level (level_of c.in_ok-level.level) (left_of c.args.reader.now) (left_of c.read_level.new.reader) false c.finer.ensures.level first (sym c.in_ok-stands.ensures ∙ c.if-not-stands.true)
    ∙ ap (λ (k : ℕ). bad k) (sym c.place-place.ensures.place)

pub returns-clause-read : goal.returns-clause-read
returns-clause-read c =
    let kind = c.args.kind in
    let p = c.args.p.now in
    let f = c.finer.result in
    let first = (λ i. read_level (form_of c.args.form.now) p (sym c.finer.ensures.step i) f.level (left_of c.args.reader.now)) ∙ c.in_ok-level.ensures.read in
    finer_tested (form_of c.args.form.now) p kind.step kind.level (level_of c.args.below.now) f.level (level_of c.in_ok-level.level) (left_of c.args.reader.now) (left_of c.read_level.new.reader) true c.finer.ensures.level first (sym c.in_ok-stands.ensures ∙ c.if-not-stands.false)

pub returns-clause-level : goal.returns-clause-level
returns-clause-level c = subst (λ (n : ℕ). IsLevel c.args.p.now n (level_of c.in_ok-level.level)) c.finer.ensures.level c.in_ok-level.ensures.level
