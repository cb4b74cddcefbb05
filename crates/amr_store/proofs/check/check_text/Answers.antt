use Rattle.std.proofs.Common.{◌≡◌, ◌∙◌, ◌+◌, nat_lt, true, false, ◌||◌, sym, drop, length, arith}
use Rattle.std.proofs.lemmas.Bool.{ltb-true, ltb-false, lt-ltb, le-ltb, or_right, or_from}
use Rattle.std.proofs.lemmas.Result.{IfOk-weaker}
use Rattle.amr_store.proofs.PartsRead.{more_tests, first_test}
use Rattle.amr_store.specs.declared.part.Part.TheVariants.{Text}
use Rattle.amr_store.specs.Layout.{text_length}
use Rattle.amr_store.specs.Fields.{deltas_tests}
use Rattle.amr_store.proofs.Readings.{reads_on}
use Rattle.amr_store.proofs.check.check_text.Goals as goal

pub returns-in-Ok-false-clause-told : goal.returns-in-Ok-false-clause-told
returns-in-Ok-false-clause-told g c s is says =
    let part = drop c.args.base s in
    let none : nat_lt (20 + c.args.head.text) (length part) ≡ false = sym (c.in-Ok-false.ensures.told s is) ∙ c.in-Ok-false.field-0-test in
    first_test (nat_lt 65536 (text_length part) || nat_lt (length part) (21 + text_length part)) Text (deltas_tests part)
    (or_right (nat_lt 65536 (text_length part)) (nat_lt (length part) (21 + text_length part)) (lt-ltb (length part) (21 + text_length part) (omega (arith, says.text_is, ltb-false (20 + c.args.head.text) (length part) none))))

pub returns-clause-told : goal.returns-clause-told
returns-clause-told g c =
    IfOk-weaker c.check_deltas.result _ _ (λ checked told s is says.
    let part = drop c.args.base s in
    let long : nat_lt (20 + c.args.head.text) (length part) ≡ true = sym (c.in-Ok-true.ensures.told s is) ∙ c.in-Ok-true.field-0-test in
    more_tests checked (nat_lt 65536 (text_length part) || nat_lt (length part) (21 + text_length part)) Text (deltas_tests part) part
    (or_from (nat_lt 65536 (text_length part)) (nat_lt (length part) (21 + text_length part)) (le-ltb 65536 (text_length part) (omega (arith, says.text_is, c.if-head-gt65536.false)))
    (le-ltb (length part) (21 + text_length part) (omega (arith, says.text_is, ltb-true (20 + c.args.head.text) (length part) long))))
    (told s (c.has_byte_from.ensures.reads.same ∙ is) says)) c.check_deltas.ensures.told

pub returns-clause-reads : goal.returns-clause-reads
returns-clause-reads g c = reads_on g.D.Disk.seen g.D.Disk.moment g.D.Disk.leaves c.args.disk.now c.has_byte_from.new.disk c.check_deltas.new.disk c.has_byte_from.ensures.reads c.check_deltas.ensures.reads
