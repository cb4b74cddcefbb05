use Rattle.std.proofs.Common.{◌∙◌, subst, drop, Option}
use Rattle.std.proofs.lemmas.Result.{IfOk-weaker}
use Rattle.amr_store.proofs.PartsRead.{more_tests, first_test}
use Rattle.amr_store.specs.declared.part.Part.TheVariants.{Head}
use Rattle.amr_store.specs.declared.fields.Head.{Head as HeadRead}
use Rattle.amr_store.specs.Fields.{IsHeadOf, head_test, text_tests}
use Rattle.amr_store.proofs.Readings.{reads_on}
use Rattle.amr_store.proofs.check.check.Goals as goal

pub returns-in-None-clause-told : goal.returns-in-None-clause-told
returns-in-None-clause-told g c s is =
    let part = drop c.args.base s in
    let told = subst (λ (h : Option HeadRead). IsHeadOf h c.args.takes_all part) c.in-None.is (c.in_ok-read_head.ensures.told s is) in
    first_test (head_test c.args.takes_all part) Head (text_tests part) told

pub returns-in-Some-clause-told : goal.returns-in-Some-clause-told
returns-in-Some-clause-told g c =
    IfOk-weaker c.check_text.result _ _ (λ checked told s is.
    let part = drop c.args.base s in
    let head = subst (λ (h : Option HeadRead). IsHeadOf h c.args.takes_all part) c.in-Some.is (c.in_ok-read_head.ensures.told s is) in
    more_tests checked (head_test c.args.takes_all part) Head (text_tests part) part head.0 (told s (c.read_head.ensures.reads.same ∙ is) head.1)) c.check_text.ensures.told

pub returns-in-Some-clause-reads : goal.returns-in-Some-clause-reads
returns-in-Some-clause-reads g c = reads_on g.D.Disk.seen g.D.Disk.moment g.D.Disk.leaves c.args.disk.now c.read_head.new.disk c.check_text.new.disk c.read_head.ensures.reads c.check_text.ensures.reads
