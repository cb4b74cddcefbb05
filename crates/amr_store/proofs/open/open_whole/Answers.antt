use Rattle.std.proofs.Common.{◌∙◌, sym}
use Rattle.std.proofs.lemmas.Result.{IfOk-weaker}
use Rattle.amr_store.proofs.Readings.{reads_on}
use Rattle.amr_store.proofs.open.open_whole.Goals as goal

pub returns-in-Ok-true-clause-told : goal.returns-in-Ok-true-clause-told
returns-in-Ok-true-clause-told g c =
    IfOk-weaker c.open_renewed.result _ _ (λ found told s is held outline_is.
    told s (c.was_renewed.ensures.reads.same ∙ is) held (sym (c.in-Ok-true.ensures.told s is held.head_is) ∙ c.in-Ok-true.field-0-test)) c.open_renewed.ensures.told

pub returns-in-Ok-false-clause-told : goal.returns-in-Ok-false-clause-told
returns-in-Ok-false-clause-told g c =
    IfOk-weaker c.open_plain.result _ _ (λ found told s is held outline_is.
    told s (c.was_renewed.ensures.reads.same ∙ is) held outline_is (sym (c.in-Ok-false.ensures.told s is held.head_is) ∙ c.in-Ok-false.field-0-test)) c.open_plain.ensures.told

pub returns-in-Ok-true-clause-reads : goal.returns-in-Ok-true-clause-reads
returns-in-Ok-true-clause-reads g c = reads_on g.D.Disk.seen g.D.Disk.moment g.D.Disk.leaves c.args.disk.now c.was_renewed.new.disk c.open_renewed.new.disk c.was_renewed.ensures.reads c.open_renewed.ensures.reads

pub returns-in-Ok-false-clause-reads : goal.returns-in-Ok-false-clause-reads
returns-in-Ok-false-clause-reads g c = reads_on g.D.Disk.seen g.D.Disk.moment g.D.Disk.leaves c.args.disk.now c.was_renewed.new.disk c.open_plain.new.disk c.was_renewed.ensures.reads c.open_plain.ensures.reads
