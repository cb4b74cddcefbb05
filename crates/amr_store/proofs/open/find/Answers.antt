use Rattle.std.proofs.Common.{◌∙◌}
use Rattle.amr_store.proofs.Openings.{empty_is, held_is}
use Rattle.std.proofs.lemmas.Result.{IfOk-weaker}
use Rattle.amr_store.proofs.Readings.{reads_on}
use Rattle.amr_store.proofs.open.find.Goals as goal

pub returns-in-Ok-true-clause-told : goal.returns-in-Ok-true-clause-told
returns-in-Ok-true-clause-told g c =
    IfOk-weaker c.open_held.result _ _ (λ found told s is.
    told s (c.has_open_gate.ensures.reads.same ∙ is) (held_is s c.in-Ok-true.field-0 (c.in-Ok-true.ensures.told s is) c.in-Ok-true.field-0-test)) c.open_held.ensures.told

pub returns-in-Ok-false-clause-told : goal.returns-in-Ok-false-clause-told
returns-in-Ok-false-clause-told g c s is = empty_is s c.in-Ok-false.field-0 (c.in-Ok-false.ensures.told s is) c.in-Ok-false.field-0-test

pub returns-in-Ok-true-clause-reads : goal.returns-in-Ok-true-clause-reads
returns-in-Ok-true-clause-reads g c = reads_on g.D.Disk.seen g.D.Disk.moment g.D.Disk.leaves c.args.disk.now c.has_open_gate.new.disk c.open_held.new.disk c.has_open_gate.ensures.reads c.open_held.ensures.reads
