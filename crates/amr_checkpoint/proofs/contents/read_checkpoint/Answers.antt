use Rattle.std.proofs.Common.{◌∙◌}
use Rattle.std.proofs.lemmas.Result.{IfOk-weaker}
use Rattle.amr_store.proofs.Readings.{reads_on}
use Rattle.amr_store.specs.Stored as store
use Rattle.amr_checkpoint.proofs.FromDisk.{damage_holds, nothing_holds, shows_of}
use Rattle.amr_checkpoint.proofs.contents.read_checkpoint.Goals as goal

pub returns-in-Ok-Ready-clause-holds : goal.returns-in-Ok-Ready-clause-holds
returns-in-Ok-Ready-clause-holds g c =
    IfOk-weaker c.read_store.result _ _
    (λ found h s seen. h s (c.in-Ok-Ready.ensures.reads.same ∙ seen) (shows_of (store.stored s) c.in-Ok-Ready.field-0 c.in-Ok-Ready.store (c.in-Ok-Ready.ensures.finds s seen) c.in-Ok-Ready.field-0-is))
    c.read_store.ensures.holds

pub returns-in-Ok-Ready-clause-reads : goal.returns-in-Ok-Ready-clause-reads
returns-in-Ok-Ready-clause-reads g c =
    reads_on g.D.Disk.seen g.D.Disk.moment g.D.Disk.leaves c.args.disk.now c.open.new.disk c.read_store.new.disk c.open.ensures.reads c.read_store.ensures.reads

pub returns-in-Ok-Nothing-clause-holds : goal.returns-in-Ok-Nothing-clause-holds
returns-in-Ok-Nothing-clause-holds g c s seen = nothing_holds (store.stored s) c.in-Ok-Nothing.field-0 (c.in-Ok-Nothing.ensures.finds s seen) c.in-Ok-Nothing.field-0-is

pub returns-in-Ok-Damaged-clause-holds : goal.returns-in-Ok-Damaged-clause-holds
returns-in-Ok-Damaged-clause-holds g c s seen = damage_holds (store.stored s) c.in-Ok-Damaged.field-0 c.in-Ok-Damaged.part (c.in-Ok-Damaged.ensures.finds s seen) c.in-Ok-Damaged.field-0-is
