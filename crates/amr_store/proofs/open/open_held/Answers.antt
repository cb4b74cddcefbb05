use Rattle.std.proofs.Common.{◌∙◌, true}
use Rattle.amr_store.proofs.Openings.{outer_damaged}
use Rattle.std.proofs.lemmas.Result.{IfOk-weaker}
use Rattle.amr_store.specs.declared.check.Checked.TheVariants.{Whole, Faulty}
use Rattle.amr_store.specs.Checks.{Checks}
use Rattle.amr_store.specs.Fields.{magic_in}
use Rattle.amr_store.specs.Stored.{tests}
use Rattle.amr_store.proofs.Readings.{reads_on}
use Rattle.amr_store.proofs.open.open_held.Goals as goal

pub returns-in-Ok-Whole-clause-told : goal.returns-in-Ok-Whole-clause-told
returns-in-Ok-Whole-clause-told g c =
    IfOk-weaker c.open_whole.result _ _ (λ found told s is held.
    let checked : Checks (Whole c.in-Ok-Whole.outline) (tests (magic_in true s) s) s = (rw c.in-Ok-Whole.field-0-is at c.in-Ok-Whole.ensures.told) s is in
    told s (c.check.ensures.reads.same ∙ is) record { held = held; sound = checked.0; head_is = checked.1.head } checked.1) c.open_whole.ensures.told

pub returns-in-Ok-Faulty-clause-told : goal.returns-in-Ok-Faulty-clause-told
returns-in-Ok-Faulty-clause-told g c s is held =
    let checked : Checks (Faulty c.in-Ok-Faulty.part) (tests (magic_in true s) s) s = (rw c.in-Ok-Faulty.field-0-is at c.in-Ok-Faulty.ensures.told) s is in
    outer_damaged s c.in-Ok-Faulty.part held checked

pub returns-in-Ok-Whole-clause-reads : goal.returns-in-Ok-Whole-clause-reads
returns-in-Ok-Whole-clause-reads g c = reads_on g.D.Disk.seen g.D.Disk.moment g.D.Disk.leaves c.args.disk.now c.check.new.disk c.open_whole.new.disk c.check.ensures.reads c.open_whole.ensures.reads
