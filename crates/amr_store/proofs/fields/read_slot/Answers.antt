use Rattle.std.proofs.Common.{◌∙◌, sym, subst, drop}
use Rattle.amr_store.proofs.PartsRead.{slot_begun, slot_cut, slot_whole}
use Rattle.amr_store.specs.declared.fields.SlotFound.{SlotFound}
use Rattle.amr_store.specs.Fields.{IsBegun}
use Rattle.amr_store.proofs.Readings.{reads_on}
use Rattle.amr_store.proofs.fields.read_slot.Goals as goal

pub returns-in-Ok-true-clause-told : goal.returns-in-Ok-true-clause-told
returns-in-Ok-true-clause-told g c s is =
    let part = drop c.args.base s in
    let begun = subst (λ (f : SlotFound). IsBegun f part c.args.gate c.args.size) (sym c.slot_in.ensures.found ∙ c.in-Sound-Some.is) (slot_begun part c.read_from.new.into c.in_ok-n.n c.args.gate c.args.size c.read_from.auto.into (c.in_ok-n.ensures.told s is)) in
    slot_whole c.in-Sound-Some.slot part c.args.gate c.args.size (rw c.in-Sound-Some.field-0-is at begun) (sym (c.in-Ok-true.ensures.told s (c.read_from.ensures.reads.same ∙ is)) ∙ c.in-Ok-true.field-0-test)

pub returns-in-Ok-false-clause-told : goal.returns-in-Ok-false-clause-told
returns-in-Ok-false-clause-told g c s is =
    let part = drop c.args.base s in
    let begun = subst (λ (f : SlotFound). IsBegun f part c.args.gate c.args.size) (sym c.slot_in.ensures.found ∙ c.in-Sound-Some.is) (slot_begun part c.read_from.new.into c.in_ok-n.n c.args.gate c.args.size c.read_from.auto.into (c.in_ok-n.ensures.told s is)) in
    slot_cut c.in-Sound-Some.slot part c.args.gate c.args.size (rw c.in-Sound-Some.field-0-is at begun) (sym (c.in-Ok-false.ensures.told s (c.read_from.ensures.reads.same ∙ is)) ∙ c.in-Ok-false.field-0-test)

pub returns-in-Broken-clause-told : goal.returns-in-Broken-clause-told
returns-in-Broken-clause-told g c s is =
    let part = drop c.args.base s in
    subst (λ (f : SlotFound). IsBegun f part c.args.gate c.args.size) (sym c.slot_in.ensures.found ∙ c.in-Broken.is) (slot_begun part c.read_from.new.into c.in_ok-n.n c.args.gate c.args.size c.read_from.auto.into (c.in_ok-n.ensures.told s is))

pub returns-in-Ok-true-clause-reads : goal.returns-in-Ok-true-clause-reads
returns-in-Ok-true-clause-reads g c = reads_on g.D.Disk.seen g.D.Disk.moment g.D.Disk.leaves c.args.disk.now c.read_from.new.disk c.has_byte_from.new.disk c.read_from.ensures.reads c.has_byte_from.ensures.reads

pub returns-in-Ok-false-clause-reads : goal.returns-in-Ok-false-clause-reads
returns-in-Ok-false-clause-reads g c = reads_on g.D.Disk.seen g.D.Disk.moment g.D.Disk.leaves c.args.disk.now c.read_from.new.disk c.has_byte_from.new.disk c.read_from.ensures.reads c.has_byte_from.ensures.reads

pub returns-in-Err-clause-reads : goal.returns-in-Err-clause-reads
returns-in-Err-clause-reads g c = reads_on g.D.Disk.seen g.D.Disk.moment g.D.Disk.leaves c.args.disk.now c.read_from.new.disk c.has_byte_from.new.disk c.read_from.ensures.reads c.has_byte_from.ensures.reads
