use Rattle.std.proofs.Common.{◌∙◌, ◌+◌, ◌-◌, sym, arith}
use Rattle.amr_store.proofs.Entries.{payload_read}
use Rattle.amr_store.proofs.Readings.{reads_settled}
use Rattle.amr_store.proofs.store.Store.payload_at.Goals as goal

pub returns-in-Ok-clause-payload : goal.returns-in-Ok-clause-payload
returns-in-Ok-clause-payload g c s is =
    payload_read c.args.self.now s c.args.which c.args.slot (c.gate.result - c.args.self.now.base + 17) c.min.result c.in-Ok.bytes.items (c.requires.ready.stands c.requires.unshut s is) c.requires.within c.requires.held
    (omega (arith, c.gate.ensures.place)) (omega (arith, c.min.ensures)) (c.in-Ok.ensures.told s is)

pub returns-in-Ok-clause-ready : goal.returns-in-Ok-clause-ready
returns-in-Ok-clause-ready g c = record {
  settled = λ shut. reads_settled g.D.Disk.seen g.D.Disk.moment g.D.Disk.leaves c.args.disk.now c.read_bytes.new.disk c.read_bytes.ensures.reads (c.requires.ready.settled shut);
  stands = λ shut s is. c.requires.ready.stands shut s (sym c.read_bytes.ensures.reads.same ∙ is);
}

pub returns-in-Err-clause-ready : goal.returns-in-Err-clause-ready
returns-in-Err-clause-ready g c = record {
  settled = λ shut. reads_settled g.D.Disk.seen g.D.Disk.moment g.D.Disk.leaves c.args.disk.now c.read_bytes.new.disk c.read_bytes.ensures.reads (c.requires.ready.settled shut);
  stands = λ shut s is. c.requires.ready.stands shut s (sym c.read_bytes.ensures.reads.same ∙ is);
}
