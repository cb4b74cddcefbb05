use Rattle.std.proofs.Common.{◌≡◌, ◌∙◌, ◌+◌, sym, length, arith}
use Rattle.amr_disk.specs.Image.{written_at}
use Rattle.amr_store.proofs.Calls.{mapped_some}
use Rattle.amr_store.proofs.Steps.{FillsSlot, fill_holds, fill_seen, fill_same, fill_stands}
use Rattle.amr_store.proofs.Runs.{weaker}
use Rattle.amr_store.specs.Phases.{TornTwice}
use Rattle.amr_store.specs.Stored.{stored}
use Rattle.amr_store.proofs.put.Closed.fill.Goals as goal

pub returns-in-Ok-clause-holds : goal.returns-in-Ok-clause-holds
returns-in-Ok-clause-holds g c t is shut =
    let store = c.args.store.now in
    let payload = c.args.bytes.now in
    let head = c.slot_head-head.result in
    let fills : FillsSlot store c.args.self.which c.gate-gate.result c.args.sequence head payload =
    record { at_is = c.gate-gate.ensures.place; head_is = c.slot_head-head.ensures; fits = c.requires.fits; some = c.requires.counted; small = c.ranges.sequence.fits; short = omega arith } in
    let from = mapped_some (λ s. written_at (c.gate-gate.result + 17) payload (written_at (c.gate-gate.result + 1) head s)) (g.D.Disk.seen c.args.disk.now) t (sym c.in-Ok.ensures.seen ∙ is) in
    fill_holds store from.0 t head c.args.self.which c.gate-gate.result c.args.sequence payload fills from.2

pub returns-in-Ok-clause-ready : goal.returns-in-Ok-clause-ready
returns-in-Ok-clause-ready g c =
    let store = c.args.store.now in
    let payload = c.args.bytes.now in
    let head = c.slot_head-head.result in
    let fills : FillsSlot store c.args.self.which c.gate-gate.result c.args.sequence head payload =
    record { at_is = c.gate-gate.ensures.place; head_is = c.slot_head-head.ensures; fits = c.requires.fits; some = c.requires.counted; small = c.ranges.sequence.fits; short = omega arith } in
    record {
      settled = λ shut. c.in-Ok.ensures.settled;
      stands = λ shut t is.
          let from = mapped_some (λ s. written_at (c.gate-gate.result + 17) payload (written_at (c.gate-gate.result + 1) head s)) (g.D.Disk.seen c.args.disk.now) t (sym c.in-Ok.ensures.seen ∙ is) in
          fill_stands store from.0 t head c.args.self.which c.gate-gate.result c.args.sequence payload fills (c.requires.ready.stands c.if-store.false from.0 from.1) c.requires.closed from.2;
    }

pub returns-in-Ok-clause-seen : goal.returns-in-Ok-clause-seen
returns-in-Ok-clause-seen g c =
    let fills : FillsSlot c.args.store.now c.args.self.which c.gate-gate.result c.args.sequence c.slot_head-head.result c.args.bytes.now =
    record { at_is = c.gate-gate.ensures.place; head_is = c.slot_head-head.ensures; fits = c.requires.fits; some = c.requires.counted; small = c.ranges.sequence.fits; short = omega arith } in
    c.in-Ok.ensures.seen ∙ fill_seen c.args.store.now c.args.self.which c.gate-gate.result c.args.sequence c.slot_head-head.result c.args.bytes.now (g.D.Disk.seen c.args.disk.now) fills

pub returns-in-Ok-clause-stops : goal.returns-in-Ok-clause-stops
returns-in-Ok-clause-stops g c shut s is =
    let store = c.args.store.now in
    let payload = c.args.bytes.now in
    let head = c.slot_head-head.result in
    let fills : FillsSlot store c.args.self.which c.gate-gate.result c.args.sequence head payload =
    record { at_is = c.gate-gate.ensures.place; head_is = c.slot_head-head.ensures; fits = c.requires.fits; some = c.requires.counted; small = c.ranges.sequence.fits; short = omega arith } in
    weaker g.D.Disk.moment g.D.Disk.leaves c.args.disk.now c.write_two_synced.new.disk (TornTwice (c.gate-gate.result + 1) (length head) (c.gate-gate.result + 17) (length payload) s) (λ image. stored image ≡ stored s)
    (λ image torn. fill_same store s image head c.args.self.which c.gate-gate.result c.args.sequence payload fills (c.requires.ready.stands shut s is) c.requires.closed torn) (c.write_two_synced.ensures.stops s is)

pub returns-in-Err-clause-stops : goal.returns-in-Err-clause-stops
returns-in-Err-clause-stops g c shut s is =
    let store = c.args.store.now in
    let payload = c.args.bytes.now in
    let head = c.slot_head-head.result in
    let fills : FillsSlot store c.args.self.which c.gate-gate.result c.args.sequence head payload =
    record { at_is = c.gate-gate.ensures.place; head_is = c.slot_head-head.ensures; fits = c.requires.fits; some = c.requires.counted; small = c.ranges.sequence.fits; short = omega arith } in
    weaker g.D.Disk.moment g.D.Disk.leaves c.args.disk.now c.write_two_synced.new.disk (TornTwice (c.gate-gate.result + 1) (length head) (c.gate-gate.result + 17) (length payload) s) (λ image. stored image ≡ stored s)
    (λ image torn. fill_same store s image head c.args.self.which c.gate-gate.result c.args.sequence payload fills (c.requires.ready.stands shut s is) c.requires.closed torn) (c.write_two_synced.ensures.stops s is)
