use Rattle.std.proofs.Common.{◌∙◌, ◌∷◌, [], sym}
use Rattle.amr_disk.specs.Image.{Torn, written_at}
use Rattle.amr_store.proofs.Calls.{last_opened, slots_opened, mapped_some}
use Rattle.amr_store.proofs.Steps.{open_either, open_stored, open_stands, mapped_at, slot_made, filled_may}
use Rattle.amr_store.proofs.Runs.{weaker}
use Rattle.amr_store.specs.Stands.{deltas_in}
use Rattle.amr_store.specs.Stored.{SameOr}
use Rattle.amr_store.specs.Table.{is_base}
use Rattle.amr_store.proofs.put.Filled.open_gate.Goals as goal

pub set_slot-requires-clause-sound : goal.set_slot-requires-clause-sound
set_slot-requires-clause-sound g c = (slots_opened c.args.store.now c.args.self.which c.args.self.slot c.requires.closed.next c.requires.counted c.requires.may).sound

pub returns-in-Ok-clause-ready : goal.returns-in-Ok-clause-ready
returns-in-Ok-clause-ready g c =
    let store = c.args.store.now in
    let later = c.set_slot.new.self in
    let q = c.args.self.slot.sequence in
    record {
      settled = λ shut. c.in-Ok.ensures.settled;
      stands = λ shut t is.
          let from = mapped_some (written_at c.gate-gate.result (165 ∷ [])) (g.D.Disk.seen c.args.disk.now) t (sym c.in-Ok.ensures.seen ∙ is) in
          let filled = c.requires.filled c.if-store.false from.0 from.1 in
          open_stands store later from.0 t c.args.self.which c.gate-gate.result q filled.0 c.args.self.slot c.gate-gate.ensures.place (c.requires.ready.stands c.if-store.false from.0 from.1) c.requires.closed.next
          (filled_may store c.args.self filled.0 c.requires.may filled.1.front_is) filled.1.holds (slot_made c.args.self.slot filled.0 filled.1.length_is filled.1.front_is) c.set_slot.ensures.same c.set_slot.ensures.slots from.2;
    }

pub returns-in-Ok-clause-put : goal.returns-in-Ok-clause-put
returns-in-Ok-clause-put g c s t payload was is filled =
    let store = c.args.store.now in
    let at = mapped_at (written_at c.gate-gate.result (165 ∷ [])) (g.D.Disk.seen c.args.disk.now) s t was (sym c.in-Ok.ensures.seen ∙ is) in
    open_stored store s t c.args.self.which c.gate-gate.result c.args.self.slot.sequence payload c.gate-gate.ensures.place (c.requires.ready.stands c.if-store.false s was) c.requires.closed.next
    (filled_may store c.args.self payload c.requires.may filled.front_is) filled.holds at

pub returns-in-Ok-clause-stops : goal.returns-in-Ok-clause-stops
returns-in-Ok-clause-stops g c shut s payload is filled =
    let store = c.args.store.now in
    let q = c.args.self.slot.sequence in
    weaker g.D.Disk.moment g.D.Disk.leaves c.args.disk.now c.write_synced.new.disk (Torn c.gate-gate.result 1 s) (SameOr (is_base (deltas_in store) c.args.self.which) q payload s)
    (λ image torn. open_either store s image c.args.self.which c.gate-gate.result q payload c.gate-gate.ensures.place (c.requires.ready.stands shut s is) c.requires.closed.next
    (filled_may store c.args.self payload c.requires.may filled.front_is) filled.holds torn) (c.write_synced.ensures.stops s is)

pub returns-in-Err-clause-stops : goal.returns-in-Err-clause-stops
returns-in-Err-clause-stops g c shut s payload is filled =
    let store = c.args.store.now in
    let q = c.args.self.slot.sequence in
    weaker g.D.Disk.moment g.D.Disk.leaves c.args.disk.now c.write_synced.new.disk (Torn c.gate-gate.result 1 s) (SameOr (is_base (deltas_in store) c.args.self.which) q payload s)
    (λ image torn. open_either store s image c.args.self.which c.gate-gate.result q payload c.gate-gate.ensures.place (c.requires.ready.stands shut s is) c.requires.closed.next
    (filled_may store c.args.self payload c.requires.may filled.front_is) filled.holds torn) (c.write_synced.ensures.stops s is)

pub returns-in-Ok-clause-last : goal.returns-in-Ok-clause-last
returns-in-Ok-clause-last g c = last_opened c.args.store.now c.set_slot.new.self c.args.self.which c.args.self.slot c.set_slot.ensures.same c.requires.closed.next c.requires.counted c.requires.may c.set_slot.ensures.slots
